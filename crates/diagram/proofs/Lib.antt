pub mod Canonical
pub mod FaultLaws
pub mod Owners
pub mod SeenLaws
pub mod Tables
pub mod Valid
pub mod Walk
pub mod WalkLaws
