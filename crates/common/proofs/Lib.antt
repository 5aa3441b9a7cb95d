pub mod Lists
pub mod Tables
pub mod Outcome
pub mod Within
pub mod Faults
pub mod FromFn
