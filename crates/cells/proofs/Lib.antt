pub mod Codes
pub mod Every
pub mod Sizes
pub mod Slices
