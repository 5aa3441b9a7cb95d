pub mod Decimals
pub mod Digits
pub mod Ends
pub mod Line
pub mod Words
pub mod Writing
