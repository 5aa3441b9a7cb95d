pub mod Bounds
pub mod Printing
pub mod Numbers
pub mod SetLine
pub mod SetLaws
pub mod Texts
