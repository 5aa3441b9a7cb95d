pub mod Parts
pub mod Template
pub mod Fronts
pub mod CellLine
pub mod Told
pub mod LastLine
