-- All four are the law: what a code means, when a cell conducts, and what grounds 12 and 13 ask of a record and of a setting. Working
-- definitions, which only inner contracts cite: `cells_fit` and `outs_fit` in Record.
pub mod Code
pub mod Conducts
pub mod Record
pub mod Setting
