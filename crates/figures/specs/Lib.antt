-- The law: Bytes, Figure and Line say what words, figures and lines are. Working definitions, which only inner contracts cite: Reading and
-- Position.
pub mod Bytes
pub mod Figure
pub mod Line
pub mod Position
pub mod Reading
