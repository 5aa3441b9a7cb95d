-- The law: Template says how a line is read and written, Forms which lines there are and the lines of the outputs (`out_lines`), Due which
-- line is due, and Form which cell a cell line names (`placed`). `last_line` in Due, the rest of Form, Read, Written and Wrote are working
-- definitions; only inner contracts cite them.
pub mod Template
pub mod Due
pub mod Form
pub mod Forms
pub mod Written
pub mod Wrote
pub mod Read
