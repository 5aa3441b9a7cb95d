-- The law, which the calls' contracts and the theorems rest on: Diagram, Walk, Wires, Faults, Facts.
-- Working definitions, which only inner contracts cite: Held, Seen, and `Falls` in Walk.
pub mod Diagram
pub mod Walk
pub mod Wires
pub mod Faults
pub mod Facts
pub mod Held
pub mod Seen
