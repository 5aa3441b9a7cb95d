-- The law, on which light's contract and the theorems rest: Round (the rounds, their count, which wires a round adds and each wire's first
-- round), Chain (chains of conducting cells), Light (what light answers) and Lit (what its answer says). Working definitions, which only
-- contracts within this crate cite: Stamps (first rounds as the code keeps them) and Wires (the lists of wires).
pub mod Round
pub mod Chain
pub mod Light
pub mod Lit
pub mod Stamps
pub mod Wires
