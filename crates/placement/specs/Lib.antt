-- The law, which the contract of map and the theorems rest on: Placement, Map and Sentences (what document 01 says of the placement).
-- Working definitions, which only inner contracts cite: Plan, Filling.
pub mod Placement
pub mod Map
pub mod Sentences
pub mod Plan
pub mod Filling
