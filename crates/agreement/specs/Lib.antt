-- All of it is law: the claims that a reader holds against documents 01 and 02. Demand3 is demand 3 of the definitions, Calls the same of the
-- calls that a C program links, Lamp demand 2 of light of these calls, RoundTrips their round trips, Acceptance when they refuse nothing,
-- Sheets the starred sheets.
pub mod Acceptance
pub mod Calls
pub mod Demand3
pub mod Lamp
pub mod RoundTrips
pub mod Sheets
