pub mod Acceptance
pub mod Calls
pub mod Demand3
pub mod Lamp
pub mod Sheets
pub mod RoundTrips
