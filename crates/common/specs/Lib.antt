-- All five are the law: contracts and theorems of every crate rest on them. Working definitions, which only inner contracts cite:
-- `max_ids` in Limits, `most_number` in Outcome, `tested` and `Goes` in Fault.
pub mod Labels
pub mod Limits
pub mod Lists
pub mod Outcome
pub mod Fault
