-- The law, which the promises of the five calls rest on: Bytes and Host. Parts says how a C program reads an answer. Working definitions,
-- which only inner contracts cite: `packed_from` in Host, and Records.
pub mod Bytes
pub mod Host
pub mod Parts
pub mod Records
