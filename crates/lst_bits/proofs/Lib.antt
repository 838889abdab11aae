pub mod Columns
pub mod Cases
