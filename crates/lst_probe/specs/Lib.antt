pub mod Run
pub mod Found
pub mod Counting
