pub mod Counting
pub mod Runs
pub mod Empty
pub mod Answering
