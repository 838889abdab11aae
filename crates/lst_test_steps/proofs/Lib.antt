pub mod Stepping
pub mod Writing
pub mod Idling
pub mod Parted
