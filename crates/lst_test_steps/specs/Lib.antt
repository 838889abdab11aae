pub mod Driving
pub mod Idle
pub mod Parted
pub mod Merging
