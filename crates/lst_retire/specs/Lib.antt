pub mod Pins
pub mod Frames
pub mod Trios
