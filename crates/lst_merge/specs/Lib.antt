pub mod Inspections
pub mod Runs
pub mod Pages
pub mod Builds
pub mod Swaps
pub mod Tails
