mod Again
mod Crashes
mod Loops
mod Loads
mod Logging
mod Looking
pub mod Moments
mod Ones
mod Pushes
mod Found
mod Rows
mod Scans
mod Sizes
mod Stopping
mod Opens
