pub mod Again
pub mod Rests
pub mod Counts
pub mod Runs
pub mod Puts
pub mod Laws
