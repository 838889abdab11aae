pub mod Crashes
pub mod Recovering
