pub mod Sets
pub mod Checking
pub mod Ending
pub mod Looking
pub mod Freeing
