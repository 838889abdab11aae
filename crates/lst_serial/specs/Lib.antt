pub mod Keys
pub mod Serials
pub mod Searches
pub mod Waits
