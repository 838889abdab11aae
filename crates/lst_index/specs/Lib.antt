pub mod Searches
pub mod Placings
pub mod Visits
pub mod Pairs
