pub mod Visits
pub mod Candidates
pub mod Gathers
