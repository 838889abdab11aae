pub mod Events
pub mod Openings
pub mod Files
pub mod FilesLaws
pub mod Faults
pub mod Growth
