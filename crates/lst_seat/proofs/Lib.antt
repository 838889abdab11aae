pub mod Parting
pub mod Owning
pub mod Telling
pub mod Gathering
