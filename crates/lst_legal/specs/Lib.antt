pub mod Sights
pub mod Judged
pub mod Serials
