pub mod Sighting
pub mod Shaped
pub mod Composed
pub mod Serials
pub mod Rereading
