pub mod Spares
pub mod Steppings
pub mod Readings
pub mod Settlings
pub mod Openings
