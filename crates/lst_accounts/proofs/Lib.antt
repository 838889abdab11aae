pub mod Balancing
pub mod Lasting
pub mod Celling
