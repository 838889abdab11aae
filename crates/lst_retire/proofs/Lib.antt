pub mod Pinning
pub mod Stocks
pub mod Looking
pub mod Freeing
pub mod Opening
pub mod Trios
