pub mod Claims
pub mod Fits
