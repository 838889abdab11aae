pub mod Behind
pub mod Packing
pub mod Slicing
pub mod Values
