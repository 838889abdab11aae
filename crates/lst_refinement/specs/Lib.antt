pub mod Crews
pub mod Telling
pub mod Folding
pub mod Effects
pub mod Laws
