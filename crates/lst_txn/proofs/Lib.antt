pub mod Refusing
pub mod Transacting
