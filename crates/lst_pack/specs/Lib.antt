pub mod Forms
pub mod Chosen
pub mod Counts
pub mod Choices
pub mod Laws
