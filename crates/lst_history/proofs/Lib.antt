pub mod Looks
pub mod Asking
pub mod Naming
pub mod Values
pub mod Joining
pub mod Drawn
pub mod InOrder
pub mod Recounting
