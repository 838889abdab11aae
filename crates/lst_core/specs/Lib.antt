pub mod Machine
pub mod Reading
pub mod Walks
pub mod Seeks
