pub mod Disk
pub mod Images
pub mod ImageLaws
pub mod Memory
pub mod MemoryLaws
