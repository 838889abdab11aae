pub mod Deeds
pub mod Doing
pub mod Kept
pub mod Staffs
