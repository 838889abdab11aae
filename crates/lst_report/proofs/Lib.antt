pub mod Marking
pub mod Claimed
pub mod Numbers
pub mod Placed
pub mod Opened
pub mod Tabled
pub mod Fitting
pub mod Behind
