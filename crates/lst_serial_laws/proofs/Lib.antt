pub mod Placing
pub mod Staying
pub mod Numbers
pub mod Ending
