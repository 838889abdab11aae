pub mod Adding
pub mod Going
pub mod Looking
pub mod Closing
pub mod Staffing
pub mod Gathering
