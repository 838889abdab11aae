pub mod Places
pub mod Answers
pub mod Legal
pub mod Ends
