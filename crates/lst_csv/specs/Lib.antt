pub mod Records
pub mod Keys
pub mod Tables
pub mod Reading
pub mod Importing
pub mod Writing
pub mod Laws
pub mod FaultTexts
