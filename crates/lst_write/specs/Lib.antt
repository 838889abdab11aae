pub mod Holding
pub mod Standings
pub mod Judgements
pub mod Cells
pub mod Appending
