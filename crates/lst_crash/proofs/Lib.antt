pub mod Histories
mod Images
mod Rooms
mod Made
mod Steps
mod Opening
mod Reopened
