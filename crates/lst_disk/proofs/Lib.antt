mod Noted
mod Pending
