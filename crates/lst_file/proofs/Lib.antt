mod Found
mod Growing
mod Noting
