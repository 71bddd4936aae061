pub mod Bridge
mod Turns
mod Keeps
mod Ranks
mod Steps
mod Walks
mod Latest
mod Joins
mod Giving
