mod Walks
mod Keeps
mod Written
mod Choices
mod Singles
