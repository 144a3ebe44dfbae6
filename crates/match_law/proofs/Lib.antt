mod Sequences
mod Pieces
mod Choices
mod Unique
mod Matches
mod Asked
mod Texts
mod Runs
