pub mod AcceptedOptions
pub mod Asked
pub mod Lines
pub mod LargeProgram
pub mod LiveProgram
pub mod ProvedTexts
pub mod TableFiles
pub mod Workers
pub mod ReadNetworks
pub mod ProvedFiles
pub mod ProvedRuns
pub mod OverStreams
mod Statuses
