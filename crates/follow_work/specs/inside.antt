pub mod DrivesDone
pub mod FollowDone
pub mod StreamsDone
pub mod Times
