pub mod ProveDone
