pub mod Commands
pub mod Sessions
