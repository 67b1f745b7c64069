-- Reading from the end of a file, and appending to it.
pub mod Backward
pub mod Beginning
pub mod PendingChildren
pub mod Files
pub mod Root
pub mod Way
