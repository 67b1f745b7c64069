-- The invariant of a pass from its beginning to its end, and the passes in sequence.
pub mod Ahead
pub mod Counted
pub mod Ending
pub mod Finish
pub mod Forests
pub mod Metered
pub mod Stepping
pub mod Working
