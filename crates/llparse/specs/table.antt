-- Tables: the sets that they are made of, the least conflict, and all conflicts.
pub mod Columns
pub mod CanStart
pub mod Conflicts
pub mod Edges
pub mod Nodes
pub mod Nullable
pub mod Predicted
pub mod Tables
