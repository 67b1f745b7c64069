-- The sets that tables are made of, and that they agree with the definitions.
pub mod Choices
pub mod Columns
pub mod CanStart
pub mod ConflictLaws
pub mod Conflicts
pub mod Edges
pub mod Firsts
pub mod Follows
pub mod Nullables
pub mod Predictions
