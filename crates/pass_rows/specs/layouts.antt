-- The layout of each production in a pass.
pub mod Contexts
pub mod BuiltLayouts
pub mod Layouts
pub mod Slots
pub mod Starts
