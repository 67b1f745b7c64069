-- A file is reversed to the file of the same tree in the other direction.
pub mod Mirror
pub mod OneTurning
pub mod PendingChildren
pub mod Taking
pub mod Whole
