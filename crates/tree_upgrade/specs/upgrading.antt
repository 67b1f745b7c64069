-- Converting files of version 1.
pub mod Upgrading
