pub mod upgrading
