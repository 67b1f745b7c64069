pub mod TreeFiles
