pub mod OldTrees
