-- Lemmas about the trees of expressions and their values.
pub mod Depending
pub mod Occurring
pub mod Trees
pub mod Within
pub mod Worked
