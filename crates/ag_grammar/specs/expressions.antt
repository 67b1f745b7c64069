-- Expressions: their trees, their occurrences, and their values.
pub mod Evaluation
pub mod Expression
pub mod Laws
pub mod Occurrences
pub mod Occurring
pub mod Trees
