-- Attribute grammars: their trees, solutions and passes (Knuth 1968; Jazayeri and Walter 1975).
pub mod Accepted
pub mod AttributeGrammar
pub mod Counts
pub mod Laws
pub mod Order
pub mod Passes
pub mod Raw
pub mod Running
pub mod Sample
pub mod Solution
pub mod Tree
pub mod Yield
