-- The meaning of the numbers of a raw grammar.
pub mod Accepting
pub mod KindAt
pub mod Keys
pub mod Listed
pub mod Ordered
pub mod Pairs
pub mod Placing
pub mod Small
pub mod Texts
