-- The assignments that consecutive passes make, and the attributes that they leave open.
pub mod Earliest
pub mod Fewest
pub mod Finally
pub mod Legal
pub mod Made
pub mod Marked
pub mod NoEarlier
pub mod PassMade
pub mod Refusing
pub mod Rest
pub mod SoFar
pub mod Struck
pub mod Whole
