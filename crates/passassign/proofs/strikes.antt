-- Lists of good strikes, those that a search finds, and chains.
pub mod BothWays
pub mod Chained
pub mod Exactly
pub mod Following
pub mod Growing
pub mod Reasons
pub mod Sample
pub mod ReportedStrikes
pub mod Walked
