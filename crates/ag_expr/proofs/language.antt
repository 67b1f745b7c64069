-- Lemmas about the expression language.
pub mod Agree
pub mod Below
pub mod Chains
pub mod Examples
pub mod Listing
pub mod Manner
pub mod Numbered
pub mod Parts
pub mod Offsets
pub mod States
pub mod Texts
pub mod Until
