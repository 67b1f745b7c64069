pub mod expressions
pub mod grammars
pub mod Lists
pub mod values
