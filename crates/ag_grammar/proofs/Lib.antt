pub mod Common
pub mod expressions
pub mod grammars
pub mod values
