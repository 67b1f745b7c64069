pub mod Bytes
pub mod Compared
pub mod Encoded
pub mod EncodedParts
pub mod Keys
pub mod Tables
pub mod Totalling
pub mod With
