-- The results of operations on values, by subject: errors among the arguments, the check of the limits, numbers, texts, lists and
-- tables. The *outermost level* of a value v is the kind of v with its contents, written `out-Value v`; the type of such a level
-- is `Value-F Value`. Many results are defined twice: for the outermost levels of the arguments, by a name that ends with `_at`,
-- and for the arguments themselves.
pub mod Arguments
pub mod Fitting
pub mod Lists
pub mod Numbers
pub mod Tables
pub mod Texts
