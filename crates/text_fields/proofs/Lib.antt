pub mod HexTextLemmas
pub mod NumberLemmas
pub mod KeyLemmas
pub mod DigitLemmas
pub mod NameLemmas
