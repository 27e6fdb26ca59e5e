pub mod LoneLemmas
pub mod NextLemmas
pub mod RowLemmas
pub mod TurnLemmas
