pub mod RunLemmas
pub mod FractionLemmas
pub mod RoundingLemmas
pub mod ModerateLemmas
pub mod ColumnLemmas
