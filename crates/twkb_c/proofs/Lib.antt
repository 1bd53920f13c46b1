pub mod ExportLemmas
pub mod ColumnLemmas
pub mod CallLemmas
