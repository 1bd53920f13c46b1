pub mod PassedLemmas
pub mod RequestLemmas
pub mod RefusalLemmas
mod ValueLemmas
mod MisuseLemmas
mod JoinedLemmas
mod AliasLemmas
