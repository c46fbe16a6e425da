mod AppendLemmas
mod PackedLemmas
pub mod RunLemmas
pub mod SetLemmas
