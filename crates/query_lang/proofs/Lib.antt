pub mod AskLemmas
pub mod RangeLemmas
