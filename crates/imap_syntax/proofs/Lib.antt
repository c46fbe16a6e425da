pub mod KeyLemmas
pub mod KeyParts
pub mod NestedKeys
pub mod SetLemmas
