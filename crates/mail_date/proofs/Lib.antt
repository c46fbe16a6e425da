mod DateLemmas
mod OneLemmas
mod PartLemmas
mod PrintLemmas
mod ReadLemmas
mod WordLemmas
mod WrittenLemmas
mod MomentLemmas
