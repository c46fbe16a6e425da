pub mod CivilDays
mod Escaping
pub mod Markup
pub mod MomentBytes
mod Pieces
pub mod Pushing
