pub mod BareTexts
pub mod Binding
pub mod LiteralTexts
pub mod QuotedTexts
