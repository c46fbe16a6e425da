mod FieldLines
mod ListingRows
mod Markup
mod Links
mod Indents
