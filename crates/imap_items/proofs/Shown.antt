-- All fields of a header are shown.
use Rattle.std.proofs.Common.{◌≡◌, List, [], ◌∷◌, refl, ap}
use Rattle.std.specs.List.{filter}
use Rattle.mail_reader.specs.Fields.{FieldText}
use Rattle.imap_syntax.specs.declared.items.SectionText.TheVariants as asked
use Rattle.imap_items.specs.Sections.{is_shown}

pub all-shown : (fields : List FieldText) → filter (is_shown asked.Header) fields ≡ fields
all-shown [] = refl
all-shown (field ∷ fields) = ap (λ (fs : List FieldText). field ∷ fs) (all-shown fields)
