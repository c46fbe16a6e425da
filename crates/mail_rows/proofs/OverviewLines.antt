-- The overview line, put together field by field.
use Rattle.std.proofs.Common.{◌≡◌, ℕ, List, [], ◌∷◌, ◌++◌, length, refl, ◌∙◌, append_assoc}
use Rattle.std.specs.Fmt.{decimal}
use Rattle.std.specs.Prelude.{codes}
use Rattle.mail_reader.specs.Bodies.{body_of}
use Rattle.mail_forms.specs.NamedValues.{flat_first}
use Rattle.mail_forms.specs.WireForms.{wire_of, feeds_of}
use Rattle.arch_model.specs.Overviews.{id_fact, tabbed, over_of}

-- Each field is appended with its tab.
seven-fields : (s f d i r w l : List ℕ)
    → ((((((((s ++ 9 ∷ []) ++ (f ++ 9 ∷ [])) ++ (d ++ 9 ∷ [])) ++ i) ++ 9 ∷ []) ++ (r ++ 9 ∷ [])) ++ w) ++ 9 ∷ []) ++ l ≡ tabbed (s ∷ f ∷ d ∷ i ∷ r ∷ w ∷ l ∷ [])
seven-fields s f d i r w l = simp append_assoc

-- The line of a text, by its fields as they were appended.
pub over-made : (text s f d i r w l made : List ℕ) (wire lines : ℕ) → s ≡ flat_first (codes "Subject") text → f ≡ flat_first (codes "From") text → d ≡ flat_first (codes "Date") text → i ≡ id_fact text
    → r ≡ flat_first (codes "References") text → w ≡ decimal wire → l ≡ decimal lines → wire ≡ length (wire_of text) → lines ≡ feeds_of (body_of text)
    → made ≡ ((((((((s ++ 9 ∷ []) ++ (f ++ 9 ∷ [])) ++ (d ++ 9 ∷ [])) ++ i) ++ 9 ∷ []) ++ (r ++ 9 ∷ [])) ++ w) ++ 9 ∷ []) ++ l → made ≡ over_of text
unfolding over_of
over-made text s f d i r w l made wire lines es ef ed ei er ew el wire_is lines_is e =
    e ∙ seven-fields s f d i r w l ∙ rw (es, ef, ed, ei, er, ew, el, wire_is, lines_is) refl
