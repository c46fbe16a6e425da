-- The overview line of a text (RFC 3977, section 8.3).
use Rattle.std.specs.Prelude.{ℕ, List, [], ◌∷◌, ◌++◌, Option, Some, None, length, codes}
use Rattle.std.specs.Fmt.{decimal}
use Rattle.mail_reader.specs.Bodies.{body_of}
use Rattle.mail_reader.specs.Ids.{own_id}
use Rattle.mail_forms.specs.NamedValues.{flat_first}
use Rattle.mail_forms.specs.WireForms.{wire_of, feeds_of}

-- An id, or nothing.
abbrev pub id_or_nothing : Option (List ℕ) → List ℕ
id_or_nothing None = []
id_or_nothing (Some id) = id

-- The own id of a text, or nothing if it has none.
unfoldable pub id_fact : List ℕ → List ℕ
id_fact text = id_or_nothing (own_id text)

-- The fields of a line, separated by tabs.
abbrev pub tabbed : List (List ℕ) → List ℕ
tabbed [] = []
tabbed (field ∷ []) = field
tabbed (field ∷ next ∷ fields) = field ++ 9 ∷ tabbed (next ∷ fields)

-- The fields of a text's overview line: the flat values of its first Subject, From and Date, its own
-- id, the flat value of its first References, the length of its wire form, and the number of line
-- feeds in its body.
abbrev pub overview_fields : List ℕ → List (List ℕ)
overview_fields text =
    flat_first (codes "Subject") text ∷ flat_first (codes "From") text
    ∷ flat_first (codes "Date") text ∷ id_fact text ∷ flat_first (codes "References") text
    ∷ decimal (length (wire_of text)) ∷ decimal (feeds_of (body_of text)) ∷ []

-- The overview line of a text.
unfoldable pub over_of : List ℕ → List ℕ
over_of text = tabbed (overview_fields text)
