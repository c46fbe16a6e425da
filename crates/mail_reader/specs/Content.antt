-- The content that two copies of a message have in common if it was sent twice.
use Rattle.std.specs.Prelude.{ℕ, Bool, false, ◌&&◌, ◌==◌, List, [], ◌∷◌, ◌++◌, if◌then◌else◌, codes}
use Rattle.std.specs.List.{flat_map}
use Rattle.std.specs.Str.{str_eq_ignore_ascii_case, str_to_ascii_lowercase}
use Rattle.sha2.specs.Sha256.{sha256}
use Rattle.mail_reader.specs.Fields.{FieldText, fields_of}
use Rattle.mail_reader.specs.Bodies.{body_of}
use Rattle.mail_reader.specs.Values.{flat_of}

-- The list starts with a space.
abbrev pub begins_space : List ℕ → Bool
begins_space [] = false
begins_space (b ∷ bs) = b == 32

-- The bytes in which each run of spaces is one space.
abbrev pub squeezed : List ℕ → List ℕ
squeezed [] = []
squeezed (b ∷ bs) = if b == 32 && begins_space bs then squeezed bs else b ∷ squeezed bs

-- A field as it counts: its name in lower case, a colon, its flat value, in which each run of
-- spaces is one space, and a line feed.
abbrev pub counted_field : List ℕ → List ℕ → List ℕ
counted_field name value =
    str_to_ascii_lowercase name ++ (58 ∷ squeezed (flat_of value)) ++ (10 ∷ [])

-- The fields with a name as they count, in order.
abbrev pub counted : List ℕ → List FieldText → List ℕ
counted name [] = []
counted name (field ∷ fields) = if str_eq_ignore_ascii_case field.name name
    then counted_field name field.value ++ counted name fields else counted name fields

-- The names that count, in this order.
abbrev pub counted_names : List (List ℕ)
counted_names = codes "Subject" ∷ codes "From" ∷ codes "Date" ∷ codes "References"
    ∷ codes "In-Reply-To" ∷ codes "To" ∷ codes "Cc" ∷ []

-- The bytes that count: the fields with these names, a line feed, and the body.
abbrev pub content_bytes : List ℕ → List ℕ
content_bytes text =
    flat_map (λ name. counted name (fields_of text)) counted_names ++ (10 ∷ body_of text)

-- The content id: the SHA-256 (FIPS 180-4) of the bytes that count.
unfoldable pub content_id_of : List ℕ → List ℕ
content_id_of text = sha256 (content_bytes text)
