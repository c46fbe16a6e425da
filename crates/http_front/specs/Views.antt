-- What an archive shows of its mails.
use Rattle.std.specs.Prelude.{◌≡◌, ◌≤◌, ◌<◌, ℕ, Bool, true, is_some, nat_le, List, [], ◌∷◌, ◌++◌, Option, Some, None, codes, if◌then◌else◌}
use Rattle.std.specs.List.{flat_map}
use Rattle.std.specs.Str.{bytes_eq}
use Rattle.hex.specs.Hex.{encode_lower}
use Rattle.arch_base.specs.Ids.{id_bytes}
use Rattle.arch_base.specs.Moments.{last_moment}
use Rattle.arch_base.specs.declared.ids.Form.{Form}
use Rattle.arch_model.specs.Archives.{Archive, Entry, live, text_of}
use Rattle.arch_model.specs.Listings.{row_in, number_of_id}
use Rattle.atom_mbox.specs.declared.feeds.Shown.{Shown}
use Rattle.git_objects.specs.Objects.{blob_id_of}
use Rattle.mail_forms.specs.declared.row.Row.{Row}
use Rattle.mime_parts.specs.Texts.{body_text_of}

-- The text of a live number.
abbrev pub shown_text : List Entry → ℕ → Option (List ℕ)
shown_text entries n = text_of (live entries) n

-- The row of a live number.
abbrev pub shown_row : Archive → ℕ → Option Row
shown_row a n = row_in a.config.form (live a.entries) n

-- The least live number from one on, of those that have 32 bits, or none.
abbrev pub IsNextLive : List Entry → ℕ → Option ℕ → Type 0
IsNextLive entries low None = (m : ℕ) → low ≤ m → m < 4294967296 → shown_text entries m ≡ None
IsNextLive entries low (Some n) = (low ≤ n)
    × ((m : ℕ) → low ≤ m → m < n → shown_text entries m ≡ None)
    × (is_some (shown_text entries n) ≡ true)

-- The live number of an id without its brackets.
abbrev pub number_named : List Entry → List ℕ → Option ℕ
number_named entries id = number_of_id (live entries) (codes "<" ++ id ++ codes ">")

-- A row, if there is one.
abbrev pub one_row : Option Row → List Row
one_row None = []
one_row (Some row) = row ∷ []

-- The row of a number, if it is live.
abbrev pub row_at : Archive → ℕ → List Row
row_at a n = one_row (shown_row a n)

-- The rows of these numbers, in their order.
abbrev pub rows_at : Archive → List ℕ → List Row
rows_at a numbers = flat_map (row_at a) numbers

-- A mail as a feed shows it. One with an arrival after the last moment, which no archive has, is left
-- out.
abbrev pub shown_by : Option Row → Option (List ℕ) → List Shown
shown_by None text = []
shown_by (Some row) None = []
shown_by (Some row) (Some text) =
    if nat_le row.arrived last_moment then record { row = row; body = body_text_of text } ∷ []
    else []

-- The mail of a number as a feed shows it, if it is live.
abbrev pub shown_at : Archive → ℕ → List Shown
shown_at a n = shown_by (shown_row a n) (shown_text a.entries n)

-- The mails of these numbers, in their order.
abbrev pub shown_all : Archive → List ℕ → List Shown
shown_all a numbers = flat_map (shown_at a) numbers

-- These are the lower-case digits of the id of a form that the blob of a text has.
abbrev pub is_blob_hex : Form → List ℕ → List ℕ → Bool
is_blob_hex form digits text = bytes_eq digits (encode_lower (id_bytes (blob_id_of form text)))

-- The text of the first entry, live or not, whose blob has an id with these digits, if there is one.
abbrev pub blob_named : Form → List Entry → List ℕ → Option (List ℕ)
blob_named form [] digits = None
blob_named form (e ∷ es) digits =
    if is_blob_hex form digits e.text then Some e.text else blob_named form es digits
