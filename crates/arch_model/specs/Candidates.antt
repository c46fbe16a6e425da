-- The ids that a new message may get, and which of them it gets.
use Rattle.std.specs.Prelude.{ℕ, zero, suc, ◌+◌, List, [], ◌∷◌, ◌++◌, length, codes, decimal, Option, Some, None, if◌then◌else◌}
use Rattle.std.specs.Str.{bytes_eq}
use Rattle.sha1.specs.Sha1.{sha1}
use Rattle.hex.specs.Hex.{encode_lower}
use Rattle.mail_reader.specs.Ids.{own_id}
use Rattle.mail_reader.specs.Content.{content_id_of}
use Rattle.mail_reader.specs.Laws.{id_line}
use Rattle.arch_model.specs.Archives.{Entry, Archive, owner, live}
use Rattle.arch_model.specs.declared.choice.Meeting.{Meeting}
use Rattle.arch_model.specs.declared.choice.Meeting.TheVariants.{Free, Same, Other}
use Rattle.arch_model.specs.declared.choice.Choice.{Choice}
use Rattle.arch_model.specs.declared.choice.Choice.TheVariants.{Take, Repeat}

-- A made id without its brackets: digits, a dot, a count, an at sign, a name and `.invalid` (RFC
-- 2606, section 2).
abbrev pub made_inside : List ℕ → ℕ → List ℕ → List ℕ
made_inside digits k name = digits ++ ((46 ∷ decimal k) ++ ((64 ∷ name) ++ codes ".invalid"))

-- A made id in its brackets (RFC 5322, section 3.6.4).
unfoldable pub id_with : List ℕ → ℕ → List ℕ → List ℕ
id_with digits k name = 60 ∷ (made_inside digits k name ++ 62 ∷ [])

-- The made id of a text and a count in an archive with a name. Its digits are the text's SHA-1 in
-- lower case, in an archive of each form.
abbrev pub made_id : List ℕ → List ℕ → ℕ → List ℕ
made_id name text k = id_with (encode_lower (sha1 text)) k name

-- The text with a Message-ID field of the made id at the front.
abbrev pub with_made : List ℕ → List ℕ → ℕ → List ℕ
with_made name text k = id_line (made_id name text k) ++ text

-- How a candidate meets its owner: it is free without one, or the owner has the same content or
-- another.
abbrev pub met : Option Entry → List ℕ → Meeting
met None content = Free
met (Some e) content = if bytes_eq (content_id_of e.text) content then Same e.number else Other

-- A free candidate is taken, one whose owner has the same content repeats the owner, and any other
-- is skipped.
abbrev pub decided : Meeting → List ℕ → Choice → Choice
decided Free text passed = Take text
decided (Same number) text passed = Repeat number
decided Other text passed = passed

-- What the made ids from the k-th on decide. Of these, `left` are tried, and if all are skipped the
-- next one is taken: among n messages one of n + 1 made ids is free.
abbrev pub made_choice : List Entry → List ℕ → List ℕ → ℕ → ℕ → Choice
made_choice entries name text k zero = Take (with_made name text k)
made_choice entries name text k (suc left) =
    decided (met (owner entries (made_id name text k)) (content_id_of text)) (with_made name text k)
    (made_choice entries name text (k + 1) left)

-- The own id of a text, if it has one, comes before the made ids.
abbrev pub choice_from : List Entry → List ℕ → List ℕ → Option (List ℕ) → Choice
choice_from entries name text None = made_choice entries name text 0 (length entries)
choice_from entries name text (Some id) =
    decided (met (owner entries id) (content_id_of text)) text
    (made_choice entries name text 0 (length entries))

-- What the candidate ids of a storage text decide among the live messages of an archive: the text to
-- keep, or the number of a message that is the same.
abbrev pub choice_of : Archive → List ℕ → Choice
choice_of a text = choice_from (live a.entries) a.config.name text (own_id text)
