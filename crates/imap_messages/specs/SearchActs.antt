-- Private: what becomes of a message while a SEARCH is answered.
use Rattle.std.specs.Prelude.{◌≡◌, ℕ, nat_lt, Bool, true, false, List, [], ◌∷◌, ◌++◌, length, map, Result, Ok, Err, if◌then◌else◌}
use Rattle.std.specs.List.{filter, list_any}
use Rattle.mail_forms.specs.declared.row.Row.{Row}
use Rattle.arch_model.specs.Archives.{Archive}
use Rattle.arch_model.specs.declared.text_refusal.TextRefusal.{TextRefusal}
use Rattle.imap_syntax.specs.Trees.{KeyTree}
use Rattle.imap_items.specs.Keys.{MessageText, message_of, tree_reads}
use Rattle.imap_messages.specs.Picking.{ToldMessage, told_message, messages_from, number_by, greatest_uid}
use Rattle.imap_messages.specs.Seeking.{SearchAsked, is_sought, looks_of, row_keys, sought}
use Rattle.imap_messages.specs.FetchActs.{IsWhy}
use Rattle.imap_messages.specs.declared.found.Place.{Place}

-- The message at a place.
abbrev pub message_at : Place → ToldMessage
message_at p = told_message p.sequence p.uid

-- The place is one among these UIDs.
pub record IsPlaceAmong (told : List ℕ) (p : Place) : Type 0 where
  pub count : p.count ≡ length told
  pub greatest : p.greatest ≡ greatest_uid told

-- A message at a place with a text and a row, as keys are asked of it.
abbrev pub text_at : Place → List ℕ → Row → MessageText
text_at p text row = message_of text row p.sequence p.count p.greatest

-- The keys that read texts, or those that don't.
abbrev pub keys_by : Bool → List KeyTree → List KeyTree
keys_by true keys = filter tree_reads keys
keys_by false keys = row_keys keys

-- The message's text is looked at, counted: a key reads it, and all keys match that read none.
abbrev pub look_of : Archive → List ℕ → List KeyTree → ToldMessage → ℕ
look_of a told keys m = if list_any tree_reads keys
    then (if is_sought a told (row_keys keys) m then 1 else 0) else 0

-- Whether a message matches keys, or why that isn't known.
abbrev pub TellsMatch : Bool → Bool → Result Bool TextRefusal → Type 0
TellsMatch needed matches (Ok found) = found ≡ matches
TellsMatch needed matches (Err why) = IsWhy needed why

-- The number of a message was appended, if it is sought; or why that isn't known.
abbrev pub Appends : Archive → SearchAsked → List ℕ → ToldMessage → List ℕ → Result Unit TextRefusal
    → List ℕ → Type 0
Appends a s told m old (Ok done) new = new ≡ old ++ map (number_by s.numbering)
    (filter (is_sought a told s.keys) (m ∷ []))
Appends a s told m old (Err why) new = IsWhy (nat_lt 0 (looks_of a told s (m ∷ []))) why

-- The numbers that are sought, or why they aren't known.
abbrev pub Finds : Archive → SearchAsked → List ℕ → Result (List ℕ) TextRefusal → Type 0
Finds a s told (Ok numbers) = numbers ≡ map (number_by s.numbering) (sought a told s.keys)
Finds a s told (Err why) = IsWhy (nat_lt 0 (looks_of a told s (messages_from 1 told))) why
