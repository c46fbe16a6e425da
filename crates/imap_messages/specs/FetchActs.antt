-- Private: the messages that a FETCH names, and what is made of a live one.
use Rattle.std.specs.Prelude.{◌≡◌, ◌+◌, ℕ, Bool, true, List, drop, Option, Some, Result, Ok, Err}
use Rattle.std.specs.List.{filter}
use Rattle.mail_forms.specs.declared.row.Row.{Row}
use Rattle.arch_model.specs.declared.text_refusal.TextRefusal.{TextRefusal}
use Rattle.arch_model.specs.declared.text_refusal.TextRefusal.TheVariants as refusal
use Rattle.imap_messages.specs.Picking.{ToldMessage, messages_from, picks, star_of}
use Rattle.imap_messages.specs.Fetching.{FetchAsked, shown_items, items_words, reads_texts}

-- Why something of a live message wasn't made: no text is damaged, and the disk is read only where the
-- text is needed.
abbrev pub IsWhy : Bool → TextRefusal → Type 0
IsWhy needed refusal.DiskFault = needed ≡ true
IsWhy needed (refusal.Damaged named found) = ⊥
IsWhy needed refusal.NoMemory = Unit {0}

-- The text of a live message, if it is needed, or why it wasn't read.
abbrev pub GivesTextIf : Bool → Option (List ℕ) → Result (List ℕ) TextRefusal → Type 0
GivesTextIf needed found (Ok text) = needed ≡ true → found ≡ Some text
GivesTextIf needed found (Err why) = IsWhy needed why

-- The items of a message with a text and a row, or why they weren't made.
abbrev pub MakesItems : FetchAsked → Option (List ℕ) → Option Row → Result (List ℕ) TextRefusal → Type 0
MakesItems f text row (Ok made) = (t : List ℕ) (r : Row) → text ≡ Some t → row ≡ Some r
    → made ≡ items_words t r (shown_items f.numbering f.items)
MakesItems f text row (Err why) = IsWhy (reads_texts f) why

-- The FETCH names the message.
abbrev pub names : FetchAsked → List ℕ → ToldMessage → Bool
names f told m = picks f.numbering f.set (star_of f.numbering told) m

-- The messages from an index on that a FETCH names.
abbrev pub named_from : FetchAsked → List ℕ → ℕ → List ToldMessage
named_from f told index = filter (names f told) (messages_from (index + 1) (drop index told))
