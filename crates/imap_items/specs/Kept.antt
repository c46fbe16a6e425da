-- Private: messages, as keys are asked of them, and what is kept of a message's text meanwhile.
use Rattle.std.specs.Prelude.{◌≡◌, ℕ, List, map, MatchOption}
use Rattle.std.specs.List.{All}
use Rattle.std.specs.Str.{str_to_ascii_lowercase}
use Rattle.mail_reader.specs.Fields.{fields_of}
use Rattle.mail_reader.specs.Laws.{wholes}
use Rattle.mail_forms.specs.NamedValues.{values_of}
use Rattle.mail_forms.specs.WireForms.{wire_of}
use Rattle.mime_words.specs.Decoding.{decoded}
use Rattle.mime_parts.specs.Texts.{body_text_of}
use Rattle.imap_items.specs.declared.keys.Message.{Message}
use Rattle.imap_items.specs.declared.kept.Kept.{Kept}
use Rattle.imap_items.specs.declared.kept.NamedValues.{NamedValues}
use Rattle.imap_items.specs.Keys.{MessageText}

-- The content of a borrowed message.
abbrev pub shown_message : Message → MessageText
shown_message a = record {
  text = a.text.now;
  row = a.row.now;
  sequence = a.sequence;
  greatest = a.greatest;
  uids = a.uids;
  arrived = a.arrived;
  sent = a.sent;
}

-- A value, decoded and in lower case.
abbrev pub lower_decoded : List ℕ → List ℕ
lower_decoded value = str_to_ascii_lowercase (decoded value)

-- The values of the fields with a name, decoded and in lower case.
abbrev pub lower_values : List ℕ → List ℕ → List (List ℕ)
lower_values name text = map lower_decoded (values_of name (fields_of text))

-- The header as it is sent, in lower case.
abbrev pub lower_header : List ℕ → List ℕ
lower_header text = str_to_ascii_lowercase (wire_of (wholes (fields_of text)))

-- The body's text in lower case.
abbrev pub lower_body : List ℕ → List ℕ
lower_body text = str_to_ascii_lowercase (body_text_of text)

-- The values that are kept of a name are those of its fields.
abbrev pub IsNamedField : List ℕ → NamedValues → Type 0
IsNamedField text named = named.values ≡ lower_values named.name text

-- What is kept is of this text.
pub record IsKeptText (text : List ℕ) (kept : Kept) : Type 0 where
  pub header : MatchOption kept.header (Unit {0}) (λ lower. lower ≡ lower_header text)
  pub body : MatchOption kept.body (Unit {0}) (λ lower. lower ≡ lower_body text)
  pub fields : All (IsNamedField text) kept.fields.items
