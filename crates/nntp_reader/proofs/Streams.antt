-- HDR of a field over a range, as a streamed reply whose words wait.
use Rattle.std.proofs.Common.{◌≡◌, ◌+◌, ◌<◌, ℕ, Bool, true, not, List, ◌++◌, ◌∷◌, length, Option, Some, None, is_some, Ok, refl, ap, ◌∙◌, sym, append_assoc, length-append, arith}
use Rattle.std.specs.Prelude.{decimal}
use Rattle.arch_model.specs.Archives.{Entry, Archive, live, text_of}
use Rattle.line_door.specs.Acts.{Departure, Plain, Memory, Disk, Newer}
use Rattle.line_door.specs.Readers.{as_said, line_reader}
use Rattle.nntp_words.specs.declared.numbers.Range.{Range}
use Rattle.mail_forms.specs.NamedValues.{flat_first}
use Rattle.shelf_doors.specs.Numbers.{live_in, first_of}
use Rattle.shelf_doors.specs.Refusals.{unread_line}
use Rattle.shelf_doors.specs.Streams.{StreamWays}
use Rattle.wire_replies.specs.Blocks.{crlf_line, block_end}
use Rattle.nntp_reader.specs.Choices.{range_start}
use Rattle.nntp_reader.specs.Commands.{Headers, Field, Within}
use Rattle.nntp_reader.specs.Headers.{field_line, field_at, field_lines, fields_block}
use Rattle.nntp_reader.specs.Notices.{refused_code}
use Rattle.nntp_reader.specs.Replies.{in_way}
use Rattle.nntp_reader.specs.Sessions.{start_if}
use Rattle.nntp_reader.specs.declared.group.Group.{Group}
use Rattle.nntp_reader.proofs.Walking.{fields-none}

-- What is left of the reply from a number on.
abbrev pub fields_left : List ℕ → List Entry → Bool → ℕ → ℕ → List ℕ
fields_left name entries begun at last = start_if (not begun) ++ (field_lines name entries at last ++ block_end)

-- What is left is the next value, and what is left after it.
pub left-value : (name : List ℕ) (entries : List Entry) (begun : Bool) (at last n : ℕ) → field_lines name entries at last ≡ field_at name entries n ++ field_lines name entries (n + 1) last
    → fields_left name entries begun at last ≡ (start_if (not begun) ++ field_at name entries n) ++ fields_left name entries true (n + 1) last
left-value name entries begun at last n is =
    ap (λ (x : List ℕ). start_if (not begun) ++ (x ++ block_end)) is
    ∙ ap (λ (x : List ℕ). start_if (not begun) ++ x) (append_assoc (field_at name entries n) (field_lines name entries (n + 1) last) block_end)
    ∙ sym (append_assoc (start_if (not begun)) (field_at name entries n) (field_lines name entries (n + 1) last ++ block_end))

-- There is always something left.
pub left-some : (name : List ℕ) (entries : List Entry) (begun : Bool) (at last : ℕ) → 0 < length (fields_left name entries begun at last)
left-some name entries begun at last = omega (arith, length-append (start_if (not begun)) (field_lines name entries at last ++ block_end), length-append (field_lines name entries at last) block_end)

-- After the last value the end is left.
pub left-none : (name : List ℕ) (entries : List Entry) (begun : Bool) (at last : ℕ) → first_of (live_in entries at last) ≡ None → fields_left name entries begun at last ≡ start_if (not begun) ++ block_end
left-none name entries begun at last none = ap (λ (x : List ℕ). start_if (not begun) ++ (x ++ block_end)) (fields-none name entries at last none)

-- A value isn't empty.
pub value-some : (name : List ℕ) (entries : List Entry) (begun : Bool) (n : ℕ) → is_some (text_of entries n) ≡ true → 0 < length (start_if (not begun) ++ field_at name entries n)
value-some name entries begun n alive = by (text_of entries n) alive
  where
    by : (o : Option (List ℕ)) → is_some o ≡ true → 0 < length (start_if (not begun) ++ field_line name n o)
    by None none = absurd (cc none)
    by (Some text) there =
        let line = length-append (decimal n) (32 ∷ crlf_line (flat_first name text)) in
        omega (arith, length-append (start_if (not begun)) (field_line name n (Some text)), line)

module _ (moment : ℕ) (a : Archive) (g : Group) (name : List ℕ) (range : Range) (rest : List ℕ) (n : ℕ) (is : range_start a g range ≡ Ok n) where
  after-way : (way : Departure) → a ≡ (as_said rest (in_way moment a g (Headers (Field name) (Within range)) way)).after
  after-way Plain = refl
  after-way Memory = refl
  after-way Disk = refl
  after-way Newer = refl

  -- HDR of a field over a range of which one is live is a streamed reply.
  pub range-streamed : StreamWays (λ way. as_said rest (in_way moment a g (Headers (Field name) (Within range)) way)) a (line_reader g rest) true true (fields_block name (live a.entries) range.first range.last) (unread_line refused_code) true
  range-streamed = record { by_rules = rw is refl; no_memory = rw is refl; no_disk = λ reads. rw is refl; after = after-way }
