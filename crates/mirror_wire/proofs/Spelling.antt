-- The lines of entries, written one after another.
use Rattle.std.proofs.Common.{◌⊎◌, inl, inr, ◌≡◌, ◌+◌, ◌<◌, ◌≤◌, ℕ, List, [], ◌∷◌, ◌++◌, take, length, Some, None, slice_get, get_or, codes, refl, sym, ap, ◌∙◌}
use Rattle.std.proofs.lemmas.List.{take_all, take_more}
use Rattle.std.proofs.lemmas.Option.{slice_get_cases, slice_get_within, get_or_from_slice_get}
use Rattle.arch_base.specs.declared.ids.Form.{Form}
use Rattle.git_objects.specs.Fronts.{AppendsPiece}
use Rattle.arch_model.specs.declared.line.EntryLine.{EntryLine}
use Rattle.mirror_wire.specs.declared.list.MirrorList.{MirrorList}
use Rattle.mirror_wire.specs.Lists.{entry_part, list_text}
use Rattle.mirror_wire.specs.Parts.{head_part, entries_part}
use Rattle.mirror_wire.proofs.Texts.{text-is}

-- One more line before what follows.
pub entries-push : (ls : List EntryLine) (l : EntryLine) (rest : List ℕ) → entries_part (ls ++ l ∷ []) rest ≡ entries_part ls (entry_part l rest)
entries-push [] l rest = refl
entries-push (m ∷ ms) l rest = ap (entry_part m) (entries-push ms l rest)

-- Where there is no line, all are taken.
pub took-all : (ls : List EntryLine) (i : ℕ) → slice_get ls i ≡ None → take i ls ≡ ls
took-all ls i none = by (slice_get_cases ls i).1 where
  by : ((x : EntryLine) × (i < length ls) × (slice_get ls i ≡ Some x) × (get_or ls i x ≡ x)) ⊎ ((length ls ≤ i) × (slice_get ls i ≡ None)) → take i ls ≡ ls
  by (inl some) = absurd (let wrong : Some some.0 ≡ None = sym some.2 ∙ none in cc)
  by (inr past) = take_all i ls past.0

-- With the line that is there one more is taken.
pub took-more : (ls : List EntryLine) (i : ℕ) (l : EntryLine) → slice_get ls i ≡ Some l → take (i + 1) ls ≡ take i ls ++ l ∷ []
took-more ls i l some =
    take_more ls i l (slice_get_within ls i l some) ∙ ap (λ (x : EntryLine). take i ls ++ x ∷ []) (get_or_from_slice_get ls i l l some)

-- The lines that were taken are written, and so is one more.
pub said-more : (old mid new : List ℕ) (ls : List EntryLine) (i : ℕ) (l : EntryLine) → slice_get ls i ≡ Some l → AppendsPiece old mid (entries_part (take i ls)) → AppendsPiece mid new (entry_part l)
    → AppendsPiece old new (entries_part (take (i + 1) ls))
said-more old mid new ls i l some said more = λ rest.
    more rest ∙ said (entry_part l rest) ∙ ap (λ (t : List ℕ). old ++ t) (sym (entries-push (take i ls) l rest) ∙ ap (λ (ms : List EntryLine). entries_part ms rest) (sym (took-more ls i l some)))

-- All are written.
pub said-all : (old new : List ℕ) (ls : List EntryLine) (i : ℕ) → slice_get ls i ≡ None → AppendsPiece old new (entries_part (take i ls)) → AppendsPiece old new (entries_part ls)
said-all old new ls i none said = λ rest. said rest ∙ ap (λ (ms : List EntryLine). old ++ entries_part ms rest) (took-all ls i none)

-- The head, the entries and `end` are the list.
pub list-said : (form : Form) (list : MirrorList) (none one two three : List ℕ) → none ≡ [] → AppendsPiece none one (head_part form list.name list.next) → AppendsPiece one two (entries_part list.lines)
    → three ≡ two ++ codes "end\n" → three ≡ list_text form list
list-said form list none one two three empty head entries ended =
    ended ∙ entries (codes "end\n") ∙ head (entries_part list.lines (codes "end\n")) ∙ ap (λ (t : List ℕ). t ++ head_part form list.name list.next (entries_part list.lines (codes "end\n"))) empty ∙ sym (text-is form list)
