-- Two lists of entries at the front of the same bytes.
use Rattle.std.proofs.Common.{◌⊎◌, inl, inr, ◌≡◌, ℕ, List, [], ◌∷◌, ◌++◌, codes, refl, sym, ap, ◌∙◌, arith}
use Rattle.std.specs.List.{AllByRecursion}
use Rattle.arch_base.specs.declared.ids.Form.{Form}
use Rattle.git_objects.specs.declared.entry_kind.EntryKind.{EntryKind}
use Rattle.git_objects.specs.declared.entry_kind.EntryKind.TheVariants.{Message, Deletion}
use Rattle.git_objects.specs.Objects.{entry_name}
use Rattle.arch_model.specs.declared.line.EntryLine.{EntryLine}
use Rattle.mirror_wire.specs.Lists.{entry_part}
use Rattle.mirror_wire.specs.Parts.{IsEntryLine, entries_part}
use Rattle.mirror_wire.proofs.LineParts.{line-once}

-- A letter of an entry is not that of `end`.
letter-apart : (kind : EntryKind) → entry_name kind ≡ 101 → ⊥
letter-apart Message is = omega (arith, is)
letter-apart Deletion is = omega (arith, is)

-- The line `end` is no line of an entry.
pub end-apart : (l : EntryLine) (x y : List ℕ) → codes "end\n" ++ x ≡ entry_part l y → ⊥
end-apart l x y is = letter-apart l.kind (let first : 101 ≡ entry_name l.kind = cc in sym first)

-- One list of entries goes on with an entry after another list.
pub record GoesOnWith (ms ls : List EntryLine) (rest : List ℕ) (y : List ℕ) : Type 0 where
  pub line : EntryLine
  pub more : List EntryLine
  pub lines : ms ≡ ls ++ line ∷ more
  pub rest_is : rest ≡ entry_part line (entries_part more y)

-- Two lists are one, or the first goes on, or the second does.
abbrev pub Meets : List EntryLine → List EntryLine → List ℕ → List ℕ → Type 0
Meets ls ms x y = ((ls ≡ ms) × (x ≡ y)) ⊎ GoesOnWith ms ls x y ⊎ GoesOnWith ls ms y x

meets-more : (l m : EntryLine) (ls ms : List EntryLine) (x y : List ℕ) → l ≡ m → Meets ls ms x y → Meets (l ∷ ls) (m ∷ ms) x y
meets-more l m ls ms x y same (inl both) = inl (cc_lists l m ls ms same both.0, both.1) where
  cc_lists : (l m : EntryLine) (ls ms : List EntryLine) → l ≡ m → ls ≡ ms → l ∷ ls ≡ m ∷ ms
  cc_lists l m ls ms p q = cc
meets-more l m ls ms x y same (inr (inl first)) = inr (inl (record { line = first.line; more = first.more; lines = ap (λ (e : EntryLine). e ∷ ms) (sym same) ∙ ap (λ (es : List EntryLine). l ∷ es) first.lines; rest_is = first.rest_is }))
meets-more l m ls ms x y same (inr (inr second)) = inr (inr (record { line = second.line; more = second.more; lines = ap (λ (e : EntryLine). e ∷ ls) same ∙ ap (λ (es : List EntryLine). m ∷ es) second.lines; rest_is = second.rest_is }))

-- Entries at the front of the same bytes.
pub entries-meet : (form : Form) (ls ms : List EntryLine) (x y : List ℕ) → AllByRecursion (IsEntryLine form) ls → AllByRecursion (IsEntryLine form) ms → entries_part ls x ≡ entries_part ms y → Meets ls ms x y
entries-meet form [] [] x y l_ok m_ok is = inl (refl, is)
entries-meet form [] (m ∷ ms) x y l_ok m_ok is = inr (inl (record { line = m; more = ms; lines = refl; rest_is = is }))
entries-meet form (l ∷ ls) [] x y l_ok m_ok is = inr (inr (record { line = l; more = ls; lines = refl; rest_is = sym is }))
entries-meet form (l ∷ ls) (m ∷ ms) x y l_ok m_ok is =
    let one = line-once form l m (entries_part ls x) (entries_part ms y) l_ok.0 m_ok.0 is in
    meets-more l m ls ms x y one.0 (entries-meet form ls ms x y l_ok.1 m_ok.1 one.1)
