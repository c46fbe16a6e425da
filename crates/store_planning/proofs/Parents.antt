-- The last commit of an epoch, by the last entry that is kept.
use Rattle.std.specs.Prelude.{◌≡◌, ◌≢◌, ◌-◌, ◌<◌, ◌≤◌, ℕ, zero, suc, List, [], ◌∷◌, ◌++◌, length, slice_get, Some, None, refl}
use Rattle.std.specs.List.{AllByRecursion}
use Rattle.std.proofs.Common.{◌∙◌, sym, ap, subst, inl, inr, arith}
use Rattle.std.proofs.lemmas.Option.{same_Some}
use Rattle.arch_base.specs.declared.ids.Form.{Form}
use Rattle.arch_model.specs.Archives.{Entry, in_epoch}
use Rattle.arch_model.specs.Epochs.{last_commit}
use Rattle.store_finding.specs.declared.entries.StoredEntry.{StoredEntry}
use Rattle.store_finding.specs.Extents.{AreUpToEpoch}
use Rattle.store_finding.specs.Kept.{stored_at, stored_after}
use Rattle.store_finding.proofs.Growing.{in_epoch-here, stored_more}
use Rattle.store_finding.proofs.Lasts.{last_commit_is}
use Rattle.store_planning.specs.Epochs.{IsParentIn}
use Rattle.store_planning.proofs.Ends.{last_item, last_of}
use Rattle.store_planning.proofs.Planned.{in_epoch_none}
use Rattle.store_planning.proofs.PlannedExtents.{up_to_last}

-- Entries of which none is kept.
pub none_stored : (form : Form) (before es : List Entry) → stored_after form before es ≡ [] → es ≡ []
none_stored form before [] is = refl
none_stored form before (e ∷ es) is = let wrong : length (stored_after form before (e ∷ es)) ≡ 0 = ap length is in absurd (omega (arith, wrong))

pub parent_none : (kept : List StoredEntry) (epoch : ℕ) → kept ≡ [] → IsParentIn kept epoch None
parent_none kept epoch none = λ form es is lie low. sym (ap (λ (l : List Entry). last_commit form None (in_epoch l epoch)) (none_stored form [] es (sym is ∙ none)))

-- The last one is in the epoch.
pub parent_last : (kept : List StoredEntry) (epoch : ℕ) (last : StoredEntry) → slice_get kept (length kept - 1) ≡ Some last → last.epoch ≡ epoch → IsParentIn kept epoch (Some last.seen.commit)
parent_last kept epoch last is here = λ form es kept_is lie low. elim (last_of es) [
  | inl none ↦ absurd (let empty : kept ≡ [] = kept_is ∙ ap (stored_after form []) none in let wrong : None ≡ Some last = sym (ap (λ (l : List StoredEntry). slice_get l (length l - 1)) empty) ∙ is in cc)
  | inr some ↦
      let front = some.front in
      let e = some.item in
      let all : kept ≡ stored_after form [] front ++ stored_at form front e ∷ [] = kept_is ∙ (ap (stored_after form []) some.is ∙ stored_more form [] front e) in
      let same : last ≡ stored_at form front e = same_Some last (stored_at form front e) (sym is ∙ (ap (λ (l : List StoredEntry). slice_get l (length l - 1)) all ∙ last_item (stored_after form [] front) (stored_at form front e))) in
      let own : e.epoch ≡ epoch = sym (ap (λ (s : StoredEntry). s.epoch) same) ∙ here in
      let commit : last.seen.commit ≡ (stored_at form front e).seen.commit = ap (λ (s : StoredEntry). s.seen.commit) same in
      let there : last_commit form None (in_epoch es epoch) ≡ last_commit form None (in_epoch front epoch ++ e ∷ []) = ap (λ (l : List Entry). last_commit form None (in_epoch l epoch)) some.is ∙ ap (last_commit form None) (in_epoch-here front e epoch own) in
      ap (λ (s : StoredEntry). Some s.seen.commit) same
      ∙ (sym (last_commit_is form None (in_epoch front e.epoch) e)
      ∙ (ap (λ (n : ℕ). last_commit form None (in_epoch front n ++ e ∷ [])) own ∙ sym there))
]

-- It is in an earlier one, and so are all.
one_low : (es : List StoredEntry) (i n : ℕ) (s : StoredEntry) → slice_get es i ≡ Some s → AreUpToEpoch n es → s.epoch ≤ n
one_low [] i n s here low = absurd (let wrong : None ≡ Some s = here in cc)
one_low (x ∷ xs) zero n s here low = subst (λ (t : StoredEntry). t.epoch ≤ n) (same_Some x s here) low.0
one_low (x ∷ xs) (suc i) n s here low = one_low xs i n s here low.1

all_earlier : (form : Form) (before es : List Entry) (n x : ℕ) → n < x → AreUpToEpoch n (stored_after form before es) → AllByRecursion (λ (e : Entry). e.epoch ≢ x) es
all_earlier form before [] n x less low = tt
all_earlier form before (e ∷ es) n x less low =
    let first : e.epoch ≤ n = low.0 in
    (λ same. absurd (omega (arith, first, less, same)), all_earlier form (before ++ e ∷ []) es n x less low.1)

pub parent_other : (kept : List StoredEntry) (epoch : ℕ) (last : StoredEntry) → slice_get kept (length kept - 1) ≡ Some last → last.epoch ≢ epoch → IsParentIn kept epoch None
parent_other kept epoch last is apart = λ form es kept_is lie low.
    let most = one_low kept (length kept - 1) epoch last is low in
    let less : last.epoch < epoch = omega (arith, most, apart) in
    let all = all_earlier form [] es last.epoch epoch less (subst (AreUpToEpoch last.epoch) kept_is (up_to_last kept last lie is)) in
    sym (ap (last_commit form None) (in_epoch_none es epoch all))
