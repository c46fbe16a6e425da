-- The entries of a store by their indexes.
use Rattle.std.specs.Prelude.{◌≡◌, ◌<◌, ℕ, zero, suc, List, [], ◌∷◌, ◌++◌, length, slice_get, Option, Some, None, refl}
use Rattle.std.proofs.Common.{◌∙◌, sym, ap, arith}
use Rattle.arch_base.specs.declared.ids.Form.{Form}
use Rattle.root_slots.specs.declared.root.Root.{Root}
use Rattle.arch_model.specs.Archives.{Entry, Archive}
use Rattle.arch_model.specs.Shelves.{lines_after, line_at}
use Rattle.store_finding.specs.declared.entries.StoredEntry.{StoredEntry}
use Rattle.epoch_store.specs.Reads.{line_if, place_if}
use Rattle.store_finding.specs.Kept.{StoreState, KeepsArchive, stored_after}

-- The line at an index.
lines_same : (form : Form) (before es : List Entry) (i : ℕ) → line_if (slice_get (stored_after form before es) i) ≡ slice_get (lines_after form before es) i
lines_same form before [] i = refl
lines_same form before (e ∷ es) zero = refl
lines_same form before (e ∷ es) (suc i) = lines_same form (before ++ e ∷ []) es i

pub line-kept : (v : StoreState) (a : Archive) (i : ℕ) → KeepsArchive v a → line_if (slice_get v.entries i) ≡ line_at a.config.form a.entries i
line-kept v a i keeps = ap (λ (es : List StoredEntry). line_if (slice_get es i)) keeps.kept ∙ lines_same a.config.form [] a.entries i

-- An entry at an index below their number has a place.
none_at : (es : List StoredEntry) (i : ℕ) → i < length es → slice_get es i ≡ None → ⊥
none_at [] i less none = absurd (omega (arith, less))
none_at (e ∷ es) zero less none = absurd (let wrong : Some e ≡ None = none in cc)
none_at (e ∷ es) (suc i) less none = none_at es i (omega (arith, less)) none

no_place : (root : Root) (o : Option StoredEntry) → None ≡ place_if root o → o ≡ None
no_place root None none = refl
no_place root (Some s) none = absurd (cc)

pub place-there : (v w : StoreState) (i : ℕ) → w ≡ v → i < length v.entries → None ≡ place_if w.root (slice_get w.entries i) → ⊥
place-there v w i same less none =
    none_at v.entries i less (ap (λ (u : StoreState). slice_get u.entries i) (sym same) ∙ no_place w.root (slice_get w.entries i) none)
