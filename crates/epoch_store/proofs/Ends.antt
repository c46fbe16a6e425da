-- The last entry of an archive, and the epoch of the next one.
use Rattle.std.specs.Prelude.{◌≡◌, ◌≢◌, ◌⊎◌, ◌+◌, ◌-◌, ◌<◌, ◌≤◌, ◌==◌, ◌||◌, nat_lt, ℕ, Bool, true, false, [], length, slice_get, get_or, Some, None, refl}
use Rattle.std.proofs.Common.{◌∙◌, sym, ap, subst, inl, inr, arith}
use Rattle.std.proofs.lemmas.List.{nil_from_length}
use Rattle.std.proofs.lemmas.Bool.Decides.{nat_tests}
use Rattle.arch_model.specs.Archives.{Entry, Archive, in_epoch}
use Rattle.arch_model.specs.Delivery.{last_epoch, takes_more, new_epoch}
use Rattle.arch_model.specs.Epochs.{last_commit}
use Rattle.arch_base.specs.declared.config.Config.{Config}
use Rattle.root_slots.specs.Valid.{no_place}
use Rattle.root_change.proofs.Roots.{same_test, other_test}
use Rattle.store_finding.specs.declared.entries.StoredEntry.{StoredEntry}
use Rattle.store_planning.specs.declared.next.End.{End}
use Rattle.arch_model.proofs.ValidArchives.{none_later, all_weaker}
use Rattle.store_finding.specs.Recovery.{bytes_in}
use Rattle.store_finding.specs.Kept.{StoreState, KeepsArchive}
use Rattle.store_planning.specs.Dropping.{IsStoreEnd}
use Rattle.epoch_store.specs.Commands.{IsNextPlace, next_sequence, place_of}
use Rattle.store_finding.proofs.Lasts.{none_in}
use Rattle.store_planning.proofs.Ends.{end_none, end_last}

-- The tests of the epoch of a new entry.
test63 : (epoch len limit : ℕ) → epoch ≡ 63 → takes_more limit epoch len ≡ true
test63 epoch len limit is = rw (same_test epoch 63 is) refl

shorter : (epoch len limit : ℕ) → len < limit → takes_more limit epoch len ≡ true
shorter epoch len limit less = let test : nat_lt len limit ≡ true = grind (arith, nat_tests) in rw test (or_true (epoch == 63)) where
  or_true : (b : Bool) → (b || true) ≡ true
  or_true true = refl
  or_true false = refl

longer : (epoch len limit : ℕ) → epoch < 63 → limit ≤ len → takes_more limit epoch len ≡ false
longer epoch len limit low more =
    let test : nat_lt len limit ≡ false = grind (arith, nat_tests) in
    rw (other_test epoch 63 (λ is. absurd (omega (arith, low, is)))) test

-- The generation of a file with bytes, and of a new one.
gen_old : (v : StoreState) (a : Archive) (epoch : ℕ) → KeepsArchive v a → epoch ≤ 63 → bytes_in a epoch ≢ [] → (place_of v.root epoch None).generation ≡ (get_or v.root.epochs epoch no_place).generation
gen_old v a epoch keeps small some =
    let is = keeps.names.epochs epoch (omega (arith, small)) in
    rw (other_test (get_or v.root.epochs epoch no_place).length 0 (λ zero_is. some (nil_from_length (bytes_in a epoch) (sym is ∙ zero_is)))) refl

gen_new : (v : StoreState) (a : Archive) (epoch : ℕ) → KeepsArchive v a → epoch ≤ 63 → bytes_in a epoch ≡ [] → (place_of v.root epoch None).generation ≡ next_sequence v.root.sequence
gen_new v a epoch keeps small none =
    let is = keeps.names.epochs epoch (omega (arith, small)) in
    rw (same_test (get_or v.root.epochs epoch no_place).length 0 (is ∙ ap length none)) refl

pub end_of_none : (v : StoreState) (a : Archive) → KeepsArchive v a → v.entries ≡ [] → IsStoreEnd a (record { epoch = 0; parent = None })
end_of_none v a keeps none = end_none v.entries a keeps.kept none

pub end_of_last : (v : StoreState) (a : Archive) → KeepsArchive v a → (last : StoredEntry) → slice_get v.entries (length v.entries - 1) ≡ Some last → IsStoreEnd a (record { epoch = last.epoch; parent = Some last.seen.commit })
end_of_last v a keeps last is = end_last v.entries a keeps.valid.order keeps.kept last is

-- The epoch of the next entry.
pub epoch_here : (a : Archive) → (last_epoch a.entries ≡ 63) ⊎ (length (bytes_in a (last_epoch a.entries)) < a.config.limit) → new_epoch a ≡ last_epoch a.entries
epoch_here a (inl is63) = rw (test63 (last_epoch a.entries) (length (bytes_in a (last_epoch a.entries))) a.config.limit is63) refl
epoch_here a (inr less) = rw (shorter (last_epoch a.entries) (length (bytes_in a (last_epoch a.entries))) a.config.limit less) refl

pub epoch_after : (a : Archive) → last_epoch a.entries < 63 → a.config.limit ≤ length (bytes_in a (last_epoch a.entries)) → new_epoch a ≡ last_epoch a.entries + 1
epoch_after a top long = rw (longer (last_epoch a.entries) (length (bytes_in a (last_epoch a.entries))) a.config.limit top long) refl

-- No entry is in it then.
pub none_after : (a : Archive) → in_epoch a.entries (last_epoch a.entries + 1) ≡ []
none_after a = none_in a.entries (last_epoch a.entries + 1) (all_weaker (λ (e : Entry). e.epoch ≤ last_epoch a.entries) (λ (e : Entry). e.epoch < last_epoch a.entries + 1) a.entries (λ e less. omega (arith, less)) (none_later a.entries))

-- Where the next entry is written if it is in the last epoch.
pub next_here : (v : StoreState) (a : Archive) (end_ : End) → KeepsArchive v a → IsStoreEnd a end_ → end_.epoch ≤ 63 → (end_.epoch ≡ 63) ⊎ ((get_or v.root.epochs end_.epoch no_place).length < v.root.config.limit)
    → IsNextPlace v.root a (next_sequence v.root.sequence) (place_of v.root end_.epoch end_.parent)
next_here v a end_ keeps is small takes = record {
  epoch = is.epoch ∙ sym (taken (subst (λ (e : ℕ). (e ≡ 63) ⊎ ((get_or v.root.epochs e no_place).length < v.root.config.limit)) is.epoch takes));
  length_is = keeps.names.epochs end_.epoch (omega (arith, small));
  old = λ some. gen_old v a end_.epoch keeps small some;
  new = λ none. gen_new v a end_.epoch keeps small none;
  parent = is.parent ∙ ap (λ (e : ℕ). last_commit a.config.form None (in_epoch a.entries e)) (sym is.epoch);
} where
  taken : (last_epoch a.entries ≡ 63) ⊎ ((get_or v.root.epochs (last_epoch a.entries) no_place).length < v.root.config.limit) → new_epoch a ≡ last_epoch a.entries
  taken (inl is63) = epoch_here a (inl is63)
  taken (inr less) =
      let low : last_epoch a.entries < 64 = omega (arith, small, is.epoch) in
      let short : length (bytes_in a (last_epoch a.entries)) < a.config.limit = subst (λ (n : ℕ). n < a.config.limit) (keeps.names.epochs (last_epoch a.entries) low) (subst (λ (c : Config). (get_or v.root.epochs (last_epoch a.entries) no_place).length < c.limit) keeps.names.config less) in
      epoch_here a (inr short)

-- Where the next entry is written if it is in a new epoch.
pub next_after : (v : StoreState) (a : Archive) (end_ : End) → KeepsArchive v a → IsStoreEnd a end_ → end_.epoch < 63 → v.root.config.limit ≤ (get_or v.root.epochs end_.epoch no_place).length
    → IsNextPlace v.root a (next_sequence v.root.sequence) (place_of v.root (end_.epoch + 1) None)
next_after v a end_ keeps is small full =
    let below : end_.epoch + 1 ≤ 63 = omega (arith, small) in
    let top : last_epoch a.entries < 63 = omega (arith, small, is.epoch) in
    let long : a.config.limit ≤ length (bytes_in a (last_epoch a.entries)) =
    subst (λ (n : ℕ). a.config.limit ≤ n) (keeps.names.epochs (last_epoch a.entries) (omega (arith, top)))
    (subst (λ (e : ℕ). a.config.limit ≤ (get_or v.root.epochs e no_place).length) is.epoch (subst (λ (c : Config). c.limit ≤ (get_or v.root.epochs end_.epoch no_place).length) keeps.names.config full)) in
    let none : in_epoch a.entries (end_.epoch + 1) ≡ [] = ap (λ (e : ℕ). in_epoch a.entries (e + 1)) is.epoch ∙ none_after a in
    record {
      epoch = ap (λ (e : ℕ). e + 1) is.epoch ∙ sym (epoch_after a top long);
      length_is = keeps.names.epochs (end_.epoch + 1) (omega (arith, small));
      old = λ some. gen_old v a (end_.epoch + 1) keeps below some;
      new = λ empty. gen_new v a (end_.epoch + 1) keeps below empty;
      parent = sym (ap (last_commit a.config.form None) none);
    }
