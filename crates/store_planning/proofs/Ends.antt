-- The last entry of an archive, and the epoch of the next one.
use Rattle.std.specs.Prelude.{◌≡◌, ◌⊎◌, ◌-◌, ◌≤◌, ℕ, List, [], ◌∷◌, ◌++◌, length, slice_get, Option, Some, None, unwrap_or, refl}
use Rattle.std.proofs.Common.{◌∙◌, sym, ap, subst, inl, inr, arith, length-append}
use Rattle.std.proofs.lemmas.Bool.Decides.{nat_tests}
use Rattle.arch_model.specs.Archives.{Entry, Archive, in_epoch}
use Rattle.arch_model.specs.Delivery.{greater, last_epoch}
use Rattle.arch_model.specs.Epochs.{last_commit}
use Rattle.store_finding.specs.declared.entries.StoredEntry.{StoredEntry}
use Rattle.arch_model.specs.Validity.{Rise, number_after}
use Rattle.store_planning.specs.Dropping.{IsStoreEnd}
use Rattle.store_finding.specs.Kept.{stored_at, stored_after}
use Rattle.store_finding.proofs.Growing.{in_epoch-here, stored_more}
use Rattle.store_finding.proofs.Lasts.{last_commit_is}

-- A list is empty, or some items and a last one.
pub record Last {X : Type 0} (xs : List X) : Type 0 where
  pub front : List X
  pub item : X
  pub is : xs ≡ front ++ item ∷ []

pub last_of : {X : Type 0} (xs : List X) → (xs ≡ []) ⊎ Last xs
last_of [] = inl refl
last_of (x ∷ xs) = inr (elim (last_of xs) [
  | inl none ↦ record { front = []; item = x; is = ap (λ l. x ∷ l) none }
  | inr last ↦ record { front = x ∷ last.front; item = last.item; is = ap (λ l. x ∷ l) last.is }
])

-- The greater of two numbers, if it is the second.
greater_second : (m n : ℕ) → m ≤ n → greater m n ≡ n
greater_second m n less = grind (arith, nat_tests)

greater_first : (m n : ℕ) → n ≤ m → greater m n ≡ m
greater_first m n less = grind (arith, nat_tests)

-- If epochs never fall, the last entry's is the greatest, and at least the first.
pub last_is_greatest : (number epoch : ℕ) (es : List Entry) (e : Entry) → Rise number epoch (es ++ e ∷ []) → (last_epoch (es ++ e ∷ []) ≡ e.epoch) × (epoch ≤ e.epoch)
last_is_greatest number epoch [] e rise = (greater_first e.epoch 0 (omega arith), rise.1)
last_is_greatest number epoch (f ∷ es) e rise =
    let rest = last_is_greatest (number_after f.kind number f.number) f.epoch es e rise.2 in
    let low = rise.1 in
    (ap (greater f.epoch) rest.0 ∙ greater_second f.epoch e.epoch rest.1, omega (arith, low, rest.1))

-- The last item of a list.
pub last_item : {X : Type 0} (xs : List X) (x : X) → slice_get (xs ++ x ∷ []) (length (xs ++ x ∷ []) - 1) ≡ Some x
last_item {X} xs x =
    let place : length (xs ++ x ∷ []) - 1 ≡ length xs = omega (arith, length-append xs (x ∷ [])) in
    ap (slice_get (xs ++ x ∷ [])) place ∙ after xs where
      after : (ys : List X) → slice_get (ys ++ x ∷ []) (length ys) ≡ Some x
      after [] = refl
      after (y ∷ ys) = after ys

-- Two items that are equal.
of_some : {X : Type 0} {x y : X} → Some x ≡ Some y → x ≡ y
of_some {X} {x} {y} is = ap (λ (o : Option X). unwrap_or o x) is

-- The end of an archive without entries.
pub end_none : (kept : List StoredEntry) (a : Archive) → kept ≡ stored_after a.config.form [] a.entries → kept ≡ [] → IsStoreEnd a (record { epoch = 0; parent = None })
end_none kept a is none = let empty : a.entries ≡ [] = of_none a.entries (sym is ∙ none) in record { epoch = sym (ap last_epoch empty); parent = sym (ap (λ (es : List Entry). last_commit a.config.form None (in_epoch es (last_epoch es))) empty) } where
  of_none : (es : List Entry) → stored_after a.config.form [] es ≡ [] → es ≡ []
  of_none [] is = refl
  of_none (e ∷ es) is = let wrong : length (stored_after a.config.form [] (e ∷ es)) ≡ 0 = ap length is in absurd (omega (arith, wrong))

-- The end of an archive with entries.
pub end_last : (kept : List StoredEntry) (a : Archive) → Rise 1 0 a.entries → kept ≡ stored_after a.config.form [] a.entries → (last : StoredEntry) → slice_get kept (length kept - 1) ≡ Some last → IsStoreEnd a (record { epoch = last.epoch; parent = Some last.seen.commit })
end_last kept_ a rise kept_is last is = elim (last_of a.entries) [
  | inl none ↦ absurd (nothing none)
  | inr some ↦ ends some
] where
  nothing : a.entries ≡ [] → ⊥
  nothing none =
      let empty : kept_ ≡ [] = kept_is ∙ ap (stored_after a.config.form []) none in
      let wrong : None ≡ Some last = sym (ap (λ (es : List StoredEntry). slice_get es (length es - 1)) empty) ∙ is in
      cc

  ends : Last a.entries → IsStoreEnd a (record { epoch = last.epoch; parent = Some last.seen.commit })
  ends some =
      let es = some.front in
      let e = some.item in
      let form = a.config.form in
      let kept : kept_ ≡ stored_after form [] es ++ stored_at form es e ∷ [] = kept_is ∙ (ap (stored_after form []) some.is ∙ stored_more form [] es e) in
      let found : slice_get kept_ (length kept_ - 1) ≡ Some (stored_at form es e) = ap (λ (l : List StoredEntry). slice_get l (length l - 1)) kept ∙ last_item (stored_after form [] es) (stored_at form es e) in
      let same : last ≡ stored_at form es e = of_some (sym is ∙ found) in
      let greatest = last_is_greatest 1 0 es e (subst (Rise 1 0) some.is rise) in
      let top : last_epoch a.entries ≡ e.epoch = ap last_epoch some.is ∙ greatest.0 in
      let here : in_epoch a.entries (last_epoch a.entries) ≡ in_epoch es e.epoch ++ e ∷ [] = ap (in_epoch a.entries) top ∙ (ap (λ (l : List Entry). in_epoch l e.epoch) some.is ∙ in_epoch-here es e e.epoch refl) in
      record {
        epoch = ap (λ (s : StoredEntry). s.epoch) same ∙ sym top;
        parent = ap (λ (s : StoredEntry). Some s.seen.commit) same ∙ sym (ap (last_commit form None) here ∙ last_commit_is form None (in_epoch es e.epoch) e);
      }
