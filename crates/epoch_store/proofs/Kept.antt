-- What a store keeps, and what its disk leaves at once.
use Rattle.std.specs.Prelude.{Bool, true, false, if◌then◌else◌, ◌==◌, get_or, ◌≡◌, ◌≤◌, ℕ, zero, suc, unwrap_or, List, [], ◌∷◌, ◌++◌, length, Option, Some, None, refl}
use Rattle.std.proofs.Common.{◌∙◌, sym, ap, subst, inl, arith}
use Rattle.std.proofs.lemmas.Bool.Decides.{nat_tests}
use Rattle.disk_model.specs.Disk.{Files, Content, Image, WhereTold, IsAtMostLength, bytes_of}
use Rattle.arch_model.specs.Archives.{Archive}
use Rattle.root_slots.specs.declared.root.Root.{Root}
use Rattle.store_finding.specs.declared.entries.StoredEntry.{StoredEntry}
use Rattle.root_slots.specs.Valid.{no_place}
use Rattle.root_change.specs.Names.{epoch_name}
use Rattle.store_planning.specs.declared.next.NextPlace.{NextPlace}
use Rattle.epoch_store.specs.Commands.{StoreHasSizes, next_sequence, place_of, RecoversOneOf}
use Rattle.store_finding.specs.Kept.{StoreState, IsStoreWith, InEpochs}
use Rattle.epoch_store.specs.Leaving.{disk_recovers}

-- A number that is tested as 0 is 0.
is_zero : (n : ℕ) → (n == 0) ≡ true → n ≡ 0
is_zero n is = grind (arith, nat_tests)

-- The state before anything is done.
pub stands_now : (v : StoreState) (cache left : List ℕ) (a b : Archive) (k : Option Content) (image : Files) → IsStoreWith v cache a k → Image k image → RecoversOneOf cache a left b image
stands_now v cache left a b None image store now = absurd store
stands_now v cache left a b (Some k) image store now = inl (disk_recovers v cache a k image store now)

-- Views with equal parts are equal.
pub same_view : (root : Root) (slot : ℕ) (es fs : List StoredEntry) → fs ≡ es → ◌≡◌ {A = StoreState} (record { root = root; slot = slot; entries = fs }) (record { root = root; slot = slot; entries = es })
same_view root slot es fs is = let make : List StoredEntry → StoreState = λ l. record { root = root; slot = slot; entries = l } in ap make is

-- One more entry in an epoch up to 63.
pub in_epochs_more : (es : List StoredEntry) (e : StoredEntry) → InEpochs es → e.epoch ≤ 63 → InEpochs (es ++ e ∷ [])
in_epochs_more [] e all low zero f is = subst (λ (s : StoredEntry). s.epoch ≤ 63) (ap (λ (o : Option StoredEntry). unwrap_or o e) is) low
in_epochs_more [] e all low (suc i) f is = let wrong : None ≡ Some f = is in cc
in_epochs_more (x ∷ es) e all low zero f is = all 0 f is
in_epochs_more (x ∷ es) e all low (suc i) f is = in_epochs_more es e (λ j g found. all (suc j) g found) low i f is

-- A push that has room appends its item.
pub pushed : {X : Type 0} (ok : Bool) (old new : List X) (x : X) → new ≡ (if ok then old ++ x ∷ [] else old) → ok ≡ true → new ≡ old ++ x ∷ []
pushed ok old new x is yes_ = is ∙ ap (λ (b : Bool). if b then old ++ x ∷ [] else old) yes_

-- The file of the next place has at least its bytes.
pub place_inside : (v : StoreState) (p : NextPlace) → p ≡ place_of v.root p.epoch p.parent → p.epoch ≤ 63 → (k : Option Content) → WhereTold (StoreHasSizes v) k → WhereTold (IsAtMostLength (epoch_name p.epoch p.generation) p.length) k
place_inside v p is small None sizes = tt
place_inside v p is small (Some k) sizes =
    let P : NextPlace → Type 0 = λ q. q.length ≤ length (bytes_of (k (epoch_name p.epoch q.generation)).seen) in
    subst P (sym is) (by ((get_or v.root.epochs p.epoch no_place).length == 0) refl) where
      by : (b : Bool) → ((get_or v.root.epochs p.epoch no_place).length == 0) ≡ b → (get_or v.root.epochs p.epoch no_place).length ≤ length (bytes_of (k (epoch_name p.epoch (if b then next_sequence v.root.sequence else (get_or v.root.epochs p.epoch no_place).generation))).seen)
      by true none = let zero_is : (get_or v.root.epochs p.epoch no_place).length ≡ 0 = is_zero (get_or v.root.epochs p.epoch no_place).length none in omega (arith, zero_is)
      by false some = sizes.epochs_long p.epoch (omega (arith, small))
