-- Lists of things with single spaces between them, as a loop reads them.
use Rattle.std.proofs.Common.{◌≡◌, ℕ, zero, suc, List, [], ◌∷◌, ◌++◌, Option, Some, None, refl, sym, ap, subst, ◌∙◌, append_assoc}
use Rattle.imap_words.specs.Reading.{◌>>=◌, Refuses, byte_at, with_first, behind_space, many_at}
use Rattle.imap_words.specs.declared.stop.Stop.{Stop}
use Rattle.imap_words.specs.declared.stop.Stop.TheVariants as stop

-- Things before those that are read.
abbrev pub with_all : {A : Type 0} → List A → Option (List A × List ℕ) → Option (List A × List ℕ)
with_all done None = None
with_all done (Some p) = Some (done ++ p.0, p.1)

-- One thing more before those that are read.
with_one : {A : Type 0} (done : List A) (x : A) (read : Option (List A × List ℕ))
    → with_all done (with_first x read) ≡ with_all (done ++ x ∷ []) read
with_one done x None = refl
with_one done x (Some p) = ap (λ l. Some (l, p.1)) (sym (append_assoc done (x ∷ []) p.0))

-- What is read where a thing comes first, and a space after it.
step-more : {A : Type 0} (read : List ℕ → Option (A × List ℕ)) (m : ℕ) (octets mid new : List ℕ) (x : A)
    → read octets ≡ Some (x, mid) → byte_at 32 mid ≡ Some new
    → many_at read (suc m) octets ≡ with_first x (many_at read m new)
step-more read m octets mid new x r s = rw r (rw s refl)

-- The same where no space comes after it.
step-last : {A : Type 0} (read : List ℕ → Option (A × List ℕ)) (m : ℕ) (octets mid : List ℕ) (x : A)
    → read octets ≡ Some (x, mid) → byte_at 32 mid ≡ None
    → many_at read (suc m) octets ≡ Some (x ∷ [], mid)
step-last read m octets mid x r s = rw r (rw s refl)

-- The same where nothing can be read.
step-none : {A : Type 0} (read : List ℕ → Option (A × List ℕ)) (m : ℕ) (octets : List ℕ)
    → read octets ≡ None → many_at read (suc m) octets ≡ None
step-none read m octets r = rw r refl

-- One thing is read, and a space after it.
pub many_more : {A : Type 0} (read : List ℕ → Option (A × List ℕ)) (n m : ℕ) (octets mid new : List ℕ) (x : A)
    (done : List A) (all : Option (List A × List ℕ))
    → n ≡ suc m → read octets ≡ Some (x, mid) → byte_at 32 mid ≡ Some new
    → with_all done (many_at read n octets) ≡ all → with_all (done ++ x ∷ []) (many_at read m new) ≡ all
many_more read n m octets mid new x done all is r s h =
    sym (with_one done x (many_at read m new)) ∙ (ap (λ o. with_all done o) (sym (step-more read m octets mid new x r s))
    ∙ (ap (λ k. with_all done (many_at read k octets)) (sym is) ∙ h))

-- The last thing is read: no space follows it.
pub many_last : {A : Type 0} (read : List ℕ → Option (A × List ℕ)) (n m : ℕ) (octets mid : List ℕ) (x : A)
    (done : List A) (all : Option (List A × List ℕ))
    → n ≡ suc m → read octets ≡ Some (x, mid) → byte_at 32 mid ≡ None
    → with_all done (many_at read n octets) ≡ all → all ≡ Some (done ++ x ∷ [], mid)
many_last read n m octets mid x done all is r s h =
    sym h ∙ (ap (λ k. with_all done (many_at read k octets)) is
    ∙ ap (λ o. with_all done o) (step-last read m octets mid x r s))

-- Reading a thing stopped.
pub many_stopped : {A : Type 0} (e : Stop) (read : List ℕ → Option (A × List ℕ)) (n m : ℕ) (octets : List ℕ)
    (done : List A) (all : Option (List A × List ℕ))
    → n ≡ suc m → Refuses e (read octets) → with_all done (many_at read n octets) ≡ all → Refuses e all
many_stopped stop.Bad read n m octets done all is r h =
    sym h ∙ (ap (λ k. with_all done (many_at read k octets)) is
    ∙ ap (λ o. with_all done o) (step-none read m octets r))
many_stopped stop.NoMemory read n m octets done all is r h = tt

-- As many things were read as there may be, and a space after the last one.
pub many_no_more : {A : Type 0} (read : List ℕ → Option (A × List ℕ)) (n : ℕ) (octets : List ℕ)
    (done : List A) (all : Option (List A × List ℕ))
    → n ≡ 0 → with_all done (many_at read n octets) ≡ all → all ≡ None
many_no_more read n octets done all is h = sym h ∙ ap (λ k. with_all done (many_at read k octets)) is
