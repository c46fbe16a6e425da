-- What follows a prefix.
use Rattle.std.specs.Prelude.{MatchOption, option_copied}
use Rattle.std.proofs.Common.{Bor, ◌≡◌, ◌≢◌, ◌==◌, ℕ, Bool, true, false, List, [], ◌∷◌, ◌++◌, Option, Some, None, refl, sym, ap, ◌∙◌, eqb-true, eq-eqb}
use Rattle.shelf_doors.specs.Mailboxes.{behind_prefix}

-- The prefix is there.
pub behind-there : (prefix rest : List ℕ) → behind_prefix prefix (prefix ++ rest) ≡ Some rest
behind-there [] rest = refl
behind-there (p ∷ ps) rest = rw (eq-eqb p p refl) (behind-there ps rest)

-- What follows it is the rest.
pub behind-is : (prefix bytes rest : List ℕ) → behind_prefix prefix bytes ≡ Some rest → bytes ≡ prefix ++ rest
behind-is [] bytes rest is = let same : bytes ≡ rest = cc is in same
behind-is (p ∷ ps) [] rest is = absurd (cc is)
behind-is (p ∷ ps) (b ∷ bs) rest is = by (p == b) refl (λ e. behind-is ps bs rest e)
  where
    by : (t : Bool) → (p == b) ≡ t → (behind_prefix ps bs ≡ Some rest → bs ≡ ps ++ rest) → b ∷ bs ≡ p ∷ (ps ++ rest)
    by true e more =
        let found : behind_prefix ps bs ≡ Some rest = rw e at is in
        let same : p ≡ b = eqb-true p b e in
        ap (λ (x : ℕ). x ∷ bs) (sym same) ∙ ap (λ (xs : List ℕ). p ∷ xs) (more found)
    by false e more = let none : None ≡ Some rest = rw e at is in absurd (cc none)

-- It isn't there.
pub behind-none : (prefix bytes : List ℕ) → ((rest : List ℕ) → bytes ≢ prefix ++ rest) → behind_prefix prefix bytes ≡ None
behind-none prefix bytes never = by (behind_prefix prefix bytes) refl
  where
    by : (o : Option (List ℕ)) → behind_prefix prefix bytes ≡ o → o ≡ None
    by None is = refl
    by (Some rest) is = absurd (never rest (behind-is prefix bytes rest is))

-- What std says of a prefix.
pub behind-found : (prefix bytes : List ℕ) (found : Option (Bor (List ℕ))) → MatchOption found ((rest : List ℕ) → bytes ≢ prefix ++ rest) (λ rest. bytes ≡ prefix ++ rest.now) → option_copied found ≡ behind_prefix prefix bytes
behind-found prefix bytes None never = sym (behind-none prefix bytes never)
behind-found prefix bytes (Some rest) is = sym (ap (behind_prefix prefix) is ∙ behind-there prefix rest.now)
