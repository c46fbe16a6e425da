-- The last arrival of mails.
use Rattle.std.proofs.Common.{◌≡◌, ◌==◌, ℕ, suc, Bool, false, List, [], ◌∷◌, ◌++◌, length, Option, Some, None, max, refl, ap, ◌∙◌, arith, if◌then◌else◌}
use Rattle.std.proofs.lemmas.Bool.Decides.{nat_tests}
use Rattle.std.specs.Prelude.{fold}
use Rattle.atom_mbox.specs.Feeds.{later, last_arrival, updated_of}
use Rattle.atom_mbox.specs.declared.feeds.Shown.{Shown}
use Rattle.http_front.specs.Feeding.{later_of, latest_of}

-- A moment, or a later one that may be there.
abbrev pub later_than : ℕ → Option ℕ → ℕ
later_than x None = x
later_than x (Some y) = max x y

later-joined : (x y : ℕ) (o : Option ℕ) → later_than (max x y) o ≡ later_than x (later_of (Some y) o)
later-joined x y None = refl
later-joined x y (Some z) = grind (arith)

pub fold-latest : (x : ℕ) (mails : List Shown) → fold later x mails ≡ later_than x (latest_of mails)
fold-latest x [] = refl
fold-latest x (mail ∷ mails) = fold-latest (max x mail.row.arrived) mails ∙ later-joined x mail.row.arrived (latest_of mails)

later_of-assoc : (a b c : Option ℕ) → later_of a (later_of b c) ≡ later_of (later_of a b) c
later_of-assoc None b c = refl
later_of-assoc (Some x) None c = refl
later_of-assoc (Some x) (Some y) None = refl
later_of-assoc (Some x) (Some y) (Some z) = ap Some (grind (arith))

-- The last arrival of some mails and of others.
pub latest-append : (xs ys : List Shown) → latest_of (xs ++ ys) ≡ later_of (latest_of xs) (latest_of ys)
latest-append [] ys = refl
latest-append (mail ∷ mails) ys = ap (later_of (Some mail.row.arrived)) (latest-append mails ys) ∙ later_of-assoc (Some mail.row.arrived) (latest_of mails) (latest_of ys)

-- When a feed was updated.
pub updated-none : (born : ℕ) (mails : List Shown) → latest_of mails ≡ None → updated_of born mails ≡ born
updated-none born [] e = refl
updated-none born (mail ∷ mails) e = absurd (some mail.row.arrived (latest_of mails) e)
  where
    some : (x : ℕ) (o : Option ℕ) → later_of (Some x) o ≡ None → ⊥
    some x None e = cc e
    some x (Some y) e = cc e

pub updated-some : (born last : ℕ) (mails : List Shown) → latest_of mails ≡ Some last → updated_of born mails ≡ last
updated-some born last [] e = absurd (cc e)
updated-some born last (mail ∷ mails) e = ap (λ (b : Bool). if b then born else last_arrival (mail ∷ mails)) (some (length mails)) ∙ fold-latest 0 (mail ∷ mails) ∙ ap (later_than 0) e ∙ least last
  where
    some : (n : ℕ) → (suc n == 0) ≡ false
    some n = grind (arith, nat_tests)

    least : (n : ℕ) → max 0 n ≡ n
    least n = grind (arith)
