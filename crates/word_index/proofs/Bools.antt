-- Tests joined in several ways.
use Rattle.std.specs.Prelude.{◌==◌}
use Rattle.std.proofs.Common.{◌≡◌, ℕ, Bool, true, false, not, cond, ◌&&◌, ◌||◌, refl, sym, ◌∙◌, ap, arith}
use Rattle.std.proofs.lemmas.Bool.Decides.{nat_tests}
use Rattle.std.specs.Ordering.{nat_cmp, ordering_then, is_eq}
use Rattle.std.specs.declared.cmp.Ordering.{Ordering}
use Rattle.std.specs.declared.cmp.Ordering.TheVariants.{Less, Equal, Greater}

pub or_none : (x : Bool) → (x || false) ≡ x
or_none true = refl
or_none false = refl

pub and_all : (x : Bool) → (x && true) ≡ x
and_all true = refl
and_all false = refl

pub and_none : (x : Bool) → (x && false) ≡ false
and_none true = refl
and_none false = refl

-- A set with one more element, and with one less.
pub cond_or : (i x : Bool) → cond i true x ≡ (x || i)
cond_or true true = refl
cond_or true false = refl
cond_or false true = refl
cond_or false false = refl

pub cond_and : (i x : Bool) → cond i false x ≡ (x && not i)
cond_and true true = refl
cond_and true false = refl
cond_and false true = refl
cond_and false false = refl

-- One more word of several.
pub or_more : (p h b i : Bool) → ((p || (h && i)) || (b && i)) ≡ (p || ((h || b) && i))
or_more true h b i = refl
or_more false true b true = refl
or_more false true true false = refl
or_more false true false false = refl
or_more false false b i = refl

-- A row that is kept, where no row has its number.
pub kept_step : (i h p : Bool) → (i ≡ true → p ≡ false) → (p || (h && i)) ≡ cond i h p
kept_step true true p new = ap (λ (x : Bool). x || true) (new refl)
kept_step true false p new = ap (λ (x : Bool). x || false) (new refl)
kept_step false true p new = or_none p
kept_step false false p new = or_none p

-- A row that is kept no more.
pub taken_step : (i h p : Bool) → (i ≡ true → p ≡ h) → p ≡ (cond i false p || (h && i))
taken_step true true p had = had refl
taken_step true false p had = had refl
taken_step false true p had = sym (or_none p)
taken_step false false p had = sym (or_none p)

-- A number that may be listed is listed no more.
pub undone_step : (i h p q : Bool) → (h ≡ false → q ≡ p) → (i ≡ false → q ≡ p) → (i ≡ true → p ≡ false) → (q && not (h && i)) ≡ p
undone_step true true p q others rest new = and_none q ∙ sym (new refl)
undone_step true false p q others rest new = and_all q ∙ others refl
undone_step false true p q others rest new = and_all q ∙ rest refl
undone_step false false p q others rest new = and_all q ∙ rest refl

-- Orders by one part and then by another.
pub then-eq : (o p : Ordering) → is_eq (ordering_then o p) ≡ (is_eq o && is_eq p)
then-eq Less p = refl
then-eq Equal p = refl
then-eq Greater p = refl

pub is_eq-number : (a b : ℕ) → is_eq (nat_cmp a b) ≡ (b == a)
is_eq-number a b = grind (arith, nat_tests)
