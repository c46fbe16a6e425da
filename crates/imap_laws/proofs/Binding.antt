-- What is read step by step.
use Rattle.std.proofs.Common.{◌≡◌, ℕ, Bool, true, false, ◌==◌, List, [], ◌∷◌, Option, Some, None, if◌then◌else◌, refl, ap, ◌∙◌, eqb-true}
use Rattle.imap_words.specs.Reading.{◌>>=◌, byte_at}

-- Something was read, and then what follows it.
pub bind_some : {A B : Type 0} (o : Option A) (f : A → Option B) (y : B) → o >>= f ≡ Some y
    → (x : A) × (o ≡ Some x) × (f x ≡ Some y)
bind_some None f y h = cc
bind_some (Some x) f y h = (x, refl, h)

some-tail : (t : Bool) (b c : ℕ) (cs rest : List ℕ) → (c == b) ≡ t → (if t then Some cs else None) ≡ Some rest
    → c ∷ cs ≡ b ∷ rest
some-tail true b c cs rest t h =
    let e : cs ≡ rest = cc in
    ap (λ k. k ∷ cs) (eqb-true c b t) ∙ ap (λ l. b ∷ l) e
some-tail false b c cs rest t h = cc

-- An octet that was read comes first.
pub byte_some : (b : ℕ) (octets rest : List ℕ) → byte_at b octets ≡ Some rest → octets ≡ b ∷ rest
byte_some b [] rest h = cc
byte_some b (c ∷ cs) rest h = some-tail (c == b) b c cs rest refl h
