-- Pieces at the front of bytes, of fewer values.
use Rattle.std.proofs.Common.{ℕ, List, subst, sym}
use Rattle.git_objects.specs.Fronts.{Lacks, Begins}

-- Bytes that lack a piece of any value lack one of fewer values.
pub lacks-fewer : {V : Type 0} (few valid : V → Type 0) (spell : V → List ℕ → List ℕ) (bytes : List ℕ) → ((v : V) → few v → valid v) → Lacks valid spell bytes → Lacks few spell bytes
lacks-fewer few valid spell bytes wide none = λ v rest ok is. none v rest (wide v ok) is

-- So do bytes that start with the piece of another value.
pub lacks-other : {V : Type 0} (few valid : V → Type 0) (spell : V → List ℕ → List ℕ) (bytes : List ℕ) (v : V) (rest : List ℕ) → ((w : V) → few w → valid w) → Begins valid spell bytes v rest → (few v → ⊥) → Lacks few spell bytes
lacks-other few valid spell bytes v rest wide one not_few = λ w more ok is. not_few (subst few (sym (one.only w more (wide w ok) is).0) ok)

-- Bytes start with a piece of fewer values if the value is one of them.
pub begins-fewer : {V : Type 0} (few valid : V → Type 0) (spell : V → List ℕ → List ℕ) (bytes : List ℕ) (v : V) (rest : List ℕ) → ((w : V) → few w → valid w) → Begins valid spell bytes v rest → few v → Begins few spell bytes v rest
begins-fewer few valid spell bytes v rest wide one here = record {
  valid_one = here;
  spelled = one.spelled;
  only = λ w more ok is. one.only w more (wide w ok) is;
}
