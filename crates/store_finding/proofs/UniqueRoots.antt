-- A file has one current root, and one prefix of a length.
use Rattle.std.specs.Prelude.{◌≡◌, ℕ, List, length, take, Some, None}
use Rattle.std.proofs.Common.{◌∙◌, sym, ap, inl, inr, arith}
use Rattle.std.proofs.lemmas.Bool.{cases_eq}
use Rattle.disk_model.specs.Disk.{File, bytes_of}
use Rattle.root_slots.specs.Each.{IfThere}
use Rattle.root_slots.specs.Slots.{gate, body_at, Current, HasRoot, IsShut, IsShutFile}
use Rattle.root_change.specs.Texts.{Fronts}
use Rattle.root_slots.proofs.Bodies.{same_slot}

-- A file has one current root.
current_is_one : (file : List ℕ) (s t : ℕ) (x y : List ℕ) → Current s x file → Current t y file → x ≡ y
current_is_one file s t x y p q = sym p.holds ∙ (ap (body_at file) (same_slot s t x y file p q) ∙ q.holds)

-- The same for a file that is there.
pub root_is_one : (file : File) (x y : List ℕ) → IfThere (HasRoot x) file → IfThere (HasRoot y) file → x ≡ y
root_is_one None x y p q = absurd p
root_is_one (Some bytes) x y p q = current_is_one bytes p.0 q.0 x y p.1 q.1

-- A slot of a file with a current root is open.
open_slot : (file : List ℕ) (slot : ℕ) (x : List ℕ) → Current slot x file → IsShut file → ⊥
open_slot file slot x p (inl size) = size p.size
open_slot file slot x p (inr shut) =
    let below = p.in_range in
    elim (cases_eq slot 0) [
      | inl is ↦ shut.0 (sym (ap (gate file) is) ∙ p.opened)
      | inr apart ↦ (let one : slot ≡ 1 = omega (arith, below, apart) in shut.1 (sym (ap (gate file) one) ∙ p.opened))
    ]

-- The same for a file that is there.
pub not_shut : (file : File) (x : List ℕ) → IfThere (HasRoot x) file → IsShutFile file → ⊥
not_shut None x p shut = absurd p
not_shut (Some bytes) x p shut = open_slot bytes p.0 x p.1 shut

-- A file has one prefix of a length.
pub front_is_one : (file : File) (x y : List ℕ) → length x ≡ length y → Fronts x file → Fronts y file → x ≡ y
front_is_one file x y size p q = sym p.front ∙ (ap (λ (n : ℕ). take n (bytes_of file)) size ∙ q.front)
