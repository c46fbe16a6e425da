-- When two ids are equal, and their order in a map.
use Rattle.std.proofs.Common.{◌≡◌, Bool, true, false, refl, sym, ap, ◌∙◌, Decides}
use Rattle.std.specs.BTreeMap.{is_at}
use Rattle.std.proofs.lemmas.Map.Text.{is_eq-slice_cmp}
use Rattle.std.proofs.lemmas.Slice.Eq.{bytes_eq-Decides}
use Rattle.arch_base.specs.declared.ids.ObjectId.{ObjectId}
use Rattle.arch_base.specs.declared.ids.ObjectId.TheVariants.{Sha1, Sha256}
use Rattle.arch_base.specs.contracts.ids.ObjectIdOrd.TheImpl as order
use Rattle.arch_base.specs.contracts.ids.ObjectIdPartialEq.TheImpl as equality
use Rattle.arch_base.specs.Ids.{id_cmp, id_eq, id_bytes}

-- Ids are equal exactly where `id_eq` says so.
pub id_eq-Decides : (a b : ObjectId) → Decides (id_eq a b) (a ≡ b)
id_eq-Decides (Sha1 x) (Sha1 y) = ((λ yes. ap Sha1 ((bytes_eq-Decides x y).0 yes)), (λ same. (bytes_eq-Decides x y).1 (ap id_bytes same)))
id_eq-Decides (Sha1 x) (Sha256 y) = ((λ yes. absurd (let no : false ≡ true = yes in cc)), (λ same. sym (ap (id_eq (Sha1 x)) same) ∙ (bytes_eq-Decides x x).1 refl))
id_eq-Decides (Sha256 x) (Sha1 y) = ((λ yes. absurd (let no : false ≡ true = yes in cc)), (λ same. sym (ap (id_eq (Sha256 x)) same) ∙ (bytes_eq-Decides x x).1 refl))
id_eq-Decides (Sha256 x) (Sha256 y) = ((λ yes. ap Sha256 ((bytes_eq-Decides x y).0 yes)), (λ same. (bytes_eq-Decides x y).1 (ap id_bytes same)))

-- Equal ids compare as equal.
pub id_eq-refl : (a b : ObjectId) → a ≡ b → id_eq a b ≡ true
id_eq-refl a b same = (id_eq-Decides a b).1 same

-- Ids are compared either way.
pub id_eq-flip : (a b : ObjectId) → id_eq a b ≡ id_eq b a
id_eq-flip a b = by (id_eq a b) (id_eq b a) refl refl where
  by : (t u : Bool) → id_eq a b ≡ t → id_eq b a ≡ u → t ≡ u
  by true true p q = refl
  by false false p q = refl
  by true false p q = sym (id_eq-refl b a (sym ((id_eq-Decides a b).0 p))) ∙ q
  by false true p q = sym p ∙ id_eq-refl a b (sym ((id_eq-Decides b a).0 q))

-- The derived equality of ids is that of the specifications.
pub same_ids : (a b : ObjectId) → equality.ghosts.eq a b ≡ id_eq a b
same_ids (Sha1 x) (Sha1 y) = refl
same_ids (Sha1 x) (Sha256 y) = refl
same_ids (Sha256 x) (Sha1 y) = refl
same_ids (Sha256 x) (Sha256 y) = refl

derived_ids : (a b : ObjectId) → order.ghosts.cmp a b ≡ id_cmp a b
derived_ids (Sha1 x) (Sha1 y) = refl
derived_ids (Sha1 x) (Sha256 y) = refl
derived_ids (Sha256 x) (Sha1 y) = refl
derived_ids (Sha256 x) (Sha256 y) = refl

-- The derived order of ids is that of the specifications.
pub derived : order.ghosts.cmp ≡ id_cmp
derived = λ i a b. derived_ids a b i

-- An id stands at a key exactly where it is equal to it.
pub is_at-ids : (a b : ObjectId) → is_at (id_cmp a) b ≡ id_eq a b
is_at-ids (Sha1 x) (Sha1 y) = is_eq-slice_cmp x y
is_at-ids (Sha1 x) (Sha256 y) = refl
is_at-ids (Sha256 x) (Sha1 y) = refl
is_at-ids (Sha256 x) (Sha256 y) = is_eq-slice_cmp x y
