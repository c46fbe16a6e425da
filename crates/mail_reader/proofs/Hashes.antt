-- What a hasher has hashed, one piece after another.
use Rattle.std.proofs.Common.{◌≡◌, ℕ, List, [], ◌++◌, sym, subst, append_assoc}
use Rattle.std.proofs.lemmas.List.{append-nil}
use Rattle.sha2.specs.Hashers.{Holds256}
use Rattle.sha2.specs.declared.Sha256.{Sha256}
use Rattle.mail_reader.specs.Hashing.{HasHashed}

pub HasHashed-none : (h : Sha256) → HasHashed h h []
HasHashed-none h = record { each = λ m k. let P : List ℕ → Type 0 = λ t. Holds256 h t in subst P (sym (append-nil m)) k }

pub HasHashed-then : (a b c : Sha256) (xs ys : List ℕ) → HasHashed a b xs → HasHashed b c ys → HasHashed a c (xs ++ ys)
HasHashed-then a b c xs ys h k = record { each = λ m t. let P : List ℕ → Type 0 = λ s. Holds256 c s in subst P (append_assoc m xs ys) (k.each (m ++ xs) (h.each m t)) }

pub HasHashed-same : (a b : Sha256) (xs ys : List ℕ) → xs ≡ ys → HasHashed a b xs → HasHashed a b ys
HasHashed-same a b xs ys e h = let P : List ℕ → Type 0 = λ t. HasHashed a b t in subst P e h

-- Nine pieces, one after another, are the same as joined from the right.
pub nine : (a b c d e f g h i : List ℕ)
    → (((((((a ++ b) ++ c) ++ d) ++ e) ++ f) ++ g) ++ h) ++ i ≡ (a ++ (b ++ (c ++ (d ++ (e ++ (f ++ (g ++ []))))))) ++ (h ++ i)
nine a b c d e f g h i = simp (append_assoc, append-nil)
