-- Words, one after another.
use Rattle.std.proofs.Common.{◌≡◌, ◌+◌, ℕ, min, List, [], ◌++◌, length, take, Option, Some, None, Result, Ok, Err, refl, sym, ap, ◌∙◌, append_assoc, arith}
use Rattle.std.proofs.lemmas.List.{take-append-le, take_min, append-nil}
use Rattle.std.proofs.Math.Seq.{take-append-add}
use Rattle.std.specs.Result.{IsErr}
use Rattle.edge_io.specs.Taken.{plus}
use Rattle.edge_io.specs.Phrases.{Says}
use Rattle.edge_io.specs.declared.sink.SinkFault.{SinkFault}

-- Two writes in order write the joined words.
pub plus-plus : (out : Option (List ℕ)) (a b : List ℕ) → plus (plus out a) b ≡ plus out (a ++ b)
plus-plus None a b = refl
plus-plus (Some taken) a b = ap Some (append_assoc taken a b)

-- Writing nothing changes nothing.
pub plus-none : (out : Option (List ℕ)) → out ≡ plus out []
plus-none None = refl
plus-none (Some taken) = ap Some (sym (append-nil taken))

-- A prefix of the first list is a prefix of both joined.
pub take-first : (n : ℕ) (a b : List ℕ) → take (min n (length a)) (a ++ b) ≡ take n a
take-first n a b = take-append-le (min n (length a)) a b (omega arith) ∙ take_min n a

-- Words, and then words.
pub Says-then : (a b : List ℕ) (out out' out'' : Option (List ℕ)) (lost lost' lost'' : ℕ) (done : Unit {0}) (said : Result Unit SinkFault)
    → Says a out lost out' lost' (Ok done) → Says b out' lost' out'' lost'' said → Says (a ++ b) out lost out'' lost'' said
Says-then a b out out' out'' lost lost' lost'' done (Ok all) p q = (q.0 ∙ p.0, q.1 ∙ ap (λ (o : Option (List ℕ)). plus o b) p.1 ∙ plus-plus out a b)
Says-then a b out out' out'' lost lost' lost'' done (Err fault) p q = (
  omega (arith, p.0, q.0),
  omega (arith, p.0, q.1),
  (length a + q.2.0, q.2.1 ∙ ap (λ (o : Option (List ℕ)). plus o (take q.2.0 b)) p.1 ∙ plus-plus out a (take q.2.0 b) ∙ ap (plus out) (sym (take-append-add a b q.2.0))),
)

-- If the first words are lost, so are those that follow.
pub Says-lost : (a b : List ℕ) (out out' : Option (List ℕ)) (lost lost' : ℕ) (fault : SinkFault) (said : Result Unit SinkFault)
    → IsErr said → Says a out lost out' lost' (Err fault) → Says (a ++ b) out lost out' lost' said
Says-lost a b out out' lost lost' fault (Ok all) failed p = absurd (cc failed)
Says-lost a b out out' lost lost' fault (Err other) failed p = (p.0, p.1, (min p.2.0 (length a), p.2.1 ∙ ap (plus out) (sym (take-first p.2.0 a b))))
