-- A reply of three parts.
use Rattle.std.proofs.Common.{◌≡◌, ℕ, List, [], ◌++◌, Option, Result, Ok, Err, refl, subst, append_assoc}
use Rattle.std.specs.Result.{IsErr}
use Rattle.edge_io.specs.Phrases.{Says}
use Rattle.edge_io.specs.declared.sink.SinkFault.{SinkFault}
use Rattle.wire_replies.specs.Waits.{Waits}
use Rattle.wire_replies.proofs.Wording.{Waits-then, Waits-put, Waits-flushed, Says-failed}

-- Words that were appended, and then the last of a reply.
pub Waits-ended : (words more old new : List ℕ) (out out' out'' : Option (List ℕ)) (lost lost' lost'' : ℕ) (done : Unit {0}) (said : Result Unit SinkFault)
    → Waits words old out lost new out' lost' (Ok done) → Says (new ++ more) out' lost' out'' lost'' said → Says (old ++ (words ++ more)) out lost out'' lost'' said
Waits-ended words more old new out out' out'' lost lost' lost'' done said p q =
    Waits-flushed (words ++ more) old (new ++ more) out out' out'' lost lost' lost'' tt said
    (Waits-then words more old new (new ++ more) out out' out' lost lost' lost' done (Ok tt) p (Waits-put more new (new ++ more) out' lost' refl)) q

module _ (a b c : List ℕ) (old : List ℕ) (none : old ≡ []) (out : Option (List ℕ)) (lost : ℕ) where
  whole : (out' : Option (List ℕ)) (lost' : ℕ) (said : Result Unit SinkFault) → Says (old ++ ((a ++ b) ++ c)) out lost out' lost' said → Says (a ++ (b ++ c)) out lost out' lost' said
  whole out' lost' said p =
      subst (λ (x : List ℕ). Says (x ++ (a ++ (b ++ c))) out lost out' lost' said) none
      (subst (λ (x : List ℕ). Says (old ++ x) out lost out' lost' said) (append_assoc a b c) p)

  -- A write fails at the first part.
  pub first-failed : (out' : Option (List ℕ)) (lost' : ℕ) (fault : SinkFault) (said : Result Unit SinkFault) → IsErr said → Waits a old out lost [] out' lost' (Err fault) → Says (a ++ (b ++ c)) out lost out' lost' said
  first-failed out' lost' fault said failed p =
      subst (λ (x : List ℕ). Says (x ++ (a ++ (b ++ c))) out lost out' lost' said) none (Says-failed a (b ++ c) old out out' lost lost' fault said failed p)

  module _ (new : List ℕ) (out' : Option (List ℕ)) (lost' : ℕ) (done : Unit {0}) (first : Waits a old out lost new out' lost' (Ok done)) where
    -- A write fails at the second part.
    pub second-failed : (out'' : Option (List ℕ)) (lost'' : ℕ) (fault : SinkFault) (said : Result Unit SinkFault) → IsErr said → Waits b new out' lost' [] out'' lost'' (Err fault) → Says (a ++ (b ++ c)) out lost out'' lost'' said
    second-failed out'' lost'' fault said failed p =
        whole out'' lost'' said (Says-failed (a ++ b) c old out out'' lost lost'' fault said failed (Waits-then a b old new [] out out' out'' lost lost' lost'' done (Err fault) first p))

    -- The last part follows.
    pub three-said : (next : List ℕ) (out'' out''' : Option (List ℕ)) (lost'' lost''' : ℕ) (done' : Unit {0}) (said : Result Unit SinkFault) → Waits b new out' lost' next out'' lost'' (Ok done') → Says (next ++ c) out'' lost'' out''' lost''' said
        → Says (a ++ (b ++ c)) out lost out''' lost''' said
    three-said next out'' out''' lost'' lost''' done' said p q =
        whole out''' lost''' said (Waits-ended (a ++ b) c old next out out'' out''' lost lost'' lost''' done' said (Waits-then a b old new next out out' out'' lost lost' lost'' done (Ok done') first p) q)
