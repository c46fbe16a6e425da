-- Words that wait, one after another.
use Rattle.std.proofs.Common.{◌≡◌, ◌+◌, ℕ, min, List, [], ◌++◌, length, take, drop, Option, Result, Ok, Err, refl, sym, ap, ◌∙◌, append_assoc, append-nil, arith}
use Rattle.std.proofs.lemmas.List.{take-append-drop}
use Rattle.std.proofs.Math.Seq.{take-append-add}
use Rattle.std.specs.Result.{IsErr}
use Rattle.edge_io.specs.Taken.{plus}
use Rattle.edge_io.specs.Phrases.{Says}
use Rattle.edge_io.specs.declared.sink.SinkFault.{SinkFault}
use Rattle.edge_io.proofs.Wording.{plus-plus, plus-none, take-first}
use Rattle.wire_replies.specs.Waits.{Waits}

-- Nothing was appended.
pub Waits-none : (old : List ℕ) (out : Option (List ℕ)) (lost : ℕ) → Waits [] old out lost old out lost (Ok tt)
Waits-none old out lost = (refl, ([], plus-none out, sym (append-nil old)))

-- Words were appended for which there was room.
pub Waits-put : (words old new : List ℕ) (out : Option (List ℕ)) (lost : ℕ) → new ≡ old ++ words → Waits words old out lost new out lost (Ok tt)
Waits-put words old new out lost is = (refl, ([], plus-none out, is))

-- Words, and then words.
pub Waits-then : (a b old new next : List ℕ) (out out' out'' : Option (List ℕ)) (lost lost' lost'' : ℕ) (done : Unit {0}) (said : Result Unit SinkFault)
    → Waits a old out lost new out' lost' (Ok done) → Waits b new out' lost' next out'' lost'' said → Waits (a ++ b) old out lost next out'' lost'' said
Waits-then a b old new next out out' out'' lost lost' lost'' done (Ok all) p q =
    let first = p.1 in
    let second = q.1 in (
      q.0 ∙ p.0,
      (
        first.0 ++ second.0,
        second.1 ∙ ap (λ (o : Option (List ℕ)). plus o second.0) first.1 ∙ plus-plus out first.0 second.0,
        append_assoc first.0 second.0 next ∙ ap (λ (x : List ℕ). first.0 ++ x) second.2 ∙ sym (append_assoc first.0 new b) ∙ ap (λ (x : List ℕ). x ++ b) first.2 ∙ append_assoc old a b,
      ),
    )
Waits-then a b old new next out out' out'' lost lost' lost'' done (Err fault) p q =
    let first = p.1 in
    let cut = q.2 in
    let all : first.0 ++ (new ++ b) ≡ old ++ (a ++ b) = sym (append_assoc first.0 new b) ∙ ap (λ (x : List ℕ). x ++ b) first.2 ∙ append_assoc old a b in (
      omega (arith, p.0, q.0),
      omega (arith, p.0, q.1),
      (
        length first.0 + cut.0,
        cut.1 ∙ ap (λ (o : Option (List ℕ)). plus o (take cut.0 (new ++ b))) first.1 ∙ plus-plus out first.0 (take cut.0 (new ++ b))
            ∙ ap (plus out) (sym (take-append-add first.0 (new ++ b) cut.0) ∙ ap (take (length first.0 + cut.0)) all),
      ),
    )

-- If a write fails at the first words, those that follow are lost.
pub Waits-lost : (a b old new : List ℕ) (out out' : Option (List ℕ)) (lost lost' : ℕ) (fault : SinkFault) (said : Result Unit SinkFault)
    → IsErr said → Waits a old out lost [] out' lost' (Err fault) → Waits (a ++ b) old out lost new out' lost' said
Waits-lost a b old new out out' lost lost' fault (Ok all) failed p = absurd (cc failed)
Waits-lost a b old new out out' lost lost' fault (Err other) failed p =
    let cut = p.2 in (
      p.0,
      p.1,
      (min cut.0 (length (old ++ a)), cut.1 ∙ ap (plus out) (sym (take-first cut.0 (old ++ a) b) ∙ ap (take (min cut.0 (length (old ++ a)))) (append_assoc old a b))),
    )

-- Words that were appended, and then all that wait are written.
pub Waits-flushed : (words old new : List ℕ) (out out' out'' : Option (List ℕ)) (lost lost' lost'' : ℕ) (done : Unit {0}) (said : Result Unit SinkFault)
    → Waits words old out lost new out' lost' (Ok done) → Says new out' lost' out'' lost'' said → Says (old ++ words) out lost out'' lost'' said
Waits-flushed words old new out out' out'' lost lost' lost'' done (Ok all) p q =
    let first = p.1 in (
      q.0 ∙ p.0,
      q.1 ∙ ap (λ (o : Option (List ℕ)). plus o new) first.1 ∙ plus-plus out first.0 new ∙ ap (plus out) first.2,
    )
Waits-flushed words old new out out' out'' lost lost' lost'' done (Err fault) p q =
    let first = p.1 in (
      omega (arith, p.0, q.0),
      omega (arith, p.0, q.1),
      (
        length first.0 + q.2.0,
        q.2.1 ∙ ap (λ (o : Option (List ℕ)). plus o (take q.2.0 new)) first.1 ∙ plus-plus out first.0 (take q.2.0 new)
            ∙ ap (plus out) (sym (take-append-add first.0 new q.2.0) ∙ ap (take (length first.0 + q.2.0)) first.2),
      ),
    )

-- Words were appended and all that waited was written at once.
pub Waits-filled : (words old mid new : List ℕ) (out out' : Option (List ℕ)) (lost lost' : ℕ) (said : Result Unit SinkFault)
    → mid ≡ old ++ words → new ≡ [] → Says mid out lost out' lost' said → Waits words old out lost new out' lost' said
Waits-filled words old mid new out out' lost lost' (Ok done) is none said =
    (said.0, (mid, said.1, ap (λ (x : List ℕ). mid ++ x) none ∙ append-nil mid ∙ is))
Waits-filled words old mid new out out' lost lost' (Err fault) is none said =
    (said.0, said.1, (said.2.0, said.2.1 ∙ ap (λ (x : List ℕ). plus out (take said.2.0 x)) is))

-- A write that failed at the words so far loses the rest, too.
pub Says-failed : (words more old : List ℕ) (out out' : Option (List ℕ)) (lost lost' : ℕ) (fault : SinkFault) (said : Result Unit SinkFault)
    → IsErr said → Waits words old out lost [] out' lost' (Err fault) → Says (old ++ (words ++ more)) out lost out' lost' said
Says-failed words more old out out' lost lost' fault (Ok all) failed p = absurd (cc failed)
Says-failed words more old out out' lost lost' fault (Err other) failed p =
    let cut = p.2 in (
      p.0,
      p.1,
      (min cut.0 (length (old ++ words)), cut.1 ∙ ap (plus out) (sym (take-first cut.0 (old ++ words) more) ∙ ap (take (min cut.0 (length (old ++ words)))) (append_assoc old words more))),
    )

-- Words of which so many are appended and others are left.
pub record SoFar (words rest old : List ℕ) (out : Option (List ℕ)) (lost : ℕ) (new : List ℕ) (out' : Option (List ℕ)) (lost' : ℕ) : Type 0 where
  pub front : List ℕ
  pub joined : words ≡ front ++ rest
  pub waits : Waits front old out lost new out' lost' (Ok tt)

module _ (words old : List ℕ) (out : Option (List ℕ)) (lost : ℕ) where
  pub sofar-none : SoFar words words old out lost old out lost
  sofar-none = record { front = []; joined = refl; waits = Waits-none old out lost }

  module _ (rest new : List ℕ) (out' : Option (List ℕ)) (lost' : ℕ) (before : SoFar words rest old out lost new out' lost') where
    -- The next of them are appended.
    pub sofar-more : (piece after next : List ℕ) (out'' : Option (List ℕ)) (lost'' : ℕ) (done : Unit {0}) → rest ≡ piece ++ after → Waits piece new out' lost' next out'' lost'' (Ok done)
        → SoFar words after old out lost next out'' lost''
    sofar-more piece after next out'' lost'' done is more = record {
      front = before.front ++ piece;
      joined = before.joined ∙ ap (λ (x : List ℕ). before.front ++ x) is ∙ sym (append_assoc before.front piece after);
      waits = Waits-then before.front piece old new next out out' out'' lost lost' lost'' tt (Ok tt) before.waits more;
    }

    -- The others are appended.
    pub sofar-end : (next : List ℕ) (out'' : Option (List ℕ)) (lost'' : ℕ) (said : Result Unit SinkFault) → Waits rest new out' lost' next out'' lost'' said → Waits words old out lost next out'' lost'' said
    sofar-end next out'' lost'' said last =
        rw before.joined (Waits-then before.front rest old new next out out' out'' lost lost' lost'' tt said before.waits last)

    -- A write fails at the next of them.
    pub sofar-lost : (piece after : List ℕ) (out'' : Option (List ℕ)) (lost'' : ℕ) (fault : SinkFault) → rest ≡ piece ++ after → Waits piece new out' lost' [] out'' lost'' (Err fault) → Waits words old out lost [] out'' lost'' (Err fault)
    sofar-lost piece after out'' lost'' fault is lost_at =
        rw (before.joined, is) (Waits-then before.front (piece ++ after) old new [] out out' out'' lost lost' lost'' tt (Err fault) before.waits (Waits-lost piece after new [] out' out'' lost' lost'' fault (Err fault) refl lost_at))

-- A list that was split is its two parts.
pub split-joined : (n : ℕ) (xs a b : List ℕ) → a ≡ take n xs → b ≡ drop n xs → xs ≡ a ++ b
split-joined n xs a b front back = sym (take-append-drop n xs) ∙ ap (λ (x : List ℕ). x ++ drop n xs) (sym front) ∙ ap (λ (x : List ℕ). a ++ x) (sym back)
