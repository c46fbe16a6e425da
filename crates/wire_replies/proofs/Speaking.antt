-- Phrases, one after another.
use Rattle.std.proofs.Common.{◌≡◌, ◌+◌, ◌<◌, ◌≤◌, ℕ, List, [], ◌++◌, length, drop, get_or, Option, Ok, Err, ap}
use Rattle.std.proofs.lemmas.List.{drop_more, drop_all}
use Rattle.edge_io.specs.declared.sink.SinkFault.{SinkFault}
use Rattle.wire_replies.specs.Phrases.{words_in, words_of}
use Rattle.wire_replies.specs.Waits.{Waits}
use Rattle.wire_replies.specs.declared.phrase.Phrase.{Phrase}
use Rattle.wire_replies.proofs.Wording.{SoFar, sofar-more, sofar-end, sofar-lost, Waits-none}

-- The next phrase, and those after it.
next-phrase : (ps : List Phrase) (i : ℕ) (d : Phrase) → i < length ps → words_of (drop i ps) ≡ words_in (get_or ps i d) ++ words_of (drop (i + 1) ps)
next-phrase ps i d less = ap words_of (drop_more ps i d less)

module _ (ps : List Phrase) (i : ℕ) (old new : List ℕ) (out out' : Option (List ℕ)) (lost lost' : ℕ) (before : SoFar (words_of ps) (words_of (drop i ps)) old out lost new out' lost') where
  -- The next phrase is appended.
  pub phrase-said : (d : Phrase) (next : List ℕ) (out'' : Option (List ℕ)) (lost'' : ℕ) (done : Unit {0}) → i < length ps → Waits (words_in (get_or ps i d)) new out' lost' next out'' lost'' (Ok done)
      → SoFar (words_of ps) (words_of (drop (i + 1) ps)) old out lost next out'' lost''
  phrase-said d next out'' lost'' done less more =
      sofar-more (words_of ps) old out lost (words_of (drop i ps)) new out' lost' before (words_in (get_or ps i d)) (words_of (drop (i + 1) ps)) next out'' lost'' done (next-phrase ps i d less) more

  -- A write fails at the next phrase.
  pub phrase-lost : (d : Phrase) (out'' : Option (List ℕ)) (lost'' : ℕ) (fault : SinkFault) → i < length ps → Waits (words_in (get_or ps i d)) new out' lost' [] out'' lost'' (Err fault) → Waits (words_of ps) old out lost [] out'' lost'' (Err fault)
  phrase-lost d out'' lost'' fault less lost_at =
      sofar-lost (words_of ps) old out lost (words_of (drop i ps)) new out' lost' before (words_in (get_or ps i d)) (words_of (drop (i + 1) ps)) out'' lost'' fault (next-phrase ps i d less) lost_at

  -- All phrases are appended.
  pub phrases-said : length ps ≤ i → Waits (words_of ps) old out lost new out' lost' (Ok tt)
  phrases-said all =
      let none : words_of (drop i ps) ≡ [] = ap words_of (drop_all i ps all) in
      sofar-end (words_of ps) old out lost (words_of (drop i ps)) new out' lost' before new out' lost' (Ok tt) (rw none (Waits-none new out' lost'))
