-- A streamed reply that stops, or that is lost.
use Rattle.std.proofs.Common.{◌≡◌, ◌≤◌, ◌<◌, ◌⊎◌, ℕ, min, true, List, ◌++◌, length, take, Option, None, Ok, Err, inl, inr, refl, sym, ap, subst, ◌∙◌, length-append, arith}
use Rattle.std.proofs.Math.Seq.{take-append_seam}
use Rattle.arch_base.specs.Counts.{Rose}
use Rattle.edge_io.specs.Taken.{plus}
use Rattle.edge_io.specs.Phrases.{Says}
use Rattle.edge_io.specs.declared.sink.SinkFault.{SinkFault}
use Rattle.edge_io.proofs.Wording.{take-first, Says-then}
use Rattle.line_door.specs.Acts.{ConnectionState, Said, Departure, Plain, Memory, Disk, DepartureCause, SaidShort, Acts}
use Rattle.line_door.proofs.Acting.{acts-by_says}

lost-first : (a b : List ℕ) (out out' : Option (List ℕ)) (lost lost' : ℕ) (fault : SinkFault) → Says a out lost out' lost' (Err fault) → Says (a ++ b) out lost out' lost' (Err fault)
lost-first a b out out' lost lost' fault p = (p.0, p.1, (min p.2.0 (length a), p.2.1 ∙ ap (plus out) (sym (take-first p.2.0 a b))))

module _ {H A : Type 0} where
  said-short : (s : Said H A) (front more : List ℕ) (i j : ConnectionState) (a : A) → s.streamed ≡ true → s.words ≡ front ++ more → 0 < length front → 0 < length more → Says front i.out i.lost j.out j.lost (Ok tt) → a ≡ s.after → SaidShort s i None a j
  said-short s front more i j a streamed is some rest said b = record {
    streamed = streamed;
    held_is = refl;
    after_is = b;
    count = length front;
    some = some;
    proper = omega (arith, rest, ap length is, length-append front more);
    out_is = said.1 ∙ ap (plus i.out) (sym (ap (take (length front)) is ∙ take-append_seam front more));
  }

  -- The reply stops after some of its words, since the disk failed or memory ran out, and the session is
  -- closed.
  pub acts-short : (words : Departure → Said H A) (s : Said H A) (front more : List ℕ) (i j : ConnectionState) (a : A) → words Plain ≡ s → s.streamed ≡ true → s.words ≡ front ++ more → 0 < length front → 0 < length more →
      Rose i.disk j.disk ⊎ (j.disk ≡ i.disk) → i.disk ≤ j.disk → Says front i.out i.lost j.out j.lost (Ok tt) → a ≡ s.after → Acts words i None a j
  acts-short words s front more i j a e streamed is some rest cause later said b = by cause
    where
      short : SaidShort (words Plain) i None a j
      short = subst (λ (t : Said H A). SaidShort t i None a j) (sym e) (said-short s front more i j a streamed is some rest said b)

      by : Rose i.disk j.disk ⊎ (j.disk ≡ i.disk) → Acts words i None a j
      by (inl rose) = record { way = Disk; cause = rose; disk_later = later; lost_later = omega (arith, said.0); sent = inr (inr short) }
      by (inr kept) = record { way = Memory; cause = kept; disk_later = later; lost_later = omega (arith, said.0); sent = inr (inr short) }

  -- A piece of the reply is lost after the words before it.
  pub acts-cut_off : (words : Departure → Said H A) (way : Departure) (s : Said H A) (front piece more : List ℕ) (i j k : ConnectionState) (a : A) (fault : SinkFault) → words way ≡ s → s.words ≡ (front ++ piece) ++ more → DepartureCause way i.disk k.disk →
      i.disk ≤ k.disk → Says front i.out i.lost j.out j.lost (Ok tt) → Says piece j.out j.lost k.out k.lost (Err fault) → a ≡ s.after → Acts words i None a k
  acts-cut_off words way s front piece more i j k a fault e is cause later said lost b =
      let both : Says (front ++ piece) i.out i.lost k.out k.lost (Err fault) = Says-then front piece i.out j.out k.out i.lost j.lost k.lost tt (Err fault) said lost in
      acts-by_says words way s i k None a (Err fault) e cause later (subst (λ (w : List ℕ). Says w i.out i.lost k.out k.lost (Err fault)) (sym is) (lost-first (front ++ piece) more i.out k.out i.lost k.lost fault both)) refl b
