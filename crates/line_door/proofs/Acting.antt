-- Words that are written make an act.
use Rattle.std.proofs.Common.{◌≡◌, ◌≤◌, ℕ, List, [], take, Option, Some, None, Result, Ok, Err, is_ok, inl, inr, refl, sym, ap, subst, ◌∙◌, arith}
use Rattle.std.specs.Prelude.{if◌then◌else◌}
use Rattle.edge_io.specs.Taken.{plus}
use Rattle.edge_io.specs.Phrases.{Says}
use Rattle.edge_io.specs.declared.sink.SinkFault.{SinkFault}
use Rattle.edge_io.proofs.Wording.{plus-none}
use Rattle.line_door.specs.Acts.{ConnectionState, Said, Departure, Plain, Memory, Disk, Newer, DepartureCause, SaidWhole, SaidLost, SaidShort, StopsShort, Sent, Acts, held_if}

-- A reply that stops short, carried over to other words, to another outside or to another door.
pub stops-over : {H A J B : Type 0} (words : Departure → Said H A) (other : Departure → Said J B) (i i' : ConnectionState) (held : Option H) (held' : Option J) (a : A) (b : B) (j : ConnectionState)
    → (SaidShort (words Plain) i held a j → SaidShort (other Plain) i' held' b j) → (way : Departure) → StopsShort words way i held a j → StopsShort other way i' held' b j
stops-over words other i i' held held' a b j over Plain never = never
stops-over words other i i' held held' a b j over Memory short = over short
stops-over words other i i' held held' a b j over Disk short = over short
stops-over words other i i' held held' a b j over Newer never = never

module _ {H A : Type 0} where
  -- A reply that stops short closes the session.
  pub stops-closed : (words : Departure → Said H A) (way : Departure) (i : ConnectionState) (held : Option H) (a : A) (j : ConnectionState) → StopsShort words way i held a j → held ≡ None
  stops-closed words Plain i held a j never = absurd never
  stops-closed words Memory i held a j short = short.held_is
  stops-closed words Disk i held a j short = short.held_is
  stops-closed words Newer i held a j never = absurd never

  says_sent : (words : Departure → Said H A) (way : Departure) (s : Said H A) (i j : ConnectionState) (held : Option H) (a : A) (said : Result Unit SinkFault) → words way ≡ s → Says s.words i.out i.lost j.out j.lost said → held ≡ (if is_ok said then s.next else None) → a ≡ s.after
      → Sent words way i held a j
  says_sent words way s i j held a (Ok done) e says h b =
      let whole : SaidWhole s i held a j = record { held_is = h; after_is = b; out_is = says.1; lost_kept = says.0 } in
      inl (subst (λ (t : Said H A). SaidWhole t i held a j) (sym e) whole)
  says_sent words way s i j held a (Err fault) e says h b =
      let lost : SaidLost s i held a j = record { lost_rose = says.1; held_is = h; after_is = b; count = says.2.0; out_is = says.2.1 } in
      inr (inl (subst (λ (t : Said H A). SaidLost t i held a j) (sym e) lost))

  says_later : (s : Said H A) (i j : ConnectionState) (said : Result Unit SinkFault) → Says s.words i.out i.lost j.out j.lost said → i.lost ≤ j.lost
  says_later s i j (Ok done) says = omega (arith, says.0)
  says_later s i j (Err fault) says = says.0

  -- An act that says its words.
  pub acts-by_says : (words : Departure → Said H A) (way : Departure) (s : Said H A) (i j : ConnectionState) (held : Option H) (a : A) (said : Result Unit SinkFault) → words way ≡ s → DepartureCause way i.disk j.disk → i.disk ≤ j.disk →
      Says s.words i.out i.lost j.out j.lost said → held ≡ (if is_ok said then s.next else None) → a ≡ s.after → Acts words i held a j
  acts-by_says words way s i j held a said e cause later says h b = record {
    way = way;
    cause = cause;
    disk_later = later;
    lost_later = says_later s i j said says;
    sent = says_sent words way s i j held a said e says h b;
  }

  -- The same, where the session continues.
  pub acts-by_held : (words : Departure → Said H A) (way : Departure) (s : Said H A) (i j : ConnectionState) (h : H) (a : A) (said : Result Unit SinkFault) → words way ≡ s → s.next ≡ Some h → DepartureCause way i.disk j.disk → i.disk ≤ j.disk →
      Says s.words i.out i.lost j.out j.lost said → a ≡ s.after → Acts words i (held_if (is_ok said) h) a j
  acts-by_held words way s i j h a (Ok done) e next cause later says b = acts-by_says words way s i j (Some h) a (Ok done) e cause later says (sym next) b
  acts-by_held words way s i j h a (Err fault) e next cause later says b = acts-by_says words way s i j None a (Err fault) e cause later says refl b

  -- An act whose words close the session.
  pub acts-closing : (words : Departure → Said H A) (way : Departure) (s : Said H A) (i j : ConnectionState) (a : A) (said : Result Unit SinkFault) → words way ≡ s → s.next ≡ None → DepartureCause way i.disk j.disk → i.disk ≤ j.disk →
      Says s.words i.out i.lost j.out j.lost said → a ≡ s.after → Acts words i None a j
  acts-closing words way s i j a (Ok done) e next cause later says b = acts-by_says words way s i j None a (Ok done) e cause later says (sym next) b
  acts-closing words way s i j a (Err fault) e next cause later says b = acts-by_says words way s i j None a (Err fault) e cause later says refl b

  -- An act that says nothing.
  pub acts-silent : (words : Departure → Said H A) (s : Said H A) (i j : ConnectionState) (held : Option H) (a : A) → words Plain ≡ s → s.words ≡ [] → j.out ≡ i.out → j.lost ≡ i.lost → j.disk ≡ i.disk → held ≡ s.next → a ≡ s.after →
      Acts words i held a j
  acts-silent words s i j held a e none out lost disk h b =
      acts-by_says words Plain s i j held a (Ok tt) e disk (omega (arith, disk)) (lost, out ∙ plus-none i.out ∙ ap (plus i.out) (sym none)) h b

  sent-words : (words other : Departure → Said H A) (way : Departure) (i : ConnectionState) (held : Option H) (a : A) (j : ConnectionState) → ((w : Departure) → words w ≡ other w) → Sent other way i held a j → Sent words way i held a j
  sent-words words other way i held a j e (inl x) = inl (subst (λ (t : Said H A). SaidWhole t i held a j) (sym (e way)) x)
  sent-words words other way i held a j e (inr (inl x)) = inr (inl (subst (λ (t : Said H A). SaidLost t i held a j) (sym (e way)) x))
  sent-words words other way i held a j e (inr (inr x)) = inr (inr (stops-over other words i i held held a a j (λ short. subst (λ (t : Said H A). SaidShort t i held a j) (sym (e Plain)) short) way x))

  -- An act depends only on what its words are in each way.
  pub acts-words : (words other : Departure → Said H A) (i : ConnectionState) (held : Option H) (a : A) (j : ConnectionState) → ((way : Departure) → words way ≡ other way) → Acts other i held a j → Acts words i held a j
  acts-words words other i held a j e acts = record {
    way = acts.way;
    cause = acts.cause;
    disk_later = acts.disk_later;
    lost_later = acts.lost_later;
    sent = sent-words words other acts.way i held a j e acts.sent;
  }

  short-from : (s : Said H A) (i i' : ConnectionState) (held : Option H) (a : A) (j : ConnectionState) → i'.out ≡ i.out → SaidShort s i held a j → SaidShort s i' held a j
  short-from s i i' held a j out x = record {
    streamed = x.streamed;
    held_is = x.held_is;
    after_is = x.after_is;
    count = x.count;
    some = x.some;
    proper = x.proper;
    out_is = x.out_is ∙ ap (λ (o : Option (List ℕ)). plus o (take x.count s.words)) (sym out);
  }

  sent-from : (words : Departure → Said H A) (way : Departure) (i i' : ConnectionState) (held : Option H) (a : A) (j : ConnectionState) → i'.out ≡ i.out → i'.lost ≡ i.lost → Sent words way i held a j → Sent words way i' held a j
  sent-from words way i i' held a j out lost (inl x) =
      inl (record { held_is = x.held_is; after_is = x.after_is; out_is = x.out_is ∙ ap (λ (o : Option (List ℕ)). plus o (words way).words) (sym out); lost_kept = x.lost_kept ∙ sym lost })
  sent-from words way i i' held a j out lost (inr (inl x)) = inr (inl (record {
    lost_rose = omega (arith, lost, x.lost_rose);
    held_is = x.held_is;
    after_is = x.after_is;
    count = x.count;
    out_is = x.out_is ∙ ap (λ (o : Option (List ℕ)). plus o (take x.count (words way).words)) (sym out);
  }))
  sent-from words way i i' held a j out lost (inr (inr x)) = inr (inr (stops-over words words i i' held held a a j (short-from (words Plain) i i' held a j out) way x))

  -- An act may start from another outside of the same parts.
  pub acts-from : (words : Departure → Said H A) (i i' : ConnectionState) (held : Option H) (a : A) (j : ConnectionState) → i'.out ≡ i.out → i'.lost ≡ i.lost → i'.disk ≡ i.disk → Acts words i held a j → Acts words i' held a j
  acts-from words i i' held a j out lost disk acts = record {
    way = acts.way;
    cause = subst (λ (n : ℕ). DepartureCause acts.way n j.disk) (sym disk) acts.cause;
    disk_later = omega (arith, disk, acts.disk_later);
    lost_later = omega (arith, acts.lost_later);
    sent = sent-from words acts.way i i' held a j out lost acts.sent;
  }
