-- The course of a session is one of a greater door that has the session among its own.
use Rattle.std.proofs.Common.{◌≡◌, ◌⊎◌, List, [], ◌∷◌, Option, None, Bool, false, inl, inr, sym, ap, subst, ◌∙◌}
use Rattle.line_door.specs.Acts.{ConnectionState, Said, Departure, Plain, SaidWhole, SaidLost, SaidShort, Sent, Acts}
use Rattle.line_door.specs.Course.{SessionState, SessionStep, Requests, Last, Fed}
use Rattle.line_door.specs.Over.{held_over, said_over, talk_over, talks_over}
use Rattle.line_door.proofs.Acting.{stops-over}

module _ {H A J B : Type 0} (state : A → B) (into : H → J) where
  whole-over : (s : Said H A) (i : ConnectionState) (held : Option H) (a : A) (j : ConnectionState) → SaidWhole s i held a j → SaidWhole (said_over state into s) i (held_over into held) (state a) j
  whole-over s i held a j x = record { held_is = ap (held_over into) x.held_is; after_is = ap state x.after_is; out_is = x.out_is; lost_kept = x.lost_kept }

  lost-over : (s : Said H A) (i : ConnectionState) (held : Option H) (a : A) (j : ConnectionState) → SaidLost s i held a j → SaidLost (said_over state into s) i (held_over into held) (state a) j
  lost-over s i held a j x = record { lost_rose = x.lost_rose; held_is = ap (held_over into) x.held_is; after_is = ap state x.after_is; count = x.count; out_is = x.out_is }

  short-over : (s : Said H A) (i : ConnectionState) (held : Option H) (a : A) (j : ConnectionState) → SaidShort s i held a j → SaidShort (said_over state into s) i (held_over into held) (state a) j
  short-over s i held a j x = record { streamed = x.streamed; held_is = ap (held_over into) x.held_is; after_is = ap state x.after_is; count = x.count; some = x.some; proper = x.proper; out_is = x.out_is }

  sent-over : (words : Departure → Said H A) (other : Departure → Said J B) (way : Departure) (i : ConnectionState) (held : Option H) (a : A) (j : ConnectionState) → ((w : Departure) → other w ≡ said_over state into (words w)) → Sent words way i held a j
      → Sent other way i (held_over into held) (state a) j
  sent-over words other way i held a j same (inl x) = inl (subst (λ (s : Said J B). SaidWhole s i (held_over into held) (state a) j) (sym (same way)) (whole-over (words way) i held a j x))
  sent-over words other way i held a j same (inr (inl x)) = inr (inl (subst (λ (s : Said J B). SaidLost s i (held_over into held) (state a) j) (sym (same way)) (lost-over (words way) i held a j x)))
  sent-over words other way i held a j same (inr (inr x)) =
      inr (inr (stops-over words other i i held (held_over into held) a (state a) j (λ short. subst (λ (s : Said J B). SaidShort s i (held_over into held) (state a) j) (sym (same Plain)) (short-over (words Plain) i held a j short)) way x))

  -- An act of a session is an act of the greater door, if that says the same.
  pub acts-over : (words : Departure → Said H A) (other : Departure → Said J B) (i : ConnectionState) (held : Option H) (a : A) (j : ConnectionState) → ((way : Departure) → other way ≡ said_over state into (words way)) → Acts words i held a j
      → Acts other i (held_over into held) (state a) j
  acts-over words other i held a j same acts = record {
    way = acts.way;
    cause = acts.cause;
    disk_later = acts.disk_later;
    lost_later = acts.lost_later;
    sent = sent-over words other acts.way i held a j same acts.sent;
  }

  module _ (said : A → H → Departure → Said H A) (is_request : H → Bool) (other : B → J → Departure → Said J B) (is_other : J → Bool)
      (same : (a : A) (h : H) (way : Departure) → other (state a) (into h) way ≡ said_over state into (said a h way)) (asks : (h : H) → is_other (into h) ≡ is_request h) where
    step-over : (h : H) (w v : SessionState H A) → SessionStep said is_request h w v → SessionStep other is_other (into h) (talk_over state into w) (talk_over state into v)
    step-over h w v step = record {
      held = ap (held_over into) step.held;
      acts = acts-over (said w.after h) (other (state w.after) (into h)) w.outside v.held v.after v.outside (λ way. same w.after h way) step.acts;
    }

    -- Requests in order are requests of the greater door.
    pub requests-over : (w : SessionState H A) (ms : List (SessionState H A)) (v : SessionState H A) → Requests said is_request w ms v → Requests other is_other (talk_over state into w) (talks_over state into ms) (talk_over state into v)
    requests-over w [] v each = ap (talk_over state into) each
    requests-over w (m ∷ ms) v each = ((into each.0.0, asks each.0.0 ∙ each.0.1, step-over each.0.0 w m each.0.2), requests-over m ms v each.1)

    -- So is the last act of a piece.
    pub last-over : (w v : SessionState H A) → Last said is_request w v → Last other is_other (talk_over state into w) (talk_over state into v)
    last-over w v last = record { before = into last.before; step = step-over last.before w v last.step; ends = by last.ends }
      where
        by : (v.held ≡ None) ⊎ ((is_request last.before ≡ false) × (v.outside.disk ≡ w.outside.disk)) → (held_over into v.held ≡ None) ⊎ ((is_other (into last.before) ≡ false) × (v.outside.disk ≡ w.outside.disk))
        by (inl none) = inl (ap (held_over into) none)
        by (inr rest) = inr (asks last.before ∙ rest.0, rest.1)

    -- And so is a whole course.
    pub fed-over : (w v : SessionState H A) → Fed said is_request w v → Fed other is_other (talk_over state into w) (talk_over state into v)
    fed-over w v fed = (talks_over state into fed.0, talk_over state into fed.1, requests-over w fed.0 fed.1 fed.2, last-over fed.1 v fed.3)
