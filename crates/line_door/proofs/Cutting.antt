-- The laws of a door whose pieces may be cut anywhere.
use Rattle.std.proofs.Common.{◌≡◌, ◌<◌, ◌⊎◌, ℕ, zero, suc, List, [], ◌∷◌, Option, Some, None, Bool, true, false, inl, inr, refl, sym, ap, subst, ◌∙◌, append_assoc, arith}
use Rattle.std.proofs.lemmas.Bool.{false≢true}
use Rattle.edge_io.specs.Taken.{plus}
use Rattle.line_door.specs.Acts.{ConnectionState, outside, Said, Departure, Plain, DepartureCause, SaidWhole, SaidLost, SaidShort, Sent, Acts, PlainActs}
use Rattle.line_door.specs.Course.{SessionState, talk, SessionStep, Requests, Last, Fed, PlainStep, PlainRequests, PlainLast, PlainFed}
use Rattle.line_door.specs.Plain.{silent, said_after, then_by, then_say, if_request, plain_from, plain}
use Rattle.line_door.specs.Cuts.{more_of, said_with, CutDoor, CutLaw, PiecesLaw, CallsLaw, PlainLaw, PlainIsFed, PlainIsAct, DoorLaws}
use Rattle.edge_io.proofs.Wording.{plus-plus, plus-none}
use Rattle.line_door.proofs.Acting.{stops-over, stops-closed, acts-from}

-- What is said, and then what follows it.
module _ {H A : Type 0} where
  pub then-none : (s : Said H A) (f : A → H → Said H A) → s.next ≡ None → then_say s f ≡ s
  then-none s f e = ap (λ (o : Option H). then_by o s f) e

  pub then-some : (s : Said H A) (f : A → H → Said H A) (k : H) → s.next ≡ Some k → then_say s f ≡ said_after s.words (f s.after k)
  then-some s f k e = ap (λ (o : Option H). then_by o s f) e

  pub said_after-then : (words : List ℕ) (s : Said H A) (f : A → H → Said H A) (o : Option H) → s.next ≡ o → then_say (said_after words s) f ≡ said_after words (then_say s f)
  said_after-then words s f None e = then-none (said_after words s) f e ∙ ap (said_after words) (sym (then-none s f e))
  said_after-then words s f (Some k) e =
      then-some (said_after words s) f k e
      ∙ ap (λ (w : List ℕ). record { next = (f s.after k).next; words = w; streamed = (f s.after k).streamed; after = (f s.after k).after }) (append_assoc words s.words (f s.after k).words)
      ∙ ap (said_after words) (sym (then-some s f k e))

module _ {H A : Type 0} (said : A → H → Departure → Said H A) (is_request : H → Bool) (more : List ℕ → H → H) (size : H → ℕ) where
  pub at-request : (n : ℕ) (a : A) (h : H) → is_request h ≡ true → plain_from said is_request (suc n) a h ≡ then_say (said a h Plain) (plain_from said is_request n)
  at-request n a h e = ap (λ (b : Bool). if_request b said (plain_from said is_request n) a h) e

  pub at-rest : (n : ℕ) (a : A) (h : H) → is_request h ≡ false → plain_from said is_request n a h ≡ silent a h
  at-rest zero a h e = refl
  at-rest (suc n) a h e = ap (λ (b : Bool). if_request b said (plain_from said is_request n) a h) e

  module _ (door : CutDoor said is_request more size) where
    -- Allowing more requests than the size changes nothing.
    enough-at : (n m : ℕ) (a : A) (h : H) (b : Bool) → is_request h ≡ b → (o : Option H) → (said a h Plain).next ≡ o →
        ((c : A) (k : H) → size k < size h → plain_from said is_request n c k ≡ plain_from said is_request m c k) → plain_from said is_request (suc n) a h ≡ plain_from said is_request (suc m) a h
    enough-at n m a h false e o next more_of = at-rest (suc n) a h e ∙ sym (at-rest (suc m) a h e)
    enough-at n m a h true e None next later =
        at-request n a h e ∙ then-none (said a h Plain) (plain_from said is_request n) next ∙ sym (then-none (said a h Plain) (plain_from said is_request m) next) ∙ sym (at-request m a h e)
    enough-at n m a h true e (Some k) next later =
        at-request n a h e
        ∙ then-some (said a h Plain) (plain_from said is_request n) k next
        ∙ ap (said_after (said a h Plain).words) (later (said a h Plain).after k (door.shorter a h k e next))
        ∙ sym (then-some (said a h Plain) (plain_from said is_request m) k next)
        ∙ sym (at-request m a h e)

    pub enough : (n m : ℕ) (a : A) (h : H) → size h < n → size h < m → plain_from said is_request n a h ≡ plain_from said is_request m a h
    enough zero m a h p q = absurd (omega arith)
    enough (suc n) zero a h p q = absurd (omega arith)
    enough (suc n) (suc m) a h p q = enough-at n m a h (is_request h) refl (said a h Plain).next refl (λ c k l. enough n m c k (omega arith) (omega arith))

    -- The answer to a piece that follows the bytes of a session.
    abbrev next : List ℕ → A → H → Said H A
    next q b k = plain_from said is_request (suc (size (more q k))) b (more q k)

    cut-at : (n m : ℕ) (a : A) (h : H) (q : List ℕ) (b : Bool) → is_request h ≡ b → (o : Option H) → (said a h Plain).next ≡ o → size (more q h) < suc m →
        ((c : A) (k : H) → size k < size h → size (more q k) < size (more q h) → plain_from said is_request m c (more q k) ≡ then_say (plain_from said is_request n c k) (next q)) →
        plain_from said is_request (suc m) a (more q h) ≡ then_say (plain_from said is_request (suc n) a h) (next q)
    cut-at n m a h q false e o is l later =
        enough (suc m) (suc (size (more q h))) a (more q h) l (omega arith) ∙ ap (λ (s : Said H A). then_say s (next q)) (sym (at-rest (suc n) a h e))
    cut-at n m a h q true e None is l later =
        at-request m a (more q h) (door.request_stays q h e)
        ∙ ap (λ (s : Said H A). then_say s (plain_from said is_request m)) (door.said_stays q a h Plain e)
        ∙ then-none (said_with (more q) (said a h Plain)) (plain_from said is_request m) (ap (more_of (more q)) is)
        ∙ with_none (said a h Plain) is
        ∙ sym (then-none (said a h Plain) (next q) is)
        ∙ ap (λ (s : Said H A). then_say s (next q)) (sym (then-none (said a h Plain) (plain_from said is_request n) is))
        ∙ ap (λ (s : Said H A). then_say s (next q)) (sym (at-request n a h e))
      where
        with_none : (s : Said H A) → s.next ≡ None → said_with (more q) s ≡ s
        with_none s none = ap (λ (o : Option H). record { next = o; words = s.words; streamed = s.streamed; after = s.after }) (ap (more_of (more q)) none ∙ sym none)
    cut-at n m a h q true e (Some k) is l later =
        let s = said a h Plain in
        let rest = plain_from said is_request n s.after k in
        let stays = door.said_stays q a h Plain e in
        let left : (said a (more q h) Plain).next ≡ Some (more q k) = ap (λ (t : Said H A). t.next) stays ∙ ap (more_of (more q)) is in
        at-request m a (more q h) (door.request_stays q h e)
        ∙ ap (λ (t : Said H A). then_say t (plain_from said is_request m)) stays
        ∙ then-some (said_with (more q) s) (plain_from said is_request m) (more q k) (ap (more_of (more q)) is)
        ∙ ap (said_after s.words) (later s.after k (door.shorter a h k e is) (door.shorter a (more q h) (more q k) (door.request_stays q h e) left))
        ∙ sym (said_after-then s.words rest (next q) rest.next refl)
        ∙ ap (λ (t : Said H A). then_say t (next q)) (sym (then-some s (plain_from said is_request n) k is))
        ∙ ap (λ (t : Said H A). then_say t (next q)) (sym (at-request n a h e))

    cut-from : (n m : ℕ) (a : A) (h : H) (q : List ℕ) → size h < n → size (more q h) < m → plain_from said is_request m a (more q h) ≡ then_say (plain_from said is_request n a h) (next q)
    cut-from zero m a h q p l = absurd (omega arith)
    cut-from (suc n) zero a h q p l = absurd (omega arith)
    cut-from (suc n) (suc m) a h q p l = cut-at n m a h q (is_request h) refl (said a h Plain).next refl l (λ c k x y. cut-from n m c k q (omega arith) (omega arith))

    -- Feeding `p` and then `q` says and leaves the same as feeding both at once.
    pub cut : CutLaw said is_request more size
    unfolding plain
    cut a h p q =
        subst (λ (g : H). plain said is_request size a g ≡ then_say (plain said is_request size a (more p h)) (λ (b : A) (k : H). plain said is_request size b (more q k))) (door.more_joined p q h)
        (cut-from (suc (size (more p h))) (suc (size (more q (more p h)))) a (more p h) q (omega arith) (omega arith))

    -- Courses.

    abbrev with : List ℕ → SessionState H A → SessionState H A
    with q w = talk (more_of (more q) w.held) w.after w.outside

    abbrev all_with : List ℕ → List (SessionState H A) → List (SessionState H A)
    all_with q [] = []
    all_with q (m ∷ ms) = with q m ∷ all_with q ms

    whole-with : (q : List ℕ) (s : Said H A) (i : ConnectionState) (held : Option H) (a : A) (j : ConnectionState) → SaidWhole s i held a j → SaidWhole (said_with (more q) s) i (more_of (more q) held) a j
    whole-with q s i held a j x = record { held_is = ap (more_of (more q)) x.held_is; after_is = x.after_is; out_is = x.out_is; lost_kept = x.lost_kept }

    lost-with : (q : List ℕ) (s : Said H A) (i : ConnectionState) (held : Option H) (a : A) (j : ConnectionState) → SaidLost s i held a j → SaidLost (said_with (more q) s) i (more_of (more q) held) a j
    lost-with q s i held a j x = record { lost_rose = x.lost_rose; held_is = ap (more_of (more q)) x.held_is; after_is = x.after_is; count = x.count; out_is = x.out_is }

    short-with : (q : List ℕ) (s : Said H A) (i : ConnectionState) (held : Option H) (a : A) (j : ConnectionState) → SaidShort s i held a j → SaidShort (said_with (more q) s) i (more_of (more q) held) a j
    short-with q s i held a j x = record { streamed = x.streamed; held_is = ap (more_of (more q)) x.held_is; after_is = x.after_is; count = x.count; some = x.some; proper = x.proper; out_is = x.out_is }

    sent-with : (q : List ℕ) (words other : Departure → Said H A) (way : Departure) (i : ConnectionState) (held : Option H) (a : A) (j : ConnectionState) → ((w : Departure) → other w ≡ said_with (more q) (words w)) → Sent words way i held a j
        → Sent other way i (more_of (more q) held) a j
    sent-with q words other way i held a j same (inl x) = inl (subst (λ (s : Said H A). SaidWhole s i (more_of (more q) held) a j) (sym (same way)) (whole-with q (words way) i held a j x))
    sent-with q words other way i held a j same (inr (inl x)) = inr (inl (subst (λ (s : Said H A). SaidLost s i (more_of (more q) held) a j) (sym (same way)) (lost-with q (words way) i held a j x)))
    sent-with q words other way i held a j same (inr (inr x)) =
        inr (inr (stops-over words other i i held (more_of (more q) held) a a j (λ short. subst (λ (s : Said H A). SaidShort s i (more_of (more q) held) a j) (sym (same Plain)) (short-with q (words Plain) i held a j short)) way x))

    -- A request is answered the same when more bytes follow it.
    step-with : (q : List ℕ) (h : H) (w m : SessionState H A) → is_request h ≡ true → SessionStep said is_request h w m → SessionStep said is_request (more q h) (with q w) (with q m)
    step-with q h w m e step = record {
      held = ap (more_of (more q)) step.held;
      acts = record {
        way = step.acts.way;
        cause = step.acts.cause;
        disk_later = step.acts.disk_later;
        lost_later = step.acts.lost_later;
        sent = sent-with q (said w.after h) (said w.after (more q h)) step.acts.way w.outside m.held m.after m.outside (λ way. door.said_stays q w.after h way e) step.acts.sent;
      };
    }

    requests-with : (q : List ℕ) (w : SessionState H A) (ms : List (SessionState H A)) (m : SessionState H A) → Requests said is_request w ms m → Requests said is_request (with q w) (all_with q ms) (with q m)
    requests-with q w [] m e = ap (with q) e
    requests-with q w (x ∷ xs) m e = ((more q e.0.0, door.request_stays q e.0.0 e.0.1, step-with q e.0.0 w x e.0.1 e.0.2), requests-with q x xs m e.1)

    -- A step may start from another talk of the same parts.
    step-from : (h : H) (w x m : SessionState H A) → x.held ≡ w.held → x.after ≡ w.after → x.outside.out ≡ w.outside.out → x.outside.lost ≡ w.outside.lost → x.outside.disk ≡ w.outside.disk →
        SessionStep said is_request h w m → SessionStep said is_request h x m
    step-from h w x m held after out lost disk step = record {
      held = held ∙ step.held;
      acts = subst (λ (a : A). Acts (said a h) x.outside m.held m.after m.outside) (sym after) (acts-from (said w.after h) w.outside x.outside m.held m.after m.outside out lost disk step.acts);
    }

    last-from : (w x v : SessionState H A) → x.held ≡ w.held → x.after ≡ w.after → x.outside.out ≡ w.outside.out → x.outside.lost ≡ w.outside.lost → x.outside.disk ≡ w.outside.disk →
        Last said is_request w v → Last said is_request x v
    last-from w x v held after out lost disk last = record {
      before = last.before;
      step = step-from last.before w x v held after out lost disk last.step;
      ends = elim last.ends [ inl none ↦ inl none | inr rest ↦ inr (rest.0, rest.1 ∙ sym disk) ];
    }

    fed-from : (w x v : SessionState H A) → x.held ≡ w.held → x.after ≡ w.after → x.outside.out ≡ w.outside.out → x.outside.lost ≡ w.outside.lost → x.outside.disk ≡ w.outside.disk →
        (ms : List (SessionState H A)) (m : SessionState H A) → Requests said is_request w ms m → Last said is_request m v → Fed said is_request x v
    fed-from w x v held after out lost disk [] m each last = ([], x, refl, last-from w x v held after out lost disk (subst (λ (t : SessionState H A). Last said is_request t v) each last))
    fed-from w x v held after out lost disk (y ∷ ys) m each last =
        (y ∷ ys, m, ((each.0.0, each.0.1, step-from each.0.0 w x y held after out lost disk each.0.2), each.1), last)

    -- Requests, and then a course, are a course.
    fed-after : (w : SessionState H A) (ms : List (SessionState H A)) (m v : SessionState H A) → Requests said is_request w ms m → Fed said is_request m v → Fed said is_request w v
    fed-after w [] m v each fed = subst (λ (t : SessionState H A). Fed said is_request t v) each fed
    fed-after w (x ∷ xs) m v each fed = let more_fed = fed-after x xs m v each.1 fed in (x ∷ more_fed.0, more_fed.1, (each.0, more_fed.2), more_fed.3)

    -- The act kept the rest `k`, and changed nothing else.
    record Kept (k : H) (m v : SessionState H A) : Type 0 where
      held : m.held ≡ Some k
      after : v.after ≡ m.after
      out : v.outside.out ≡ m.outside.out
      lost : v.outside.lost ≡ m.outside.lost
      disk : v.outside.disk ≡ m.outside.disk

    kept-by : (k h : H) (m v : SessionState H A) (words : Departure → Said H A) (way : Departure) → m.held ≡ Some h → v.outside.disk ≡ m.outside.disk → v.held ≡ Some k → ((words way).next ≡ None) ⊎ (words way ≡ silent m.after h) →
        Sent words way m.outside v.held v.after v.outside → Kept k m v
    kept-by k h m v words way held same kept (inl none) (inl x) = absurd (cc (kept, x.held_is, none))
    kept-by k h m v words way held same kept (inr is) (inl x) = record {
      held = held ∙ sym (sym kept ∙ x.held_is ∙ ap (λ (t : Said H A). t.next) is);
      after = x.after_is ∙ ap (λ (t : Said H A). t.after) is;
      out = x.out_is ∙ ap (λ (t : Said H A). plus m.outside.out t.words) is ∙ sym (plus-none m.outside.out);
      lost = x.lost_kept;
      disk = same;
    }
    kept-by k h m v words way held same kept either (inr (inl x)) = absurd (cc (kept, x.held_is))
    kept-by k h m v words way held same kept either (inr (inr x)) = let closed = stops-closed words way m.outside v.held v.after v.outside x in absurd (cc (kept, closed))

    kept-last : (k : H) (m v : SessionState H A) → Last said is_request m v → v.held ≡ Some k → Kept k m v
    kept-last k m v last kept = by last.ends
      where
        by : (v.held ≡ None) ⊎ ((is_request last.before ≡ false) × (v.outside.disk ≡ m.outside.disk)) → Kept k m v
        by (inl none) = absurd (cc (kept, none))
        by (inr rest) =
            kept-by k last.before m v (said m.after last.before) last.step.acts.way last.step.held rest.1 kept (door.rest_kept m.after last.before last.step.acts.way rest.0) last.step.acts.sent

    -- A course of `p` whose rest was kept, and then a course of `q`, make a course of both at once.
    pub pieces : PiecesLaw said is_request more size
    pieces h p q a o v k z first kept second =
        let rest = kept-last k first.1 v first.3 kept in
        subst (λ (g : H). Fed said is_request (talk (Some g) a o) z) (door.more_joined p q h)
        (fed-after (talk (Some (more q (more p h))) a o) (all_with q first.0) (with q first.1) z (requests-with q (talk (Some (more p h)) a o) first.0 first.1 first.2)
        (fed-from (talk (Some (more q k)) v.after v.outside) (with q first.1) z (ap (more_of (more q)) rest.held) (sym rest.after) (sym rest.out) (sym rest.lost) (sym rest.disk) second.0 second.1 second.2 second.3))

    -- The requests of a course whose rest was kept begin the course of both pieces joined.
    pub calls : CallsLaw said is_request more size
    calls h p q a o v k first kept =
        let rest = kept-last k first.1 v first.3 kept in (
          all_with q first.0,
          with q first.1,
          subst (λ (g : H). Requests said is_request (talk (Some g) a o) (all_with q first.0) (with q first.1)) (door.more_joined p q h) (requests-with q (talk (Some (more p h)) a o) first.0 first.1 first.2),
          record { held = ap (more_of (more q)) rest.held; after = sym rest.after; out = sym rest.out; lost = sym rest.lost; disk = sym rest.disk },
        )

    -- The plain function.

    -- Two plain acts in order are one with the joined words.
    plain-then : (s t : Said H A) (i j l : ConnectionState) (held : Option H) (b c : A) (k : Option H) → PlainActs s i held b j → PlainActs t j k c l → PlainActs (said_after s.words t) i k c l
    plain-then s t i j l held b c k first second = record {
      disk_kept = second.disk_kept ∙ first.disk_kept;
      whole = record {
        held_is = second.whole.held_is;
        after_is = second.whole.after_is;
        out_is = second.whole.out_is ∙ ap (λ (o : Option (List ℕ)). plus o t.words) first.whole.out_is ∙ plus-plus i.out s.words t.words;
        lost_kept = second.whole.lost_kept ∙ first.whole.lost_kept;
      };
    }

    -- The second part of such an act is a plain act from the middle on.
    plain-second : (s t : Said H A) (i l : ConnectionState) (c : A) (k : Option H) → PlainActs (said_after s.words t) i k c l → PlainActs t (outside (plus i.out s.words) i.disk i.lost) k c l
    plain-second s t i l c k both = record {
      disk_kept = both.disk_kept;
      whole = record {
        held_is = both.whole.held_is;
        after_is = both.whole.after_is;
        out_is = both.whole.out_is ∙ sym (plus-plus i.out s.words t.words);
        lost_kept = both.whole.lost_kept;
      };
    }

    -- A talk from which a plain course leads is open.
    plain-open : (w : SessionState H A) (ms : List (SessionState H A)) (m v : SessionState H A) → PlainRequests said is_request w ms m → PlainLast said is_request m v → (k : H) × (w.held ≡ Some k)
    plain-open w [] m v each last = (last.before, subst (λ (t : SessionState H A). t.held ≡ Some last.before) each last.step.held)
    plain-open w (x ∷ xs) m v each last = (each.0.0, each.0.2.held)

    some_is : (h k : H) (o : Option H) → o ≡ Some h → o ≡ Some k → k ≡ h
    some_is h k o e f = cc

    last-plain : (n : ℕ) (h : H) (w v : SessionState H A) → size h < n → w.held ≡ Some h → PlainLast said is_request w v → PlainActs (plain_from said is_request n w.after h) w.outside v.held v.after v.outside
    last-plain zero h w v l held last = absurd (omega arith)
    last-plain (suc n) h w v l held last = by (is_request h) refl last.ends
      where
        same : last.before ≡ h
        same = some_is h last.before w.held held last.step.held

        done : PlainActs (said w.after h Plain) w.outside v.held v.after v.outside
        done = subst (λ (k : H). PlainActs (said w.after k Plain) w.outside v.held v.after v.outside) same last.step.acts

        by : (b : Bool) → is_request h ≡ b → (v.held ≡ None) ⊎ (is_request last.before ≡ false) → PlainActs (plain_from said is_request (suc n) w.after h) w.outside v.held v.after v.outside
        by false e ends =
            subst (λ (s : Said H A). PlainActs s w.outside v.held v.after v.outside) (door.rest_plain w.after h e ∙ sym (at-rest (suc n) w.after h e)) done
        by true e (inl none) =
            subst (λ (s : Said H A). PlainActs s w.outside v.held v.after v.outside)
            (sym (at-request n w.after h e ∙ then-none (said w.after h Plain) (plain_from said is_request n) (sym done.whole.held_is ∙ none))) done
        by true e (inr rest) = absurd (false≢true (sym (subst (λ (k : H). is_request k ≡ false) same rest) ∙ e))

    fed-plain : (ms : List (SessionState H A)) (n : ℕ) (h : H) (w m v : SessionState H A) → size h < n → w.held ≡ Some h → PlainRequests said is_request w ms m → PlainLast said is_request m v →
        PlainActs (plain_from said is_request n w.after h) w.outside v.held v.after v.outside
    fed-plain [] n h w m v l held each last = last-plain n h w v l held (subst (λ (t : SessionState H A). PlainLast said is_request t v) each last)
    fed-plain (x ∷ xs) zero h w m v l held each last = absurd (omega arith)
    fed-plain (x ∷ xs) (suc n) h w m v l held each last =
        let same : each.0.0 ≡ h = some_is h each.0.0 w.held held each.0.2.held in
        let request : is_request h ≡ true = subst (λ (k : H). is_request k ≡ true) same each.0.1 in
        let done : PlainActs (said w.after h Plain) w.outside x.held x.after x.outside = subst (λ (k : H). PlainActs (said w.after k Plain) w.outside x.held x.after x.outside) same each.0.2.acts in
        let left = plain-open x xs m v each.1 last in
        let next_is : (said w.after h Plain).next ≡ Some left.0 = sym done.whole.held_is ∙ left.1 in
        let shorter = door.shorter w.after h left.0 request next_is in
        let later : PlainActs (plain_from said is_request n x.after left.0) x.outside v.held v.after v.outside = fed-plain xs n left.0 x m v (omega arith) left.1 each.1 last in
        subst (λ (s : Said H A). PlainActs s w.outside v.held v.after v.outside)
        (sym (at-request n w.after h request ∙ then-some (said w.after h Plain) (plain_from said is_request n) left.0 next_is))
        (subst (λ (a : A). PlainActs (said_after (said w.after h Plain).words (plain_from said is_request n a left.0)) w.outside v.held v.after v.outside) done.whole.after_is
        (plain-then (said w.after h Plain) (plain_from said is_request n x.after left.0) w.outside x.outside v.outside x.held x.after v.after v.held done later))

    only-plain : (h : H) (w v : SessionState H A) → w.held ≡ Some h → PlainActs (said w.after h Plain) w.outside v.held v.after v.outside → (v.held ≡ None) ⊎ (is_request h ≡ false) → PlainFed said is_request w v
    only-plain h w v held done ends = ([], w, refl, record { before = h; step = record { held = held; acts = done }; ends = ends })

    plain-fed-at : (n : ℕ) (h : H) (w v : SessionState H A) → w.held ≡ Some h → PlainActs (plain_from said is_request (suc n) w.after h) w.outside v.held v.after v.outside → (b : Bool) → is_request h ≡ b → (o : Option H) →
        (said w.after h Plain).next ≡ o →
        ((k : H) (m : SessionState H A) → size k < size h → m.held ≡ Some k → PlainActs (plain_from said is_request n m.after k) m.outside v.held v.after v.outside → PlainFed said is_request m v) → PlainFed said is_request w v
    plain-fed-at n h w v held acts false e o is later =
        only-plain h w v held (subst (λ (s : Said H A). PlainActs s w.outside v.held v.after v.outside) (at-rest (suc n) w.after h e ∙ sym (door.rest_plain w.after h e)) acts) (inr e)
    plain-fed-at n h w v held acts true e None is later =
        let done : PlainActs (said w.after h Plain) w.outside v.held v.after v.outside = subst (λ (s : Said H A). PlainActs s w.outside v.held v.after v.outside)
        (at-request n w.after h e ∙ then-none (said w.after h Plain) (plain_from said is_request n) is) acts in
        only-plain h w v held done (inl (done.whole.held_is ∙ is))
    plain-fed-at n h w v held acts true e (Some k) is later =
        let s = said w.after h Plain in
        let m : SessionState H A = talk (Some k) s.after (outside (plus w.outside.out s.words) w.outside.disk w.outside.lost) in
        let both : PlainActs (said_after s.words (plain_from said is_request n s.after k)) w.outside v.held v.after v.outside = subst (λ (t : Said H A). PlainActs t w.outside v.held v.after v.outside)
        (at-request n w.after h e ∙ then-some s (plain_from said is_request n) k is) acts in
        let fed = later k m (door.shorter w.after h k e is) refl (plain-second s (plain_from said is_request n s.after k) w.outside v.outside v.after v.held both) in
        let step : PlainStep said is_request h w m = record { held = held; acts = record { disk_kept = refl; whole = record { held_is = sym is; after_is = refl; out_is = refl; lost_kept = refl } } } in
        (m ∷ fed.0, fed.1, ((h, e, step), fed.2), fed.3)

    plain-fed : (n : ℕ) (h : H) (w v : SessionState H A) → size h < n → w.held ≡ Some h → PlainActs (plain_from said is_request n w.after h) w.outside v.held v.after v.outside → PlainFed said is_request w v
    plain-fed zero h w v l held acts = absurd (omega arith)
    plain-fed (suc n) h w v l held acts =
        plain-fed-at n h w v held acts (is_request h) refl (said w.after h Plain).next refl (λ k m shorter open_m acts_m. plain-fed n k m v (omega arith) open_m acts_m)

    -- A plain course says and leaves what the plain function says and leaves.
    pub by_rules : PlainLaw said is_request more size
    unfolding plain
    by_rules h w v held = (
      λ fed. fed-plain fed.0 (suc (size h)) h w fed.1 v (omega arith) held fed.2 fed.3,
      λ acts. plain-fed (suc (size h)) h w v (omega arith) held acts,
    )

    acts-plain : (a : A) (h : H) (i : ConnectionState) (held : Option H) (b : A) (j : ConnectionState) → PlainActs (said a h Plain) i held b j → Acts (said a h) i held b j
    acts-plain a h i held b j acts = record {
      way = Plain;
      cause = acts.disk_kept;
      disk_later = omega (arith, acts.disk_kept);
      lost_later = omega (arith, acts.whole.lost_kept);
      sent = inl acts.whole;
    }

    -- A plain act is an act by the rules all of whose words reached the connection.
    pub is_act : PlainIsAct said is_request more size
    unfolding acts-plain
    is_act a h i held b j = (
      λ acts. (acts-plain a h i held b j acts, refl, acts.whole),
      λ both. record { disk_kept = subst (λ (way : Departure). DepartureCause way i.disk j.disk) both.1 both.0.cause; whole = both.2 },
    )

    step-plain : (h : H) (w m : SessionState H A) → PlainStep said is_request h w m → SessionStep said is_request h w m
    step-plain h w m step = record { held = step.held; acts = acts-plain w.after h w.outside m.held m.after m.outside step.acts }

    course-plain : (w : SessionState H A) (ms : List (SessionState H A)) (m : SessionState H A) → PlainRequests said is_request w ms m → Requests said is_request w ms m
    course-plain w [] m each = each
    course-plain w (x ∷ xs) m each = ((each.0.0, each.0.1, step-plain each.0.0 w x each.0.2), course-plain x xs m each.1)

    -- A plain course is a course.
    pub is_course : PlainIsFed said is_request more size
    is_course w v fed = (
      fed.0,
      fed.1,
      course-plain w fed.0 fed.1 fed.2,
      record {
        before = fed.3.before;
        step = step-plain fed.3.before fed.1 v fed.3.step;
        ends = elim fed.3.ends [ inl none ↦ inl none | inr rest ↦ inr (rest, fed.3.step.acts.disk_kept) ];
      },
    )

    -- All laws of a door.
    pub door_laws : DoorLaws said is_request more size
    door_laws = record { cut = cut; pieces = pieces; calls = calls; by_rules = by_rules; is_course = is_course; is_act = is_act }
