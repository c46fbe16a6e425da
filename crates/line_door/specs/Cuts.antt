-- The answers to a connection do not depend on how its bytes are cut into pieces.
use Rattle.std.specs.Prelude.{◌≡◌, ◌<◌, ◌⊎◌, ◌↔◌, ℕ, List, ◌++◌, Option, Some, None, Bool, true, false}
use Rattle.line_door.specs.Acts.{ConnectionState, Said, Departure, Plain, SaidWhole, Acts, PlainActs}
use Rattle.line_door.specs.Course.{SessionState, talk, Requests, Fed, PlainFed}
use Rattle.line_door.specs.Plain.{silent, then_say, plain}

-- The session with more bytes, if it is open.
abbrev pub more_of : {H : Type 0} → (H → H) → Option H → Option H
more_of more None = None
more_of more (Some h) = Some (more h)

-- The same words, where the session after them has more bytes.
abbrev pub said_with : {H A : Type 0} → (H → H) → Said H A → Said H A
said_with more s =
    record { next = more_of more s.next; words = s.words; streamed = s.streamed; after = s.after }

module _ {H A : Type 0} (said : A → H → Departure → Said H A)
    (is_request : H → Bool) (more : List ℕ → H → H) (size : H → ℕ) where
  -- The laws of a door whose pieces may be cut anywhere. `more q h` is `h` with `q` after its
  -- bytes.
  pub record CutDoor : Type 0 where
    -- A whole request stays one, and says the same, when more bytes follow it.
    pub request_stays : (q : List ℕ) (h : H) → is_request h ≡ true → is_request (more q h) ≡ true
    pub said_stays : (q : List ℕ) (a : A) (h : H) (way : Departure) → is_request h ≡ true
        → said a (more q h) way ≡ said_with (more q) (said a h way)
    -- A rest is kept without a word, or the session is closed.
    pub rest_plain : (a : A) (h : H) → is_request h ≡ false → said a h Plain ≡ silent a h
    pub rest_kept : (a : A) (h : H) (way : Departure) → is_request h ≡ false
        → ((said a h way).next ≡ None) ⊎ (said a h way ≡ silent a h)
    -- Two pieces in order are one joined piece.
    pub more_joined : (p q : List ℕ) (h : H) → more q (more p h) ≡ more (p ++ q) h
    -- A request that leaves the session open makes it smaller.
    pub shorter : (a : A) (h k : H) → is_request h ≡ true → (said a h Plain).next ≡ Some k
        → size k < size h

  -- Feeding `p` and then `q` says and leaves the same as feeding both at once.
  abbrev pub CutLaw : Type 0
  CutLaw =
      (a : A) (h : H) (p q : List ℕ) →
      plain said is_request size a (more (p ++ q) h)
      ≡ then_say (plain said is_request size a (more p h)) (λ b k.
      plain said is_request size b (more q k))

  -- A course of `p` whose rest was kept, and then a course of `q`, make a course of both at once,
  -- whatever ways their acts took.
  abbrev pub PiecesLaw : Type 0
  PiecesLaw =
      (h : H) (p q : List ℕ) (a : A) (o : ConnectionState) (v : SessionState H A) (k : H)
      (z : SessionState H A) →
      Fed said is_request (talk (Some (more p h)) a o) v →
      v.held ≡ Some k →
      Fed said is_request (talk (Some (more q k)) v.after v.outside) z →
      Fed said is_request (talk (Some (more (p ++ q) h)) a o) z

  -- The session has `q` after the rest `k`, and all else is as after the course that kept the rest.
  pub record LeftWithRest (q : List ℕ) (k : H) (m v : SessionState H A) : Type 0 where
    pub held : m.held ≡ Some (more q k)
    pub after : m.after ≡ v.after
    pub out : m.outside.out ≡ v.outside.out
    pub lost : m.outside.lost ≡ v.outside.lost
    pub disk : m.outside.disk ≡ v.outside.disk

  -- The requests of a course of `p` whose rest was kept are the first ones of both pieces joined, and
  -- leave `q` after that rest. So a course of `q` goes on there, whatever stood between the two: it
  -- begins with the same session, in the archive and at the outside of its own time.
  abbrev pub CallsLaw : Type 0
  CallsLaw =
      (h : H) (p q : List ℕ) (a : A) (o : ConnectionState) (v : SessionState H A) (k : H) →
      Fed said is_request (talk (Some (more p h)) a o) v →
      v.held ≡ Some k →
      (ms : List (SessionState H A)) × (m : SessionState H A)
      × Requests said is_request (talk (Some (more (p ++ q) h)) a o) ms m × LeftWithRest q k m v

  -- A plain course says and leaves what the plain function says and leaves.
  abbrev pub PlainLaw : Type 0
  PlainLaw =
      (h : H) (w v : SessionState H A) →
      w.held ≡ Some h →
      PlainFed said is_request w v ↔ PlainActs (plain said is_request size w.after h)
      w.outside v.held v.after v.outside

  -- A plain course is a course.
  abbrev pub PlainIsFed : Type 0
  PlainIsFed = (w v : SessionState H A) → PlainFed said is_request w v → Fed said is_request w v

  -- A plain act is an act by the rules, all of whose words reached the connection; and each such act
  -- is a plain one.
  abbrev pub PlainIsAct : Type 0
  PlainIsAct =
      (a : A) (h : H) (i : ConnectionState) (held : Option H) (b : A) (j : ConnectionState) →
      PlainActs (said a h Plain) i held b j ↔ (acts : Acts (said a h) i held b j)
      × (acts.way ≡ Plain) × SaidWhole (said a h Plain) i held b j

  -- The laws that such a door keeps.
  pub record DoorLaws : Type 0 where
    pub cut : CutLaw
    pub pieces : PiecesLaw
    pub calls : CallsLaw
    pub by_rules : PlainLaw
    pub is_course : PlainIsFed
    pub is_act : PlainIsAct
