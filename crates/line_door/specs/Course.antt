-- The course of a piece: its whole requests are answered in order, and the rest is kept.
use Rattle.std.specs.Prelude.{◌≡◌, ◌⊎◌, List, [], ◌∷◌, Option, Some, None, Bool, true, false}
use Rattle.line_door.specs.Acts.{ConnectionState, Said, Departure, Plain, Acts, PlainActs}

-- A connection's session (None if it is closed), what requests read and change, and the outside.
pub record SessionState (H A : Type 0) : Type 0 where
  pub held : Option H
  pub after : A
  pub outside : ConnectionState

-- The talk of these three parts.
abbrev pub talk : {H A : Type 0} → Option H → A → ConnectionState → SessionState H A
talk held after outside = record { held = held; after = after; outside = outside }

-- A door: what an act of a session says in each way, and whether a whole request is at its front.
module _ {H A : Type 0} (said : A → H → Departure → Said H A) (is_request : H → Bool) where
  -- One act of the open session `h`.
  pub record SessionStep (h : H) (w v : SessionState H A) : Type 0 where
    pub held : w.held ≡ Some h
    pub acts : Acts (said w.after h) w.outside v.held v.after v.outside

  -- These requests were answered in order. Each `m` is the talk after one request.
  abbrev pub Requests : SessionState H A → List (SessionState H A) → SessionState H A → Type 0
  Requests w [] v = v ≡ w
  Requests w (m ∷ ms) v = ((h : H) × (is_request h ≡ true) × SessionStep h w m) × Requests m ms v

  -- The last act of a piece closes the session, or it keeps a rest that starts with no whole
  -- request, and meets no fault of the disk.
  pub record Last (w v : SessionState H A) : Type 0 where
    pub before : H
    pub step : SessionStep before w v
    pub ends : (v.held ≡ None)
        ⊎ ((is_request before ≡ false) × (v.outside.disk ≡ w.outside.disk))

  -- The course of a piece: requests, and then the last act.
  abbrev pub Fed : SessionState H A → SessionState H A → Type 0
  Fed w v = (ms : List (SessionState H A)) × (m : SessionState H A) × Requests w ms m × Last m v

  -- Some requests lead from one talk to the other.
  pub record Going (start now : SessionState H A) : Type 0 where
    pub acts : List (SessionState H A)
    pub each : Requests start acts now

  -- The plain course: each act follows the rules, and no send is lost.

  -- One plain act of the open session `h`.
  pub record PlainStep (h : H) (w v : SessionState H A) : Type 0 where
    pub held : w.held ≡ Some h
    pub acts : PlainActs (said w.after h Plain) w.outside v.held v.after v.outside

  -- These requests were answered in order, by plain acts.
  abbrev pub PlainRequests : SessionState H A → List (SessionState H A) → SessionState H A → Type 0
  PlainRequests w [] v = v ≡ w
  PlainRequests w (m ∷ ms) v = ((h : H) × (is_request h ≡ true) × PlainStep h w m)
      × PlainRequests m ms v

  -- The last act of a plain course closes the session, or keeps a rest without a whole request.
  pub record PlainLast (w v : SessionState H A) : Type 0 where
    pub before : H
    pub step : PlainStep before w v
    pub ends : (v.held ≡ None) ⊎ (is_request before ≡ false)

  -- The plain course of a piece.
  abbrev pub PlainFed : SessionState H A → SessionState H A → Type 0
  PlainFed w v = (ms : List (SessionState H A)) × (m : SessionState H A) × PlainRequests w ms m
      × PlainLast m v
