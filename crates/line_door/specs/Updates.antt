-- A door whose session may idle: after each event it is told what changed (RFC 2177).
use Rattle.std.specs.Prelude.{◌≡◌, ℕ, List, ◌++◌, Bool, true, false}
use Rattle.line_door.specs.Acts.{Said, Departure, Plain}
use Rattle.line_door.specs.Making.{says}
use Rattle.line_door.specs.Plain.{said_after, then_say, plain}

-- A door, with the session after its update and what the update tells it. A session that doesn't
-- idle is told nothing.
module _ {H A : Type 0} (said : A → H → Departure → Said H A) (is_request : H → Bool)
    (more : List ℕ → H → H) (size : H → ℕ) (updated : A → H → H) (tells : A → H → List ℕ) where
  -- The update of a session. It changes nothing else.
  abbrev pub update : A → H → Said H A
  update a h = says a (updated a h) (tells a h)

  -- What all whole requests at the front say, and then the update of the session after them.
  abbrev pub plain_updated : A → H → Said H A
  plain_updated a h = then_say (plain said is_request size a h) update

  -- The laws of such a door. `h` is a session that keeps a rest.
  pub record UpdateDoor : Type 0 where
    -- An update leaves what comes next a request, or none.
    pub asks : (q : List ℕ) (a : A) (h : H) → is_request h ≡ false
        → is_request (more q (updated a h)) ≡ is_request (more q h)
    -- What an update tells is what the reply to the next request would tell first.
    pub answers : (q : List ℕ) (a : A) (h : H) → is_request h ≡ false
        → is_request (more q h) ≡ true
        → said_after (tells a h) (said a (more q (updated a h)) Plain) ≡ said a (more q h) Plain
    -- Without a request, two updates in order are one.
    pub again : (q : List ℕ) (a : A) (h : H) → is_request h ≡ false
        → is_request (more q h) ≡ false
        → updated a (more q (updated a h)) ≡ updated a (more q h)
    pub told : (q : List ℕ) (a : A) (h : H) → is_request h ≡ false
        → is_request (more q h) ≡ false
        → tells a h ++ tells a (more q (updated a h)) ≡ tells a (more q h)

  -- Feeding `p` and then `q`, with the update of the session after each, says and leaves the same as
  -- feeding both at once and one update.
  abbrev pub UpdatedCutLaw : Type 0
  UpdatedCutLaw =
      (a : A) (h : H) (p q : List ℕ) →
      plain_updated a (more (p ++ q) h)
      ≡ then_say (plain_updated a (more p h)) (λ b k. plain_updated b (more q k))
