-- Acts in order make a course.
use Rattle.std.proofs.Common.{◌≡◌, ◌⊎◌, List, [], ◌∷◌, ◌++◌, Option, Some, None, Bool, true, false, refl, subst}
use Rattle.line_door.specs.Acts.{ConnectionState, Said, Departure, Acts}
use Rattle.line_door.specs.Course.{SessionState, talk, SessionStep, Requests, Last, Fed, Going}

module _ {H A : Type 0} (said : A → H → Departure → Said H A) (is_request : H → Bool) where
  -- No act leads from a talk to itself.
  pub Going-same : (start : SessionState H A) → Going said is_request start start
  Going-same start = record { acts = []; each = refl }

  -- Appends one act to a list of requests.
  pub Requests-more : (w : SessionState H A) (ms : List (SessionState H A)) (m v : SessionState H A) (h : H) → Requests said is_request w ms m → is_request h ≡ true → SessionStep said is_request h m v → Requests said is_request w (ms ++ v ∷ []) v
  Requests-more w [] m v h same request step = ((h, request, subst (λ (x : SessionState H A). SessionStep said is_request h x v) same step), refl)
  Requests-more w (x ∷ xs) m v h each request step = (each.0, Requests-more x xs m v h each.1 request step)

  -- Appends one act to a course that goes on.
  pub Going-more : (start m v : SessionState H A) (h : H) → Going said is_request start m → is_request h ≡ true → SessionStep said is_request h m v → Going said is_request start v
  Going-more start m v h going request step = record { acts = going.acts ++ v ∷ []; each = Requests-more start going.acts m v h going.each request step }

  -- The last act makes it a course.
  pub Fed-last : (start m v : SessionState H A) → Going said is_request start m → Last said is_request m v → Fed said is_request start v
  Fed-last start m v going last = (going.acts, m, going.each, last)

  -- The last act of the code is a last act.
  pub Last-done : (h : H) (a : A) (i : ConnectionState) (held : Option H) (b : A) (j : ConnectionState) → Acts (said a h) i held b j → (held ≡ None) ⊎ ((is_request h ≡ false) × (j.disk ≡ i.disk)) → Last said is_request (talk (Some h) a i) (talk held b j)
  Last-done h a i held b j acts ends = record { before = h; step = record { held = refl; acts = acts }; ends = ends }
