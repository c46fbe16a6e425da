-- Acts over a shelf or a keeper make a course.
use Rattle.std.proofs.Common.{◌≡◌, ◌⊎◌, ℕ, Bool, inl, inr, true, false, List, [], ◌∷◌, ◌++◌, Option, Some, None, is_some, refl, sym, ap, subst, ◌∙◌, append_assoc}
use Rattle.std.specs.List.{Contains}
use Rattle.std.proofs.lemmas.List.Elements.{Contains-append_left, Contains-append_right}
use Rattle.line_door.specs.Acts.{ConnectionState, Said, Departure, Plain, Memory, Disk, PlainActs, Acts}
use Rattle.line_door.specs.Course.{SessionState, talk, Requests, Last}
use Rattle.line_door.specs.Over.{held_over, said_over, talk_over, talks_over}
use Rattle.line_door.proofs.Courses.{Requests-more, Last-done}
use Rattle.line_door.proofs.Lifting.{requests-over, last-over}
use Rattle.arch_model.specs.Archives.{Archive}
use Rattle.arch_model.specs.Standing.{LastKnown, standing, one_of}
use Rattle.arch_model.specs.Keeping.{HasDoubt, Has, HasAll, MatchesKnown, KeeperMoves, OnlyRead, ending, Keeper}
use Rattle.arch_model.specs.declared.shelf.Shelf.{Ghosts as Shelf}
use Rattle.arch_model.proofs.Keepers.{has-own, passes-chain, moves-read}
use Rattle.keep_course.specs.Answering.{CommandAsked, KeeperAsked, AsksNoDisk, AsksReading, AsksReopening, AsksReindexing, AsksCommand, reading_asked, SaidAll, TookCommand, StarvedUnasked, DoesCommand, ReopenedAs, RefusedBy, EndsReady, ReindexedAs, DoesAsked, way_of_ending}
use Rattle.keep_course.specs.Courses.{afters, LeftBy, archives_of, archives_in, KeptAlong, SessionRunning, SessionRun, SparesDisk, ShelfDoor, ShelfActs, ShelfRun, KeeperDoor, DoesIf, KeeperActs, KeeperRun, SessionRunLeft}

-- The archives of standings are among themselves.

has-more : (more may : List (Option Archive)) (d : Option Archive) → HasDoubt may d → HasDoubt (may ++ more) d
has-more more may None has = tt
has-more more may (Some b) has = Contains-append_left may more (Some b) has

has-left : (may more : List (Option Archive)) (s : LastKnown) → Has may s → Has (may ++ more) s
has-left may more s has = record { archive = Contains-append_left may more (Some s.archive) has.archive; in_doubt = has-more more may s.in_doubt has.in_doubt }

has-later : (more may : List (Option Archive)) (d : Option Archive) → HasDoubt may d → HasDoubt (more ++ may) d
has-later more may None has = tt
has-later more may (Some b) has = Contains-append_right more may (Some b) has

has-right : (more may : List (Option Archive)) (s : LastKnown) → Has may s → Has (more ++ may) s
has-right more may s has = record { archive = Contains-append_right more may (Some s.archive) has.archive; in_doubt = has-later more may s.in_doubt has.in_doubt }

all-right : (more may : List (Option Archive)) (ss : List LastKnown) → HasAll may ss → HasAll (more ++ may) ss
all-right more may [] has = tt
all-right more may (s ∷ ss) has = (has-right more may s has.0, all-right more may ss has.1)

pub all-own : (ss : List LastKnown) → HasAll (archives_of ss) ss
all-own [] = tt
all-own (s ∷ ss) = (has-left (one_of s) (archives_of ss) s (has-own s), all-right (one_of s) (archives_of ss) ss (all-own ss))

-- States beside talks.
module _ {K H A : Type 0} (does : K → SessionState H A → K → SessionState H A → Type 0) (said : A → H → Departure → Said H A) (is_request : H → Bool) where
  -- One more act.
  kept-more : (old mid new : K) (w : SessionState H A) (ks : List K) (ms : List (SessionState H A)) (m v : SessionState H A) → Requests said is_request w ms m → KeptAlong does old w ks ms mid → does mid m new v → KeptAlong does old w (ks ++ new ∷ []) (ms ++ v ∷ []) new
  kept-more old mid new w [] [] m v each kept act = (subst (λ (k : K). does k w new v) kept (subst (λ (t : SessionState H A). does mid t new v) each act), refl)
  kept-more old mid new w [] (x ∷ xs) m v each never act = absurd never
  kept-more old mid new w (k ∷ ks) [] m v each never act = absurd never
  kept-more old mid new w (k ∷ ks) (x ∷ xs) m v each kept act = (kept.0, kept-more k mid new x ks xs m v each.1 kept.1 act)

  -- One run of acts and another.
  kept-both : (old mid new : K) (w : SessionState H A) (ks : List K) (ms : List (SessionState H A)) (m : SessionState H A) (ls : List K) (ns : List (SessionState H A)) → Requests said is_request w ms m → KeptAlong does old w ks ms mid → KeptAlong does mid m ls ns new → KeptAlong does old w (ks ++ ls) (ms ++ ns) new
  kept-both old mid new w [] [] m ls ns each kept more = subst (λ (k : K). KeptAlong does k w ls ns new) kept (subst (λ (t : SessionState H A). KeptAlong does mid t ls ns new) each more)
  kept-both old mid new w [] (x ∷ xs) m ls ns each never more = absurd never
  kept-both old mid new w (k ∷ ks) [] m ls ns each never more = absurd never
  kept-both old mid new w (k ∷ ks) (x ∷ xs) m ls ns each kept more = (kept.0, kept-both k mid new x ks xs m ls ns each.1 kept.1 more)

  -- Before the first act.
  pub coming-same : (k : K) (w : SessionState H A) → SessionRunning (KeptAlong does) said is_request k k w w
  coming-same k w = record { acts = []; each = refl; states = []; kept = refl }

  -- One more request.
  pub coming-more : (old mid new : K) (w : SessionState H A) (h : H) (s : A) (i : ConnectionState) (held : Option H) (t : A) (j : ConnectionState) → SessionRunning (KeptAlong does) said is_request old mid w (talk (Some h) s i) → is_request h ≡ true → Acts (said s h) i held t j
      → does mid (talk (Some h) s i) new (talk held t j) → SessionRunning (KeptAlong does) said is_request old new w (talk held t j)
  coming-more old mid new w h s i held t j coming asked acts act = record {
    acts = coming.acts ++ talk held t j ∷ [];
    each = Requests-more said is_request w coming.acts (talk (Some h) s i) (talk held t j) h coming.each asked (record { held = refl; acts = acts });
    states = coming.states ++ new ∷ [];
    kept = kept-more old mid new w coming.states coming.acts (talk (Some h) s i) (talk held t j) coming.each coming.kept act;
  }

  -- The last act of a course.
  pub coming-done : (old mid new : K) (w m v : SessionState H A) → SessionRunning (KeptAlong does) said is_request old mid w m → Last said is_request m v → does mid m new v → SessionRun (KeptAlong does) said is_request old new w v
  coming-done old mid new w m v coming last act = record {
    acts = coming.acts;
    before = m;
    each = coming.each;
    last = last;
    states = coming.states ++ new ∷ [];
    kept = kept-more old mid new w coming.states coming.acts m v coming.each coming.kept act;
  }

  -- The same by its parts.
  pub coming-last : (old mid new : K) (w : SessionState H A) (h : H) (s : A) (i : ConnectionState) (held : Option H) (t : A) (j : ConnectionState) → SessionRunning (KeptAlong does) said is_request old mid w (talk (Some h) s i) → Acts (said s h) i held t j → (held ≡ None) ⊎ ((is_request h ≡ false) × (j.disk ≡ i.disk))
      → does mid (talk (Some h) s i) new (talk held t j) → SessionRun (KeptAlong does) said is_request old new w (talk held t j)
  coming-last old mid new w h s i held t j coming acts ends act =
      coming-done old mid new w (talk (Some h) s i) (talk held t j) coming (Last-done said is_request h s i held t j acts ends) act

  requests-both : (w : SessionState H A) (ms : List (SessionState H A)) (m : SessionState H A) (ns : List (SessionState H A)) (v : SessionState H A) → Requests said is_request w ms m → Requests said is_request m ns v → Requests said is_request w (ms ++ ns) v
  requests-both w [] m ns v first second = subst (λ (t : SessionState H A). Requests said is_request t ns v) first second
  requests-both w (x ∷ xs) m ns v first second = (first.0, requests-both x xs m ns v first.1 second)

  -- Requests, and then a course.
  pub course-after : (old mid new : K) (w m v : SessionState H A) → SessionRunning (KeptAlong does) said is_request old mid w m → SessionRun (KeptAlong does) said is_request mid new m v → SessionRun (KeptAlong does) said is_request old new w v
  course-after old mid new w m v coming course = record {
    acts = coming.acts ++ course.acts;
    before = course.before;
    each = requests-both w coming.acts m course.acts course.before coming.each course.each;
    last = course.last;
    states = coming.states ++ course.states;
    kept = subst (λ (ts : List (SessionState H A)). KeptAlong does old w (coming.states ++ course.states) ts new) (sym (append_assoc coming.acts course.acts (v ∷ [])))
        (kept-both old mid new w coming.states coming.acts m course.states (course.acts ++ v ∷ []) coming.each coming.kept course.kept);
  }

module _ {K H : Type 0} (g : Keeper K) (door : KeeperDoor H) where
  -- A crash in the acts leaves an archive of one of their talks, or one in doubt there.
  pub kept-left : (old new : K) (w : SessionState H LastKnown) (ks : List K) (ms : List (SessionState H LastKnown)) → KeptAlong (KeeperActs g door) old w ks ms new → LeftBy g.leaves old new w ms
  kept-left old new w [] [] kept = λ start may has since. subst (λ (k : K). g.leaves start k may) (sym kept) since
  kept-left old new w [] (m ∷ ms) never = absurd never
  kept-left old new w (k ∷ ks) [] never = absurd never
  kept-left old new w (k ∷ ks) (m ∷ ms) kept = passes-chain g.leaves old k new (w.after ∷ []) m.after (afters ms) kept.0.moves.passes (kept-left k new m ks ms kept.1)

  -- A crash since the start leaves an archive, or one in doubt, of one of the talks.
  pub crash-in : (old new : K) (w : SessionState H LastKnown) (ms : List (SessionState H LastKnown)) → MatchesKnown g old w.after → LeftBy g.leaves old new w ms → g.leaves old new (archives_in w ms)
  crash-in old new w ms fits left =
      let own = all-own (w.after ∷ afters ms) in
      left old (archives_in w ms) own (fits.left (archives_in w ms) own.0)

  -- A course, and what a crash since its start leaves.
  pub ended : (old new : K) (w v : SessionState H LastKnown) → MatchesKnown g old w.after → KeeperRun g door old new w v → SessionRunLeft g door old new w v
  ended old new w v fits course = record {
    course = course;
    crash = crash-in old new w (course.acts ++ v ∷ []) fits (kept-left old new w course.states (course.acts ++ v ∷ []) course.kept);
  }

-- Talks of a greater door.
pub talks-last : {H A J B : Type 0} (state : A → B) (into : H → J) (ts : List (SessionState H A)) (v : SessionState H A) → talks_over state into (ts ++ v ∷ []) ≡ talks_over state into ts ++ talk_over state into v ∷ []
talks-last state into [] v = refl
talks-last {H} {A} {J} {B} state into (t ∷ ts) v = ap (λ (us : List (SessionState J B)). talk_over state into t ∷ us) (talks-last state into ts v)

-- What is said by an act of a session is said by one of the greater door, if that says the same.
module _ {H A J B : Type 0} (state : A → B) (into : H → J) where
  plain-over : (s : Said H A) (other : Said J B) (i : ConnectionState) (held : Option H) (a : A) (j : ConnectionState) → other ≡ said_over state into s → PlainActs s i held a j → PlainActs other i (held_over into held) (state a) j
  plain-over s other i held a j same acts = subst (λ (x : Said J B). PlainActs x i (held_over into held) (state a) j) (sym same) (record {
    disk_kept = acts.disk_kept;
    whole = record { held_is = ap (held_over into) acts.whole.held_is; after_is = ap state acts.whole.after_is; out_is = acts.whole.out_is; lost_kept = acts.whole.lost_kept };
  })

  all-over : (s : Said H A) (other : Said J B) (i : ConnectionState) (held : Option H) (a : A) (j : ConnectionState) → other ≡ said_over state into s → SaidAll s i held a j → SaidAll other i (held_over into held) (state a) j
  all-over s other i held a j same (inl whole) = subst (λ (x : Said J B). SaidAll x i (held_over into held) (state a) j) (sym same)
      (inl (record { held_is = ap (held_over into) whole.held_is; after_is = ap state whole.after_is; out_is = whole.out_is; lost_kept = whole.lost_kept }))
  all-over s other i held a j same (inr lost) = subst (λ (x : Said J B). SaidAll x i (held_over into held) (state a) j) (sym same)
      (inr (record { lost_rose = lost.lost_rose; held_is = ap (held_over into) lost.held_is; after_is = ap state lost.after_is; count = lost.count; out_is = lost.out_is }))

-- What an act did of the keeper, one of the greater door did, if that asks and says the same.
module _ {K H J : Type 0} (g : Keeper K) (into : H → J) (moment : ℕ) (words : Departure → Said H LastKnown) (other : Departure → Said J LastKnown) (same : (way : Departure) → other way ≡ said_over (λ (t : LastKnown). t) into (words way)) where
  said-over : (way : Departure) (i : ConnectionState) (held : Option H) (t : LastKnown) (j : ConnectionState) → SaidAll (words way) i held t j → SaidAll (other way) i (held_over into held) t j
  said-over way i held t j said = all-over (λ (x : LastKnown). x) into (words way) (other way) i held t j (same way) said

  took-over : (asked : CommandAsked) (old : K) (s : LastKnown) (i : ConnectionState) (held : Option H) (new : K) (t : LastKnown) (j : ConnectionState) → DoesCommand g moment asked words old s i held new t j → DoesCommand g moment asked other old s i (held_over into held) new t j
  took-over asked old s i held new t j (inl took) = inl (
    took.0,
    took.1,
    record {
      reply = took.2.reply;
      gives = took.2.gives;
      taken = took.2.taken;
      ready = took.2.ready;
      cause = took.2.cause;
      said = said-over (way_of_ending (ending took.2.reply)) i held t j took.2.said;
    },
  )
  took-over asked old s i held new t j (inr starved) = inr (record { kept = starved.kept; said = said-over Memory i held t j starved.said })

  refused-over : (i : ConnectionState) (held : Option H) (t : LastKnown) (j : ConnectionState) → RefusedBy words i held t j → RefusedBy other i (held_over into held) t j
  refused-over i held t j (inl starved) = inl (said-over Memory i held t j starved)
  refused-over i held t j (inr failed) = inr (said-over Disk i held t j failed)

  ends-over : (i : ConnectionState) (held : Option H) (new : K) (t : LastKnown) (j : ConnectionState) → EndsReady g words i held new t j → EndsReady g other i (held_over into held) new t j
  ends-over i held new t j (inl ready) = inl ready
  ends-over i held new t j (inr (stale, refused)) = inr (stale, refused-over i held t j refused)

  indexed-over : (old : K) (i : ConnectionState) (held : Option H) (new : K) (t : LastKnown) (j : ConnectionState) → ReindexedAs g words old i held new t j → ReindexedAs g other old i (held_over into held) new t j
  indexed-over old i held new t j (inl found) = inl (found.0, found.1, said-over Plain i held t j found.2)
  indexed-over old i held new t j (inr (stale, refused)) = inr (stale, refused-over i held t j refused)

  asked-over : (asked : KeeperAsked) (old : K) (s : LastKnown) (i : ConnectionState) (held : Option H) (new : K) (t : LastKnown) (j : ConnectionState) → DoesAsked g moment asked words old s i held new t j → DoesAsked g moment asked other old s i (held_over into held) new t j
  asked-over AsksNoDisk old s i held new t j does = does
  asked-over AsksReading old s i held new t j does = does
  asked-over AsksReopening old s i held new t j does = record {
    nothing = λ ready. ((does.nothing ready).0, plain-over (λ (x : LastKnown). x) into (words Plain) (other Plain) i held t j (same Plain) (does.nothing ready).1);
    found = does.found;
    ends = ends-over i held new t j does.ends;
  }
  asked-over AsksReindexing old s i held new t j does = indexed-over old i held new t j does
  asked-over (AsksCommand asked) old s i held new t j does = took-over asked old s i held new t j does

-- A course over a keeper is one of a greater door that has its sessions among its own.
module _ {K H J : Type 0} (g : Keeper K) (into : H → J) (one : KeeperDoor H) (other : KeeperDoor J)
    (same : (s : LastKnown) (h : H) (way : Departure) → other.said s (into h) way ≡ said_over (λ (t : LastKnown). t) into (one.said s h way)) (is_asked : (h : H) → other.is_request (into h) ≡ one.is_request h) (asks : (s : LastKnown) (h : H) → other.asks s (into h) ≡ one.asks s h) (at : other.moment ≡ one.moment) where
  act-over : (old new : K) (w v : SessionState H LastKnown) → KeeperActs g one old w new v → KeeperActs g other old (talk_over (λ (t : LastKnown). t) into w) new (talk_over (λ (t : LastKnown). t) into v)
  act-over old new w v act = record { moves = act.moves; disk = act.disk; does = by w.held act.does }
    where
      by : (held : Option H) → DoesIf g one held old w new v → DoesIf g other (held_over into held) old (talk_over (λ (t : LastKnown). t) into w) new (talk_over (λ (t : LastKnown). t) into v)
      by None done = tt
      by (Some h) done =
          subst (λ (m : ℕ). DoesAsked g m (other.asks w.after (into h)) (other.said w.after (into h)) old w.after w.outside (held_over into v.held) new v.after v.outside) (sym at)
          (subst (λ (x : KeeperAsked). DoesAsked g one.moment x (other.said w.after (into h)) old w.after w.outside (held_over into v.held) new v.after v.outside) (sym (asks w.after h))
          (asked-over g into one.moment (one.said w.after h) (other.said w.after (into h)) (λ way. same w.after h way) (one.asks w.after h) old w.after w.outside v.held new v.after v.outside done))

  along-over : (old new : K) (w : SessionState H LastKnown) (ks : List K) (ms : List (SessionState H LastKnown)) → KeptAlong (KeeperActs g one) old w ks ms new → KeptAlong (KeeperActs g other) old (talk_over (λ (t : LastKnown). t) into w) ks (talks_over (λ (t : LastKnown). t) into ms) new
  along-over old new w [] [] kept = kept
  along-over old new w [] (m ∷ ms) never = absurd never
  along-over old new w (k ∷ ks) [] never = absurd never
  along-over old new w (k ∷ ks) (m ∷ ms) kept = (act-over old k w m kept.0, along-over k new m ks ms kept.1)

  pub course-over : (old new : K) (w v : SessionState H LastKnown) → KeeperRun g one old new w v → KeeperRun g other old new (talk_over (λ (t : LastKnown). t) into w) (talk_over (λ (t : LastKnown). t) into v)
  course-over old new w v course = record {
    acts = talks_over (λ (t : LastKnown). t) into course.acts;
    before = talk_over (λ (t : LastKnown). t) into course.before;
    each = requests-over (λ (t : LastKnown). t) into one.said one.is_request other.said other.is_request same is_asked w course.acts course.before course.each;
    last = last-over (λ (t : LastKnown). t) into one.said one.is_request other.said other.is_request same is_asked course.before v course.last;
    states = course.states;
    kept = subst (λ (ts : List (SessionState J LastKnown)). KeptAlong (KeeperActs g other) old (talk_over (λ (t : LastKnown). t) into w) course.states ts new) (talks-last (λ (t : LastKnown). t) into course.acts v)
        (along-over old new w course.states (course.acts ++ v ∷ []) course.kept);
  }

-- The course of a reading door, whose archive stays, is one over the keeper that was lent to it as a
-- shelf.
module _ {K H J : Type 0} (shelf : Shelf K) (g : Keeper K) (into : H → J) (one : ShelfDoor H) (other : KeeperDoor J)
    (same : (a : Archive) (h : H) (way : Departure) → other.said (standing a None) (into h) way ≡ said_over (λ (x : Archive). standing x None) into (one.said a h way)) (is_asked : (h : H) → other.is_request (into h) ≡ one.is_request h) (asks : (a : Archive) (h : H) → other.asks (standing a None) (into h) ≡ reading_asked (one.uses_disk a h))
    (holds_files_are : (k : K) (a : Archive) → g.holds k a → g.files_are k a) (holds_left : (k : K) (a : Archive) (may : List (Option Archive)) → g.holds k a → Contains may (Some a) → g.leaves k k may) (alikes : (k m : K) → shelf.alike k m → g.alike k m) (alike_kept : (k m : K) → g.alike k m → OnlyRead g k m) (counts : (k : K) → g.faults k ≡ shelf.faults k) where
  abbrev over : SessionState H Archive → SessionState J LastKnown
  over w = talk_over (λ (x : Archive). standing x None) into w

  -- What an act of a reading door asks, it did.
  reading-asked : (uses : Bool) (words : Departure → Said J LastKnown) (old : K) (s : LastKnown) (i : ConnectionState) (held : Option J) (new : K) (t : LastKnown) (j : ConnectionState) → g.alike old new → (uses ≡ false → j.disk ≡ i.disk) → DoesAsked g other.moment (reading_asked uses) words old s i held new t j
  reading-asked true words old s i held new t j alike spared = alike
  reading-asked false words old s i held new t j alike spared = (alike, spared refl)

  reading-act : (old new : K) (w v : SessionState H Archive) → g.holds old w.after → ShelfActs shelf one old w new v → KeeperActs g other old (over w) new (over v)
  reading-act old new w v held act = record {
    moves = subst (λ (a : Archive). KeeperMoves g old (standing w.after None) new (standing a None)) (sym act.archive) (moves-read g holds_files_are holds_left old new w.after held (alike_kept old new (alikes old new act.stays.same)));
    disk = act.disk ∙ sym (counts new);
    does = by w.held act.spared;
  }
    where
      by : (held : Option H) → SparesDisk (one.uses_disk w.after) held w.outside.disk v.outside.disk → DoesIf g other (held_over into held) old (over w) new (over v)
      by None spared = tt
      by (Some h) spared = subst (λ (x : KeeperAsked). DoesAsked g other.moment x (other.said (standing w.after None) (into h)) old (standing w.after None) w.outside (held_over into v.held) new (standing v.after None) v.outside) (sym (asks w.after h))
          (reading-asked (one.uses_disk w.after h) (other.said (standing w.after None) (into h)) old (standing w.after None) w.outside (held_over into v.held) new (standing v.after None) v.outside (alikes old new act.stays.same) spared)

  reading-along : (old new : K) (w : SessionState H Archive) (ks : List K) (ms : List (SessionState H Archive)) → g.holds old w.after → KeptAlong (ShelfActs shelf one) old w ks ms new → KeptAlong (KeeperActs g other) old (over w) ks (talks_over (λ (x : Archive). standing x None) into ms) new
  reading-along old new w [] [] held kept = kept
  reading-along old new w [] (m ∷ ms) held never = absurd never
  reading-along old new w (k ∷ ks) [] held never = absurd never
  reading-along old new w (k ∷ ks) (m ∷ ms) held kept =
      let there = subst (λ (a : Archive). g.holds k a) (sym kept.0.archive) ((alike_kept old k (alikes old k kept.0.stays.same)).held w.after held) in
      (reading-act old k w m held kept.0, reading-along k new m ks ms there kept.1)

  pub reading-course : (old new : K) (w v : SessionState H Archive) → g.holds old w.after → ShelfRun shelf one old new w v → KeeperRun g other old new (over w) (over v)
  reading-course old new w v held course = record {
    acts = talks_over (λ (x : Archive). standing x None) into course.acts;
    before = over course.before;
    each = requests-over (λ (x : Archive). standing x None) into one.said one.is_request other.said other.is_request same is_asked w course.acts course.before course.each;
    last = last-over (λ (x : Archive). standing x None) into one.said one.is_request other.said other.is_request same is_asked course.before v course.last;
    states = course.states;
    kept = subst (λ (ts : List (SessionState J LastKnown)). KeptAlong (KeeperActs g other) old (over w) course.states ts new) (talks-last (λ (x : Archive). standing x None) into course.acts v)
        (reading-along old new w course.states (course.acts ++ v ∷ []) held course.kept);
  }
