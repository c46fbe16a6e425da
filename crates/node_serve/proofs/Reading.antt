-- A piece at a door that only reads leaves how the archive stands, where the keeper is ready, and it stays ready.
use Rattle.std.proofs.Common.{◌≡◌, ℕ, true, List, [], ◌∷◌, ◌++◌, Option, Some, None, sym, ap, subst, ◌∙◌}
use Rattle.std.proofs.lemmas.Bool.{false≢true}
use Rattle.line_door.specs.Acts.{ConnectionState, Departure, Acts}
use Rattle.line_door.specs.Course.{SessionState, talk, Requests, Last}
use Rattle.line_door.specs.Over.{held_over}
use Rattle.arch_model.specs.Archives.{Archive}
use Rattle.arch_model.specs.Keeping.{Keeper}
use Rattle.arch_model.specs.Standing.{LastKnown, standing}
use Rattle.keep_course.specs.Courses.{KeeperActs, KeptAlong}
use Rattle.http_front.proofs.Staying.{archive-stays}
use Rattle.http_front.specs.Door as pages
use Rattle.imap_session.proofs.Suiting.{act-left}
use Rattle.imap_session.specs.Door as imap
use Rattle.nntp_reader.specs.Door as news
use Rattle.pop3_reader.specs.Door as pop
use Rattle.node_serve.specs.Doors.{SessionAtWork, Came, AtControl, AtNews, AtPop, AtHttp, AtLmtp, AtImap, with_piece, said, is_asked, doors_at}
use Rattle.node_serve.specs.Nodes.{PieceKept, CameKept, ActsAlong, ReadsAt, ReadsCame}
use Rattle.node_serve.specs.Notes.{reads_only, reads_only_if}
use Rattle.node_serve.specs.Turns.{CameTo}
use Rattle.node_serve.specs.World.{NodeState, outside_at}
use Rattle.node_serve.specs.declared.session.Session.{Session}
use Rattle.node_serve.specs.declared.session.Session.TheVariants as session
use Rattle.node_serve.proofs.Later.{acts-after, mail-after, read-after, imap-after}

-- A session at work at a door that only reads.
abbrev AtReading : SessionAtWork → Type 0
AtReading (Came start piece) = ⊥
AtReading (AtControl w) = ⊥
AtReading (AtNews reader) = Unit {0}
AtReading (AtPop client) = Unit {0}
AtReading (AtHttp bytes) = Unit {0}
AtReading (AtLmtp guest) = ⊥
AtReading (AtImap client) = Unit {0}

-- The same of one that is open.
abbrev AtReadingIf : Option SessionAtWork → Type 0
AtReadingIf None = Unit {0}
AtReadingIf (Some h) = AtReading h

-- The session with a piece, once the archive was reopened.
opened-reading : (start : Session) (piece : List ℕ) → reads_only start ≡ true → AtReading (with_piece start piece)
opened-reading (session.Control bytes) piece reads = absurd (false≢true reads)
opened-reading (session.News reader) piece reads = tt
opened-reading (session.Pop client) piece reads = tt
opened-reading (session.Http bytes) piece reads = tt
opened-reading (session.Lmtp guest) piece reads = absurd (false≢true reads)
opened-reading (session.Imap client) piece reads = tt

-- What an act of such a session says leaves what stands.
words-after : (moment : ℕ) (s : LastKnown) (h : SessionAtWork) (way : Departure) → AtReading h → (said moment s h way).after ≡ s
words-after moment s (Came start piece) way never = absurd never
words-after moment s (AtControl w) way never = absurd never
words-after moment s (AtNews reader) way reads = ap (λ (a : Archive). standing a s.in_doubt) (read-after moment s.archive reader way)
words-after moment s (AtPop client) way reads = ap (λ (a : Archive). standing a s.in_doubt) (mail-after s.archive client way)
words-after moment s (AtHttp bytes) way reads = ap (λ (a : Archive). standing a s.in_doubt) (archive-stays moment s.archive bytes way)
words-after moment s (AtLmtp guest) way never = absurd never
words-after moment s (AtImap client) way reads = ap (λ (a : Archive). standing a s.in_doubt) (imap-after s.archive client way)

-- So is the session after it, if it is open.
over-reading : {H : Type 0} (into : H → SessionAtWork) → ((h : H) → AtReading (into h)) → (o : Option H) → AtReadingIf (held_over into o)
over-reading into reads None = tt
over-reading into reads (Some h) = reads h

words-next : (moment : ℕ) (s : LastKnown) (h : SessionAtWork) (way : Departure) → AtReading h → AtReadingIf (said moment s h way).next
words-next moment s (Came start piece) way never = absurd never
words-next moment s (AtControl w) way never = absurd never
words-next moment s (AtNews reader) way reads = over-reading AtNews (λ h. tt) (news.said moment s.archive reader way).next
words-next moment s (AtPop client) way reads = over-reading AtPop (λ h. tt) (pop.said s.archive client way).next
words-next moment s (AtHttp bytes) way reads = over-reading AtHttp (λ h. tt) (pages.said moment s.archive bytes way).next
words-next moment s (AtLmtp guest) way never = absurd never
words-next moment s (AtImap client) way reads = over-reading AtImap (λ h. tt) (imap.said s.archive client way).next

left-reading : (moment : ℕ) (s : LastKnown) (h : SessionAtWork) (i : ConnectionState) (held : Option SessionAtWork) (t : LastKnown) (j : ConnectionState) → AtReading h → Acts (said moment s h) i held t j → AtReadingIf held
left-reading moment s h i None t j reads acts = tt
left-reading moment s h i (Some k) t j reads acts = let left = act-left (said moment s h) i k t j acts in subst AtReadingIf left.1 (words-next moment s h left.0 reads)

-- What stood before a piece stands, and the session is at a door that only reads.
record TalkReads (s : LastKnown) (t : SessionState SessionAtWork LastKnown) : Type 0 where
  after : t.after ≡ s
  held : AtReadingIf t.held

-- One act.
step-reads : (moment : ℕ) (s : LastKnown) (h : SessionAtWork) (w v : SessionState SessionAtWork LastKnown) → w.held ≡ Some h → Acts (said moment w.after h) w.outside v.held v.after v.outside → TalkReads s w → TalkReads s v
step-reads moment s h w v held acts reads =
    let at : AtReading h = subst AtReadingIf held reads.held in
    record {
      after = acts-after (said moment w.after h) w.after w.outside v.held v.after v.outside (λ way. words-after moment w.after h way at) acts ∙ reads.after;
      held = left-reading moment w.after h w.outside v.held v.after v.outside at acts;
    }

-- The requests of a piece.
requests-read : (moment : ℕ) (s : LastKnown) (w : SessionState SessionAtWork LastKnown) (acts : List (SessionState SessionAtWork LastKnown)) (m : SessionState SessionAtWork LastKnown) → Requests (said moment) is_asked w acts m → TalkReads s w → TalkReads s m
requests-read moment s w [] m same reads = subst (λ (t : SessionState SessionAtWork LastKnown). TalkReads s t) (sym same) reads
requests-read moment s w (x ∷ xs) m each reads = requests-read moment s x xs m each.1 (step-reads moment s each.0.0 w x each.0.2.held each.0.2.acts reads)

module _ {K : Type 0} (g : Keeper K) (moment : ℕ) (start : Session) (piece : List ℕ) (reads : reads_only start ≡ true) where
  -- Of a piece at a ready keeper the first act is a reopening that does nothing.
  first-reads : (old new : K) (s : LastKnown) (i : ConnectionState) (v : SessionState SessionAtWork LastKnown) → g.ready old ≡ true → s.in_doubt ≡ None → KeeperActs g (doors_at moment) old (talk (Some (Came start piece)) s i) new v → TalkReads s v
  first-reads old new s i v ready sure acts =
      let whole = (acts.does.nothing ready).1.whole in
      record {
        after = whole.after_is ∙ ap (λ (d : Option Archive). standing s.archive d) (sym sure);
        held = subst AtReadingIf (sym whole.held_is) (opened-reading start piece reads);
      }

  -- The acts of a piece.
  course-reads : (old new : K) (s : LastKnown) (i : ConnectionState) (acts : List (SessionState SessionAtWork LastKnown)) (m v : SessionState SessionAtWork LastKnown) (states : List K) → g.ready old ≡ true → s.in_doubt ≡ None → Requests (said moment) is_asked (talk (Some (Came start piece)) s i) acts m → Last (said moment) is_asked m v
      → KeptAlong (KeeperActs g (doors_at moment)) old (talk (Some (Came start piece)) s i) states (acts ++ v ∷ []) new → TalkReads s v
  course-reads old new s i [] m v [] ready sure each last kept = absurd kept
  course-reads old new s i [] m v (k ∷ ks) ready sure each last kept = first-reads old k s i v ready sure kept.0
  course-reads old new s i (x ∷ xs) m v [] ready sure each last kept = absurd kept
  course-reads old new s i (x ∷ xs) m v (k ∷ ks) ready sure each last kept =
      let before = requests-read moment s x xs m each.1 (first-reads old k s i x ready sure kept.0) in
      step-reads moment s last.before m v last.step.held last.step.acts before

  -- A piece.
  piece-reads : (c : ℕ) (old new : K) (w v : NodeState) (passed : List LastKnown) → g.ready old ≡ true → w.standing.in_doubt ≡ None → PieceKept (ActsAlong g) moment c start piece old w passed new v → v.standing ≡ w.standing
  piece-reads c old new w v passed ready sure kept =
      (course-reads old new w.standing (outside_at c w.out) kept.course.acts kept.course.before (talk kept.held v.standing (outside_at c v.out)) kept.course.states ready sure kept.course.each kept.course.last kept.course.kept).after

  -- The keeper stays ready.
  piece-ready : (old new : K) → ReadsAt g moment start piece old new → g.ready new ≡ true
  piece-ready old new came = by start reads came
    where
      by : (at : Session) → reads_only at ≡ true → ReadsAt g moment at piece old new → g.ready new ≡ true
      by (session.Control bytes) only is = absurd (false≢true only)
      by (session.News reader) only is = is.0
      by (session.Pop client) only is = is.0
      by (session.Http bytes) only is = is.0
      by (session.Lmtp guest) only is = absurd (false≢true only)
      by (session.Imap client) only is = is.0

-- The same of a piece that came to a connection.
module _ {K : Type 0} (g : Keeper K) (moment c : ℕ) (piece : List ℕ) (old new : K) (w v : NodeState) (passed : List LastKnown) where
  pub came-stands : (o : Option Session) → reads_only_if o ≡ true → g.ready old ≡ true → w.standing.in_doubt ≡ None → CameTo o moment c piece w passed v → CameKept (ActsAlong g) o moment c piece old w passed new v → v.standing ≡ w.standing
  came-stands None reads ready sure came kept = came.0.standing
  came-stands (Some start) reads ready sure came kept = piece-reads g moment start piece reads c old new w v passed ready sure kept

  pub came-ready : (o : Option Session) → reads_only_if o ≡ true → g.ready old ≡ true → ReadsCame g moment o piece old new → CameKept (ActsAlong g) o moment c piece old w passed new v → g.ready new ≡ true
  came-ready None reads ready came kept = ap g.ready kept ∙ ready
  came-ready (Some start) reads ready came kept = piece-ready g moment start piece reads old new (came ready)
