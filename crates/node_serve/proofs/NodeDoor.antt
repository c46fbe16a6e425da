-- The laws of all doors as one: a piece that comes to a session may be cut anywhere.
use Rattle.std.proofs.Common.{◌≡◌, ◌⊎◌, ◌<◌, ◌∙◌, inl, inr, ℕ, Bool, true, false, List, [], ◌++◌, length, Option, Some, None, refl, sym, ap, subst, append_assoc, arith}
use Rattle.std.proofs.lemmas.Bool.{false≢true}
use Rattle.line_door.specs.Acts.{Said, Departure, Plain, Memory, Disk, Newer}
use Rattle.line_door.specs.Clipped.{longest_line}
use Rattle.line_door.specs.Cuts.{CutDoor, DoorLaws, said_with, more_of}
use Rattle.line_door.specs.Making.{says}
use Rattle.line_door.specs.Over.{held_over, said_over}
use Rattle.line_door.specs.Plain.{silent}
use Rattle.line_door.specs.Readers.{LineReader, LineReply}
use Rattle.line_door.specs.Readers as readers
use Rattle.line_door.proofs.Cutting.{door_laws}
use Rattle.line_door.proofs.Reading.{reader-cuts}
use Rattle.arch_model.specs.Archives.{Archive}
use Rattle.arch_model.specs.Standing.{LastKnown, standing}
use Rattle.arch_model.specs.declared.opening.OpenRefusal.{OpenRefusal}
use Rattle.keep_course.specs.Answering.{said_reopening}
use Rattle.control_door.specs.Door as control
use Rattle.control_door.specs.Door.{Waiting, waiting}
use Rattle.control_door.proofs.Doors.{control_cuts}
use Rattle.nntp_reader.specs.Door.{Reader}
use Rattle.nntp_reader.specs.Replies as news_replies
use Rattle.pop3_reader.specs.Door as pop
use Rattle.pop3_reader.specs.Door.{PopClient}
use Rattle.pop3_reader.specs.Replies.{line_answered, too_long}
use Rattle.http_front.specs.Door as pages
use Rattle.http_front.proofs.Doors.{http_cuts}
use Rattle.lmtp_door.specs.Door as mail
use Rattle.lmtp_door.specs.Door.{Guest}
use Rattle.lmtp_door.proofs.Cutting.{lmtp-cuts}
use Rattle.imap_framer.specs.Doors.{framed_more, framed_size}
use Rattle.imap_session.specs.Door as imap
use Rattle.imap_session.specs.Door.{ImapClient}
use Rattle.imap_session.proofs.Idle.{imap_door_cuts}
use Rattle.node_serve.specs.Doors.{SessionAtWork, Came, AtControl, AtNews, AtPop, AtHttp, AtLmtp, AtImap, more_bytes, at_door, with_piece, unopened_words, said_reading, said, is_asked}
use Rattle.node_serve.specs.Plain.{size_of}
use Rattle.node_serve.specs.declared.session.Session.{Session}
use Rattle.node_serve.specs.declared.session.Session.TheVariants as session

-- A reopening leaves the bytes.
opening-more : (line : OpenRefusal → List ℕ) (s : LastKnown) (h k : SessionAtWork) (q : List ℕ) (way : Departure) → k ≡ more_bytes q h → said_reopening line s k way ≡ said_with (more_bytes q) (said_reopening line s h way)
opening-more line s h k q Plain is = ap (λ (x : SessionAtWork). says (standing s.archive None) x []) is
opening-more line s h k q Memory is = refl
opening-more line s h k q Disk is = refl
opening-more line s h k q Newer is = ap (λ (x : SessionAtWork). said_reopening line s x Newer) is

-- A door's words over the sessions of all doors.
module _ {H A : Type 0} (state : A → LastKnown) (into : H → SessionAtWork) where
  over-next : (more : H → H) (q : List ℕ) (o : Option H) → ((h : H) → into (more h) ≡ more_bytes q (into h)) → held_over into (more_of more o) ≡ more_of (more_bytes q) (held_over into o)
  over-next more q None same = refl
  over-next more q (Some h) same = ap Some (same h)

  over-more : (more : H → H) (q : List ℕ) (s : Said H A) → ((h : H) → into (more h) ≡ more_bytes q (into h)) → said_over state into (said_with more s) ≡ said_with (more_bytes q) (said_over state into s)
  over-more more q s same = ap (λ (o : Option SessionAtWork). record { next = o; words = s.words; streamed = s.streamed; after = state s.after }) (over-next more q s.next same)

  over-some : (o : Option H) (k : SessionAtWork) → held_over into o ≡ Some k → (h : H) × (o ≡ Some h) × (into h ≡ k)
  over-some None k e = absurd (cc e)
  over-some (Some h) k e = (h, refl, cc)

  over-none : (o : Option H) → o ≡ None → held_over into o ≡ None
  over-none o e = ap (held_over into) e

-- The laws of cuts, at one session of the node.
record CutAt (moment : ℕ) (h : SessionAtWork) : Type 0 where
  stays : (q : List ℕ) → is_asked h ≡ true → is_asked (more_bytes q h) ≡ true
  says_more : (q : List ℕ) (s : LastKnown) (way : Departure) → is_asked h ≡ true → said moment s (more_bytes q h) way ≡ said_with (more_bytes q) (said moment s h way)
  says_none : (s : LastKnown) → is_asked h ≡ false → said moment s h Plain ≡ silent s h
  keeps : (s : LastKnown) (way : Departure) → is_asked h ≡ false → ((said moment s h way).next ≡ None) ⊎ (said moment s h way ≡ silent s h)
  joins : (p q : List ℕ) → more_bytes q (more_bytes p h) ≡ more_bytes (p ++ q) h
  smaller : (s : LastKnown) (k : SessionAtWork) → is_asked h ≡ true → (said moment s h Plain).next ≡ Some k → size_of k < size_of h

-- The sessions of a door among those of all doors: what it reads and changes, and its own laws of cuts.
module _ {H A : Type 0} (moment : ℕ) (into : H → SessionAtWork) (part : LastKnown → A) (state : LastKnown → A → LastKnown) (door_said : A → H → Departure → Said H A) (has_request : H → Bool) (more : List ℕ → H → H) (left : H → ℕ)
    (says_is : (s : LastKnown) (h : H) (way : Departure) → said moment s (into h) way ≡ said_over (state s) into (door_said (part s) h way)) (asked_is : (h : H) → is_asked (into h) ≡ has_request h) (more_is : (q : List ℕ) (h : H) → more_bytes q (into h) ≡ into (more q h)) (size_is : (h : H) → size_of (into h) ≡ left h) (same : (s : LastKnown) → state s (part s) ≡ s)
    (cuts : CutDoor door_said has_request more left) where
  asked-at : (h : H) (t : Bool) → is_asked (into h) ≡ t → has_request h ≡ t
  asked-at h t asked = sym (asked_is h) ∙ asked

  silent-at : (s : LastKnown) (h : H) → said_over (state s) into (silent (part s) h) ≡ silent s (into h)
  silent-at s h = ap (λ (t : LastKnown). silent t (into h)) (same s)

  more-at : (q : List ℕ) (s : LastKnown) (h : H) (way : Departure) → has_request h ≡ true → said moment s (more_bytes q (into h)) way ≡ said_with (more_bytes q) (said moment s (into h) way)
  more-at q s h way asked =
      ap (λ (x : SessionAtWork). said moment s x way) (more_is q h)
      ∙ says_is s (more q h) way
      ∙ ap (λ (x : Said H A). said_over (state s) into x) (cuts.said_stays q (part s) h way asked)
      ∙ over-more (state s) into (more q) q (door_said (part s) h way) (λ k. sym (more_is q k))
      ∙ sym (ap (λ (x : Said SessionAtWork LastKnown). said_with (more_bytes q) x) (says_is s h way))

  kept-at : (s : LastKnown) (h : H) (way : Departure) → has_request h ≡ false → ((said moment s (into h) way).next ≡ None) ⊎ (said moment s (into h) way ≡ silent s (into h))
  kept-at s h way none = elim (cuts.rest_kept (part s) h way none) [
    | inl shut ↦ inl (ap (λ (x : Said SessionAtWork LastKnown). x.next) (says_is s h way) ∙ ap (held_over into) shut)
    | inr kept ↦ inr (says_is s h way ∙ ap (λ (x : Said H A). said_over (state s) into x) kept ∙ silent-at s h)
  ]

  smaller-at : (s : LastKnown) (h : H) (k : SessionAtWork) → has_request h ≡ true → (said moment s (into h) Plain).next ≡ Some k → size_of k < size_of (into h)
  smaller-at s h k asked next =
      let some = over-some (state s) into (door_said (part s) h Plain).next k (sym (ap (λ (x : Said SessionAtWork LastKnown). x.next) (says_is s h Plain)) ∙ next) in
      let less = cuts.shorter (part s) h some.0 asked some.1 in
      subst (λ (x : SessionAtWork). size_of x < size_of (into h)) some.2 (rw (size_is some.0, size_is h) less)

  cut-into : (h : H) → CutAt moment (into h)
  cut-into h = record {
    stays = λ q asked. ap is_asked (more_is q h) ∙ asked_is (more q h) ∙ cuts.request_stays q h (asked-at h true asked);
    says_more = λ q s way asked. more-at q s h way (asked-at h true asked);
    says_none = λ s none. says_is s h Plain ∙ ap (λ (x : Said H A). said_over (state s) into x) (cuts.rest_plain (part s) h (asked-at h false none)) ∙ silent-at s h;
    keeps = λ s way none. kept-at s h way (asked-at h false none);
    joins = λ p q. ap (more_bytes q) (more_is p h) ∙ more_is q (more p h) ∙ ap into (cuts.more_joined p q h) ∙ sym (more_is (p ++ q) h);
    smaller = λ s k asked next. smaller-at s h k (asked-at h true asked) next;
  }

-- Each door's sessions.
reading-at : {H : Type 0} (moment : ℕ) (into : H → SessionAtWork) (door_said : Archive → H → Departure → Said H Archive) (has_request : H → Bool) (more : List ℕ → H → H) (left : H → ℕ) → ((s : LastKnown) (h : H) (way : Departure) → said moment s (into h) way ≡ said_reading door_said into s h way)
    → ((h : H) → is_asked (into h) ≡ has_request h) → ((q : List ℕ) (h : H) → more_bytes q (into h) ≡ into (more q h)) → ((h : H) → size_of (into h) ≡ left h) → CutDoor door_said has_request more left → (h : H) → CutAt moment (into h)
reading-at moment into door_said has_request more left says_is asked_is more_is size_is cuts h =
    cut-into moment into (λ (s : LastKnown). s.archive) (λ (s : LastKnown) (a : Archive). standing a s.in_doubt) door_said has_request more left says_is asked_is more_is size_is (λ s. refl) cuts h

control-at : (moment : ℕ) (w : Waiting) → CutAt moment (AtControl w)
control-at moment w = cut-into moment AtControl (λ (s : LastKnown). s) (λ (s t : LastKnown). t) (control.said moment) control.has_request control.with_piece control.left (λ s h way. refl) (λ h. refl) (λ q h. refl) (λ h. refl) (λ s. refl) (control_cuts moment) w

lines-at : {S : Type 0} (moment limit : ℕ) (into : LineReader S → SessionAtWork) (answered : Archive → S → List ℕ → Departure → LineReply S Archive) (too_long : Archive → S → LineReply S Archive) → ((s : LastKnown) (h : LineReader S) (way : Departure) → said moment s (into h) way ≡ said_reading (readers.said limit answered too_long) into s h way)
    → ((h : LineReader S) → is_asked (into h) ≡ readers.has_request limit h) → ((q : List ℕ) (h : LineReader S) → more_bytes q (into h) ≡ into (readers.with_piece limit q h)) → ((h : LineReader S) → size_of (into h) ≡ readers.left h) → (h : LineReader S) → CutAt moment (into h)
lines-at moment limit into answered too_long says_is asked_is more_is size_is h = reading-at moment into (readers.said limit answered too_long) (readers.has_request limit) (readers.with_piece limit) readers.left says_is asked_is more_is size_is (reader-cuts limit answered too_long) h

news-at : (moment : ℕ) (reader : Reader) → CutAt moment (AtNews reader)
news-at moment reader = lines-at moment longest_line AtNews (news_replies.line_answered moment) news_replies.too_long (λ s h way. refl) (λ h. refl) (λ q h. refl) (λ h. refl) reader

pop-at : (moment : ℕ) (client : PopClient) → CutAt moment (AtPop client)
pop-at moment client = lines-at moment pop.line_limit AtPop line_answered too_long (λ s h way. refl) (λ h. refl) (λ q h. refl) (λ h. refl) client

http-at : (moment : ℕ) (bytes : List ℕ) → CutAt moment (AtHttp bytes)
http-at moment bytes = reading-at moment AtHttp (pages.said moment) pages.has_request pages.with_piece (λ (b : List ℕ). length b) (λ s h way. refl) (λ h. refl) (λ q h. refl) (λ h. refl) (http_cuts moment) bytes

mail-at : (moment : ℕ) (guest : Guest) → CutAt moment (AtLmtp guest)
mail-at moment guest = cut-into moment AtLmtp (λ (s : LastKnown). s) (λ (s t : LastKnown). t) (mail.said moment) mail.has_request mail.with_piece mail.size_of (λ s h way. refl) (λ h. refl) (λ q h. refl) (λ h. refl) (λ s. refl) (lmtp-cuts moment) guest

imap-at : (moment : ℕ) (client : ImapClient) → CutAt moment (AtImap client)
imap-at moment client = reading-at moment AtImap imap.said imap.has_request framed_more framed_size (λ s h way. refl) (λ h. refl) (λ q h. refl) (λ h. refl) imap_door_cuts client

-- At the door itself.
at-door : (moment : ℕ) (start : Session) → CutAt moment (at_door start)
at-door moment (session.Control bytes) = control-at moment (waiting bytes true)
at-door moment (session.News reader) = news-at moment reader
at-door moment (session.Pop client) = pop-at moment client
at-door moment (session.Http bytes) = http-at moment bytes
at-door moment (session.Lmtp guest) = mail-at moment (mail.opened_guest guest)
at-door moment (session.Imap client) = imap-at moment client

opened-smaller : (start : Session) (piece : List ℕ) → size_of (with_piece start piece) < size_of (Came start piece)
opened-smaller (session.Control bytes) piece = omega arith
opened-smaller (session.News reader) piece = omega arith
opened-smaller (session.Pop client) piece = omega arith
opened-smaller (session.Http bytes) piece = omega arith
opened-smaller (session.Lmtp guest) piece = omega arith
opened-smaller (session.Imap client) piece = omega arith

-- Before a piece.
came-at : (moment : ℕ) (start : Session) (piece : List ℕ) → CutAt moment (Came start piece)
came-at moment start piece = record {
  stays = λ q asked. refl;
  says_more = λ q s way asked. opening-more (unopened_words moment start) s (with_piece start piece) (with_piece start (piece ++ q)) q way (sym ((at-door moment start).joins piece q));
  says_none = λ s none. absurd (false≢true (sym none));
  keeps = λ s way none. absurd (false≢true (sym none));
  joins = λ p q. ap (Came start) (append_assoc piece p q);
  smaller = λ s k asked next.
      let same : with_piece start piece ≡ k = cc in
      subst (λ (x : SessionAtWork). size_of x < size_of (Came start piece)) same (opened-smaller start piece);
}

cut-at : (moment : ℕ) (h : SessionAtWork) → CutAt moment h
cut-at moment (Came start piece) = came-at moment start piece
cut-at moment (AtControl w) = control-at moment w
cut-at moment (AtNews reader) = news-at moment reader
cut-at moment (AtPop client) = pop-at moment client
cut-at moment (AtHttp bytes) = http-at moment bytes
cut-at moment (AtLmtp guest) = mail-at moment guest
cut-at moment (AtImap client) = imap-at moment client

pub node_cuts : (moment : ℕ) → CutDoor (said moment) is_asked more_bytes size_of
node_cuts moment = record {
  request_stays = λ q h asked. (cut-at moment h).stays q asked;
  said_stays = λ q s h way asked. (cut-at moment h).says_more q s way asked;
  rest_plain = λ s h none. (cut-at moment h).says_none s none;
  rest_kept = λ s h way none. (cut-at moment h).keeps s way none;
  more_joined = λ p q h. (cut-at moment h).joins p q;
  shorter = λ s h k asked next. (cut-at moment h).smaller s k asked next;
}

pub node_laws : (moment : ℕ) → DoorLaws (said moment) is_asked more_bytes size_of
node_laws moment = door_laws (said moment) is_asked more_bytes size_of (node_cuts moment)
