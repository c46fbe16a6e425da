-- How archives stand after an act, for any relation that each archive has to itself and to what a command leaves of it.
use Rattle.std.proofs.Common.{◌≡◌, ◌||◌, ◌⊎◌, ℕ, zero, suc, Bool, true, false, nat_lt, List, [], ◌∷◌, Option, Some, None, refl, sym, ap, subst, ◌∙◌, inl, inr, if◌then◌else◌}
use Rattle.edge_io.specs.declared.events.Door.{Door}
use Rattle.line_door.specs.Acts.{ConnectionState, Said, Departure, Plain, Memory, Disk, Newer, StopsShort, Sent, Acts}
use Rattle.line_door.specs.Clipped.{longest_line}
use Rattle.line_door.specs.Plain.{silent}
use Rattle.line_door.specs.Skipping.{skipping_front}
use Rattle.arch_model.specs.Archives.{Archive}
use Rattle.arch_model.specs.Delivery.{delivered, removed, purged, edited, applied}
use Rattle.arch_model.specs.Standing.{LastKnown, standing, unsure_of, unsure}
use Rattle.arch_model.specs.declared.command.Command.{Command}
use Rattle.arch_model.specs.declared.command.Command.TheVariants as command
use Rattle.arch_model.specs.declared.opening.OpenRefusal.{OpenRefusal}
use Rattle.answer_lines.specs.Lines as lines
use Rattle.keep_course.specs.Answering.{newer_of, said_reopening}
use Rattle.control_door.specs.Door as control
use Rattle.control_door.specs.Door.{Waiting}
use Rattle.control_door.specs.Requests.{Request, Delivers, Shows, Removes, Purges, Edits, Threads, Lists, Reindexes, Quits, Mistakes, Exceeds, Ahead, Asked, Unfinished, ahead}
use Rattle.http_front.proofs.Staying.{archive-stays}
use Rattle.shelf_doors.proofs.Acting.{ways-after, said-after}
use Rattle.nntp_reader.specs.Commands as orders
use Rattle.nntp_reader.specs.Dates.{year_at}
use Rattle.nntp_reader.specs.Door as news
use Rattle.nntp_reader.specs.Door.{Reader}
use Rattle.nntp_reader.specs.Notices.{refused_code as news_code}
use Rattle.nntp_reader.specs.Replies as replies
use Rattle.pop3_reader.specs.Commands.{command_of}
use Rattle.pop3_reader.specs.Door as mail
use Rattle.pop3_reader.specs.Door.{PopClient, line_limit}
use Rattle.pop3_reader.specs.Notices.{refused_code}
use Rattle.pop3_reader.specs.Replies.{answered, takes_maildrop, reads_text, line_answered, too_long}
use Rattle.lmtp_data.specs.Readings.{data_limit}
use Rattle.lmtp_door.specs.Door as lmtp
use Rattle.lmtp_door.specs.Door.{Guest, LmtpFront, Commanded, Overlong, DataEnds, GivesTo, NotYet}
use Rattle.imap_framer.specs.Framing.{PartFront, LastPart, LiteralPart, ExcessPart, OpenPart, front_of}
use Rattle.imap_framer.specs.Doors.{beside, said_at}
use Rattle.imap_states.specs.Replies.{ImapReply, idle_ended, untagged_ways, update_said}
use Rattle.imap_states.specs.States.{idles}
use Rattle.imap_states.specs.declared.state.ImapState.{ImapState}
use Rattle.imap_commands.proofs.Leaving.{laws_hold}
use Rattle.imap_session.specs.Door as imap
use Rattle.imap_session.specs.Door.{ImapClient, takes_literals, is_done}
use Rattle.node_serve.specs.Doors.{SessionAtWork, Came, AtControl, AtNews, AtPop, AtHttp, AtLmtp, AtImap, said, unopened_words, with_piece, session_limit, greets, said_making}
use Rattle.node_serve.specs.Updates.{said_update, connection_limit, EachBelow, IfIdles, UpdateAct, UpdateBy, UpdateAt, any_idles, reopening, ReopenedFor, EachIf, UpdatedIf, UpdatedUnless}
use Rattle.node_serve.specs.Updates as updates
use Rattle.node_serve.specs.World.{NodeState}
use Rattle.node_serve.specs.declared.session.Session.{Session}
use Rattle.node_serve.specs.declared.session.Session.TheVariants as session

-- What stands after an act that leaves what requests read and change.
pub acts-after : {H A : Type 0} (words : Departure → Said H A) (x : A) (i : ConnectionState) (held : Option H) (a : A) (j : ConnectionState) → ((way : Departure) → (words way).after ≡ x) → Acts words i held a j → a ≡ x
acts-after words x i held a j same acts = by acts.way acts.sent
  where
    stops : (way : Departure) → StopsShort words way i held a j → a ≡ x
    stops Plain never = absurd never
    stops Memory s = s.after_is ∙ same Plain
    stops Disk s = s.after_is ∙ same Plain
    stops Newer never = absurd never

    by : (way : Departure) → Sent words way i held a j → a ≡ x
    by way (inl s) = s.after_is ∙ same way
    by way (inr (inl s)) = s.after_is ∙ same way
    by way (inr (inr s)) = stops way s

pick-after : {H A : Type 0} (t : Bool) (x y : Said H A) (a : A) → x.after ≡ a → y.after ≡ a → (if t then x else y).after ≡ a
pick-after true x y a p q = p
pick-after false x y a p q = q

-- The making of a session leaves what stands.
pub making-after : (moment : ℕ) (at : Door) (n : ℕ) (s : LastKnown) (way : Departure) → (said_making moment at n s way).after ≡ s
making-after moment at n s Plain = pick-after (nat_lt n session_limit) (greets at s) _ s refl refl
making-after moment at n s Memory = pick-after (nat_lt n session_limit) _ _ s refl refl
making-after moment at n s Disk = pick-after (nat_lt n session_limit) (greets at s) _ s refl refl
making-after moment at n s Newer = pick-after (nat_lt n session_limit) (greets at s) _ s refl refl

-- No reading door of lines changes the archive.
pub mail-after : (a : Archive) (client : PopClient) (way : Departure) → (mail.said a client way).after ≡ a
mail-after a client way =
    said-after line_limit line_answered too_long (λ a s line way. ways-after refused_code a s (takes_maildrop a s (command_of line) || reads_text a s (command_of line)) (reads_text a s (command_of line)) (answered a s (command_of line)) way) (λ a s. refl)
    a client (skipping_front line_limit client.bytes) way

pub read-after : (moment : ℕ) (a : Archive) (r : Reader) (way : Departure) → (news.said moment a r way).after ≡ a
read-after moment a r way =
    said-after longest_line (replies.line_answered moment) replies.too_long (λ a g line way. ways-after news_code a g (replies.reads_text a g (orders.command_of (year_at moment) line)) (replies.reads_text a g (orders.command_of (year_at moment) line)) (replies.answered moment a g (orders.command_of (year_at moment) line)) way) (λ a g. refl)
    a r (skipping_front longest_line r.bytes) way

-- Nor does the door of IMAP.

untagged-after : (a : Archive) (reply : ImapReply) (way : Departure) → reply.after ≡ a → (untagged_ways a reply way).after ≡ a
untagged-after a reply Plain kept = kept
untagged-after a reply Memory kept = refl
untagged-after a reply Disk kept = kept
untagged-after a reply Newer kept = kept

whole-after : (a : Archive) (s : ImapState) (o : Option (List ℕ)) (octets : List ℕ) (way : Departure) → (imap.answered_by a s o octets way).after ≡ a
whole-after a s None octets way = laws_hold.stays a s octets way
whole-after a s (Some tag) octets way = untagged-after a (idle_ended a s tag (is_done octets)) way refl

rest-after : (a : Archive) (h : ImapClient) (way : Departure) → (said_at takes_literals imap.answered imap.go_on (imap.excess_words way) imap.rest_words a h OpenPart way).after ≡ a
rest-after a h Plain = refl
rest-after a h Memory = refl
rest-after a h Disk = refl
rest-after a h Newer = refl

part-after : (a : Archive) (h : ImapClient) (f : PartFront) (way : Departure) → (said_at takes_literals imap.answered imap.go_on (imap.excess_words way) imap.rest_words a h f way).after ≡ a
part-after a h (LastPart part rest) way = whole-after a h.0 h.0.idle _ way
part-after a h (LiteralPart part n rest) way = untagged-after a _ way refl
part-after a h (ExcessPart rest) way = refl
part-after a h OpenPart way = rest-after a h way

pub imap-after : (a : Archive) (client : ImapClient) (way : Departure) → (imap.said a client way).after ≡ a
imap-after a client way = part-after a client (front_of (takes_literals client.0) client.1) way

-- No update changes the archive.

told-after : (a : Archive) (client : ImapClient) (t : Bool) (way : Departure) → (if t then beside client.1 (update_said a client.0 way) else silent a client).after ≡ a
told-after a client true way = untagged-after a _ way refl
told-after a client false way = refl

pub update-after : (s : LastKnown) (start : Session) (way : Departure) → (said_update s start way).after ≡ s
update-after s (session.Control bytes) way = refl
update-after s (session.News reader) way = refl
update-after s (session.Pop client) way = refl
update-after s (session.Http bytes) way = refl
update-after s (session.Lmtp guest) way = refl
update-after s (session.Imap client) way = ap (λ (a : Archive). standing a s.in_doubt) (told-after s.archive client (idles client.0) way)

-- Updates leave what stands.

pub update-stands : (c : ℕ) (w v : NodeState) (o : Option Session) → UpdateBy o c w v → v.standing ≡ w.standing
update-stands c w v None same = ap (λ (x : NodeState). x.standing) same
update-stands c w v (Some start) updated = by (updates.idles start) updated
  where
    by : (t : Bool) → IfIdles t (UpdateAct start c w v) w v → v.standing ≡ w.standing
    by true act = acts-after (said_update w.standing start) w.standing _ _ v.standing _ (λ way. update-after w.standing start way) act.0.acts
    by false same = ap (λ (x : NodeState). x.standing) same

pub updates-stand : (n : ℕ) (w v : NodeState) → EachBelow UpdateAt n w v → v.standing ≡ w.standing
updates-stand zero w v same = ap (λ (x : NodeState). x.standing) same
updates-stand (suc n) w v each = update-stands n each.0 v (each.0.session n) each.2 ∙ updates-stand n w each.0 each.1

-- After all updates of an event stands what stood before them, or what the reopening before them left.

each-stand : (opened : Bool) (w v : NodeState) → EachIf opened w v → v.standing ≡ w.standing
each-stand true w v each = updates-stand connection_limit w v each
each-stand false w v same = ap (λ (x : NodeState). x.standing) same

abbrev pub UpdatesLeave : LastKnown → List LastKnown → LastKnown → Type 0
UpdatesLeave s reopened t = ((t ≡ s) × (reopened ≡ [])) ⊎ ((way : Departure) × (t ≡ (reopening s way).after) × (reopened ≡ t ∷ []))

through-stands : (idle : Bool) (w : NodeState) (reopened : List LastKnown) (v : NodeState) → UpdatedIf idle w reopened v → UpdatesLeave w.standing reopened v.standing
through-stands true w reopened v updated =
    let same : v.standing ≡ updated.refreshed.standing = each-stand updated.opened updated.refreshed v updated.each in
    let left : updated.refreshed.standing ≡ (reopening w.standing updated.reopening_is.way).after = ap (λ (x : NodeState). x.standing) updated.reopening_is.world_is in
    inr (updated.reopening_is.way, same ∙ left, updated.reopened_is ∙ ap (λ (s : LastKnown). s ∷ []) (sym same))
through-stands false w reopened v updated = inl (ap (λ (x : NodeState). x.standing) updated.0, updated.1)

pub updated-stands : (stops : Bool) (w : NodeState) (reopened : List LastKnown) (v : NodeState) → UpdatedUnless stops w reopened v → UpdatesLeave w.standing reopened v.standing
updated-stands true w reopened v updated = inl (ap (λ (x : NodeState). x.standing) updated.0, updated.1)
updated-stands false w reopened v updated = through-stands (any_idles w.session) w reopened v updated

-- What is later than an archive.
module _ (R : Archive → Archive → Type 0) where
  -- So is the archive in doubt, if there is one.
  abbrev pub DoubtLater : LastKnown → Type 0
  DoubtLater s = (b : Archive) → s.in_doubt ≡ Some b → R s.archive b

  -- The archive that stands is later than this one, and the one in doubt than it.
  pub record LaterIn (a : Archive) (s : LastKnown) : Type 0 where
    pub archive : R a s.archive
    pub in_doubt : (b : Archive) → s.in_doubt ≡ Some b → R s.archive b

-- A relation that each archive has to itself, and to what each command at a moment leaves of it.
module _ (R : Archive → Archive → Type 0) (itself : (a : Archive) → R a a) (moment : ℕ) (commands : (a : Archive) (command : Command) → R a (applied a command moment).archive) where
  -- Nothing changed.
  pub stays : (s : LastKnown) → DoubtLater R s → LaterIn R s.archive s
  stays s kept = record { archive = itself s.archive; in_doubt = kept }

  -- Nothing is in doubt.
  pub sure : (a b : Archive) → R a b → LaterIn R a (standing b None)
  sure a b later = record { archive = later; in_doubt = λ x is. absurd (cc is) }

  -- A command is in doubt.
  pub doubts : (a b : Archive) → R a b → LaterIn R a (standing a (Some b))
  doubts a b later = record { archive = itself a; in_doubt = λ x is. subst (λ (y : Archive). R a y) (cc is) later }

  -- Nothing changed, but that nothing is in doubt isn't said any more.
  unsure-later : (a : Archive) (d : Option Archive) → ((b : Archive) → d ≡ Some b → R a b) → LaterIn R a (unsure_of a d)
  unsure-later a None kept = doubts a a (itself a)
  unsure-later a (Some b) kept = doubts a b (kept b refl)

  pub unsure-stays : (s : LastKnown) → DoubtLater R s → LaterIn R s.archive (unsure s)
  unsure-stays s kept = unsure-later s.archive s.in_doubt kept

  -- Commands.
  with-message : (a : Archive) (message : List ℕ) → R a (delivered a message moment).archive
  with-message a message = commands a (command.Deliver (record { ref_ptr = (0, 0); now = message }))

  without : (a : Archive) (number : ℕ) → R a (removed a number moment).archive
  without a number = commands a (command.Remove number)

  without-text : (a : Archive) (number : ℕ) → R a (purged a number).archive
  without-text a number = commands a (command.Purge number)

  with-edit : (a : Archive) (number : ℕ) (message : List ℕ) → R a (edited a number message moment).archive
  with-edit a number message = commands a (command.Edit number (record { ref_ptr = (0, 0); now = message }))

  newer-later : (a : Archive) (d : Option Archive) → ((b : Archive) → d ≡ Some b → R a b) → R a (newer_of a d)
  newer-later a None kept = itself a
  newer-later a (Some b) kept = kept b refl

  -- Reopening.
  pub reopened : {H : Type 0} (words : OpenRefusal → List ℕ) (s : LastKnown) (h : H) (way : Departure) → DoubtLater R s → LaterIn R s.archive (said_reopening words s h way).after
  reopened words s h Plain kept = sure s.archive s.archive (itself s.archive)
  reopened words s h Newer kept = sure s.archive (newer_of s.archive s.in_doubt) (newer-later s.archive s.in_doubt kept)
  reopened words s h Memory kept = stays s kept
  reopened words s h Disk kept = unsure-stays s kept

  -- The control door.
  answers : (s : LastKnown) (request : Request) (rest : List ℕ) → DoubtLater R s → LaterIn R s.archive (control.answered moment s request rest).after
  answers s (Delivers message) rest kept = sure s.archive _ (with-message s.archive message)
  answers s (Shows number) rest kept = stays s kept
  answers s (Removes number) rest kept = sure s.archive _ (without s.archive number)
  answers s (Purges number) rest kept = sure s.archive _ (without-text s.archive number)
  answers s (Edits number message) rest kept = sure s.archive _ (with-edit s.archive number message)
  answers s (Threads number) rest kept = stays s kept
  answers s Lists rest kept = stays s kept
  answers s Reindexes rest kept = stays s kept
  answers s Quits rest kept = stays s kept
  answers s Mistakes rest kept = stays s kept
  answers s Exceeds rest kept = stays s kept

  starves : (s : LastKnown) (request : Request) (rest : List ℕ) → DoubtLater R s → LaterIn R s.archive (control.refused_memory moment s request rest).after
  starves s (Delivers message) rest kept = stays s kept
  starves s (Shows number) rest kept = stays s kept
  starves s (Removes number) rest kept = stays s kept
  starves s (Purges number) rest kept = stays s kept
  starves s (Edits number message) rest kept = stays s kept
  starves s (Threads number) rest kept = stays s kept
  starves s Lists rest kept = stays s kept
  starves s Reindexes rest kept = stays s kept
  starves s Quits rest kept = stays s kept
  starves s Mistakes rest kept = stays s kept
  starves s Exceeds rest kept = stays s kept

  fails : (s : LastKnown) (request : Request) (rest : List ℕ) → DoubtLater R s → LaterIn R s.archive (control.refused_disk moment s request rest).after
  fails s (Delivers message) rest kept = doubts s.archive _ (with-message s.archive message)
  fails s (Shows number) rest kept = stays s kept
  fails s (Removes number) rest kept = doubts s.archive _ (without s.archive number)
  fails s (Purges number) rest kept = doubts s.archive _ (without-text s.archive number)
  fails s (Edits number message) rest kept = doubts s.archive _ (with-edit s.archive number message)
  fails s (Threads number) rest kept = stays s kept
  fails s Lists rest kept = stays s kept
  fails s Reindexes rest kept = unsure-stays s kept
  fails s Quits rest kept = stays s kept
  fails s Mistakes rest kept = stays s kept
  fails s Exceeds rest kept = stays s kept

  asked-later : (opened : Bool) (s : LastKnown) (bytes : List ℕ) (request : Request) (rest : List ℕ) (way : Departure) → DoubtLater R s → LaterIn R s.archive (control.said_asked opened moment s bytes request rest way).after
  asked-later false s bytes request rest way kept = reopened lines.unopened_words s (control.waiting bytes true) way kept
  asked-later true s bytes request rest Plain kept = answers s request rest kept
  asked-later true s bytes request rest Memory kept = starves s request rest kept
  asked-later true s bytes request rest Disk kept = fails s request rest kept
  asked-later true s bytes request rest Newer kept = answers s request rest kept

  unkept-later : (s : LastKnown) (w : Waiting) (bytes : List ℕ) → DoubtLater R s → LaterIn R s.archive (control.unkept s w bytes).after
  unkept-later s w [] kept = stays s kept
  unkept-later s w (byte ∷ bytes) kept = stays s kept

  front-later : (s : LastKnown) (w : Waiting) (front : Ahead) (way : Departure) → DoubtLater R s → LaterIn R s.archive (control.said_at moment s w front way).after
  front-later s w (Asked request rest) way kept = asked-later w.opened s w.bytes request rest way kept
  front-later s w Unfinished Plain kept = stays s kept
  front-later s w Unfinished Memory kept = unkept-later s w w.bytes kept
  front-later s w Unfinished Disk kept = stays s kept
  front-later s w Unfinished Newer kept = stays s kept

  -- The door of LMTP.
  opening-later : (s : LastKnown) (ready next : Guest) (way : Departure) → DoubtLater R s → LaterIn R s.archive (lmtp.said_opening s ready next way).after
  opening-later s ready next Plain kept = sure s.archive s.archive (itself s.archive)
  opening-later s ready next Newer kept = sure s.archive (newer_of s.archive s.in_doubt) (newer-later s.archive s.in_doubt kept)
  opening-later s ready next Memory kept = stays s kept
  opening-later s ready next Disk kept = unsure-stays s kept

  giving-later : (s : LastKnown) (text : List ℕ) (next : Guest) (way : Departure) → DoubtLater R s → LaterIn R s.archive (lmtp.said_giving moment s text next way).after
  giving-later s text next Plain kept = sure s.archive _ (with-message s.archive text)
  giving-later s text next Newer kept = sure s.archive _ (with-message s.archive text)
  giving-later s text next Memory kept = stays s kept
  giving-later s text next Disk kept = doubts s.archive _ (with-message s.archive text)

  one-later : (too opened : Bool) (s : LastKnown) (n : ℕ) (text : List ℕ) (count : ℕ) (rest : List ℕ) (way : Departure) → DoubtLater R s → LaterIn R s.archive (lmtp.said_to_one too opened moment s n text count rest way).after
  one-later true opened s n text count rest way kept = stays s kept
  one-later false true s n text count rest way kept = giving-later s text _ way kept
  one-later false false s n text count rest way kept = opening-later s _ _ way kept

  guest-later : (s : LastKnown) (g : Guest) (front : LmtpFront) (way : Departure) → DoubtLater R s → LaterIn R s.archive (lmtp.said_at moment s g front way).after
  guest-later s g (Commanded line rest) Plain kept = stays s kept
  guest-later s g (Commanded line rest) Memory kept = stays s kept
  guest-later s g (Commanded line rest) Disk kept = stays s kept
  guest-later s g (Commanded line rest) Newer kept = stays s kept
  guest-later s g (Overlong rest) way kept = stays s kept
  guest-later s g (DataEnds n text count rest) way kept = stays s kept
  guest-later s g (GivesTo n text count rest) way kept = one-later (nat_lt data_limit count) g.opened s n text count rest way kept
  guest-later s g NotYet way kept = stays s kept

  -- All doors.
  pub said-later : (s : LastKnown) (h : SessionAtWork) (way : Departure) → DoubtLater R s → LaterIn R s.archive (said moment s h way).after
  said-later s (Came start piece) way kept = reopened (unopened_words moment start) s (with_piece start piece) way kept
  said-later s (AtControl w) way kept = front-later s w (ahead w.bytes) way kept
  said-later s (AtNews r) way kept =
      subst (λ (a : Archive). LaterIn R s.archive (standing a s.in_doubt)) (sym (read-after moment s.archive r way)) (stays s kept)
  said-later s (AtPop client) way kept =
      subst (λ (a : Archive). LaterIn R s.archive (standing a s.in_doubt)) (sym (mail-after s.archive client way)) (stays s kept)
  said-later s (AtHttp bytes) way kept =
      subst (λ (a : Archive). LaterIn R s.archive (standing a s.in_doubt)) (sym (archive-stays moment s.archive bytes way)) (stays s kept)
  said-later s (AtLmtp g) way kept = guest-later s g (lmtp.front_of g) way kept
  said-later s (AtImap client) way kept =
      subst (λ (a : Archive). LaterIn R s.archive (standing a s.in_doubt)) (sym (imap-after s.archive client way)) (stays s kept)

  -- The reopening before updates.
  pub reopening-later : (s : LastKnown) (way : Departure) → DoubtLater R s → LaterIn R s.archive (reopening s way).after
  reopening-later s way kept = reopened (λ (why : OpenRefusal). []) s tt way kept

  pub reopened-later : (opened : Bool) (w v : NodeState) → ReopenedFor opened w v → DoubtLater R w.standing → LaterIn R w.standing.archive v.standing
  reopened-later opened w v reopens kept =
      subst (λ (x : NodeState). LaterIn R w.standing.archive x.standing) (sym reopens.world_is) (reopening-later w.standing reopens.way kept)

  -- All updates of an event.
  pub updated-later : (s : LastKnown) (rs : List LastKnown) (t : LastKnown) → UpdatesLeave s rs t → DoubtLater R s → ((t ≡ s) × (rs ≡ [])) ⊎ (LaterIn R s.archive t × (rs ≡ t ∷ []))
  updated-later s rs t (inl same) kept = inl same
  updated-later s rs t (inr left) kept = inr (subst (λ (x : LastKnown). LaterIn R s.archive x) (sym left.1) (reopening-later s left.0 kept), left.2)

-- An act.
pub acts-later : {H : Type 0} (R : Archive → Archive → Type 0) (words : Departure → Said H LastKnown) (a : Archive) (i : ConnectionState) (held : Option H) (t : LastKnown) (j : ConnectionState) → ((way : Departure) → LaterIn R a (words way).after) → Acts words i held t j → LaterIn R a t
acts-later R words a i held t j each acts = by acts.way acts.sent
  where
    in-way : (way : Departure) → t ≡ (words way).after → LaterIn R a t
    in-way way is = subst (λ (s : LastKnown). LaterIn R a s) (sym is) (each way)

    short : (way : Departure) → StopsShort words way i held t j → LaterIn R a t
    short Plain never = absurd never
    short Memory s = in-way Plain s.after_is
    short Disk s = in-way Plain s.after_is
    short Newer never = absurd never

    by : (way : Departure) → Sent words way i held t j → LaterIn R a t
    by way (inl s) = in-way way s.after_is
    by way (inr (inl s)) = in-way way s.after_is
    by way (inr (inr s)) = short way s
