-- The laws of the door with updates.
use Rattle.std.proofs.Common.{◌≡◌, ◌+◌, ℕ, take, drop, Bool, true, false, not, List, [], ◌∷◌, ◌++◌, leb, ltb, length, Option, Some, None, refl, sym, ap, ◌∙◌}
use Rattle.std.specs.Prelude.{if◌then◌else◌}
use Rattle.std.proofs.lemmas.List.{append-nil}
use Rattle.std.proofs.lemmas.Bool.{false≢true}
use Rattle.arch_model.specs.Archives.{Archive}
use Rattle.line_door.specs.Acts.{Said, Departure, Plain}
use Rattle.line_door.specs.Cuts.{CutDoor, DoorLaws}
use Rattle.line_door.specs.Making.{says, closes}
use Rattle.line_door.specs.Plain.{silent, said_after}
use Rattle.line_door.specs.Updates.{UpdateDoor}
use Rattle.line_door.proofs.Cutting.{door_laws}
use Rattle.line_door.specs.Lines.{first_line}
use Rattle.imap_framer.specs.Framing.{PartFront, LastPart, LiteralPart, ExcessPart, OpenPart, by_line, Framing, with_octets, room_of, front_of}
use Rattle.imap_framer.specs.Doors.{is_answered, only_rest, beside, said_at, framed_said, framed_request, framed_more, framed_size}
use Rattle.imap_framer.proofs.Doors.{framed_door}
use Rattle.imap_states.specs.Notices.{too_long_line}
use Rattle.imap_states.specs.Replies.{updated, update_said, end_line}
use Rattle.imap_states.specs.States.{state_of, idles, place_lines, place_now}
use Rattle.imap_states.specs.declared.state.ImapPlace.{ImapPlace}
use Rattle.imap_states.specs.declared.state.ImapState.{ImapState}
use Rattle.imap_states.proofs.Suiting.{place-once, place-twice}
use Rattle.imap_session.specs.Door.{ImapClient, takes_literals, is_done, answered_by, answered, go_on, excess_words, rest_words, said, has_request}
use Rattle.imap_session.specs.Idling.{updated_client, tells, said_update}
use Rattle.imap_session.specs.Laws.{UpdateLaws, LiteralLaws}

-- In each way the door is one of parts.
abbrev by_way : (way : Departure) → CutDoor (framed_said takes_literals answered go_on (excess_words way) rest_words) (framed_request takes_literals answered go_on (excess_words way) rest_words) framed_more framed_size
by_way way = framed_door takes_literals answered go_on (excess_words way) rest_words

pub imap_door_cuts : CutDoor said has_request framed_more framed_size
imap_door_cuts = record {
  request_stays = λ q h e. (by_way Plain).request_stays q h e;
  said_stays = λ q a h way e. (by_way way).said_stays q a h way e;
  rest_plain = λ a h e. (by_way Plain).rest_plain a h e;
  rest_kept = λ a h way e. (by_way way).rest_kept a h way e;
  more_joined = λ p q h. (by_way Plain).more_joined p q h;
  shorter = λ a h k e next. (by_way Plain).shorter a h k e next;
}

pub imap_cuts : DoorLaws said has_request framed_more framed_size
imap_cuts = door_laws said has_request framed_more framed_size imap_door_cuts

-- What is said to a front.
abbrev pub at_front : Archive → ImapClient → PartFront → Departure → Said ImapClient Archive
at_front a h f way = said_at takes_literals answered go_on (excess_words way) rest_words a h f way

-- A session that idles, and one that doesn't.
pub updated-idle : (a : Archive) (h : ImapClient) → idles h.0 ≡ true → updated_client a h ≡ (updated a h.0, h.1)
updated-idle a h e = ap (λ (t : Bool). if t then (updated a h.0, h.1) else h) e

pub updated-awake : (a : Archive) (h : ImapClient) → idles h.0 ≡ false → updated_client a h ≡ h
updated-awake a h e = ap (λ (t : Bool). if t then (updated a h.0, h.1) else h) e

pub tells-idle : (a : Archive) (h : ImapClient) → idles h.0 ≡ true → tells a h ≡ place_lines a h.0.place
tells-idle a h e = ap (λ (t : Bool). if t then place_lines a h.0.place else []) e

pub tells-awake : (a : Archive) (h : ImapClient) → idles h.0 ≡ false → tells a h ≡ []
tells-awake a h e = ap (λ (t : Bool). if t then place_lines a h.0.place else []) e

-- A front announces octets.
abbrev announces : PartFront → Bool
announces (LastPart part rest) = false
announces (LiteralPart part n rest) = true
announces (ExcessPart rest) = false
announces OpenPart = false

-- While no line may announce octets, none does.
none-announced : (room : ℕ) (literal octets : List ℕ) (o : Option (List ℕ × List ℕ)) → announces (by_line false room literal octets o) ≡ false
none-announced room literal octets None = by (leb (length octets) room)
  where
    by : (t : Bool) → announces (if t then OpenPart else ExcessPart (drop (room + 1) octets)) ≡ false
    by true = refl
    by false = refl
none-announced room literal octets (Some p) = by (ltb (length literal + length p.0) room)
  where
    by : (t : Bool) → announces (if t then LastPart (literal ++ (p.0 ++ 10 ∷ [])) p.1 else ExcessPart (drop (room + 1) octets)) ≡ false
    by true = refl
    by false = refl

front-announces : (h : ImapClient) → idles h.0 ≡ true → announces (front_of (takes_literals h.0) h.1) ≡ false
front-announces h e =
    ap (λ (t : Bool). announces (front_of (not t) h.1)) e ∙ none-announced (room_of h.1) (take h.1.owed h.1.part) h.1.part (first_line (drop h.1.owed h.1.part))

-- What ends idling says first what an update would say.
ended-told : (a : Archive) (f : Framing) (p q : ImapPlace) (lines first ending : List ℕ) → q ≡ p → lines ≡ []
    → said_after first (beside f (says a (state_of q None) (lines ++ ending))) ≡ beside f (says a (state_of p None) (first ++ ending))
ended-told a f p q lines first ending e none = λ i. beside f (says a (state_of (e i) None) (first ++ (none i ++ ending)))

excess-told : (a : Archive) (f : Framing) (lines first : List ℕ) (t : Bool) → t ≡ true → lines ≡ []
    → said_after first (closes {H = ImapClient} a ((if t then lines else []) ++ too_long_line)) ≡ closes a ((if t then first else []) ++ too_long_line)
excess-told a f lines first t e none =
    ap (λ (b : Bool). said_after first (closes {H = ImapClient} a ((if b then lines else []) ++ too_long_line))) e
    ∙ ap (λ (w : List ℕ). closes {H = ImapClient} a (first ++ (w ++ too_long_line))) none
    ∙ sym (ap (λ (b : Bool). closes {H = ImapClient} a ((if b then first else []) ++ too_long_line)) e)

module _ (a : Archive) (s : ImapState) (g : Framing) where
  answer-told : (tag : List ℕ) (f : Framing) (octets : List ℕ) → s.idle ≡ Some tag
      → said_after (place_lines a s.place) (beside f (answered a (updated a s) octets Plain)) ≡ beside f (answered a s octets Plain)
  answer-told tag f octets e =
      ap (λ (o : Option (List ℕ)). said_after (place_lines a s.place) (beside f (answered_by a (state_of (place_now a s.place) o) o octets Plain))) e
      ∙ ended-told a f (place_now a s.place) (place_now a (place_now a s.place)) (place_lines a (place_now a s.place)) (place_lines a s.place) (end_line tag (is_done octets)) (place-twice a s.place) (place-once a s.place)
      ∙ sym (ap (λ (o : Option (List ℕ)). beside f (answered_by a s o octets Plain)) e)

  front-told : (tag : List ℕ) (f : PartFront) → s.idle ≡ Some tag → is_answered f ≡ true → announces f ≡ false
      → said_after (place_lines a s.place) (at_front a (updated a s, g) f Plain) ≡ at_front a (s, g) f Plain
  front-told tag (LastPart part rest) e is none = answer-told tag (only_rest rest) (g.held ++ part) e
  front-told tag (LiteralPart part n rest) e is none = absurd (cc none)
  front-told tag (ExcessPart rest) e is none =
      excess-told a g (place_lines a (place_now a s.place)) (place_lines a s.place) (idles s) (ap idles_by e) (place-once a s.place)
    where
      idles_by : Option (List ℕ) → Bool
      idles_by None = false
      idles_by (Some t) = true
  front-told tag OpenPart e is none = absurd (cc is)

idle-tag : (o : Option (List ℕ)) (p : ImapPlace) → idles (state_of p o) ≡ true → (tag : List ℕ) × (o ≡ Some tag)
idle-tag None p e = absurd (cc e)
idle-tag (Some tag) p e = (tag, refl)

answers-idle : (a : Archive) (h : ImapClient) → idles h.0 ≡ true → has_request h ≡ true
    → said_after (place_lines a h.0.place) (said a (updated a h.0, h.1) Plain) ≡ said a h Plain
answers-idle a h e request =
    let tag = idle-tag h.0.idle h.0.place e in
    front-told a h.0 h.1 tag.0 (front_of (takes_literals h.0) h.1) tag.1 request (front-announces h e)

answers-by : (a : Archive) (h k : ImapClient) (q : List ℕ) (t : Bool) → idles h.0 ≡ t → k ≡ framed_more q h → has_request k ≡ true
    → said_after (tells a h) (said a (framed_more q (updated_client a h)) Plain) ≡ said a k Plain
answers-by a h k q true e same request =
    ap (λ (w : List ℕ). said_after w (said a (framed_more q (updated_client a h)) Plain)) (tells-idle a h e)
    ∙ ap (λ (x : ImapClient). said_after (place_lines a h.0.place) (said a (framed_more q x) Plain)) (updated-idle a h e)
    ∙ answers-idle a (framed_more q h) e (ap has_request (sym same) ∙ request)
    ∙ ap (λ (x : ImapClient). said a x Plain) (sym same)
answers-by a h k q false e same request =
    ap (λ (w : List ℕ). said_after w (said a (framed_more q (updated_client a h)) Plain)) (tells-awake a h e)
    ∙ ap (λ (x : ImapClient). said a (framed_more q x) Plain) (updated-awake a h e)
    ∙ ap (λ (x : ImapClient). said a x Plain) (sym same)

asks-by : (a : Archive) (h : ImapClient) (q : List ℕ) (t : Bool) → idles h.0 ≡ t → has_request (framed_more q (updated_client a h)) ≡ has_request (framed_more q h)
asks-by a h q true e = ap (λ (x : ImapClient). has_request (framed_more q x)) (updated-idle a h e)
asks-by a h q false e = ap (λ (x : ImapClient). has_request (framed_more q x)) (updated-awake a h e)

-- An update again leaves the session, and tells nothing.
again-by : (a : Archive) (h : ImapClient) (q : List ℕ) (t : Bool) → idles h.0 ≡ t → updated_client a (framed_more q (updated_client a h)) ≡ updated_client a (framed_more q h)
again-by a h q true e =
    ap (λ (x : ImapClient). updated_client a (framed_more q x)) (updated-idle a h e)
    ∙ updated-idle a (framed_more q (updated a h.0, h.1)) e
    ∙ ap (λ (p : ImapPlace). (state_of p h.0.idle, with_octets h.1 q)) (place-twice a h.0.place)
    ∙ sym (updated-idle a (framed_more q h) e)
again-by a h q false e = ap (λ (x : ImapClient). updated_client a (framed_more q x)) (updated-awake a h e)

none-by : (a : Archive) (h : ImapClient) (q : List ℕ) (t : Bool) → idles h.0 ≡ t → tells a (framed_more q (updated_client a h)) ≡ []
none-by a h q true e =
    ap (λ (x : ImapClient). tells a (framed_more q x)) (updated-idle a h e)
    ∙ tells-idle a (framed_more q (updated a h.0, h.1)) e
    ∙ place-once a h.0.place
none-by a h q false e =
    ap (λ (x : ImapClient). tells a (framed_more q x)) (updated-awake a h e) ∙ tells-awake a (framed_more q h) e

pub imap_updates : UpdateDoor said has_request framed_more framed_size updated_client tells
imap_updates = record {
  asks = λ q a h rest. asks-by a h q (idles h.0) refl;
  answers = λ q a h rest request. answers-by a h (framed_more q h) q (idles h.0) refl refl request;
  again = λ q a h rest none. again-by a h q (idles h.0) refl;
  told = λ q a h rest none. ap (λ (w : List ℕ). tells a h ++ w) (none-by a h q (idles h.0) refl) ∙ append-nil (tells a h);
}

rules-by : (a : Archive) (h : ImapClient) (t : Bool) → (if t then beside h.1 (says a (updated a h.0) (place_lines a h.0.place)) else silent a h)
    ≡ says a (if t then (updated a h.0, h.1) else h) (if t then place_lines a h.0.place else [])
rules-by a h true = refl
rules-by a h false = refl

update-rules : (a : Archive) (h : ImapClient) → said_update a h Plain ≡ says a (updated_client a h) (tells a h)
update-rules a h = rules-by a h (idles h.0)

twice-by : (a : Archive) (h : ImapClient) (t : Bool) → idles h.0 ≡ t → updated_client a (updated_client a h) ≡ updated_client a h
twice-by a h true e =
    ap (updated_client a) (updated-idle a h e)
    ∙ updated-idle a (updated a h.0, h.1) e
    ∙ ap (λ (p : ImapPlace). (state_of p h.0.idle, h.1)) (place-twice a h.0.place)
    ∙ sym (updated-idle a h e)
twice-by a h false e = ap (updated_client a) (updated-awake a h e)

told-by : (a : Archive) (h : ImapClient) (t : Bool) → idles h.0 ≡ t → tells a (updated_client a h) ≡ []
told-by a h true e = ap (tells a) (updated-idle a h e) ∙ tells-idle a (updated a h.0, h.1) e ∙ place-once a h.0.place
told-by a h false e = ap (tells a) (updated-awake a h e) ∙ tells-awake a h e

pub update_laws : UpdateLaws
update_laws = record {
  by_rules = update-rules;
  alone = λ a h way e. ap (λ (t : Bool). if t then beside h.1 (update_said a h.0 way) else silent a h) e;
  once = λ a h.
      update-rules a (updated_client a h)
      ∙ ap (λ (x : ImapClient). says a x (tells a (updated_client a h))) (twice-by a h (idles h.0) refl)
      ∙ ap (λ (w : List ℕ). says a (updated_client a h) w) (told-by a h (idles h.0) refl);
}

pub literal_laws : LiteralLaws
literal_laws = record {
  go_on = λ a h part rest n e. ap (λ (f : PartFront). at_front a h f Plain) e;
  none = λ h part rest n idle e. false≢true (sym (front-announces h idle) ∙ ap announces e);
}
