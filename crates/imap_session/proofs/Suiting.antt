-- What a client knows goes on suiting the archive.
use Rattle.std.proofs.Common.{◌≡◌, ◌++◌, ℕ, Bool, true, false, List, Option, Some, None, inl, inr, sym, ap, subst}
use Rattle.std.specs.Prelude.{if◌then◌else◌}
use Rattle.arch_model.specs.Archives.{Archive}
use Rattle.line_door.specs.Acts.{ConnectionState, Said, Departure, Plain, Memory, Disk, Newer, Acts, Sent, held_if}
use Rattle.line_door.specs.Making.{says}
use Rattle.line_door.specs.Plain.{silent}
use Rattle.line_door.proofs.Acting.{stops-closed}
use Rattle.imap_framer.specs.Framing.{PartFront, LastPart, LiteralPart, ExcessPart, OpenPart, Framing, front_of}
use Rattle.imap_framer.specs.Doors.{only_rest, held_with, state_with, beside}
use Rattle.imap_states.specs.Notices.{go_line}
use Rattle.imap_states.specs.Replies.{updated, update_said}
use Rattle.imap_states.specs.States.{idles, place_lines, SuitsClient}
use Rattle.imap_states.specs.declared.state.ImapState.{ImapState}
use Rattle.imap_states.proofs.Suiting.{later_suits, says-leaves, untagged-leaves, now-client, end-leaves}
use Rattle.imap_commands.specs.Laws.{CommandsSuit}
use Rattle.imap_session.specs.Door.{ImapClient, takes_literals, is_done, answered_by, answered, go_on, said}
use Rattle.imap_session.specs.Idling.{said_update}
use Rattle.imap_session.specs.Laws.{SessionsSuit}
use Rattle.imap_session.proofs.Idle.{at_front}

-- The state of a session that has one.
state-from : (f : Framing) (o : Option ImapState) (k : ImapClient) → state_with f o ≡ Some k → o ≡ Some k.0
state-from f None k e = absurd (cc e)
state-from f (Some s) k e = let same : (s, f) ≡ k = cc e in ap (λ (x : ImapClient). Some x.0) same

module _ (suit : CommandsSuit) (a : Archive) where
  answer-by : (s after : ImapState) (o : Option (List ℕ)) (octets : List ℕ) (way : Departure) → SuitsClient a s → (answered_by a s o octets way).next ≡ Some after → SuitsClient a after
  answer-by s after None octets way suits e = suit a s after octets way suits e
  answer-by s after (Some tag) octets way suits e = end-leaves a s suits tag (is_done octets) way after e

  pub answer-suits : (s after : ImapState) (octets : List ℕ) (way : Departure) → SuitsClient a s → (answered a s octets way).next ≡ Some after → SuitsClient a after
  answer-suits s after octets way suits e = answer-by s after s.idle octets way suits e

  same-suits : (h after : ImapClient) → SuitsClient a h.0 → Some h ≡ Some after → SuitsClient a after.0
  same-suits h after suits e = let same : h ≡ after = cc e in subst (λ (x : ImapClient). SuitsClient a x.0) same suits

  rest-suits : (h after : ImapClient) (way : Departure) → SuitsClient a h.0 → (at_front a h OpenPart way).next ≡ Some after → SuitsClient a after.0
  rest-suits h after Plain suits e = same-suits h after suits e
  rest-suits h after Memory suits e = absurd (cc e)
  rest-suits h after Disk suits e = same-suits h after suits e
  rest-suits h after Newer suits e = same-suits h after suits e

  front-suits : (h after : ImapClient) (f : PartFront) (way : Departure) → SuitsClient a h.0 → (at_front a h f way).next ≡ Some after → SuitsClient a after.0
  front-suits h after (LastPart part rest) way suits e =
      answer-suits h.0 after.0 (h.1.held ++ part) way suits (state-from (only_rest rest) (answered a h.0 (h.1.held ++ part) way).next after e)
  front-suits h after (LiteralPart part n rest) way suits e =
      untagged-leaves a (says a h.0 go_line) way (says-leaves a h.0 go_line suits) after.0 (state-from (held_with h.1 part n rest) (go_on a h.0 way).next after e)
  front-suits h after (ExcessPart rest) way suits e = absurd (cc e)
  front-suits h after OpenPart way suits e = rest-suits h after way suits e

  pub said-suits : (h after : ImapClient) (way : Departure) → SuitsClient a h.0 → (said a h way).next ≡ Some after → SuitsClient a after.0
  said-suits h after way suits e = front-suits h after (front_of (takes_literals h.0) h.1) way suits e

-- An update leaves what suits.
update-by : (a : Archive) (h after : ImapClient) (way : Departure) (t : Bool) → SuitsClient a h.0 → (if t then beside h.1 (update_said a h.0 way) else silent a h).next ≡ Some after → SuitsClient a after.0
update-by a h after way true suits e =
    untagged-leaves a (says a (updated a h.0) (place_lines a h.0.place)) way (says-leaves a (updated a h.0) (place_lines a h.0.place) (now-client a h.0 suits h.0.idle)) after.0 (state-from h.1 (update_said a h.0 way).next after e)
update-by a h after way false suits e = let same : h ≡ after = cc e in subst (λ (x : ImapClient). SuitsClient a x.0) same suits

pub update-suits : (a : Archive) (h after : ImapClient) (way : Departure) → SuitsClient a h.0 → (said_update a h way).next ≡ Some after → SuitsClient a after.0
update-suits a h after way suits e = update-by a h after way (idles h.0) suits e

pub sessions_suit : CommandsSuit → SessionsSuit
sessions_suit suit = record {
  new = λ a valid. record { valid = valid; place = tt };
  acts = λ a h after way suits e. said-suits suit a h after way suits e;
  updates = λ a h after way suits e. update-suits a h after way suits e;
  later = λ a b h gone valid suits. later_suits a b h.0 gone valid suits;
}

-- The session that an act leaves open is the one after its words in some way.
module _ {H A : Type 0} where
  left-by : (words : Departure → Said H A) (way : Departure) (i : ConnectionState) (k : H) (a : A) (j : ConnectionState) → Sent words way i (Some k) a j → (words way).next ≡ Some k
  left-by words way i k a j (inl whole) = sym whole.held_is
  left-by words way i k a j (inr (inl lost)) = let none : Some k ≡ None = lost.held_is in absurd (cc none)
  left-by words way i k a j (inr (inr short)) = let none : Some k ≡ None = stops-closed words way i (Some k) a j short in absurd (cc none)

  pub act-left : (words : Departure → Said H A) (i : ConnectionState) (k : H) (a : A) (j : ConnectionState) → Acts words i (Some k) a j → (way : Departure) × ((words way).next ≡ Some k)
  act-left words i k a j acts = (acts.way, left-by words acts.way i k a j acts.sent)

-- An update that leaves a session open leaves what suits.
pub updated-suits : (a : Archive) (h after : ImapClient) (goes : Bool) (i j : ConnectionState) → SuitsClient a h.0 → goes ≡ true → Acts (said_update a h) i (held_if goes after) a j → SuitsClient a after.0
updated-suits a h after true i j suits on acts = let left = act-left (said_update a h) i after a j acts in update-suits a h after left.0 suits left.1
updated-suits a h after false i j suits on acts = absurd (cc on)
