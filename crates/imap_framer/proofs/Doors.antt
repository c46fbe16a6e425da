-- A door whose requests are the parts of commands keeps the laws under which a piece may be cut
-- anywhere, whatever it answers.
use Rattle.std.proofs.Common.{◌≡◌, ◌<◌, ◌⊎◌, ℕ, List, [], ◌++◌, length, Option, Some, None, Bool, true, false, inl, inr, refl, sym, ap, subst, ◌∙◌, append_assoc}
use Rattle.line_door.specs.Acts.{Said, Departure, Plain, Memory, Disk, Newer}
use Rattle.line_door.specs.Plain.{silent}
use Rattle.line_door.specs.Cuts.{more_of, said_with, CutDoor, DoorLaws}
use Rattle.line_door.proofs.Cutting.{door_laws}
use Rattle.imap_framer.specs.Framing.{PartFront, LastPart, LiteralPart, ExcessPart, OpenPart, Framing, with_octets, room_of, front_of}
use Rattle.imap_framer.specs.Doors.{is_answered, only_rest, held_with, state_with, beside, rest_said, said_at, framed_said, framed_request, framed_more, framed_size, FramedLaw}
use Rattle.imap_framer.proofs.Goings.{front_more, more-answered, front_goes_on, rest_of, front_shorter}

state-more : {S : Type 0} (q : List ℕ) (f : Framing) (o : Option S) → state_with (with_octets f q) o ≡ more_of (framed_more q) (state_with f o)
state-more q f None = refl
state-more q f (Some state) = refl

beside-more : {S A : Type 0} (q : List ℕ) (f : Framing) (s : Said S A) → beside (with_octets f q) s ≡ said_with (framed_more q) (beside f s)
beside-more {S} {A} q f s = λ i. record { next = state-more q f s.next i; words = s.words; streamed = s.streamed; after = s.after }

state-is : {S : Type 0} (f : Framing) (o : Option S) (k : S × Framing) → state_with f o ≡ Some k → k.1 ≡ f
state-is f None k e = absurd (cc)
state-is {S} f (Some state) k e = sym (ap second e)
  where
    second : Option (S × Framing) → Framing
    second None = f
    second (Some h) = h.1

-- A front that isn't answered is an open part.
open-is : (f : PartFront) → is_answered f ≡ false → f ≡ OpenPart
open-is (LastPart part rest) e = absurd (cc)
open-is (LiteralPart part n rest) e = absurd (cc)
open-is (ExcessPart rest) e = absurd (cc)
open-is OpenPart e = refl

module _ {S A : Type 0} (literals : S → Bool) (answer : A → S → List ℕ → Departure → Said S A)
    (go_on : A → S → Departure → Said S A) (too_long no_memory : A → S → List ℕ) where
  stays-at : (q : List ℕ) (a : A) (h : S × Framing) (way : Departure) (f : PartFront) → is_answered f ≡ true
      → said_at literals answer go_on too_long no_memory a (framed_more q h) (front_more q f) way ≡ said_with (framed_more q) (said_at literals answer go_on too_long no_memory a h f way)
  stays-at q a h way (LastPart part rest) is = beside-more q (only_rest rest) (answer a h.0 (h.1.held ++ part) way)
  stays-at q a h way (LiteralPart part n rest) is = beside-more q (held_with h.1 part n rest) (go_on a h.0 way)
  stays-at q a h way (ExcessPart rest) is = refl
  stays-at q a h way OpenPart is = absurd (cc)

  kept-at : (a : A) (h : S × Framing) (way : Departure)
      → ((rest_said literals answer go_on too_long no_memory a h way).next ≡ None) ⊎ (rest_said literals answer go_on too_long no_memory a h way ≡ silent a h)
  kept-at a h Plain = inr refl
  kept-at a h Memory = inl refl
  kept-at a h Disk = inr refl
  kept-at a h Newer = inr refl

  shorter-at : (a : A) (h k : S × Framing) (f : PartFront) → is_answered f ≡ true → length (rest_of f) < length h.1.part
      → (said_at literals answer go_on too_long no_memory a h f Plain).next ≡ Some k → framed_size k < framed_size h
  shorter-at a h k (LastPart part rest) is l e =
      subst (λ (f : Framing). length f.part < length h.1.part) (sym (state-is (only_rest rest) (answer a h.0 (h.1.held ++ part) Plain).next k e)) l
  shorter-at a h k (LiteralPart part n rest) is l e =
      subst (λ (f : Framing). length f.part < length h.1.part) (sym (state-is (held_with h.1 part n rest) (go_on a h.0 Plain).next k e)) l
  shorter-at a h k (ExcessPart rest) is l e = absurd (cc)
  shorter-at a h k OpenPart is l e = absurd (cc)

  goes_on : (q : List ℕ) (h : S × Framing) → is_answered (front_of (literals h.0) h.1) ≡ true
      → front_of (literals h.0) (with_octets h.1 q) ≡ front_more q (front_of (literals h.0) h.1)
  goes_on q h is = front_goes_on (literals h.0) (room_of h.1) h.1.owed h.1.part q is

  pub framed_door : CutDoor (framed_said literals answer go_on too_long no_memory) (framed_request literals answer go_on too_long no_memory) framed_more framed_size
  framed_door = record {
    request_stays = λ q h e. ap is_answered (goes_on q h e) ∙ more-answered q (front_of (literals h.0) h.1) ∙ e;
    said_stays = λ q a h way e.
        ap (λ (f : PartFront). said_at literals answer go_on too_long no_memory a (framed_more q h) f way) (goes_on q h e)
        ∙ stays-at q a h way (front_of (literals h.0) h.1) e;
    rest_plain = λ a h e. ap (λ (f : PartFront). said_at literals answer go_on too_long no_memory a h f Plain) (open-is (front_of (literals h.0) h.1) e);
    rest_kept = λ a h way e.
        subst (λ (f : PartFront). ((said_at literals answer go_on too_long no_memory a h f way).next ≡ None) ⊎ (said_at literals answer go_on too_long no_memory a h f way ≡ silent a h))
        (sym (open-is (front_of (literals h.0) h.1) e)) (kept-at a h way);
    more_joined = λ p q h. ap (λ (part : List ℕ). (h.0, record { held = h.1.held; owed = h.1.owed; part = part })) (append_assoc h.1.part p q);
    shorter = λ a h k e next. shorter-at a h k (front_of (literals h.0) h.1) e (front_shorter (literals h.0) (room_of h.1) h.1.owed h.1.part e) next;
  }

  pub framed_laws : DoorLaws (framed_said literals answer go_on too_long no_memory) (framed_request literals answer go_on too_long no_memory) framed_more framed_size
  framed_laws = door_laws (framed_said literals answer go_on too_long no_memory) (framed_request literals answer go_on too_long no_memory) framed_more framed_size framed_door

pub framed_law : FramedLaw
framed_law literals answer go_on too_long no_memory = framed_laws literals answer go_on too_long no_memory
