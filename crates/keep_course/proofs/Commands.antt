-- The acts of a command and of a reopening, for any door.
use Rattle.std.proofs.Common.{◌≡◌, ◌⊎◌, ◌≤◌, ℕ, true, List, [], Option, Some, None, is_ok, Result, Ok, Err, inl, inr, refl, sym, ap, subst, ◌∙◌, arith}
use Rattle.std.proofs.lemmas.Bool.{false≢true}
use Rattle.arch_base.specs.Counts.{Rose}
use Rattle.edge_io.specs.Phrases.{Says}
use Rattle.edge_io.specs.declared.sink.SinkFault.{SinkFault}
use Rattle.edge_io.proofs.Wording.{plus-none}
use Rattle.line_door.specs.Acts.{ConnectionState, Said, Departure, Plain, Memory, Disk, Newer, DepartureCause, Acts, PlainActs, held_if}
use Rattle.line_door.specs.Making.{says, closes}
use Rattle.line_door.proofs.Acting.{acts-by_held, acts-closing}
use Rattle.arch_model.specs.Archives.{Archive}
use Rattle.arch_model.specs.Delivery.{Done}
use Rattle.arch_model.specs.Standing.{LastKnown, standing, unsure, IsFound}
use Rattle.arch_model.specs.Keeping.{Settles, ReopeningRefused, Obeys, Doubts, StaysStale, CommandGives, AnswerCause, OpeningWhy, ending}
use Rattle.arch_model.specs.declared.answer.Answer.{Answer}
use Rattle.arch_model.specs.declared.answer.Answer.TheVariants as answer
use Rattle.arch_model.specs.declared.opening.OpenRefusal.{OpenRefusal}
use Rattle.arch_model.specs.declared.opening.OpenRefusal.TheVariants as opening
use Rattle.arch_model.proofs.Keepers.{found-one}
use Rattle.keep_course.specs.Answering.{newer_of, newer, said_reopening, SaidAll, RefusedBy, way_of_ending}

-- Words were written after which the session continues.
pub all-said : {H A : Type 0} (s : Said H A) (h : H) (i j : ConnectionState) (t : A) (sent : Result Unit SinkFault) → s.next ≡ Some h → Says s.words i.out i.lost j.out j.lost sent → t ≡ s.after → SaidAll s i (held_if (is_ok sent) h) t j
all-said s h i j t (Ok done) next said stands = inl (record { held_is = sym next; after_is = stands; out_is = said.1; lost_kept = said.0 })
all-said s h i j t (Err fault) next said stands = inr (record { lost_rose = said.1; held_is = refl; after_is = stands; count = said.2.0; out_is = said.2.1 })

-- Words were written after which the session is closed.
closing-said : {H A : Type 0} (s : Said H A) (i j : ConnectionState) (t : A) (sent : Result Unit SinkFault) → s.next ≡ None → Says s.words i.out i.lost j.out j.lost sent → t ≡ s.after → SaidAll s i None t j
closing-said s i j t (Ok done) next said stands = inl (record { held_is = sym next; after_is = stands; out_is = said.1; lost_kept = said.0 })
closing-said s i j t (Err fault) next said stands = inr (record { lost_rose = said.1; held_is = refl; after_is = stands; count = said.2.0; out_is = said.2.1 })

-- A command on the archive that is held was answered, and a door's line for the answer was said. Of
-- the door's words this is what matters: after a fault of the disk the command is in doubt.
module _ {H : Type 0} (words : Departure → Said H LastKnown) (h : H) (line : Answer → List ℕ) (a : Archive) (wanted : Archive → Done)
    (plain : words Plain ≡ says (standing (wanted a).archive None) h (line (wanted a).answer)) (memory : words Memory ≡ says (standing a None) h (line answer.NoMemory))
    (disk : words Disk ≡ says (standing a (Some (wanted a).archive)) h (line answer.DiskFault)) where
  -- An act in this way, all of whose words were written.
  abbrev ActsIn : Departure → ConnectionState → Result Unit SinkFault → LastKnown → ConnectionState → Type 0
  ActsIn way i sent t j = Acts words i (held_if (is_ok sent) h) t j × SaidAll (words way) i (held_if (is_ok sent) h) t j

  acts-in : (way : Departure) (after : LastKnown) (said : List ℕ) (t : LastKnown) (i j : ConnectionState) (sent : Result Unit SinkFault) → words way ≡ says after h said → DepartureCause way i.disk j.disk → i.disk ≤ j.disk → Says said i.out i.lost j.out j.lost sent → t ≡ after → ActsIn way i sent t j
  acts-in way after said t i j sent is cause later written stands = (
    acts-by_held words way (says after h said) i j h t sent is refl cause later written stands,
    subst (λ (s : Said H LastKnown). SaidAll s i (held_if (is_ok sent) h) t j) (sym is) (all-said (says after h said) h i j t sent refl written stands),
  )

  obeyed : (reply : Answer) (t : LastKnown) (i j : ConnectionState) (sent : Result Unit SinkFault) → Obeys (standing a None) wanted reply t → j.disk ≡ i.disk → Says (line reply) i.out i.lost j.out j.lost sent → ActsIn Plain i sent t j
  obeyed reply t i j sent obeys kept said =
      let found : obeys.found ≡ a = found-one a obeys.found obeys.is_found in
      let answer_is : (wanted a).answer ≡ reply = ap (λ (x : Archive). (wanted x).answer) (sym found) ∙ obeys.answer_is in
      let stands : t ≡ standing (wanted a).archive None = obeys.stands ∙ ap (λ (x : Archive). standing (wanted x).archive None) found in
      acts-in Plain (standing (wanted a).archive None) (line (wanted a).answer) t i j sent plain kept (omega (arith, kept)) (subst (λ (r : Answer). Says (line r) i.out i.lost j.out j.lost sent) (sym answer_is) said) stands

  starved : (t : LastKnown) (i j : ConnectionState) (sent : Result Unit SinkFault) → StaysStale true (standing a None) t ⊎ Settles (standing a None) t → j.disk ≡ i.disk → Says (line answer.NoMemory) i.out i.lost j.out j.lost sent → ActsIn Memory i sent t j
  starved t i j sent (inl stale) kept said = absurd (false≢true (sym stale.stale))
  starved t i j sent (inr settles) kept said =
      let stands : t ≡ standing a None = ap (λ (d : Option Archive). standing t.archive d) settles.sure ∙ ap (λ (x : Archive). standing x None) (found-one a t.archive settles.found) in
      acts-in Memory (standing a None) (line answer.NoMemory) t i j sent memory kept (omega (arith, kept)) said stands

  failed : (t : LastKnown) (i j : ConnectionState) (sent : Result Unit SinkFault) → StaysStale true (unsure (standing a None)) t ⊎ Doubts (standing a None) wanted t → Rose i.disk j.disk → i.disk ≤ j.disk → Says (line answer.DiskFault) i.out i.lost j.out j.lost sent → ActsIn Disk i sent t j
  failed t i j sent (inl stale) cause later said = absurd (false≢true (sym stale.stale))
  failed t i j sent (inr doubts) cause later said =
      let stands : t ≡ standing a (Some (wanted a).archive) = doubts.stands ∙ ap (λ (x : Archive). standing x (Some (wanted x).archive)) (found-one a doubts.found doubts.is_found) in
      acts-in Disk (standing a (Some (wanted a).archive)) (line answer.DiskFault) t i j sent disk cause later said stands

  -- The act, and that its words are those of the way in which the answer ends the command.
  pub commanded : (reply : Answer) (t : LastKnown) (i j : ConnectionState) (sent : Result Unit SinkFault) → CommandGives true (standing a None) wanted reply t → AnswerCause i.disk j.disk reply → i.disk ≤ j.disk → Says (line reply) i.out i.lost j.out j.lost sent
      → Acts words i (held_if (is_ok sent) h) t j × SaidAll (words (way_of_ending (ending reply))) i (held_if (is_ok sent) h) t j
  commanded answer.NoMemory t i j sent comes kept later said = starved t i j sent comes kept said
  commanded answer.DiskFault t i j sent comes cause later said = failed t i j sent comes cause later said
  commanded (answer.Damaged file at) t i j sent never cause later said = absurd never
  commanded (answer.Ok number id) t i j sent comes kept later said = obeyed (answer.Ok number id) t i j sent comes kept said
  commanded (answer.Duplicate number) t i j sent comes kept later said = obeyed (answer.Duplicate number) t i j sent comes kept said
  commanded answer.NoFields t i j sent comes kept later said = obeyed answer.NoFields t i j sent comes kept said
  commanded (answer.TooLarge len) t i j sent comes kept later said = obeyed (answer.TooLarge len) t i j sent comes kept said
  commanded (answer.Full max) t i j sent comes kept later said = obeyed (answer.Full max) t i j sent comes kept said
  commanded (answer.Collision number) t i j sent comes kept later said = obeyed (answer.Collision number) t i j sent comes kept said
  commanded (answer.NotLive number) t i j sent comes kept later said = obeyed (answer.NotLive number) t i j sent comes kept said
  commanded (answer.NoText number) t i j sent comes kept later said = obeyed (answer.NoText number) t i j sent comes kept said
  commanded answer.IsMirror t i j sent comes kept later said = obeyed answer.IsMirror t i j sent comes kept said

-- The archive was reopened, or that was refused and a door's line for the refusal was said.
module _ {H : Type 0} (line : OpenRefusal → List ℕ) (s : LastKnown) (h : H) where
  said_nothing : (i j : ConnectionState) → j.out ≡ i.out → j.lost ≡ i.lost → Says [] i.out i.lost j.out j.lost (Ok tt)
  said_nothing i j out lost = (lost, out ∙ plus-none i.out)

  settled_is : (t : LastKnown) (b : Archive) → t.archive ≡ b → t.in_doubt ≡ None → t ≡ standing b None
  settled_is t b found sure = ap (λ (d : Option Archive). standing t.archive d) sure ∙ ap (λ (x : Archive). standing x None) found

  pub reopening-found : (t : LastKnown) (i j : ConnectionState) → Settles s t → j.disk ≡ i.disk → j.out ≡ i.out → j.lost ≡ i.lost → Acts (said_reopening line s h) i (Some h) t j
  reopening-found t i j settles kept out lost = by settles.found
    where
      by : IsFound s t.archive → Acts (said_reopening line s h) i (Some h) t j
      by (inl older) =
          acts-by_held (said_reopening line s h) Plain (says (standing s.archive None) h []) i j h t (Ok tt) refl refl kept (omega (arith, kept)) (said_nothing i j out lost) (settled_is t s.archive older settles.sure)
      by (inr in_doubt) =
          let is : t.archive ≡ newer s = sym (ap (newer_of s.archive) in_doubt) in
          acts-by_held (said_reopening line s h) Newer (says (standing (newer s) None) h []) i j h t (Ok tt) refl refl kept (omega (arith, kept)) (said_nothing i j out lost) (settled_is t (newer s) is settles.sure)

  -- Where nothing was in doubt, that went by the rules.
  pub reopening-nothing : (t : LastKnown) (i j : ConnectionState) → s.in_doubt ≡ None → Settles s t → j.disk ≡ i.disk → j.out ≡ i.out → j.lost ≡ i.lost → PlainActs (said_reopening line s h Plain) i (Some h) t j
  reopening-nothing t i j sure settles kept out lost = record {
    disk_kept = kept;
    whole = record { held_is = refl; after_is = settled_is t s.archive (older settles.found) settles.sure; out_is = (said_nothing i j out lost).1; lost_kept = lost };
  }
    where
      older : IsFound s t.archive → t.archive ≡ s.archive
      older (inl is) = is
      older (inr in_doubt) = absurd (cc (sym sure ∙ in_doubt))

  pub reopening-refused : (t : LastKnown) (why : OpenRefusal) (i j : ConnectionState) (sent : Result Unit SinkFault) → ReopeningRefused s why t → OpeningWhy i.disk j.disk why → i.disk ≤ j.disk → Says (line why) i.out i.lost j.out j.lost sent
      → Acts (said_reopening line s h) i None t j × RefusedBy (said_reopening line s h) i None t j
  reopening-refused t opening.DiskFault i j sent same cause later said = (
    acts-closing (said_reopening line s h) Disk (closes (unsure s) (line opening.DiskFault)) i j t sent refl refl cause later said same,
    inr (closing-said (closes (unsure s) (line opening.DiskFault)) i j t sent refl said same),
  )
  reopening-refused t opening.NoMemory i j sent same cause later said = (
    acts-closing (said_reopening line s h) Memory (closes s (line opening.NoMemory)) i j t sent refl refl cause later said same,
    inl (closing-said (closes s (line opening.NoMemory)) i j t sent refl said same),
  )
  reopening-refused t opening.NoArchive i j sent never cause later said = absurd never
  reopening-refused t (opening.Damaged file at) i j sent never cause later said = absurd never
