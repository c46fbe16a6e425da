-- What clients of IMAP know suits each archive that a reopening may find.
use Rattle.std.proofs.Common.{◌≡◌, ℕ, List, Option, Some, None, refl, sym, subst, inl, inr}
use Rattle.line_door.specs.Acts.{ConnectionState, Departure, Plain, Memory, Disk, Newer, Acts, Sent}
use Rattle.line_door.proofs.Acting.{stops-closed}
use Rattle.arch_model.specs.Archives.{Archive}
use Rattle.arch_model.specs.Standing.{LastKnown, standing, IsFound}
use Rattle.arch_model.specs.declared.opening.OpenRefusal.{OpenRefusal}
use Rattle.keep_course.specs.Answering.{newer_of, said_reopening}
use Rattle.imap_states.proofs.Suiting.{later_suits}
use Rattle.node_serve.specs.Suiting.{SessionSuits, SessionSuitsIf, KeepsGone, ClientsSuit}
use Rattle.node_serve.specs.World.{NodeState}
use Rattle.node_serve.specs.declared.session.Session.{Session}
use Rattle.node_serve.specs.declared.session.Session.TheVariants as session

-- What a session knows suits a later archive in which no number that is gone came back.
pub later-suits : (a b : Archive) (start : Session) → KeepsGone a b → SessionSuits a start → SessionSuits b start
later-suits a b (session.Control bytes) keeps suits = tt
later-suits a b (session.News reader) keeps suits = tt
later-suits a b (session.Pop client) keeps suits = tt
later-suits a b (session.Http bytes) keeps suits = tt
later-suits a b (session.Lmtp guest) keeps suits = tt
later-suits a b (session.Imap client) keeps suits = later_suits a b client.0 keeps.0 keeps.1 suits

-- The same of the session of a connection, if it has one.
pub later-if : (a b : Archive) (o : Option Session) → KeepsGone a b → SessionSuitsIf a o → SessionSuitsIf b o
later-if a b None keeps suits = tt
later-if a b (Some start) keeps suits = later-suits a b start keeps suits

-- So the archive that stands in a world, and the one in doubt, suit its clients.
pub found-suits : (w : NodeState) (a : Archive) → IsFound w.standing a → ClientsSuit w → (c : ℕ) → SessionSuitsIf a (w.session c)
found-suits w a (inl older) suits c = subst (λ (x : Archive). SessionSuitsIf x (w.session c)) (sym older) (suits.clients c)
found-suits w a (inr in_doubt) suits c = later-if w.standing.archive a (w.session c) (suits.in_doubt a in_doubt) (suits.clients c)

-- The same of one session.
pub client-suits : (w : NodeState) (c : ℕ) (start : Session) → ClientsSuit w → w.session c ≡ Some start → (a : Archive) → IsFound w.standing a → SessionSuits a start
client-suits w c start suits here a found = subst (λ (x : Option Session). SessionSuitsIf a x) here (found-suits w a found suits c)

-- The newer archive is one that a reopening may find.
newer-found : (a : Archive) (d : Option Archive) → IsFound (standing a d) (newer_of a d)
newer-found a None = inl refl
newer-found a (Some b) = inr refl

module _ {H : Type 0} (line : OpenRefusal → List ℕ) (s t : LastKnown) (h k : H) (i j : ConnectionState) where
  -- The words of a reopening that leave a session open leave the older archive or the one in doubt.
  said-found : (way : Departure) → (said_reopening line s h way).next ≡ Some k → IsFound s (said_reopening line s h way).after.archive
  said-found Plain next = inl refl
  said-found Memory next = absurd (cc next)
  said-found Disk next = absurd (cc next)
  said-found Newer next = newer-found s.archive s.in_doubt

  sent-found : (way : Departure) → Sent (said_reopening line s h) way i (Some k) t j → IsFound s t.archive
  sent-found way (inl whole) = subst (λ (x : LastKnown). IsFound s x.archive) (sym whole.after_is) (said-found way (sym whole.held_is))
  sent-found way (inr (inl lost)) = let none : Some k ≡ None = lost.held_is in absurd (cc none)
  sent-found way (inr (inr short)) = let none : Some k ≡ None = stops-closed (said_reopening line s h) way i (Some k) t j short in absurd (cc none)

  -- So does a reopening.
  pub opened-found : Acts (said_reopening line s h) i (Some k) t j → IsFound s t.archive
  opened-found acts = sent-found acts.way acts.sent
