-- What clients of IMAP know suits the archive: no number that is gone came back since they were told. The
-- quick way to tell that nothing changed rests on it. And what a node notes of sessions that idle.
use Rattle.std.specs.Prelude.{◌≡◌, ◌<◌, ℕ, false, Option, Some, None}
use Rattle.arch_model.specs.Archives.{Archive}
use Rattle.arch_model.specs.Validity.{IsArchive}
use Rattle.imap_states.specs.States.{SuitsClient}
use Rattle.known_uids.specs.Staying.{GoneStay}
use Rattle.node_serve.specs.Updates.{idles_if, connection_limit, AllTold}
use Rattle.node_serve.specs.World.{NodeState}
use Rattle.node_serve.specs.declared.updates.Idling.{Idling}
use Rattle.node_serve.specs.declared.updates.Idling.TheVariants.{Nobody, Told, Untold}
use Rattle.node_serve.specs.declared.session.Session.{Session}
use Rattle.node_serve.specs.declared.session.Session.TheVariants as session

-- What the session knows suits the archive. At other doors a session knows nothing.
abbrev pub SessionSuits : Archive → Session → Type 0
SessionSuits a (session.Imap client) = SuitsClient a client.0
SessionSuits a other = Unit {0}

-- The same of the session of a connection, if it has one.
abbrev pub SessionSuitsIf : Archive → Option Session → Type 0
SessionSuitsIf a None = Unit {0}
SessionSuitsIf a (Some start) = SessionSuits a start

-- The second archive is valid, and no number that is gone from the first came back in it.
abbrev pub KeepsGone : Archive → Archive → Type 0
KeepsGone a b = GoneStay a b × IsArchive b

-- The archive that stands is valid, and suits what the client of each session knows. No number that is
-- gone from it comes back in the one in doubt, if there is one.
pub record ClientsSuit (w : NodeState) : Type 0 where
  pub valid : IsArchive w.standing.archive
  pub clients : (c : ℕ) → SessionSuitsIf w.standing.archive (w.session c)
  pub in_doubt : (b : Archive) → w.standing.in_doubt ≡ Some b → KeepsGone w.standing.archive b

-- What a node notes of sessions that idle is so: none does; or none of them has more to be told, and nothing
-- is in doubt.
abbrev pub NotedIs : Idling → NodeState → Type 0
NotedIs Nobody w = (c : ℕ) → c < connection_limit → idles_if (w.session c) ≡ false
NotedIs Told w = AllTold w × (w.standing.in_doubt ≡ None)
NotedIs Untold w = Unit {0}
