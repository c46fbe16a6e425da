-- The laws of what clients are told: what they know goes on suiting the archive.
use Rattle.std.specs.Prelude.{◌≡◌, ℕ, List, [], Bool, Some}
use Rattle.arch_model.specs.Archives.{Archive}
use Rattle.arch_model.specs.Validity.{IsArchive}
use Rattle.line_door.specs.Acts.{Departure}
use Rattle.known_uids.specs.Staying.{GoneStay}
use Rattle.imap_states.specs.Replies.{asked_said, updated}
use Rattle.imap_states.specs.States.{new_state, place_lines, SuitsClient}
use Rattle.imap_states.specs.declared.commands.StateCommand.{StateCommand}
use Rattle.imap_states.specs.declared.state.ImapState.{ImapState}

-- A new session suits each valid archive.
abbrev pub NewSuits : Type 0
NewSuits = (a : Archive) → IsArchive a → SuitsClient a new_state

-- What suits an archive suits a later one, in which no number that is gone came back.
abbrev pub LaterSuits : Type 0
LaterSuits = (a b : Archive) (s : ImapState) → GoneStay a b → IsArchive b → SuitsClient a s
    → SuitsClient b s

-- After each reply, and after an update, the state suits the archive.
abbrev pub RepliesSuit : Type 0
RepliesSuit = (a : Archive) (s after : ImapState) (tag : List ℕ) (command : StateCommand)
    (way : Departure) → SuitsClient a s → (asked_said a s tag command way).next ≡ Some after
    → SuitsClient a after

abbrev pub UpdatesSuit : Type 0
UpdatesSuit = (a : Archive) (s : ImapState) → SuitsClient a s → SuitsClient a (updated a s)

-- A client that was told of changes is told nothing more of the same archive.
abbrev pub ToldOnce : Type 0
ToldOnce = (a : Archive) (s : ImapState) → place_lines a (updated a s).place ≡ []

-- The laws.
pub record StateLaws : Type 0 where
  pub new : NewSuits
  pub later : LaterSuits
  pub replies : RepliesSuit
  pub updates : UpdatesSuit
  pub once : ToldOnce
