-- The laws of the door.
use Rattle.line_door.proofs.Updating.{updated-cut}
use Rattle.imap_framer.specs.Doors.{framed_more, framed_size}
use Rattle.imap_commands.specs.Laws.{CommandsSuit}
use Rattle.imap_session.specs.Door.{said, has_request}
use Rattle.imap_session.specs.Idling.{updated_client, tells}
use Rattle.imap_session.specs.Laws.{ImapLaws}
use Rattle.imap_session.proofs.Idle.{imap_door_cuts, imap_cuts, imap_updates, update_laws, literal_laws}
use Rattle.imap_session.proofs.Suiting.{sessions_suit}

pub imap_laws : CommandsSuit → ImapLaws
imap_laws suit = record {
  cuts = imap_cuts;
  updates = record {
    door = imap_updates;
    cut = updated-cut said has_request framed_more framed_size imap_door_cuts updated_client tells imap_updates;
  };
  told = update_laws;
  suits = sessions_suit suit;
  literals = literal_laws;
}
