-- What each reply to a whole command leaves: a state that suits the archive, and the archive.
use Rattle.std.proofs.Common.{◌≡◌, nat_lt, codes, ℕ, Bool, true, false, List, [], Option, Some, None, refl, subst, if◌then◌else◌}
use Rattle.arch_model.specs.Archives.{Archive}
use Rattle.line_door.specs.Acts.{Said, Departure, Plain, Memory, Disk, Newer}
use Rattle.line_door.specs.Making.{says, closes, streams}
use Rattle.line_door.specs.Over.{held_over}
use Rattle.known_uids.specs.Told.{Known}
use Rattle.imap_syntax.specs.Commands.{whole_of}
use Rattle.imap_syntax.specs.Requests as request
use Rattle.imap_syntax.specs.Requests.{ImapCommand, WholeCommand}
use Rattle.imap_syntax.specs.declared.asks.StatusItem.{StatusItem}
use Rattle.imap_syntax.specs.declared.command_names.MailboxCommand.{MailboxCommand}
use Rattle.imap_syntax.specs.declared.command_names.MailboxCommand.TheVariants as mailbox
use Rattle.imap_syntax.specs.declared.command_names.PlainCommand.{PlainCommand}
use Rattle.imap_syntax.specs.declared.command_names.PlainCommand.TheVariants as plain
use Rattle.shelf_doors.specs.Refusals.{disk_line}
use Rattle.shelf_doors.specs.Mailboxes.{mailbox_named, mailbox_range}
use Rattle.imap_messages.specs.Fetching.{FetchAsked, fetch_words, fetch_plain, fetch_texts, fetch_said}
use Rattle.imap_messages.specs.Picking.{is_outside}
use Rattle.imap_messages.specs.Seeking.{SearchAsked, is_searched, search_words, search_refusal, search_plain, search_texts, search_said}
use Rattle.imap_messages.specs.Tagged as messages
use Rattle.imap_states.specs.Boxes.{box_of}
use Rattle.imap_states.specs.Notices.{untagged_line}
use Rattle.imap_states.specs.Replies.{ImapReply, at_place, mistaken, completed, select_by, status_by, change_reply, change_messages_reply, login_reply, authenticate_reply, select_reply, list_reply, status_reply, tagged_ways, untagged_ways}
use Rattle.imap_states.specs.States.{state_of, place_now, SuitsPlace, SuitsClient, is_logged_out, is_selected}
use Rattle.imap_states.specs.declared.state.ImapPlace.{ImapPlace}
use Rattle.imap_states.specs.declared.state.ImapPlace.TheVariants as place
use Rattle.imap_states.specs.declared.state.ImapState.{ImapState}
use Rattle.imap_states.proofs.Suiting.{LeavesSuiting, says-leaves, closes-leaves, told-suits, now-suits}
use Rattle.imap_commands.specs.Laws.{CommandsSuit, ArchiveStays, CommandLaws}
use Rattle.imap_commands.specs.Replies.{plain_reply, mailbox_reply, list_name, fetch_asked, search_asked, in_state, fetch_at, search_at, understood_said, whole_said}
use Rattle.imap_commands.proofs.Tags.{memory_told}

module _ (a : Archive) (s : ImapState) where
  -- A reply leaves a state that suits the archive, if the one before does, and the archive.
  abbrev Fine : ImapReply → Type 0
  Fine reply = (SuitsClient a s → LeavesSuiting a reply) × (reply.after ≡ a)

  -- A state at a place that suits the archive.
  at-suits : (p : ImapPlace) (idle : Option (List ℕ)) → SuitsPlace a p → SuitsClient a s → SuitsClient a (state_of p idle)
  at-suits p idle fits suits = record { valid = suits.valid; place = fits }

  says-fine : (after : ImapState) (words : List ℕ) → (SuitsClient a s → SuitsClient a after) → Fine (says a after words)
  says-fine after words kept = (λ suits. says-leaves a after words (kept suits), refl)

  same-fine : (words : List ℕ) → Fine (says a s words)
  same-fine words = says-fine s words (λ suits. suits)

  closes-fine : (words : List ℕ) → Fine (closes a words)
  closes-fine words = (λ suits. closes-leaves a words, refl)

  if-fine : (t : Bool) (one other : ImapReply) → Fine one → Fine other → Fine (if t then one else other)
  if-fine true one other first second = first
  if-fine false one other first second = second

  completed-fine : (own tag name : List ℕ) → Fine (completed a s own tag name)
  completed-fine own tag name = (λ suits. says-leaves a (at_place s (place_now a s.place)) [] (at-suits (place_now a s.place) s.idle (now-suits a s.place suits.valid) suits), refl)

  mistaken-fine : (tag : List ℕ) → Fine (mistaken a s tag)
  mistaken-fine tag = (λ suits. says-leaves a s [] suits, refl)

  in-fine : (t : Bool) (tag : List ℕ) (reply : ImapReply) → Fine reply → Fine (if t then mistaken a s tag else reply)
  in-fine t tag reply fine = if-fine t (mistaken a s tag) reply (mistaken-fine tag) fine

  out-fine : (t : Bool) (tag : List ℕ) (reply : ImapReply) → Fine reply → Fine (if t then reply else mistaken a s tag)
  out-fine t tag reply fine = if-fine t reply (mistaken a s tag) fine (mistaken-fine tag)

  logged-fine : (words : List ℕ) → Fine (says a (at_place s place.LoggedIn) words)
  logged-fine words = says-fine (at_place s place.LoggedIn) words (at-suits place.LoggedIn s.idle tt)

  select-fine : (tag name : List ℕ) (index : Option ℕ) → Fine (select_by a s tag name index)
  select-fine tag name None = (λ suits. says-leaves a (at_place s place.LoggedIn) [] (at-suits place.LoggedIn s.idle tt suits), refl)
  select-fine tag name (Some index) =
      let range = mailbox_range a index in
      (λ suits. says-leaves a (at_place s (place.Selected (box_of a range))) [] (at-suits (place.Selected (box_of a range)) s.idle (told-suits a range.first range.last suits.valid) suits), refl)

  status-fine : (tag : List ℕ) (items : List StatusItem) (index : Option ℕ) → Fine (status_by a s tag items index)
  status-fine tag items None = (λ suits. says-leaves a s [] suits, refl)
  status-fine tag items (Some index) = completed-fine [] tag []

  change-fine : (tag : List ℕ) → Fine (change_reply a s tag)
  change-fine tag = in-fine (is_logged_out s.place) tag _ (same-fine [])

  change_messages-fine : (tag : List ℕ) → Fine (change_messages_reply a s tag)
  change_messages-fine tag = out-fine (is_selected s.place) tag _ (same-fine [])

  plain-fine : (tag : List ℕ) (name : PlainCommand) → Fine (plain_reply a s tag name)
  plain-fine tag plain.Capability = completed-fine [] tag []
  plain-fine tag plain.Noop = completed-fine [] tag []
  plain-fine tag plain.Logout = closes-fine []
  plain-fine tag plain.Check = out-fine (is_selected s.place) tag _ (completed-fine [] tag [])
  plain-fine tag plain.Close = out-fine (is_selected s.place) tag _ (logged-fine [])
  plain-fine tag plain.Expunge = change_messages-fine tag
  plain-fine tag plain.Idle = in-fine (is_logged_out s.place) tag _ (says-fine (state_of s.place (Some tag)) [] (λ suits. at-suits s.place (Some tag) suits.place suits))

  select_reply-fine : (tag name box : List ℕ) → Fine (select_reply a s tag name box)
  select_reply-fine tag name box = in-fine (is_logged_out s.place) tag (select_by a s tag name (mailbox_named a box)) (select-fine tag name (mailbox_named a box))

  mailbox-fine : (tag : List ℕ) (name : MailboxCommand) (box : List ℕ) → Fine (mailbox_reply a s tag name box)
  mailbox-fine tag mailbox.Select box = select_reply-fine tag (codes "SELECT") box
  mailbox-fine tag mailbox.Examine box = select_reply-fine tag (codes "EXAMINE") box
  mailbox-fine tag mailbox.Create box = change-fine tag
  mailbox-fine tag mailbox.Delete box = change-fine tag
  mailbox-fine tag mailbox.Subscribe box = change-fine tag
  mailbox-fine tag mailbox.Unsubscribe box = change-fine tag

  tagged-fine : (tag : List ℕ) (reply : ImapReply) (way : Departure) → Fine reply → Fine (tagged_ways a s tag reply way)
  tagged-fine tag reply Plain fine = fine
  tagged-fine tag reply Memory fine = (λ suits. says-leaves a s [] suits, refl)
  tagged-fine tag reply Disk fine = fine
  tagged-fine tag reply Newer fine = fine

  untagged-fine : (reply : ImapReply) (way : Departure) → Fine reply → Fine (untagged_ways a reply way)
  untagged-fine reply Plain fine = fine
  untagged-fine reply Memory fine = closes-fine []
  untagged-fine reply Disk fine = fine
  untagged-fine reply Newer fine = fine

  -- A reply that leaves the state.
  held-suits : (next : Option Known) (after : ImapState) → held_over (λ (k : Known). s) next ≡ Some after → SuitsClient a s → SuitsClient a after
  held-suits None after is suits = absurd (cc is)
  held-suits (Some k) after is suits = let same : s ≡ after = cc is in subst (SuitsClient a) same suits

  in_state-fine : (reply : Said Known Archive) → reply.after ≡ a → Fine (in_state s reply)
  in_state-fine reply kept = (λ suits after is. held-suits reply.next after is suits, kept)

  if-after : (t : Bool) (one other : Said Known Archive) → one.after ≡ a → other.after ≡ a → (if t then one else other).after ≡ a
  if-after true one other first second = first
  if-after false one other first second = second

  fetch_plain-after : (k : Known) (f : FetchAsked) → (fetch_plain a k f).after ≡ a
  fetch_plain-after k f = if-after (is_outside f.numbering f.set k.uids) (says a k (messages.bad_line f.tag)) (streams a k (fetch_words a k.uids f)) refl refl

  fetch-after : (k : Known) (f : FetchAsked) (way : Departure) → (fetch_said a k f way).after ≡ a
  fetch-after k f Plain = fetch_plain-after k f
  fetch-after k f Memory = refl
  fetch-after k f Disk = if-after (nat_lt 0 (fetch_texts a k f)) (says a k (disk_line (messages.no_code f.tag))) (fetch_plain a k f) refl (fetch_plain-after k f)
  fetch-after k f Newer = fetch_plain-after k f

  search_plain-after : (k : Known) (q : SearchAsked) → (search_plain a k q).after ≡ a
  search_plain-after k q = if-after (is_searched k.uids q) (says a k (search_words a k.uids q)) (says a k (search_refusal k.uids q)) refl refl

  search-after : (k : Known) (q : SearchAsked) (way : Departure) → (search_said a k q way).after ≡ a
  search-after k q Plain = search_plain-after k q
  search-after k q Memory = refl
  search-after k q Disk = if-after (nat_lt 0 (search_texts a k q)) (says a k (disk_line (messages.no_code q.tag))) (search_plain a k q) refl (search_plain-after k q)
  search-after k q Newer = search_plain-after k q

  fetch-fine : (f : FetchAsked) (p : ImapPlace) (way : Departure) → Fine (fetch_at a s f p way)
  fetch-fine f place.LoggedOut way = tagged-fine f.tag (mistaken a s f.tag) way (mistaken-fine f.tag)
  fetch-fine f place.LoggedIn way = tagged-fine f.tag (mistaken a s f.tag) way (mistaken-fine f.tag)
  fetch-fine f (place.Selected k) way = in_state-fine (fetch_said a k f way) (fetch-after k f way)

  search-fine : (q : SearchAsked) (p : ImapPlace) (way : Departure) → Fine (search_at a s q p way)
  search-fine q place.LoggedOut way = tagged-fine q.tag (mistaken a s q.tag) way (mistaken-fine q.tag)
  search-fine q place.LoggedIn way = tagged-fine q.tag (mistaken a s q.tag) way (mistaken-fine q.tag)
  search-fine q (place.Selected k) way = in_state-fine (search_said a k q way) (search-after k q way)

  understood-fine : (tag : List ℕ) (c : ImapCommand) (way : Departure) → Fine (understood_said a s tag c way)
  understood-fine tag (request.Plain name) way = tagged-fine tag (plain_reply a s tag name) way (plain-fine tag name)
  understood-fine tag (request.OnMailbox name box) way = tagged-fine tag (mailbox_reply a s tag name box) way (mailbox-fine tag name box)
  understood-fine tag (request.Lists name reference pattern) way =
      tagged-fine tag (list_reply a s tag (list_name name) reference pattern) way (in-fine (is_logged_out s.place) tag _ (completed-fine [] tag []))
  understood-fine tag (request.Login user password) way = tagged-fine tag (login_reply a s tag) way (out-fine (is_logged_out s.place) tag _ (logged-fine []))
  understood-fine tag (request.Authenticate mechanism) way = tagged-fine tag (authenticate_reply a s tag) way (out-fine (is_logged_out s.place) tag _ (same-fine []))
  understood-fine tag (request.Rename box other) way = tagged-fine tag (change_reply a s tag) way (change-fine tag)
  understood-fine tag (request.Status box items) way =
      tagged-fine tag (status_reply a s tag box items) way (in-fine (is_logged_out s.place) tag (status_by a s tag items (mailbox_named a box)) (status-fine tag items (mailbox_named a box)))
  understood-fine tag (request.Append box flags date message) way = tagged-fine tag (change_reply a s tag) way (change-fine tag)
  understood-fine tag (request.Copy by_uid set box) way = tagged-fine tag (change_messages_reply a s tag) way (change_messages-fine tag)
  understood-fine tag (request.Fetch by_uid set items) way = fetch-fine (fetch_asked tag by_uid set items) s.place way
  understood-fine tag (request.Store by_uid set change flags) way = tagged-fine tag (change_messages_reply a s tag) way (change_messages-fine tag)
  understood-fine tag (request.Search by_uid charset keys) way = search-fine (search_asked tag by_uid charset keys) s.place way

  whole-fine : (w : WholeCommand) (way : Departure) → Fine (whole_said a s w way)
  whole-fine request.Untagged way = untagged-fine (says a s untagged_line) way (same-fine untagged_line)
  whole-fine (request.Faulty tag) way = tagged-fine tag (mistaken a s tag) way (mistaken-fine tag)
  whole-fine (request.Understood tag command) way = understood-fine tag command way

commands_suit : CommandsSuit
commands_suit a s after octets way suits is = (whole-fine a s (whole_of octets) way).0 suits after is

archive_stays : ArchiveStays
archive_stays a s octets way = (whole-fine a s (whole_of octets) way).1

pub laws_hold : CommandLaws
laws_hold = record { suit = commands_suit; stays = archive_stays; memory = memory_told }
