-- What a client was told goes on suiting the archive.
use Rattle.std.proofs.Common.{◌≡◌, ◌+◌, ◌<◌, ◌≤◌, ◌++◌, codes, ℕ, Bool, true, false, List, [], Option, Some, None, inl, inr, refl, sym, ap, subst, ◌∙◌, arith, if◌then◌else◌}
use Rattle.std.specs.List.{flat_map}
use Rattle.std.proofs.lemmas.Bool.{cases_lt}
use Rattle.arch_model.specs.Archives.{Archive}
use Rattle.arch_model.specs.Validity.{IsArchive}
use Rattle.line_door.specs.Acts.{Departure, Plain, Memory, Disk, Newer}
use Rattle.line_door.specs.Making.{says, closes, in_ways}
use Rattle.known_uids.specs.Told.{Known, known, live_in, changes_of, Suits}
use Rattle.known_uids.specs.Staying.{AreGiven, GoneStay}
use Rattle.known_uids.proofs.Ranges.{range-empty}
use Rattle.known_uids.proofs.Staying.{suits_told, suits_later}
use Rattle.known_uids.proofs.Telling.{told_again}
use Rattle.imap_syntax.specs.declared.asks.StatusItem.{StatusItem}
use Rattle.shelf_doors.specs.Mailboxes.{mailbox_named, mailbox_range}
use Rattle.imap_states.specs.Boxes.{box_of}
use Rattle.imap_states.specs.Laws.{StateLaws, NewSuits, LaterSuits, RepliesSuit, UpdatesSuit, ToldOnce}
use Rattle.imap_states.specs.Notices.{bad_line, no_memory_line, bye_memory_line}
use Rattle.imap_states.specs.Replies.{ImapReply, at_place, mistaken, completed, select_by, status_by, asked, tagged_ways, untagged_ways, asked_said, updated, idle_ended, end_said, change_reply, change_messages_reply, select_reply, list_reply, status_reply}
use Rattle.imap_states.specs.States.{state_of, new_state, expunge_line, exists_if, change_lines, place_lines, place_now, SuitsPlace, SuitsClient, is_logged_out, is_selected}
use Rattle.imap_states.specs.declared.commands.StateCommand.{StateCommand}
use Rattle.imap_states.specs.declared.commands.StateCommand.TheVariants as command
use Rattle.imap_states.specs.declared.state.ImapPlace.{ImapPlace}
use Rattle.imap_states.specs.declared.state.ImapPlace.TheVariants as place
use Rattle.imap_states.specs.declared.state.ImapState.{ImapState}

empty-suits : (a : Archive) (first last : ℕ) → IsArchive a → SuitsPlace a (place.Selected (known first last []))
empty-suits a first last valid = (record { valid = valid; none_back = λ n low below alive. absurd (omega (arith, low, below)) }, λ n low below. absurd (omega (arith, low, below)))

-- An archive suits a client that was told of it.
pub told-suits : (a : Archive) (first last : ℕ) → IsArchive a → SuitsPlace a (place.Selected (known first last (live_in a first last)))
told-suits a first last valid = elim (cases_lt last first) [
  | inl less ↦ subst (λ (ns : List ℕ). SuitsPlace a (place.Selected (known first last ns))) (sym (range-empty a first last less)) (empty-suits a first last valid)
  | inr more ↦ suits_told a first last (omega (arith, more)) valid
]

-- So it is after a client at a place was told of changes.
pub now-suits : (a : Archive) (p : ImapPlace) → IsArchive a → SuitsPlace a (place_now a p)
now-suits a place.LoggedOut valid = tt
now-suits a place.LoggedIn valid = tt
now-suits a (place.Selected k) valid = told-suits a k.first k.last valid

later-place : (a b : Archive) (p : ImapPlace) → GoneStay a b → IsArchive b → SuitsPlace a p → SuitsPlace b p
later-place a b place.LoggedOut gone valid suits = tt
later-place a b place.LoggedIn gone valid suits = tt
later-place a b (place.Selected k) gone valid suits = suits_later a b k gone valid suits.1 suits.0

pub later_suits : LaterSuits
later_suits a b s gone valid suits = record { valid = valid; place = later-place a b s.place gone valid suits.place }

-- The same lines are told once.
none-told : (now : List ℕ) → change_lines (changes_of now now) ≡ []
none-told now = ap (λ (gone : List ℕ). flat_map expunge_line gone ++ exists_if (changes_of now now).exists) (told_again now).0 ∙ ap exists_if (told_again now).1

pub place-once : (a : Archive) (p : ImapPlace) → place_lines a (place_now a p) ≡ []
place-once a place.LoggedOut = refl
place-once a place.LoggedIn = refl
place-once a (place.Selected k) = none-told (live_in a k.first k.last)

pub place-twice : (a : Archive) (p : ImapPlace) → place_now a (place_now a p) ≡ place_now a p
place-twice a place.LoggedOut = refl
place-twice a place.LoggedIn = refl
place-twice a (place.Selected k) = refl

-- The state after a reply, if there is one, suits the archive.
abbrev pub LeavesSuiting : Archive → ImapReply → Type 0
LeavesSuiting a reply = (after : ImapState) → reply.next ≡ Some after → SuitsClient a after

pub says-leaves : (a : Archive) (s : ImapState) (words : List ℕ) → SuitsClient a s → LeavesSuiting a (says a s words)
says-leaves a s words suits after is = let same : s ≡ after = cc is in subst (SuitsClient a) same suits

pub closes-leaves : (a : Archive) (words : List ℕ) → LeavesSuiting a (closes a words)
closes-leaves a words after is = absurd (cc is)

if-leaves : (a : Archive) (t : Bool) (one other : ImapReply) → LeavesSuiting a one → LeavesSuiting a other → LeavesSuiting a (if t then one else other)
if-leaves a true one other first second = first
if-leaves a false one other first second = second

pub tagged-leaves : (a : Archive) (s : ImapState) (tag : List ℕ) (reply : ImapReply) (way : Departure) → SuitsClient a s → LeavesSuiting a reply → LeavesSuiting a (tagged_ways a s tag reply way)
tagged-leaves a s tag reply Plain suits leaves = leaves
tagged-leaves a s tag reply Memory suits leaves = says-leaves a s (no_memory_line tag) suits
tagged-leaves a s tag reply Disk suits leaves = leaves
tagged-leaves a s tag reply Newer suits leaves = leaves

pub untagged-leaves : (a : Archive) (reply : ImapReply) (way : Departure) → LeavesSuiting a reply → LeavesSuiting a (untagged_ways a reply way)
untagged-leaves a reply Plain leaves = leaves
untagged-leaves a reply Memory leaves = closes-leaves a bye_memory_line
untagged-leaves a reply Disk leaves = leaves
untagged-leaves a reply Newer leaves = leaves

module _ (a : Archive) (s : ImapState) (suits : SuitsClient a s) where
  -- A state at a place that suits the archive.
  at-suits : (p : ImapPlace) (idle : Option (List ℕ)) → SuitsPlace a p → SuitsClient a (state_of p idle)
  at-suits p idle fits = record { valid = suits.valid; place = fits }

  pub now-client : (idle : Option (List ℕ)) → SuitsClient a (state_of (place_now a s.place) idle)
  now-client idle = at-suits (place_now a s.place) idle (now-suits a s.place suits.valid)

  pub mistaken-leaves : (tag : List ℕ) → LeavesSuiting a (mistaken a s tag)
  mistaken-leaves tag = says-leaves a s (bad_line tag) suits

  completed-leaves : (own tag name : List ℕ) → LeavesSuiting a (completed a s own tag name)
  completed-leaves own tag name = says-leaves a (at_place s (place_now a s.place)) [] (now-client s.idle)

  in-leaves : (tag : List ℕ) (reply : ImapReply) (t : Bool) → LeavesSuiting a reply → LeavesSuiting a (if t then mistaken a s tag else reply)
  in-leaves tag reply t leaves = if-leaves a t (mistaken a s tag) reply (mistaken-leaves tag) leaves

  out-leaves : (tag : List ℕ) (reply : ImapReply) (t : Bool) → LeavesSuiting a reply → LeavesSuiting a (if t then reply else mistaken a s tag)
  out-leaves tag reply t leaves = if-leaves a t reply (mistaken a s tag) leaves (mistaken-leaves tag)

  same-leaves : (words : List ℕ) → LeavesSuiting a (says a s words)
  same-leaves words = says-leaves a s words suits

  select-leaves : (tag name : List ℕ) (index : Option ℕ) → LeavesSuiting a (select_by a s tag name index)
  select-leaves tag name None = says-leaves a (at_place s place.LoggedIn) [] (at-suits place.LoggedIn s.idle tt)
  select-leaves tag name (Some index) =
      let range = mailbox_range a index in
      says-leaves a (at_place s (place.Selected (box_of a range))) [] (at-suits (place.Selected (box_of a range)) s.idle (told-suits a range.first range.last suits.valid))

  status-leaves : (tag : List ℕ) (items : List StatusItem) (index : Option ℕ) → LeavesSuiting a (status_by a s tag items index)
  status-leaves tag items None = same-leaves []
  status-leaves tag items (Some index) = completed-leaves [] tag []

  asked-leaves : (tag : List ℕ) (c : StateCommand) → LeavesSuiting a (asked a s tag c)
  asked-leaves tag command.Capability = completed-leaves [] tag []
  asked-leaves tag command.Noop = completed-leaves [] tag []
  asked-leaves tag command.Logout = closes-leaves a []
  asked-leaves tag command.Login = out-leaves tag _ (is_logged_out s.place) (says-leaves a (at_place s place.LoggedIn) [] (at-suits place.LoggedIn s.idle tt))
  asked-leaves tag command.Authenticate = out-leaves tag _ (is_logged_out s.place) (same-leaves [])
  asked-leaves tag (command.Select box) = in-leaves tag (select_by a s tag (codes "SELECT") (mailbox_named a box.now)) (is_logged_out s.place) (select-leaves tag (codes "SELECT") (mailbox_named a box.now))
  asked-leaves tag (command.Examine box) = in-leaves tag (select_by a s tag (codes "EXAMINE") (mailbox_named a box.now)) (is_logged_out s.place) (select-leaves tag (codes "EXAMINE") (mailbox_named a box.now))
  asked-leaves tag (command.List reference pattern) = in-leaves tag _ (is_logged_out s.place) (completed-leaves [] tag [])
  asked-leaves tag (command.Lsub reference pattern) = in-leaves tag _ (is_logged_out s.place) (completed-leaves [] tag [])
  asked-leaves tag (command.Status box items) = in-leaves tag _ (is_logged_out s.place) (status-leaves tag items.now (mailbox_named a box.now))
  asked-leaves tag command.Change = in-leaves tag _ (is_logged_out s.place) (same-leaves [])
  asked-leaves tag command.ChangeMessages = out-leaves tag _ (is_selected s.place) (same-leaves [])
  asked-leaves tag command.Check = out-leaves tag _ (is_selected s.place) (completed-leaves [] tag [])
  asked-leaves tag command.Close = out-leaves tag _ (is_selected s.place) (says-leaves a (at_place s place.LoggedIn) [] (at-suits place.LoggedIn s.idle tt))
  asked-leaves tag command.Idle = in-leaves tag _ (is_logged_out s.place) (says-leaves a (state_of s.place (Some tag)) [] (at-suits s.place (Some tag) suits.place))

  pub command-leaves : (tag : List ℕ) (c : StateCommand) (way : Departure) → LeavesSuiting a (asked_said a s tag c way)
  command-leaves tag c way = tagged-leaves a s tag _ way suits (asked-leaves tag c)

  pub end-leaves : (tag : List ℕ) (done : Bool) (way : Departure) → LeavesSuiting a (end_said a s tag done way)
  end-leaves tag done way = untagged-leaves a (idle_ended a s tag done) way (says-leaves a (state_of (place_now a s.place) None) [] (now-client None))

pub state_laws : StateLaws
state_laws = record {
  new = λ a valid. record { valid = valid; place = tt };
  later = later_suits;
  replies = λ a s after tag c way suits is. command-leaves a s suits tag c way after is;
  updates = λ a s suits. now-client a s suits s.idle;
  once = λ a s. place-once a s.place;
}
