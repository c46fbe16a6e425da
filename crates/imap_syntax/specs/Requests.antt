-- What a command asks, and the names of commands (RFC 3501, section 6, and RFC 2177).
use Rattle.std.specs.Prelude.{ℕ, Bool, true, false, List, codes, map, Option, Some, None, if◌then◌else◌}
use Rattle.imap_words.specs.Words.{is_keyword}
use Rattle.imap_syntax.specs.Trees.{KeyTree, tree_of}
use Rattle.imap_syntax.specs.declared.asks.Ask.{Ask}
use Rattle.imap_syntax.specs.declared.asks.Ask.TheVariants as ask
use Rattle.imap_syntax.specs.declared.asks.StatusItem.{StatusItem}
use Rattle.imap_syntax.specs.declared.asks.StatusItem.TheVariants as status
use Rattle.imap_syntax.specs.declared.command_names.CommandName.{CommandName}
use Rattle.imap_syntax.specs.declared.command_names.CommandName.TheVariants as name
use Rattle.imap_syntax.specs.declared.command_names.ListCommand.{ListCommand}
use Rattle.imap_syntax.specs.declared.command_names.ListCommand.TheVariants as list
use Rattle.imap_syntax.specs.declared.command_names.MailboxCommand.{MailboxCommand}
use Rattle.imap_syntax.specs.declared.command_names.MailboxCommand.TheVariants as mailbox
use Rattle.imap_syntax.specs.declared.command_names.NumberedCommand.{NumberedCommand}
use Rattle.imap_syntax.specs.declared.command_names.NumberedCommand.TheVariants as numbered
use Rattle.imap_syntax.specs.declared.command_names.PlainCommand.{PlainCommand}
use Rattle.imap_syntax.specs.declared.command_names.PlainCommand.TheVariants as plain
use Rattle.imap_syntax.specs.declared.dates.DateTime.{DateTime}
use Rattle.imap_syntax.specs.declared.flags.StoreItem.{StoreItem}
use Rattle.imap_syntax.specs.declared.items.Item.{Item}
use Rattle.imap_syntax.specs.declared.sets.SetRange.{SetRange}

-- What a command asks: its name and its arguments. Of the last four the first argument says whether
-- numbers are UIDs.
pub data ImapCommand : Type 0 where
  Plain : PlainCommand → ImapCommand
  OnMailbox : MailboxCommand → List ℕ → ImapCommand
  Lists : ListCommand → List ℕ → List ℕ → ImapCommand
  Login : List ℕ → List ℕ → ImapCommand
  Authenticate : List ℕ → ImapCommand
  Rename : List ℕ → List ℕ → ImapCommand
  Status : List ℕ → List StatusItem → ImapCommand
  Append : List ℕ → Option (List (List ℕ)) → Option DateTime → List ℕ → ImapCommand
  Copy : Bool → List SetRange → List ℕ → ImapCommand
  Fetch : Bool → List SetRange → List Item → ImapCommand
  Store : Bool → List SetRange → StoreItem → List (List ℕ) → ImapCommand
  Search : Bool → Option (List ℕ) → List KeyTree → ImapCommand

-- What the octets of a whole command are: without a readable tag; with a tag, and not of the grammar;
-- or a command of the grammar, with its tag.
pub data WholeCommand : Type 0 where
  Untagged : WholeCommand
  Faulty : List ℕ → WholeCommand
  Understood : List ℕ → ImapCommand → WholeCommand

-- What a read command stands for.
abbrev pub meant : Ask → WholeCommand
meant (ask.Capability tag) = Understood tag (Plain plain.Capability)
meant (ask.Noop tag) = Understood tag (Plain plain.Noop)
meant (ask.Logout tag) = Understood tag (Plain plain.Logout)
meant (ask.Check tag) = Understood tag (Plain plain.Check)
meant (ask.Close tag) = Understood tag (Plain plain.Close)
meant (ask.Expunge tag) = Understood tag (Plain plain.Expunge)
meant (ask.Idle tag) = Understood tag (Plain plain.Idle)
meant (ask.Select tag box) = Understood tag (OnMailbox mailbox.Select box)
meant (ask.Examine tag box) = Understood tag (OnMailbox mailbox.Examine box)
meant (ask.Create tag box) = Understood tag (OnMailbox mailbox.Create box)
meant (ask.Delete tag box) = Understood tag (OnMailbox mailbox.Delete box)
meant (ask.Subscribe tag box) = Understood tag (OnMailbox mailbox.Subscribe box)
meant (ask.Unsubscribe tag box) = Understood tag (OnMailbox mailbox.Unsubscribe box)
meant (ask.List tag reference pattern) = Understood tag (Lists list.List reference pattern)
meant (ask.Lsub tag reference pattern) = Understood tag (Lists list.Lsub reference pattern)
meant (ask.Login tag user password) = Understood tag (Login user password)
meant (ask.Authenticate tag mechanism) = Understood tag (Authenticate mechanism)
meant (ask.Rename tag box other) = Understood tag (Rename box other)
meant (ask.Status tag box items) = Understood tag (Status box items)
meant (ask.Append tag box flags date message) = Understood tag (Append box flags date message)
meant (ask.Copy tag set box) = Understood tag (Copy false set box)
meant (ask.UidCopy tag set box) = Understood tag (Copy true set box)
meant (ask.Fetch tag set items) = Understood tag (Fetch false set items)
meant (ask.UidFetch tag set items) = Understood tag (Fetch true set items)
meant (ask.Store tag set change flags) = Understood tag (Store false set change flags)
meant (ask.UidStore tag set change flags) = Understood tag (Store true set change flags)
meant (ask.Search tag charset keys) = Understood tag (Search false charset (map tree_of keys.items))
meant (ask.UidSearch tag charset keys) = Understood tag (Search true charset (map tree_of keys.items))

-- The command without arguments that a keyword names.
abbrev pub plain_command_of : List ℕ → Option PlainCommand
plain_command_of word =
    if is_keyword (codes "CAPABILITY") word then Some plain.Capability
    else if is_keyword (codes "NOOP") word then Some plain.Noop
    else if is_keyword (codes "LOGOUT") word then Some plain.Logout
    else if is_keyword (codes "CHECK") word then Some plain.Check
    else if is_keyword (codes "CLOSE") word then Some plain.Close
    else if is_keyword (codes "EXPUNGE") word then Some plain.Expunge
    else if is_keyword (codes "IDLE") word then Some plain.Idle
    else None

-- The command with a mailbox alone that a keyword names.
abbrev pub mailbox_command_of : List ℕ → Option MailboxCommand
mailbox_command_of word =
    if is_keyword (codes "SELECT") word then Some mailbox.Select
    else if is_keyword (codes "EXAMINE") word then Some mailbox.Examine
    else if is_keyword (codes "CREATE") word then Some mailbox.Create
    else if is_keyword (codes "DELETE") word then Some mailbox.Delete
    else if is_keyword (codes "SUBSCRIBE") word then Some mailbox.Subscribe
    else if is_keyword (codes "UNSUBSCRIBE") word then Some mailbox.Unsubscribe
    else None

-- The command on a set of messages, or on messages that match keys, that a keyword names.
abbrev pub numbered_command_of : List ℕ → Option NumberedCommand
numbered_command_of word =
    if is_keyword (codes "FETCH") word then Some numbered.Fetch
    else if is_keyword (codes "SEARCH") word then Some numbered.Search
    else if is_keyword (codes "STORE") word then Some numbered.Store
    else if is_keyword (codes "COPY") word then Some numbered.Copy
    else None

-- Any other command that a keyword names.
abbrev pub other_command_of : List ℕ → Option CommandName
other_command_of word =
    if is_keyword (codes "UID") word then Some name.Uid
    else if is_keyword (codes "LOGIN") word then Some name.Login
    else if is_keyword (codes "AUTHENTICATE") word then Some name.Authenticate
    else if is_keyword (codes "STATUS") word then Some name.Status
    else if is_keyword (codes "LIST") word then Some (name.List list.List)
    else if is_keyword (codes "LSUB") word then Some (name.List list.Lsub)
    else if is_keyword (codes "RENAME") word then Some name.Rename
    else if is_keyword (codes "APPEND") word then Some name.Append
    else None

-- The first of these names that there is.
abbrev pub command_name_by : Option PlainCommand → Option MailboxCommand → Option NumberedCommand
    → Option CommandName → Option CommandName
command_name_by (Some found) m n o = Some (name.Plain found)
command_name_by None (Some found) n o = Some (name.Mailbox found)
command_name_by None None (Some found) o = Some (name.Numbered found)
command_name_by None None None o = o

-- The command that a keyword names.
unfoldable pub command_name_of : List ℕ → Option CommandName
command_name_of word =
    command_name_by (plain_command_of word) (mailbox_command_of word) (numbered_command_of word)
    (other_command_of word)

-- The item of STATUS that a keyword names (status-att).
abbrev pub status_item_of : List ℕ → Option StatusItem
status_item_of word =
    if is_keyword (codes "MESSAGES") word then Some status.Messages
    else if is_keyword (codes "RECENT") word then Some status.Recent
    else if is_keyword (codes "UIDNEXT") word then Some status.UidNext
    else if is_keyword (codes "UIDVALIDITY") word then Some status.UidValidity
    else if is_keyword (codes "UNSEEN") word then Some status.Unseen
    else None
