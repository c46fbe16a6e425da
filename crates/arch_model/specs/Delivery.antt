-- What the commands do to an archive, and their answers.
use Rattle.std.specs.Prelude.{◌≡◌, ◌+◌, ℕ, Bool, true, false, not, ◌&&◌, ◌||◌, ◌==◌, nat_lt, List, [], ◌∷◌, ◌++◌, length, codes, decimal, Option, Some, None, Result, Ok, Err, if◌then◌else◌}
use Rattle.std.specs.Str.{bytes_eq}
use Rattle.arch_base.specs.Ids.{id_bytes, id_eq}
use Rattle.arch_base.specs.declared.ids.Form.{Form}
use Rattle.hex.specs.Hex.{encode_lower}
use Rattle.mail_reader.specs.Stored.{stored}
use Rattle.mail_reader.specs.declared.storing.StoredRefusal.{StoredRefusal}
use Rattle.mail_reader.specs.declared.storing.StoredRefusal.TheVariants as stored_refusal
use Rattle.git_objects.specs.Objects.{blob_id_of}
use Rattle.disk_model.specs.declared.name.FileKind.{FileKind}
use Rattle.disk_model.specs.declared.name.FileKind.TheVariants.{Root, Map, Epoch, Cache}
use Rattle.disk_model.specs.declared.name.FileName.{FileName}
use Rattle.disk_model.specs.Sizes.{greatest_epoch}
use Rattle.arch_model.specs.Archives.{Entry, Archive, with_entry, with_deletion, without_entries, live, messages, text_of, in_epoch}
use Rattle.arch_model.specs.Epochs.{epoch_bytes}
use Rattle.arch_model.specs.Candidates.{choice_of}
use Rattle.arch_model.specs.declared.choice.Choice.{Choice}
use Rattle.arch_model.specs.declared.choice.Choice.TheVariants.{Take, Repeat}
use Rattle.arch_model.specs.declared.command.Command.{Command}
use Rattle.arch_model.specs.declared.command.Command.TheVariants.{Deliver, Remove, Purge, Edit}
use Rattle.arch_model.specs.declared.answer.Answer.{Answer}
use Rattle.arch_model.specs.declared.answer.Answer.TheVariants as answer

-- The greater of two numbers.
abbrev pub greater : ℕ → ℕ → ℕ
greater m n = if nat_lt m n then n else m

-- The greatest epoch of an entry, or 0 without entries.
abbrev pub last_epoch : List Entry → ℕ
last_epoch [] = 0
last_epoch (e ∷ es) = greater e.epoch (last_epoch es)

-- An epoch of a length takes one more entry: it is shorter than the limit, or it is the greatest
-- epoch, 63, which grows without a limit.
abbrev pub takes_more : ℕ → ℕ → ℕ → Bool
takes_more limit epoch len = epoch == greatest_epoch || nat_lt len limit

-- The epoch of a new entry: the last one if it takes one more, otherwise the next one
-- (public-inbox-v2-format, "GIT EPOCHS").
abbrev pub new_epoch : Archive → ℕ
new_epoch a =
    if takes_more a.config.limit (last_epoch a.entries) (length (epoch_bytes a.config.form
    (in_epoch a.entries (last_epoch a.entries)))) then last_epoch a.entries
    else last_epoch a.entries + 1

-- The entry has the blob id of the text in a form, and another text.
abbrev pub clashes : Form → List ℕ → Entry → Bool
clashes form text e = id_eq (blob_id_of form text) (blob_id_of form e.text) && not (bytes_eq text e.text)

-- The number of the first entry with the blob id of the text in a form, and another text, if there is
-- one. It may be live or not, and is the least such number, since a deletion comes after its message.
abbrev pub collision : Form → List Entry → List ℕ → Option ℕ
collision form [] text = None
collision form (e ∷ es) text = if clashes form text e then Some e.number else collision form es text

-- An archive, and the answer that comes with it.
pub record Done : Type 0 where
  pub archive : Archive
  pub answer : Answer

-- The archive is unchanged, and this is the answer.
abbrev pub refused : Archive → Answer → Done
refused a answer = record { archive = a; answer = answer }

-- The text is kept under the next number, unless that is above the greatest one.
abbrev pub delivered_new : Archive → List ℕ → ℕ → Done
delivered_new a text moment =
    if nat_lt a.config.max a.next then refused a (answer.Full a.config.max)
    else record {
      archive = with_entry a (new_epoch a) text moment;
      answer = answer.Ok a.next (blob_id_of a.config.form text);
    }

-- The text is delivered, unless another text has its blob id.
abbrev pub delivered_kept : Archive → List ℕ → ℕ → Option ℕ → Done
delivered_kept a text moment (Some number) = refused a (answer.Collision number)
delivered_kept a text moment None = delivered_new a text moment

-- What the candidate ids decided is carried out.
abbrev pub delivered_choice : Archive → ℕ → Choice → Done
delivered_choice a moment (Repeat number) = refused a (answer.Duplicate number)
delivered_choice a moment (Take text) = delivered_kept a text moment (collision a.config.form a.entries text)

-- The storage form of the bytes is delivered, or there is none and the message is refused.
abbrev pub delivered_form : Archive → ℕ → Result (List ℕ) StoredRefusal → Done
delivered_form a moment (Ok text) = delivered_choice a moment (choice_of a text)
delivered_form a moment (Err stored_refusal.NoFields) = refused a answer.NoFields
delivered_form a moment (Err (stored_refusal.TooLarge len)) = refused a (answer.TooLarge len)
delivered_form a moment (Err stored_refusal.NoMemory) = refused a answer.NoMemory

-- The delivery of bytes at a moment. A mirror takes none.
abbrev pub delivered : Archive → List ℕ → ℕ → Done
delivered a bytes moment =
    if a.config.mirror then refused a answer.IsMirror else delivered_form a moment (stored bytes)

-- The live message with this text is ended, or the number is not live.
abbrev pub removed_text : Archive → ℕ → ℕ → Option (List ℕ) → Done
removed_text a number moment None = refused a (answer.NotLive number)
removed_text a number moment (Some text) = record {
  archive = with_deletion a number (new_epoch a) text moment;
  answer = answer.Ok number (blob_id_of a.config.form text);
}

-- The removal of a number at a moment. A mirror takes none. A removal writes one more entry, and
-- takes no number.
abbrev pub removed : Archive → ℕ → ℕ → Done
removed a number moment =
    if a.config.mirror then refused a answer.IsMirror
    else removed_text a number moment (text_of (live a.entries) number)

-- The entries with this text are dropped, or the number has no message.
abbrev pub purged_text : Archive → ℕ → Option (List ℕ) → Done
purged_text a number None = refused a (answer.NoText number)
purged_text a number (Some text) = record {
  archive = without_entries a text;
  answer = answer.Ok number (blob_id_of a.config.form text);
}

-- The purge of a number. A mirror takes none. It drops each entry with the text of the number's
-- message, live or not, whatever the entry's own number.
abbrev pub purged : Archive → ℕ → Done
purged a number =
    if a.config.mirror then refused a answer.IsMirror
    else purged_text a number (text_of (messages a.entries) number)

-- The answer is that a command was carried out.
abbrev pub is_accepted : Answer → Bool
is_accepted (answer.Ok number id) = true
is_accepted other = false

-- What was done on another archive, if that was accepted. A refusal leaves this archive unchanged.
abbrev pub unless_refused : Archive → Done → Done
unless_refused a done = if is_accepted done.answer then done else refused a done.answer

-- The storage form of bytes is this text.
abbrev pub is_form : List ℕ → Result (List ℕ) StoredRefusal → Bool
is_form text (Ok kept) = bytes_eq kept text
is_form text (Err why) = false

-- The live message with this text is purged and the bytes are delivered on the archive without it, as
-- one command; or the number is not live. If the storage form of the bytes is the text itself, the
-- message is the same.
abbrev pub edited_text : Archive → ℕ → List ℕ → ℕ → Option (List ℕ) → Done
edited_text a number bytes moment None = refused a (answer.NotLive number)
edited_text a number bytes moment (Some text) =
    if is_form text (stored bytes) then refused a (answer.Duplicate number)
    else unless_refused a (delivered (without_entries a text) bytes moment)

-- The edit of a number at a moment. A mirror takes none.
abbrev pub edited : Archive → ℕ → List ℕ → ℕ → Done
edited a number bytes moment =
    if a.config.mirror then refused a answer.IsMirror
    else edited_text a number bytes moment (text_of (live a.entries) number)

-- A command at a moment.
abbrev pub applied : Archive → Command → ℕ → Done
applied a (Deliver bytes) moment = delivered a bytes.now moment
applied a (Remove number) moment = removed a number moment
applied a (Purge number) moment = purged a number
applied a (Edit number bytes) moment = edited a number bytes.now moment

-- The answer of a call and the archive after it are what is wanted. `NoMemory` leaves the archive
-- unchanged. An archive without a disk never answers that the disk failed or that a file is
-- damaged.
abbrev pub Delivers : Archive → Answer → Archive → Done → Type 0
Delivers old answer.NoMemory new wanted = new ≡ old
Delivers old answer.DiskFault new wanted = ⊥
Delivers old (answer.Damaged file offset) new wanted = ⊥
Delivers old other new wanted = wanted ≡ record { archive = new; answer = other }

-- The words for a kind of file and a number: `root`, `map`, `epoch E` or `cache`.
abbrev pub kind_words : FileKind → ℕ → List ℕ
kind_words Root number = codes "root"
kind_words Map number = codes "map"
kind_words Epoch number = codes "epoch " ++ decimal number
kind_words Cache number = codes "cache"

-- The words for a file of an archive.
abbrev pub file_words : FileName → List ℕ
file_words file = kind_words file.kind file.number

-- The line of an answer, without its line feed.
abbrev pub answer_line : Answer → List ℕ
answer_line (answer.Ok number id) = codes "1 ok " ++ (decimal number ++ 32 ∷ encode_lower (id_bytes id))
answer_line (answer.Duplicate number) = codes "2 duplicate " ++ decimal number
answer_line answer.NoFields = codes "3 no fields"
answer_line (answer.TooLarge len) = codes "4 too large " ++ decimal len
answer_line (answer.Full max) = codes "5 full " ++ decimal max
answer_line (answer.Collision number) = codes "6 collision " ++ decimal number
answer_line (answer.NotLive number) = codes "7 not live " ++ decimal number
answer_line (answer.NoText number) = codes "8 no text " ++ decimal number
answer_line answer.IsMirror = codes "9 is mirror"
answer_line answer.DiskFault = codes "10 disk fault"
answer_line (answer.Damaged file offset) =
    codes "11 damaged " ++ (file_words file ++ 32 ∷ decimal offset)
answer_line answer.NoMemory = codes "12 no memory"
