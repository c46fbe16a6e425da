-- The verdict on the delivery of a message to an archive on a disk.
use Rattle.std.specs.Prelude.{◌≡◌, ℕ, Bool, true, List, [], Some, None, Ok, Err, refl, if◌then◌else◌}
use Rattle.std.specs.Str.{bytes_eq}
use Rattle.std.proofs.Common.{◌∙◌, sym, ap, subst, arith}
use Rattle.std.proofs.lemmas.Slice.Eq.{bytes_eq-Decides}
use Rattle.arch_base.specs.Counts.{RoseIf}
use Rattle.arch_base.specs.declared.config.Config.{Config}
use Rattle.arch_base.specs.declared.ids.ObjectId.{ObjectId}
use Rattle.mail_commits.specs.Ids.{text_ids_of}
use Rattle.mail_commits.specs.declared.ids.TextIds.{TextIds}
use Rattle.git_objects.specs.Objects.{blob_id_of}
use Rattle.arch_model.specs.Archives.{Archive, blob_number}
use Rattle.arch_model.specs.Shelves.{blob_text}
use Rattle.arch_model.specs.Delivery.{delivered, delivered_kept, collision}
use Rattle.arch_model.proofs.Owners.{collision-alone, collision-first}
use Rattle.arch_model.specs.declared.text_refusal.TextRefusal.{TextRefusal}
use Rattle.arch_model.specs.declared.text_refusal.TextRefusal.TheVariants as reading
use Rattle.arch_judge.specs.Judging.{Judges, Compares, unless_same, MayCome, MayBeKept, MayTake, RefusesFormed, RefusesLast, TakesThis, TakesSame, IsForDelivery}
use Rattle.arch_model.specs.Validity.{BlobsAgree}
use Rattle.arch_judge.specs.Indexes.{IsArchiveIndex, number_in}
use Rattle.arch_judge.specs.declared.index.Index.{Index}
use Rattle.arch_judge.specs.declared.judging.Verdict.{Verdict}
use Rattle.arch_judge.specs.declared.judging.Verdict.TheVariants.{Take, Refuse}
use Rattle.arch_judge.specs.declared.judging.Judgement.TheVariants.{Final}
use Rattle.arch_model.specs.declared.answer.Answer.{Answer}
use Rattle.arch_model.specs.declared.answer.Answer.TheVariants as answer
use Rattle.epoch_store.specs.Reads.{GivesTextOf}
use Rattle.store_finding.specs.Kept.{StoreState, KeepsArchive}
use Rattle.archive_core.specs.Commands.{ReadsMessage, JudgesRead, IsAlone, IsFaultRead, IsTextUnread, unread_answer}
use Rattle.archive_core.specs.Rewriting.{IsLate, RefusesLate}
use Rattle.archive_core.specs.Numbers.{IsMessageAt}
use Rattle.store_finding.specs.Indexes.{IndexesStored}
use Rattle.archive_core.specs.Kept.{IsNewTo, MayGoIn, TakesWhatMay}
use Rattle.archive_core.proofs.ByBlob.{blob-index}
use Rattle.archive_core.proofs.Indexes.{are-of, new-to}

-- A refusal of a delivery is one of the answers that may come.
pub refuses-by : (v : StoreState) (index : Index) (reply : Answer) → IsForDelivery reply → TakesWhatMay v index (Refuse reply)
refuses-by v index (answer.Ok number id) is = absurd is
refuses-by v index (answer.NotLive number) is = absurd is
refuses-by v index (answer.NoText number) is = absurd is
refuses-by v index answer.DiskFault is = tt
refuses-by v index (answer.Damaged file at) is = tt
refuses-by v index other is = is

-- A text that wasn't read.
pub unread-by : (v : StoreState) (index : Index) (reply : Answer) → IsTextUnread reply → TakesWhatMay v index (Refuse reply)
unread-by v index answer.NoMemory is = is
unread-by v index answer.DiskFault is = is
unread-by v index (answer.Damaged file at) is = is
unread-by v index other is = absurd is

pub taken-by : (v : StoreState) (config : Config) (index : Index) (next : ℕ) (text : List ℕ) (ids : TextIds) (number : ℕ) → config ≡ v.root.config → next ≡ v.root.next → MayBeKept config index next text ids number → TakesWhatMay v index (Take text ids number)
taken-by v config index next text ids number config_is next_is may =
    subst (λ (c : Config). MayBeKept c index v.root.next text ids number) config_is (subst (λ (n : ℕ). MayBeKept config index n text ids number) next_is may)

pub compared-by : (v : StoreState) (config : Config) (index : Index) (next : ℕ) (text : List ℕ) (ids : TextIds) (verdict : Verdict) → config ≡ v.root.config → next ≡ v.root.next → MayCome config index text ids → TakesThis config next text ids verdict → TakesWhatMay v index verdict
compared-by v config index next text ids (Take took named number) config_is next_is may this =
    subst (λ (t : List ℕ). TakesWhatMay v index (Take t named number)) (sym this.0) (subst (λ (i : TextIds). TakesWhatMay v index (Take text i number)) (sym this.1) (taken-by v config index next text ids number config_is next_is (this.2 index may)))
compared-by v config index next text ids (Refuse reply) config_is next_is may this = refuses-by v index reply this

-- What needs no comparison.
pub judged-by : (v : StoreState) (config : Config) (index : Index) (next : ℕ) (verdict : Verdict) → config ≡ v.root.config → next ≡ v.root.next → MayTake config index next verdict → TakesWhatMay v index verdict
judged-by v config index next (Take text ids number) config_is next_is may = taken-by v config index next text ids number config_is next_is may.0
judged-by v config index next (Refuse reply) config_is next_is may = refuses-by v index reply may

-- It tells of no read that failed.
pub judged-cause : (config : Config) (index : Index) (next faults : ℕ) (verdict : Verdict) → MayTake config index next verdict → RoseIf (IsFaultRead verdict) faults faults
judged-cause config index next faults verdict may = record { later = omega arith; failed = λ fault. absurd (never verdict may fault); kept = λ steady. refl } where
  never : (w : Verdict) → MayTake config index next w → IsFaultRead w → ⊥
  never (Take text ids number) may fault = fault
  never (Refuse reply) may fault = subst IsForDelivery fault may

-- A message with a form is refused for no want of one: before a text was read, after that wasn't, and
-- after it was compared.
pub final-late : (verdict : Verdict) → RefusesFormed (Final verdict) → RefusesLate verdict
final-late (Take text ids number) is = tt
final-late (Refuse (answer.Duplicate number)) is = tt
final-late (Refuse (answer.Full max)) is = tt
final-late (Refuse (answer.Collision number)) is = tt
final-late (Refuse answer.NoMemory) is = tt
final-late (Refuse answer.DiskFault) is = tt
final-late (Refuse (answer.Damaged file at)) is = tt
final-late (Refuse other) is = absurd is

pub unread-late : (reply : Answer) → IsTextUnread reply → IsLate reply
unread-late answer.NoMemory is = tt
unread-late answer.DiskFault is = tt
unread-late (answer.Damaged file at) is = tt
unread-late other is = absurd is

pub last-late : (verdict : Verdict) → RefusesLast verdict → RefusesLate verdict
last-late (Take text ids number) is = tt
last-late (Refuse (answer.Full max)) is = tt
last-late (Refuse (answer.Collision number)) is = tt
last-late (Refuse other) is = absurd is

-- A text that may be kept would be accepted.
pub may-go : (v : StoreState) (index : Index) (text : List ℕ) (ids : TextIds) (number : ℕ) → IndexesStored v.entries index → MayBeKept v.root.config index v.root.next text ids number → MayGoIn v text ids
may-go v index text ids number indexed may =
    let fresh : IsNewTo v.entries text = new-to v.entries index text indexed may.comes.storage.id may.comes.new_id in
    record {
      accepts = record {
        writable = may.comes.writable;
        number_left = may.number_left;
        storage = may.comes.storage;
        id = λ a keeps. fresh a.config.form a.entries (are-of v a keeps);
      };
      new_id = fresh;
      ids_are = may.comes.ids_are;
    }

-- What is judged is judged where a read may fail, too.
pub judges-read : (a : Archive) (bytes : List ℕ) (verdict : Verdict) → Judges a bytes verdict → JudgesRead a bytes verdict
judges-read a bytes (Refuse answer.DiskFault) is = tt
judges-read a bytes other is = is

-- A text that wasn't read decides nothing.
pub unread-judges : (a b : Archive) (bytes : List ℕ) (number : ℕ) (reply : Answer) → ReadsMessage a number (Err reply) → JudgesRead b bytes (Refuse reply)
unread-judges a b bytes number answer.NoMemory is = tt
unread-judges a b bytes number answer.DiskFault is = tt
unread-judges a b bytes number other is = absurd is

-- The text that was read is that of the blob ids of its message, and an error isn't damage.
pub reads-message : (v : StoreState) (a : Archive) (number index : ℕ) (text : List ℕ) → KeepsArchive v a → IsMessageAt v.entries number index → GivesTextOf a index [] text (Ok tt) → ReadsMessage a number (Ok text)
reads-message v a number index text keeps at given blob first = blob-index v a blob number index keeps (sym first) at ∙ given.1 ∙ ap Some (sym given.2)

pub refuses-message : (v : StoreState) (a : Archive) (number index : ℕ) (old new : List ℕ) (why : TextRefusal) (reply : Answer) → reply ≡ unread_answer v index why → GivesTextOf a index old new (Err why) → ReadsMessage a number (Err reply)
refuses-message v a number index old new reading.DiskFault reply is given = subst (λ (r : Answer). ReadsMessage a number (Err r)) (sym is) tt
refuses-message v a number index old new reading.NoMemory reply is given = subst (λ (r : Answer). ReadsMessage a number (Err r)) (sym is) tt
refuses-message v a number index old new (reading.Damaged named found) reply is given = absurd given

-- The texts are compared as the definition has it.
pub compares : (a : Archive) (bytes text kept : List ℕ) (blob : ObjectId) (number : ℕ) → BlobsAgree a.config.form a.entries → Compares a bytes text blob number → ReadsMessage a number (Ok kept) → (moment : ℕ) → delivered a bytes moment ≡ delivered_kept a text moment (unless_same text kept number)
compares a bytes text kept blob number agree decides reads moment = decides.decides agree kept (reads blob decides.first) moment

-- The ids of a text in the form of some settings are those in the form of an archive that has them.
ids-by : (a : Archive) (config : Config) (text : List ℕ) (ids : TextIds) → a.config ≡ config → ids ≡ text_ids_of config.form text → ids ≡ text_ids_of a.config.form text
ids-by a config text ids same is = is ∙ ap (λ (c : Config). text_ids_of c.form text) (sym same)

-- No other text has the blob id of one that is taken: no entry has it, or the first that has it has the
-- same text.
pub alone-new : (a : Archive) (index : Index) (text : List ℕ) (ids : TextIds) → IsArchiveIndex a.config.form a.entries index → ids ≡ text_ids_of a.config.form text → number_in index.blobs ids.blob ≡ None → collision a.config.form a.entries text ≡ None
alone-new a index text ids indexed ids_are none =
    collision-alone a.config.form a.entries text
    (subst (λ (i : TextIds). blob_number a.config.form a.entries i.blob ≡ None) ids_are (sym (indexed.blobs ids.blob) ∙ none))

pub alone-final : (a : Archive) (config : Config) (index : Index) (next : ℕ) (verdict : Verdict) → a.config ≡ config → IsArchiveIndex a.config.form a.entries index → MayTake config index next verdict → IsAlone a verdict
alone-final a config index next (Take text ids number) same indexed may = alone-new a index text ids indexed (ids-by a config text ids same may.0.comes.ids_are) may.1
alone-final a config index next (Refuse reply) same indexed may = tt

pub alone-same : (a : Archive) (config : Config) (index : Index) (next : ℕ) (text kept : List ℕ) (ids : TextIds) (number : ℕ) (verdict : Verdict) → a.config ≡ config → BlobsAgree a.config.form a.entries → IsArchiveIndex a.config.form a.entries index → ids ≡ text_ids_of config.form text → number_in index.blobs ids.blob ≡ Some number → ReadsMessage a number (Ok kept)
    → TakesThis config next text ids verdict → TakesSame text kept verdict → IsAlone a verdict
alone-same a config index next text kept ids number (Take taken named n) config_is agree indexed ids_are known reads this same =
    let first : blob_number a.config.form a.entries ids.blob ≡ Some number = sym (indexed.blobs ids.blob) ∙ known in
    let at_text : blob_number a.config.form a.entries (blob_id_of a.config.form text) ≡ Some number = subst (λ (i : TextIds). blob_number a.config.form a.entries i.blob ≡ Some number) (ids-by a config text ids config_is ids_are) first in
    let read : blob_text a.config.form a.entries (blob_id_of a.config.form text) ≡ Some kept = reads (blob_id_of a.config.form text) at_text in
    let equal : bytes_eq text kept ≡ true = (bytes_eq-Decides text kept).1 (sym same) in
    subst (λ (t : List ℕ). collision a.config.form a.entries t ≡ None) (sym this.0)
    (collision-first a.config.form a.entries text kept number agree at_text read ∙ ap (λ (t : Bool). if t then None else Some number) equal)
alone-same a config index next text kept ids number (Refuse reply) config_is agree indexed ids_are known reads this same = tt
