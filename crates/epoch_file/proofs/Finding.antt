-- The entry at the front of bytes, by its parts.
use Rattle.std.proofs.Common.{◌≡◌, ◌≢◌, ℕ, ◌+◌, ◌≤◌, List, ◌++◌, length, take, drop, Option, Some, None, Result, Ok, Err, sym, ap, subst, ◌∙◌, arith}
use Rattle.std.proofs.lemmas.List.{take_at, take-append-drop, take-take, append_cancel_left}
use Rattle.std.proofs.lemmas.Option.{none-some, same_Some}
use Rattle.arch_base.specs.declared.ids.Form.{Form}
use Rattle.arch_base.specs.declared.ids.ObjectId.{ObjectId}
use Rattle.arch_base.specs.declared.sequence.NoMemory.{NoMemory}
use Rattle.git_objects.specs.declared.commits.Commit.{Commit}
use Rattle.git_objects.specs.Commits.{IsCommit, IsParent, commit_content}
use Rattle.git_objects.specs.Objects.{blob_spelling, id_of}
use Rattle.git_objects.proofs.ObjectIds.{IsObjectId-id_of}
use Rattle.mail_reader.specs.StorageTexts.{IsStorageText}
use Rattle.mail_commits.specs.declared.commits.EntryIds.{EntryIds}
use Rattle.mail_commits.specs.Commits.{commit_of}
use Rattle.mail_commits.specs.Entries.{tree_of, commit_text, entry_bytes}
use Rattle.epoch_file.specs.declared.entry.Seen.{Seen}
use Rattle.epoch_file.specs.declared.reading.Parts.{Parts}
use Rattle.epoch_file.specs.Entries.{EpochEntry, IsEpochEntry, bytes_after}
use Rattle.arch_base.specs.Moments.{last_moment}
use Rattle.epoch_file.specs.Reading.{IsParted, HasParts, PartsAgain, AreIds, IsEntryRead, ReadsEntry, ReadsWhere, seen_by}
use Rattle.epoch_file.specs.Walking.{seen_at}
use Rattle.epoch_file.proofs.Kept.{commit_valid, committed-is}

-- By parts that are found.
pub reads-parted : (form : Form) (offset : ℕ) (parent : Option ObjectId) (bytes : List ℕ) (parts : Parts) (result : Result (Option (Seen × ℕ)) NoMemory) → parts.form ≡ form → PartsAgain form bytes (Some parts)
    → ReadsWhere parts.form (λ e. HasParts parts.form parent e parts) offset parent bytes result → ReadsEntry form offset parent bytes result
reads-parted form offset parent bytes parts result same again reads = by result (subst (λ (f : Form). ReadsWhere f (λ e. HasParts f parent e parts) offset parent bytes result) same reads) where
  by : (result : Result (Option (Seen × ℕ)) NoMemory) → ReadsWhere form (λ e. HasParts form parent e parts) offset parent bytes result → ReadsEntry form offset parent bytes result
  by (Ok None) reads = λ p e rest valid is. reads p e rest valid is (again parent e rest valid is)
  by (Ok (Some found)) reads = reads
  by (Err e) reads = tt

-- If the bytes have no parts.
pub reads-unparted : (form : Form) (offset : ℕ) (parent : Option ObjectId) (bytes : List ℕ) → PartsAgain form bytes None → ReadsEntry form offset parent bytes (Ok None)
reads-unparted form offset parent bytes again = λ p e rest valid is. again parent e rest valid is

-- A moment is found in the content of an entry's commit.
abbrev pub MomentAgain : List ℕ → Option ℕ → Type 0
MomentAgain content found = (of : Form) (c : Commit) → IsCommit of c → content ≡ commit_content c → c.committed ≤ last_moment → found ≡ Some c.committed

moment_is : (form : Form) (parent : Option ObjectId) (e : EpochEntry) (parts : Parts) (found : Option ℕ) → IsParent form parent → IsEpochEntry e → HasParts form parent e parts → MomentAgain parts.commit.now found → found ≡ Some e.moment
moment_is form parent e parts found p valid has again =
    let tree = id_of form (tree_of form e.kind e.text) in
    let commit = commit_of e.text tree parent e.moment in
    let at = committed-is e.text tree parent e.moment in
    again form commit (commit_valid form e.text tree parent e.moment (IsObjectId-id_of form (tree_of form e.kind e.text)) p valid.moment) has.commit (omega (arith, at, valid.moment)) ∙ ap Some at

-- By the moment that is found.
pub reads-moment : (form : Form) (offset : ℕ) (parent : Option ObjectId) (bytes : List ℕ) (parts : Parts) (moment : ℕ) (result : Result (Option (Seen × ℕ)) NoMemory) → MomentAgain parts.commit.now (Some moment)
    → ReadsWhere form (λ e. HasParts form parent e parts × (moment ≡ e.moment)) offset parent bytes result → ReadsWhere form (λ e. HasParts form parent e parts) offset parent bytes result
reads-moment form offset parent bytes parts moment (Ok None) again reads = λ p e rest valid is has.
    reads p e rest valid is (has, same_Some moment e.moment (moment_is form parent e parts (Some moment) p valid has again))
reads-moment form offset parent bytes parts moment (Ok (Some found)) again reads = reads
reads-moment form offset parent bytes parts moment (Err e) again reads = tt

-- If there is no moment.
pub reads-no_moment : (form : Form) (offset : ℕ) (parent : Option ObjectId) (bytes : List ℕ) (parts : Parts) → MomentAgain parts.commit.now None → ReadsWhere form (λ e. HasParts form parent e parts) offset parent bytes (Ok None)
reads-no_moment form offset parent bytes parts again = λ p e rest valid is has. none-some e.moment (moment_is form parent e parts None p valid has again)

-- Two pieces with equal ones in their place.
pub joined-pieces : (a b x y : List ℕ) → a ≡ x → b ≡ y → (a ++ b ≡ x ++ y) × (x ++ y ≡ a ++ b)
joined-pieces a b x y first second =
    let both : a ++ b ≡ x ++ y = λ i. first i ++ second i in
    (both, sym both)

-- The tree and the commit that follow the blob of bytes, in the bytes of the three objects.
abbrev pub after_blob_in : Parts → List ℕ → List ℕ
after_blob_in parts bytes = drop parts.blob (take parts.size bytes)

-- The three objects are the blob, and what follows it.
blob_and_after : (bytes : List ℕ) (parts : Parts) → IsParted bytes parts → take parts.size bytes ≡ blob_spelling parts.text.now ++ after_blob_in parts bytes
blob_and_after bytes parts parted =
    sym (take-append-drop parts.blob (take parts.size bytes)) ∙ ap (λ (l : List ℕ). l ++ after_blob_in parts bytes) (take-take parts.blob parts.size bytes parted.blob_inside ∙ parted.spelled)

-- They are those of an entry if the tree and the commit are.
pub entry_whole : (form : Form) (bytes objects : List ℕ) (parts : Parts) (moment : ℕ) (parent : Option ObjectId) → IsParted bytes parts → objects ≡ after_blob_in parts bytes
    → objects ≡ tree_of form parts.kind parts.text.now ++ commit_text form parts.kind parts.text.now moment parent → take parts.size bytes ≡ entry_bytes form parts.kind parts.text.now moment parent
unfolding entry_bytes
entry_whole form bytes objects parts moment parent parted cut same =
    blob_and_after bytes parts parted ∙ ap (λ (l : List ℕ). blob_spelling parts.text.now ++ l) (sym cut ∙ same)

-- And only then.
pub entry_pieces : (form : Form) (bytes objects : List ℕ) (parts : Parts) (moment : ℕ) (parent : Option ObjectId) → IsParted bytes parts → objects ≡ after_blob_in parts bytes
    → take parts.size bytes ≡ entry_bytes form parts.kind parts.text.now moment parent → objects ≡ tree_of form parts.kind parts.text.now ++ commit_text form parts.kind parts.text.now moment parent
unfolding entry_bytes
entry_pieces form bytes objects parts moment parent parted cut same =
    let objects_of = tree_of form parts.kind parts.text.now ++ commit_text form parts.kind parts.text.now moment parent in
    cut ∙ append_cancel_left (blob_spelling parts.text.now) (after_blob_in parts bytes) objects_of (sym (blob_and_after bytes parts parted) ∙ same)

-- If the text is no storage text.
pub reads-unstored : (form : Form) (offset : ℕ) (parent : Option ObjectId) (bytes : List ℕ) (parts : Parts) (moment : ℕ) → (IsStorageText parts.text.now → ⊥)
    → ReadsWhere form (λ e. HasParts form parent e parts × (moment ≡ e.moment)) offset parent bytes (Ok None)
reads-unstored form offset parent bytes parts moment none = λ p e rest valid is has. none (subst IsStorageText (sym has.0.text) valid.text)

-- If the bytes differ from those of the entry.
pub reads-other : (form : Form) (offset : ℕ) (parent : Option ObjectId) (bytes : List ℕ) (parts : Parts) (moment : ℕ) (front : List ℕ) → front ≡ take parts.size bytes → front ≢ entry_bytes form parts.kind parts.text.now moment parent
    → ReadsWhere form (λ e. HasParts form parent e parts × (moment ≡ e.moment)) offset parent bytes (Ok None)
reads-other form offset parent bytes parts moment front cut other = λ p e rest valid is has.
    let here : take parts.size bytes ≡ bytes_after form parent e = ap (take parts.size) is ∙ take_at (bytes_after form parent e) rest parts.size (sym has.0.size) in
    let n = has.0.kind in
    let t = has.0.text in
    let m = has.1 in
    let same : entry_bytes form parts.kind parts.text.now moment parent ≡ entry_bytes form e.kind e.text e.moment parent = λ i. entry_bytes form (n i) (t i) (m i) parent in
    other (cut ∙ (here ∙ sym same))

-- If the bytes are those of the entry.
pub reads-entry : (form : Form) (offset : ℕ) (parent : Option ObjectId) (bytes : List ℕ) (parts : Parts) (moment : ℕ) (front : List ℕ) (ids : EntryIds) (seen : Seen) → IsParted bytes parts → PartsAgain form bytes (Some parts)
    → moment ≤ last_moment → IsStorageText parts.text.now → front ≡ take parts.size bytes → front ≡ entry_bytes form parts.kind parts.text.now moment parent → AreIds form parts.kind parts.text.now moment parent ids
    → seen ≡ seen_by offset parts moment ids → IsEntryRead form offset parent bytes (seen, parts.size)
reads-entry form offset parent bytes parts moment front ids seen parted again small stored cut same are is =
    let e : EpochEntry = record { kind = parts.kind; text = parts.text.now; moment = moment } in
    let rest = drop parts.size bytes in
    let whole : bytes ≡ bytes_after form parent e ++ rest = sym (take-append-drop parts.size bytes) ∙ ap (λ (l : List ℕ). l ++ rest) (sym cut ∙ same) in
    let valid : IsEpochEntry e = record { text = stored; moment = small } in
    let has : HasParts form parent e parts = again parent e rest valid whole in
    let at : offset + parts.front ≡ (seen_at form offset parent e).text_at = ap (λ (n : ℕ). offset + n) has.front in
    let blob = are.blob in
    let commit = are.commit in
    let made : seen_by offset parts moment ids ≡ seen_at form offset parent e =
    λ i. record { kind = parts.kind; at = offset; text_at = at i; size = length parts.text.now; blob = blob i; commit = commit i; moment = moment; id = (seen_by offset parts moment ids).id; content = (seen_by offset parts moment ids).content } in
    record { entry = e; valid = valid; rest = rest; is = whole; seen = is ∙ made; size = has.size }
