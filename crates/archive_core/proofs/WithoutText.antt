-- An archive without the entries of a text, by what a store keeps of it; and what purges and edits give.
use Rattle.std.specs.Prelude.{◌≡◌, ◌<◌, ℕ, Bool, true, false, not, List, [], ◌∷◌, ◌++◌, length, get_or, slice_get, slice_index_or, Option, Some, None, is_some, IsSome, unwrap_or, Result, Ok, Err, if◌then◌else◌, refl}
use Rattle.std.specs.List.{AllByRecursion, AllZip}
use Rattle.std.specs.Str.{bytes_eq}
use Rattle.std.proofs.Common.{◌∙◌, sym, ap, subst, inl, inr}
use Rattle.std.proofs.lemmas.Option.{slice_get_within, slice_get-get_or, same_Some}
use Rattle.std.proofs.lemmas.Slice.Eq.{bytes_eq-Decides}
use Rattle.arch_base.specs.declared.config.Config.{Config}
use Rattle.arch_base.specs.declared.ids.ObjectId.{ObjectId}
use Rattle.arch_base.specs.declared.ids.Form.{Form}
use Rattle.arch_base.specs.Ids.{id_eq}
use Rattle.arch_base.proofs.IdOrder.{id_eq-Decides}
use Rattle.mail_commits.specs.declared.ids.TextIds.{TextIds}
use Rattle.disk_model.specs.Disk.{Content}
use Rattle.git_objects.specs.Objects.{blob_id_of}
use Rattle.git_objects.specs.declared.entry_kind.EntryKind.{EntryKind}
use Rattle.git_objects.specs.declared.entry_kind.EntryKind.TheVariants.{Message, Deletion}
use Rattle.mail_reader.specs.Ids.{own_id}
use Rattle.mail_reader.specs.Stored.{stored}
use Rattle.mail_reader.specs.declared.storing.StoredRefusal.{StoredRefusal}
use Rattle.mail_reader.specs.declared.storing.StoredRefusal.TheVariants as storing
use Rattle.arch_model.specs.Archives.{Entry, Archive, is_message, live, messages, text_of, blob_number, without_text, without_entries}
use Rattle.arch_model.specs.Delivery.{Done, delivered, delivered_form, purged, purged_text, edited, edited_text, is_accepted, is_form, refused, unless_refused}
use Rattle.arch_model.specs.Shelves.{blob_text}
use Rattle.arch_model.specs.Validity.{BlobsAgree, IsArchive}
use Rattle.arch_model.specs.declared.answer.Answer.{Answer}
use Rattle.arch_model.specs.declared.answer.Answer.TheVariants as answer
use Rattle.arch_model.proofs.LiveEntries.{HasText, found-has, all-text, live-one}
use Rattle.arch_model.proofs.Purging.{valid_without}
use Rattle.arch_judge.specs.Indexes.{IsArchiveIndex}
use Rattle.arch_judge.specs.Judging.{IsKnownBy, MayBeKept}
use Rattle.arch_judge.specs.declared.index.Index.{Index}
use Rattle.arch_judge.specs.declared.judging.Verdict.TheVariants.{Refuse}
use Rattle.arch_judge.proofs.Indexes.{unowned}
use Rattle.store_finding.specs.declared.entries.StoredEntry.{StoredEntry}
use Rattle.epoch_store.specs.Reads.{text_if}
use Rattle.store_finding.specs.Kept.{StoreState, KeepsArchive, IsStoreWith, stored_at, stored_after}
use Rattle.store_planning.specs.Dropping.{KeptOf, without_blob}
use Rattle.epoch_store.specs.Commands.{MayPurge}
use Rattle.archive_core.specs.Commands.{DoneBy, IsLiveOf, JudgesRead, ReadsMessage, left_without}
use Rattle.archive_core.specs.Kept.{IndexesKept}
use Rattle.archive_core.specs.Numbers.{IsLiveAt, IsMessageAt}
use Rattle.archive_core.specs.Rewriting.{MayReplace}
use Rattle.epoch_store.specs.Promises.{Drops}
use Rattle.archive_core.specs.Placing.{message_places, found_blob, has_blob_at, IsLiveWith}
use Rattle.archive_core.specs.declared.placing.MessagePlace.{MessagePlace}
use Rattle.archive_core.proofs.ByBlob.{message-of}
use Rattle.archive_core.proofs.ByNumber.{live-at, live-found, live-shown, entry-text}
use Rattle.archive_core.proofs.Dropping.{first-stays, first-goes}
use Rattle.archive_core.proofs.Indexes.{in-order}
use Rattle.archive_core.proofs.Removing.{all_at}

-- Each of some entries with the blob id of a text, in a form, has that text.
abbrev pub AgreesWith : Form → List ℕ → List Entry → Type 0
AgreesWith form text es = AllByRecursion (λ (e : Entry). blob_id_of form e.text ≡ blob_id_of form text → e.text ≡ text) es

-- So it is of a text that one of them has.
pub texts-agree : (form : Form) (es : List Entry) (text : List ℕ) → BlobsAgree form es → HasText text es → AgreesWith form text es
texts-agree form [] text agree has = tt
texts-agree form (e ∷ es) text agree (inl is) = (λ same. is, subst (λ (t : List ℕ). AgreesWith form t es) is agree.0)
texts-agree form (e ∷ es) text agree (inr more) =
    (λ same. sym (all-text (λ (t : List ℕ). blob_id_of form t ≡ blob_id_of form e.text → t ≡ e.text) es text agree.0 more (sym same)), texts-agree form es text agree.1 more)

messages_step : (k : EntryKind) (e : Entry) (es ms : List Entry) (text : List ℕ) → (HasText text ms → HasText text es) → HasText text (if is_message k then e ∷ ms else ms) → HasText text (e ∷ es)
messages_step Message e es ms text rest (inl is) = inl is
messages_step Message e es ms text rest (inr more) = inr (rest more)
messages_step Deletion e es ms text rest more = inr (rest more)

messages_have : (es : List Entry) (text : List ℕ) → HasText text (messages es) → HasText text es
messages_have [] text has = has
messages_have (e ∷ es) text has = messages_step e.kind e es (messages es) text (messages_have es text) has

pub message-agrees : (a : Archive) (n : ℕ) (text : List ℕ) → IsArchive a → text_of (messages a.entries) n ≡ Some text → AgreesWith a.config.form text a.entries
message-agrees a n text valid is = texts-agree a.config.form a.entries text valid.blobs (messages_have a.entries text (found-has (messages a.entries) n text is))

pub live-message-is : (a : Archive) (n : ℕ) (text : List ℕ) → IsArchive a → text_of (live a.entries) n ≡ Some text → text_of (messages a.entries) n ≡ Some text
live-message-is a n text valid shown = (live-one 1 0 a.entries n text valid.order shown).is

-- Then the test of blob ids is the test of texts.
tests_same : (form : Form) (text other : List ℕ) → (blob_id_of form other ≡ blob_id_of form text → other ≡ text) → id_eq (blob_id_of form text) (blob_id_of form other) ≡ bytes_eq text other
tests_same form text other agree = by (id_eq (blob_id_of form text) (blob_id_of form other)) (bytes_eq text other) refl refl where
  by : (t u : Bool) → id_eq (blob_id_of form text) (blob_id_of form other) ≡ t → bytes_eq text other ≡ u → t ≡ u
  by true true a b = refl
  by false false a b = refl
  by true false a b =
      absurd (let ids : blob_id_of form text ≡ blob_id_of form other = (id_eq-Decides (blob_id_of form text) (blob_id_of form other)).0 a in
      let same : other ≡ text = agree (sym ids) in
      let hit : bytes_eq text other ≡ true = (bytes_eq-Decides text other).1 (sym same) in
      let wrong : true ≡ false = sym hit ∙ b in cc)
  by false true a b =
      absurd (let same : text ≡ other = (bytes_eq-Decides text other).0 b in
      let hit : id_eq (blob_id_of form text) (blob_id_of form other) ≡ true = (id_eq-Decides (blob_id_of form text) (blob_id_of form other)).1 (ap (blob_id_of form) same) in
      let wrong : true ≡ false = sym hit ∙ a in cc)

-- The front entry stays, or it goes.
text-stays : (text : List ℕ) (e : Entry) (es : List Entry) → bytes_eq text e.text ≡ false → without_text (e ∷ es) text ≡ e ∷ without_text es text
text-stays text e es other = ap (λ (t : Bool). if not t then e ∷ without_text es text else without_text es text) other

text-goes : (text : List ℕ) (e : Entry) (es : List Entry) → bytes_eq text e.text ≡ true → without_text (e ∷ es) text ≡ without_text es text
text-goes text e es same = ap (λ (t : Bool). if not t then e ∷ without_text es text else without_text es text) same

-- What is kept of the entries without a text is what is kept without its blob id, but for places and
-- commits.
pub stored-without : (form : Form) (before rest es : List Entry) (text : List ℕ) → AgreesWith form text es → AllZip KeptOf (without_blob (stored_after form before es) (blob_id_of form text)) (stored_after form rest (without_text es text))
stored-without form before rest [] text agree = tt
stored-without form before rest (e ∷ es) text agree = by (bytes_eq text e.text) refl (stored-without form (before ++ e ∷ []) rest es text agree.1) (stored-without form (before ++ e ∷ []) (rest ++ e ∷ []) es text agree.1) where
  blob : ObjectId
  blob = blob_id_of form text

  more : List StoredEntry
  more = stored_after form (before ++ e ∷ []) es

  by : (t : Bool) → bytes_eq text e.text ≡ t → AllZip KeptOf (without_blob (stored_after form (before ++ e ∷ []) es) (blob_id_of form text)) (stored_after form rest (without_text es text))
      → AllZip KeptOf (without_blob (stored_after form (before ++ e ∷ []) es) (blob_id_of form text)) (stored_after form (rest ++ e ∷ []) (without_text es text))
      → AllZip KeptOf (without_blob (stored_after form before (e ∷ es)) (blob_id_of form text)) (stored_after form rest (without_text (e ∷ es) text))
  by true same gone stays =
      subst (λ (l : List StoredEntry). AllZip KeptOf l (stored_after form rest (without_text (e ∷ es) text))) (sym (first-goes blob (stored_at form before e) more (tests_same form text e.text agree.0 ∙ same)))
      (subst (λ (l : List Entry). AllZip KeptOf (without_blob more blob) (stored_after form rest l)) (sym (text-goes text e es same)) gone)
  by false other gone stays =
      subst (λ (l : List StoredEntry). AllZip KeptOf l (stored_after form rest (without_text (e ∷ es) text))) (sym (first-stays blob (stored_at form before e) more (tests_same form text e.text agree.0 ∙ other)))
      (subst (λ (l : List Entry). AllZip KeptOf (stored_at form before e ∷ without_blob more blob) (stored_after form rest l)) (sym (text-stays text e es other))
      (record { number = refl; epoch = refl; kind = refl; size = refl; blob = refl; moment = refl; id = refl; content = refl }, stays))

-- The index of what is kept without a blob id is that of the archive without the text.
pub index-without : (v : StoreState) (a : Archive) (index : Index) (blob : ObjectId) (text : List ℕ) → KeepsArchive v a → AgreesWith a.config.form text a.entries → blob_id_of a.config.form text ≡ blob → IndexesKept (without_blob v.entries blob) index → IsArchiveIndex a.config.form (without_entries a text).entries index
index-without v a index blob text keeps agree blob_is indexed =
    indexed (stored_after a.config.form [] (without_text a.entries text))
    (subst (λ (i : ObjectId). AllZip KeptOf (without_blob v.entries i) (stored_after a.config.form [] (without_text a.entries text))) blob_is
    (subst (λ (l : List StoredEntry). AllZip KeptOf (without_blob l (blob_id_of a.config.form text)) (stored_after a.config.form [] (without_text a.entries text))) (sym keeps.kept) (stored-without a.config.form [] [] a.entries text agree)))
    a.config.form (without_text a.entries text) (record { ordered = in-order (without_entries a text) (valid_without a text keeps.valid); is = refl })

-- The blob id of a message that may be purged is that of its text.
pub purge-blob : (v : StoreState) (a : Archive) (n : ℕ) (blob : ObjectId) (text : List ℕ) → KeepsArchive v a → MayPurge v n blob → text_of (messages a.entries) n ≡ Some text → blob_id_of a.config.form text ≡ blob
purge-blob v a n blob text keeps may is =
    let at : IsMessageAt v.entries n may.is_there.0 = record {
      entry = may.entry;
      there = slice_get-get_or v.entries may.is_there.0 may.entry may.is_there.1 ∙ ap Some (get_is v.entries may.is_there.0 may.entry may.is_there.1 may.is_there.2);
      number_is = may.number_is;
      is_one = ap is_message may.kind;
    } in
    let own = message-of v a n may.is_there.0 keeps at in
    ap (blob_id_of a.config.form) (same_Some text own.entry.text (sym is ∙ own.once)) ∙ sym own.blob ∙ may.blob_is
  where
    get_is : (es : List StoredEntry) (i : ℕ) (e : StoredEntry) → i < length es → slice_index_or es i e ≡ e → get_or es i e ≡ e
    get_is es i e less is = is

-- The live number whose entry has the blob id of a text is the one with the text.
pub lost-live : (v : StoreState) (a : Archive) (places : List MessagePlace) (lost : Option ℕ) (blob : ObjectId) (text : List ℕ) → KeepsArchive v a → places ≡ message_places 0 v.entries → AgreesWith a.config.form text a.entries → blob_id_of a.config.form text ≡ blob → IsLiveWith places v.entries blob lost → IsLiveOf (live a.entries) text lost
lost-live v a places (Some n) blob text keeps placed agree blob_is found =
    let at : IsLiveAt v.entries n found.1.entry = live-found v places placed found.0 n found.1 found.2 found.3 found.4 in
    let own = message-of v a n found.1.entry keeps at.message in
    let hit : id_eq blob at.message.entry.seen.blob ≡ true = sym (ap (λ (o : Option StoredEntry). found_blob o blob) at.message.there) ∙ found.5 in
    let ids : blob ≡ at.message.entry.seen.blob = (id_eq-Decides blob at.message.entry.seen.blob).0 hit in
    let same : blob_id_of a.config.form own.entry.text ≡ blob_id_of a.config.form text = sym own.blob ∙ sym ids ∙ sym blob_is in
    let is : own.entry.text ≡ text = all_at (λ (e : Entry). blob_id_of a.config.form e.text ≡ blob_id_of a.config.form text → e.text ≡ text) a.entries found.1.entry own.entry agree own.there same in
    entry-text v a keeps n found.1.entry at own.entry.text (ap text_if own.there) ∙ ap Some is
lost-live v a places None blob text keeps placed agree blob_is none = λ n shown.
    let is_live = live-at places n (live-shown v places placed a keeps n ∙ ap is_some shown) in
    let at : IsLiveAt v.entries n is_live.place.entry = live-found v places placed is_live.index n is_live.place is_live.there is_live.number_is is_live.live_is in
    let own = message-of v a n is_live.place.entry keeps at.message in
    let read : text_of (live a.entries) n ≡ Some own.entry.text = entry-text v a keeps n is_live.place.entry at own.entry.text (ap text_if own.there) in
    let same : own.entry.text ≡ text = same_Some own.entry.text text (sym read ∙ shown) in
    let ids : blob ≡ at.message.entry.seen.blob = sym blob_is ∙ ap (blob_id_of a.config.form) (sym same) ∙ sym own.blob in
    let hit : has_blob_at v.entries is_live.place.entry blob ≡ true = ap (λ (o : Option StoredEntry). found_blob o blob) at.message.there ∙ (id_eq-Decides blob at.message.entry.seen.blob).1 ids in
    let wrong : true ≡ false = sym hit ∙ none is_live.index is_live.place is_live.there is_live.live_is in
    cc

-- What a purge gives.
purged_by : (a : Archive) (n : ℕ) (found : Option (List ℕ)) → a.config.mirror ≡ false → text_of (messages a.entries) n ≡ found → purged a n ≡ purged_text a n found
purged_by a n found writable is =
    ap (λ (t : Bool). if t then refused a answer.IsMirror else purged_text a n (text_of (messages a.entries) n)) writable
    ∙ ap (purged_text a n) is

pub purged-text-is : (a : Archive) (n : ℕ) (text : List ℕ) → a.config.mirror ≡ false → text_of (messages a.entries) n ≡ Some text → purged a n ≡ record { archive = without_entries a text; answer = answer.Ok n (blob_id_of a.config.form text) }
purged-text-is a n text writable is = purged_by a n (Some text) writable is

-- What was done on another archive, and accepted, is what is done.
pub unless-taken : (a b : Archive) (d : Done) (n : ℕ) (id : ObjectId) → d ≡ record { archive = b; answer = answer.Ok n id } → unless_refused a d ≡ record { archive = b; answer = answer.Ok n id }
unless-taken a b d n id is = ap (unless_refused a) is

-- A refusal there is one here.
pub unless-refused : (a b : Archive) (d : Done) (reply : Answer) → is_accepted reply ≡ false → d ≡ refused b reply → unless_refused a d ≡ refused a reply
unless-refused a b d reply never is = ap (unless_refused a) is ∙ ap (λ (t : Bool). if t then refused b reply else refused a reply) never

-- What an edit gives.
edited_by : (a : Archive) (n : ℕ) (bytes : List ℕ) (moment : ℕ) (text : List ℕ) → a.config.mirror ≡ false → text_of (live a.entries) n ≡ Some text → edited a n bytes moment ≡ edited_text a n bytes moment (Some text)
edited_by a n bytes moment text writable is =
    ap (λ (t : Bool). if t then refused a answer.IsMirror else edited_text a n bytes moment (text_of (live a.entries) n)) writable
    ∙ ap (edited_text a n bytes moment) is

edited_test : (a : Archive) (n : ℕ) (bytes : List ℕ) (moment : ℕ) (text : List ℕ) (t : Bool) → a.config.mirror ≡ false → text_of (live a.entries) n ≡ Some text → is_form text (stored bytes) ≡ t
    → edited a n bytes moment ≡ (if t then refused a (answer.Duplicate n) else unless_refused a (delivered (without_entries a text) bytes moment))
edited_test a n bytes moment text t writable is test =
    edited_by a n bytes moment text writable is
    ∙ ap (λ (u : Bool). if u then refused a (answer.Duplicate n) else unless_refused a (delivered (without_entries a text) bytes moment)) test

pub edited-same : (a : Archive) (n : ℕ) (bytes : List ℕ) (moment : ℕ) (text : List ℕ) → a.config.mirror ≡ false → text_of (live a.entries) n ≡ Some text → is_form text (stored bytes) ≡ true → edited a n bytes moment ≡ refused a (answer.Duplicate n)
edited-same a n bytes moment text writable is test = edited_test a n bytes moment text true writable is test

pub edited-other : (a : Archive) (n : ℕ) (bytes : List ℕ) (moment : ℕ) (text : List ℕ) → a.config.mirror ≡ false → text_of (live a.entries) n ≡ Some text → is_form text (stored bytes) ≡ false → edited a n bytes moment ≡ unless_refused a (delivered (without_entries a text) bytes moment)
edited-other a n bytes moment text writable is test = edited_test a n bytes moment text false writable is test

-- The delivery of what has no form.
formless : (b : Archive) (bytes : List ℕ) (moment : ℕ) (form : Result (List ℕ) StoredRefusal) → b.config.mirror ≡ false → stored bytes ≡ form → delivered b bytes moment ≡ delivered_form b moment form
formless b bytes moment form writable is =
    ap (λ (t : Bool). if t then refused b answer.IsMirror else delivered_form b moment (stored bytes)) writable
    ∙ ap (delivered_form b moment) is

pub edited-formless : (a : Archive) (n : ℕ) (bytes : List ℕ) (moment : ℕ) (text : List ℕ) → a.config.mirror ≡ false → text_of (live a.entries) n ≡ Some text → stored bytes ≡ Err storing.NoFields → edited a n bytes moment ≡ refused a answer.NoFields
edited-formless a n bytes moment text writable is form =
    edited-other a n bytes moment text writable is (ap (is_form text) form)
    ∙ unless-refused a (without_entries a text) (delivered (without_entries a text) bytes moment) answer.NoFields refl (formless (without_entries a text) bytes moment (Err storing.NoFields) writable form)

pub edited-large : (a : Archive) (n : ℕ) (bytes : List ℕ) (moment len : ℕ) (text : List ℕ) → a.config.mirror ≡ false → text_of (live a.entries) n ≡ Some text → stored bytes ≡ Err (storing.TooLarge len) → edited a n bytes moment ≡ refused a (answer.TooLarge len)
edited-large a n bytes moment len text writable is form =
    edited-other a n bytes moment text writable is (ap (is_form text) form)
    ∙ unless-refused a (without_entries a text) (delivered (without_entries a text) bytes moment) (answer.TooLarge len) refl (formless (without_entries a text) bytes moment (Err (storing.TooLarge len)) writable form)

-- The answer tells of damage.
abbrev pub is_damage : Answer → Bool
is_damage (answer.Damaged file at) = true
is_damage other = false

-- A refusal leaves the archive.
pub left-done : (v : StoreState) (cache left : List ℕ) (a : Archive) (d : Done) (k : Option Content) (reply : Answer) → IsStoreWith v cache a k → is_accepted reply ≡ false → is_damage reply ≡ false → d ≡ refused a reply → DoneBy v cache left a d reply k
left-done v cache left a d k answer.NoMemory store never fine is = store
left-done v cache left a d k answer.DiskFault store never fine is = tt
left-done v cache left a d k (answer.Ok n id) store never fine is = absurd (cc)
left-done v cache left a d k (answer.Damaged file at) store never fine is = absurd (cc)
left-done v cache left a d k other store never fine is = record { answer_is = ap (λ (x : Done). x.answer) is; store = subst (λ (b : Archive). IsStoreWith v cache b k) (sym (ap (λ (x : Done). x.archive) is)) store }

-- What an index of the archive with all its entries, or without a text, knows of it.
pub known-left : (v : StoreState) (a : Archive) (config : Config) (index : Index) (next : ℕ) (gone : Option (List ℕ)) → KeepsArchive v a → config ≡ v.root.config → next ≡ v.root.next → IsArchiveIndex a.config.form (left_without a gone).entries index → IsKnownBy config index next (left_without a gone)
known-left v a config index next None keeps config_is next_is indexed = record {
  config_is = sym (config_is ∙ keeps.names.config);
  next_is = sym (next_is ∙ keeps.names.next);
  indexed = indexed;
}
known-left v a config index next (Some text) keeps config_is next_is indexed = record {
  config_is = sym (config_is ∙ keeps.names.config);
  next_is = sym (next_is ∙ keeps.names.next);
  indexed = indexed;
}

-- No entry has the blob id of a text without which all with that blob id are gone.
none_left : (form : Form) (es : List Entry) (text : List ℕ) (blob : ObjectId) → blob ≡ blob_id_of form text → AgreesWith form text es → blob_number form (without_text es text) blob ≡ None
none_left form [] text blob is agree = refl
none_left form (e ∷ es) text blob is agree = by (bytes_eq text e.text) refl (none_left form es text blob is agree.1) where
  by : (t : Bool) → bytes_eq text e.text ≡ t → blob_number form (without_text es text) blob ≡ None → blob_number form (without_text (e ∷ es) text) blob ≡ None
  by true same rest = ap (λ (l : List Entry). blob_number form l blob) (text-goes text e es same) ∙ rest
  by false other rest =
      let miss : id_eq blob (blob_id_of form e.text) ≡ false = ap (λ (b : ObjectId). id_eq b (blob_id_of form e.text)) is ∙ tests_same form text e.text agree.0 ∙ other in
      ap (λ (l : List Entry). blob_number form l blob) (text-stays text e es other)
      ∙ ap (λ (t : Bool). if t then Some e.number else blob_number form (without_text es text) blob) miss
      ∙ rest

-- A number that has a blob id first without a text had it first before, with the same text.
abbrev pub StaysFirst : Form → List Entry → List ℕ → ObjectId → ℕ → Type 0
StaysFirst form es text blob n = (blob_number form es blob ≡ Some n) × (blob_text form es blob ≡ blob_text form (without_text es text) blob)

first_still : (form : Form) (es : List Entry) (text : List ℕ) (blob : ObjectId) (n : ℕ) → BlobsAgree form es → blob_number form (without_text es text) blob ≡ Some n → StaysFirst form es text blob n
first_still form [] text blob n agree is = absurd (cc)
first_still form (e ∷ es) text blob n agree is = by (bytes_eq text e.text) (id_eq blob (blob_id_of form e.text)) refl refl (first_still form es text blob n agree.1) where
  by : (t u : Bool) → bytes_eq text e.text ≡ t → id_eq blob (blob_id_of form e.text) ≡ u → (blob_number form (without_text es text) blob ≡ Some n → StaysFirst form es text blob n) → StaysFirst form (e ∷ es) text blob n
  by true true same hit rest =
      let is_text : text ≡ e.text = (bytes_eq-Decides text e.text).0 same in
      let its : blob ≡ blob_id_of form text = (id_eq-Decides blob (blob_id_of form e.text)).0 hit ∙ ap (blob_id_of form) (sym is_text) in
      let none : blob_number form (without_text es text) blob ≡ None = none_left form es text blob its (subst (λ (t : List ℕ). AgreesWith form t es) (sym is_text) agree.0) in
      let found : blob_number form (without_text es text) blob ≡ Some n = sym (ap (λ (l : List Entry). blob_number form l blob) (text-goes text e es same)) ∙ is in
      absurd (let wrong : None ≡ Some n = sym none ∙ found in cc)
  by true false same miss rest =
      let both = rest (sym (ap (λ (l : List Entry). blob_number form l blob) (text-goes text e es same)) ∙ is) in (
        ap (λ (t : Bool). if t then Some e.number else blob_number form es blob) miss ∙ both.0,
        ap (λ (t : Bool). if t then Some e.text else blob_text form es blob) miss ∙ both.1 ∙ sym (ap (λ (l : List Entry). blob_text form l blob) (text-goes text e es same)),
      )
  by false true other hit rest =
      let found : blob_number form (e ∷ without_text es text) blob ≡ Some n = sym (ap (λ (l : List Entry). blob_number form l blob) (text-stays text e es other)) ∙ is in (
        ap (λ (t : Bool). if t then Some e.number else blob_number form es blob) hit ∙ sym (ap (λ (t : Bool). if t then Some e.number else blob_number form (without_text es text) blob) hit) ∙ found,
        ap (λ (t : Bool). if t then Some e.text else blob_text form es blob) hit
            ∙ sym (ap (λ (t : Bool). if t then Some e.text else blob_text form (without_text es text) blob) hit)
            ∙ sym (ap (λ (l : List Entry). blob_text form l blob) (text-stays text e es other)),
      )
  by false false other miss rest =
      let found : blob_number form (e ∷ without_text es text) blob ≡ Some n = sym (ap (λ (l : List Entry). blob_number form l blob) (text-stays text e es other)) ∙ is in
      let both = rest (sym (ap (λ (t : Bool). if t then Some e.number else blob_number form (without_text es text) blob) miss) ∙ found) in (
        ap (λ (t : Bool). if t then Some e.number else blob_number form es blob) miss ∙ both.0,
        ap (λ (t : Bool). if t then Some e.text else blob_text form es blob) miss
            ∙ both.1
            ∙ sym (ap (λ (t : Bool). if t then Some e.text else blob_text form (without_text es text) blob) miss)
            ∙ sym (ap (λ (l : List Entry). blob_text form l blob) (text-stays text e es other)),
      )

-- So the text that is read of it is the same.
pub reads-left : (a : Archive) (gone : Option (List ℕ)) (number : ℕ) (kept : List ℕ) → BlobsAgree a.config.form a.entries → ReadsMessage a number (Ok kept) → ReadsMessage (left_without a gone) number (Ok kept)
reads-left a None number kept agree reads = reads
reads-left a (Some text) number kept agree reads = λ blob first. (let both = first_still a.config.form a.entries text blob number agree first in sym both.1 ∙ reads blob both.0)

-- Its settings and its next number are the same, an index has its entries in its form, and its blob ids
-- agree.
pub left-config : (a : Archive) (gone : Option (List ℕ)) → (left_without a gone).config ≡ a.config
left-config a None = refl
left-config a (Some text) = refl

pub left-next : (a : Archive) (gone : Option (List ℕ)) → (left_without a gone).next ≡ a.next
left-next a None = refl
left-next a (Some text) = refl

pub left-indexed : (a : Archive) (gone : Option (List ℕ)) (index : Index) → IsArchiveIndex a.config.form (left_without a gone).entries index → IsArchiveIndex (left_without a gone).config.form (left_without a gone).entries index
left-indexed a None index indexed = indexed
left-indexed a (Some text) index indexed = indexed

pub left-agree : (a : Archive) (gone : Option (List ℕ)) → IsArchive a → BlobsAgree (left_without a gone).config.form (left_without a gone).entries
left-agree a None valid = valid.blobs
left-agree a (Some text) valid = (valid_without a text valid).blobs

-- A text that is taken may be kept in place of the one that goes.
id_of : (o : Option (List ℕ)) → IsSome o → o ≡ Some (unwrap_or o [])
id_of None some = absurd (let wrong : false ≡ true = some in cc)
id_of (Some id) some = refl

pub may-replace : (v : StoreState) (index : Index) (old : ObjectId) (ids : TextIds) (n number : ℕ) (text : List ℕ) → MayPurge v n old → IndexesKept (without_blob v.entries old) index → MayBeKept v.root.config index v.root.next text ids number → MayReplace v old text ids
may-replace v index old ids n number text purge indexed kept = record {
  number = n;
  edit = record {
    purge = purge;
    number_left = kept.number_left;
    storage = kept.comes.storage;
    id = λ a m gone keeps is blob_is. (
        let id = unwrap_or (own_id text) [] in
        let own = id_of (own_id text) kept.comes.storage.id in
        let is_index : IsArchiveIndex a.config.form (without_entries a gone).entries index = index-without v a index old gone keeps (message-agrees a m gone keeps.valid is) blob_is indexed in
        (id, own, unowned (without_text a.entries gone) index id is_index (kept.comes.new_id id own)));
  };
  ids_are = kept.comes.ids_are;
}

-- What is done where the delivery on the archive without a text is refused, or isn't.
pub refused-edit : (v : StoreState) (cache left : List ℕ) (a b : Archive) (bytes : List ℕ) (moment : ℕ) (k : Option Content) (reply : Answer) → IsStoreWith v cache a k → JudgesRead b bytes (Refuse reply) → DoneBy v cache left a (unless_refused a (delivered b bytes moment)) reply k
refused-edit v cache left a b bytes moment k answer.NoMemory store judged = store
refused-edit v cache left a b bytes moment k answer.DiskFault store judged = tt
refused-edit v cache left a b bytes moment k (answer.Duplicate n) store judged = left-done v cache left a (unless_refused a (delivered b bytes moment)) k (answer.Duplicate n) store refl refl (unless-refused a b (delivered b bytes moment) (answer.Duplicate n) refl (judged moment))
refused-edit v cache left a b bytes moment k answer.NoFields store judged = left-done v cache left a (unless_refused a (delivered b bytes moment)) k answer.NoFields store refl refl (unless-refused a b (delivered b bytes moment) answer.NoFields refl (judged moment))
refused-edit v cache left a b bytes moment k (answer.TooLarge len) store judged = left-done v cache left a (unless_refused a (delivered b bytes moment)) k (answer.TooLarge len) store refl refl (unless-refused a b (delivered b bytes moment) (answer.TooLarge len) refl (judged moment))
refused-edit v cache left a b bytes moment k (answer.Full max) store judged = left-done v cache left a (unless_refused a (delivered b bytes moment)) k (answer.Full max) store refl refl (unless-refused a b (delivered b bytes moment) (answer.Full max) refl (judged moment))
refused-edit v cache left a b bytes moment k (answer.Collision n) store judged = left-done v cache left a (unless_refused a (delivered b bytes moment)) k (answer.Collision n) store refl refl (unless-refused a b (delivered b bytes moment) (answer.Collision n) refl (judged moment))
refused-edit v cache left a b bytes moment k answer.IsMirror store judged = left-done v cache left a (unless_refused a (delivered b bytes moment)) k answer.IsMirror store refl refl (unless-refused a b (delivered b bytes moment) answer.IsMirror refl (judged moment))
refused-edit v cache left a b bytes moment k (answer.Ok n id) store judged = absurd judged
refused-edit v cache left a b bytes moment k (answer.NotLive n) store judged = absurd judged
refused-edit v cache left a b bytes moment k (answer.NoText n) store judged = absurd judged
refused-edit v cache left a b bytes moment k (answer.Damaged file at) store judged = absurd judged

-- The archive of a store that takes commands takes them.
pub writable-of : (v : StoreState) (a : Archive) → KeepsArchive v a → v.root.config.mirror ≡ false → a.config.mirror ≡ false
writable-of v a keeps writable = ap (λ (c : Config). c.mirror) (sym keeps.names.config) ∙ writable

-- The text of the message at an index, by its number and its blob id.
pub purge-at : (v : StoreState) (a : Archive) (n i : ℕ) (s : StoredEntry) → KeepsArchive v a → IsMessageAt v.entries n i → slice_get v.entries i ≡ Some s → (text : List ℕ) × (text_of (messages a.entries) n ≡ Some text) × (blob_id_of a.config.form text ≡ s.seen.blob)
purge-at v a n i s keeps at there =
    let own = message-of v a n i keeps at in
    let same : at.entry ≡ s = (let both : Some at.entry ≡ Some s = sym at.there ∙ there in cc) in
    (own.entry.text, own.once, sym own.blob ∙ ap (λ (e : StoredEntry). e.seen.blob) same)

pub may-purge : (v : StoreState) (n i : ℕ) (s : StoredEntry) → v.root.config.mirror ≡ false → IsMessageAt v.entries n i → slice_get v.entries i ≡ Some s → MayPurge v n s.seen.blob
may-purge v n i s writable at there =
    let less : i < length v.entries = slice_get_within v.entries i s there in
    let same : at.entry ≡ s = (let both : Some at.entry ≡ Some s = sym at.there ∙ there in cc) in
    record {
      writable = writable;
      entry = s;
      is_there = (i, less, same_Some (get_or v.entries i s) s (sym (slice_get-get_or v.entries i s less) ∙ there));
      kind = ap (λ (e : StoredEntry). e.seen.kind) (sym same) ∙ message_kind at.entry.seen.kind at.is_one;
      number_is = ap (λ (e : StoredEntry). e.number) (sym same) ∙ at.number_is;
      blob_is = refl;
    }
  where
    message_kind : (k : EntryKind) → is_message k ≡ true → k ≡ Message
    message_kind Message is = refl
    message_kind Deletion is = absurd (cc)

-- What is read at the index of a message may be purged.
pub may-read : (v : StoreState) (seen : List StoredEntry) (n i : ℕ) (d : StoredEntry) → seen ≡ v.entries → IsMessageAt v.entries n i → v.root.config.mirror ≡ false → MayPurge v n (get_or seen i d).seen.blob
may-read v seen n i d is at writable = may-purge v n i (get_or seen i d) writable at
    (slice_get-get_or v.entries i d (slice_get_within v.entries i at.entry at.there) ∙ ap (λ (es : List StoredEntry). Some (get_or es i d)) (sym is))

-- A number that has a text has one.
pub shown-text : (es : List Entry) (n : ℕ) → is_some (text_of es n) ≡ true → (text : List ℕ) × (text_of es n ≡ Some text)
shown-text es n is = by (text_of es n) refl where
  by : (o : Option (List ℕ)) → text_of es n ≡ o → (text : List ℕ) × (text_of es n ≡ Some text)
  by None none = absurd (let wrong : false ≡ true = sym (ap is_some none) ∙ is in cc)
  by (Some text) some = (text, some)

-- What the purge of a message makes.
pub purge-makes : (v : StoreState) (a : Archive) (n : ℕ) (blob : ObjectId) → KeepsArchive v a → MayPurge v n blob → is_some (text_of (messages a.entries) n) ≡ true → Drops blob a (purged a n).archive × ((purged a n).answer ≡ answer.Ok n blob)
purge-makes v a n blob keeps may some =
    let text = shown-text (messages a.entries) n some in
    let named = purge-blob v a n blob text.0 keeps may text.1 in
    let is = purged-text-is a n text.0 (writable-of v a keeps may.writable) text.1 in (
      record { number = n; text = text.0; shown = text.1; blob_is = named; is = ap (λ (d : Done). d.archive) is },
      ap (λ (d : Done). d.answer) is ∙ ap (λ (id : ObjectId). answer.Ok n id) named,
    )

-- What an edit makes whose message isn't the same.
pub edit-makes : (v : StoreState) (a : Archive) (n : ℕ) (bytes : List ℕ) (moment : ℕ) → KeepsArchive v a → v.root.config.mirror ≡ false → is_some (text_of (live a.entries) n) ≡ true → ((text : List ℕ) → text_of (live a.entries) n ≡ Some text → is_form text (stored bytes) ≡ false)
    → (text : List ℕ) × (text_of (live a.entries) n ≡ Some text) × (edited a n bytes moment ≡ unless_refused a (delivered (without_entries a text) bytes moment))
edit-makes v a n bytes moment keeps writable some other =
    let text = shown-text (live a.entries) n some in
    (text.0, text.1, edited-other a n bytes moment text.0 (writable-of v a keeps writable) text.1 (other text.0 text.1))
