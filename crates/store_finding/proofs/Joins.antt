-- The entries of an epoch, joined one after the other to those of the epochs before it.
use Rattle.std.specs.Prelude.{◌≡◌, ◌≢◌, ◌⊎◌, ◌+◌, ◌<◌, ◌≤◌, ◌==◌, ℕ, Bool, true, false, not, cond, List, [], ◌∷◌, ◌++◌, length, map, slice_get, get_or, zero, suc, option_map, Option, Some, None, Err, if◌then◌else◌, unwrap_or, refl}
use Rattle.std.specs.List.{AllByRecursion, filter}
use Rattle.std.specs.Str.{bytes_eq}
use Rattle.std.proofs.Common.{◌∙◌, sym, ap, subst, inl, inr, arith, append_assoc, length-append}
use Rattle.std.proofs.lemmas.List.{append-nil}
use Rattle.std.proofs.lemmas.List.Elements.{filter-append}
use Rattle.std.proofs.lemmas.Bool.{cases_lt}
use Rattle.std.proofs.lemmas.Bool.Decides.{nat_tests}
use Rattle.arch_base.specs.declared.ids.ObjectId.{ObjectId}
use Rattle.arch_base.specs.declared.ids.Form.{Form}
use Rattle.arch_base.specs.Ids.{id_eq}
use Rattle.arch_base.specs.contracts.ids.ObjectIdPartialEq.TheImpl as code
use Rattle.arch_base.proofs.IdOrder.{id_eq-Decides, id_eq-refl, same_ids}
use Rattle.git_objects.specs.Objects.{blob_id_of}
use Rattle.git_objects.specs.declared.entry_kind.EntryKind.{EntryKind}
use Rattle.git_objects.specs.declared.entry_kind.EntryKind.TheVariants.{Message, Deletion}
use Rattle.mail_reader.specs.Ids.{own_id}
use Rattle.arch_model.specs.Archives.{Entry, in_epoch, is_message, live, messages as delivered, owner, text_of, blob_number}
use Rattle.arch_model.specs.Epochs.{epoch_bytes, entries_bytes, last_commit}
use Rattle.mail_commits.specs.Entries.{magic, entry_bytes, commit_id}
use Rattle.disk_model.specs.Disk.{Files, bytes_of}
use Rattle.number_map.specs.declared.line.Record.{Record}
use Rattle.epoch_file.specs.declared.entry.Seen.{Seen}
use Rattle.epoch_file.specs.Entries.{EpochEntry, IsEpochEntry, AreEpochEntries, bytes_after, commit_after, chain, epoch_of}
use Rattle.epoch_file.specs.Walking.{seen_at, seen_from, blob_front}
use Rattle.root_slots.specs.declared.root.Root.{Root}
use Rattle.root_change.specs.Texts.{Fronts}
use Rattle.store_finding.specs.Files.{epoch_file_of}
use Rattle.store_finding.specs.declared.entries.StoredEntry.{StoredEntry}
use Rattle.store_finding.specs.declared.join_refusal.JoinRefusal.{JoinRefusal}
use Rattle.store_finding.specs.declared.join_refusal.JoinRefusal.TheVariants.{NoMemory, DiskFault, Damaged}
use Rattle.arch_model.specs.Validity.{IsEntry}
use Rattle.store_finding.specs.Kept.{in_file, stored_at, stored_after}
use Rattle.store_finding.specs.Damage.{record_of, AreFirst, AreWhole}
use Rattle.store_finding.specs.Indexes.{IndexesStored}
use Rattle.store_finding.specs.Joined.{JoinedEntries, HoldsJoined, OfJoined, AreBefore, message_count, entry_seen, IsMessageOf, IsWantedRecord, TextIn, JoinsMessage, JoinsDeletion, JoinsNext, EndedBy, IsSameText, with_seen, JoinsByText, JoinsAll, AreJoined, StopsAt}
use Rattle.arch_model.proofs.LiveEntries.{ids-now, live-all, live-one, HasText}
use Rattle.arch_judge.specs.Indexes.{IsArchiveIndex, owner_of, owner_in}
use Rattle.arch_judge.specs.declared.index.Index.{Index}
use Rattle.arch_judge.specs.declared.index.Owner.{Owner}
use Rattle.arch_judge.proofs.Endings.{owner-none}
use Rattle.arch_judge.proofs.Indexes.{unowned}
use Rattle.arch_model.proofs.ValidArchives.{Agrees, agrees-has, all_after, all_weaker}
use Rattle.store_finding.proofs.Growing.{stored_more}
use Rattle.store_finding.proofs.Indexes.{index_held}
use Rattle.store_finding.proofs.Lasts.{none_in, last_commit_is}
use Rattle.store_finding.proofs.TextBytes.{divided_reads, epoch_text, in_fronts, in_epoch_split}
use Rattle.store_finding.proofs.Live.{own_of, there, Apart, kept_count, apart_by, owner_all, owner_text, found_owner, lone_text, Ascends, live_ascends, messages_ascend, bytes_same, bytes_yes}
use Rattle.store_finding.proofs.Firsts.{FitsKind, with_record, all_last, delivered_joined, first_is, first_none, first_more, first_less, fits_last, blobs_last, record_after, map_after, stored_before}

-- The next record is that of an entry, or it isn't.
pub is_wanted : (v : JoinedEntries) (epoch : ℕ) (seen : Seen) (r : Record) → seen.kind ≡ Message → slice_get v.records (message_count v.entries) ≡ Some r → r.epoch ≡ epoch → r.blob ≡ seen.blob → IsWantedRecord v epoch seen r.number
is_wanted v epoch seen r name next same_epoch same_blob = record { message = name; next = next ∙ (λ i. Some (record { number = r.number; epoch = same_epoch i; blob = same_blob i })) }

found_is : {X : Type 0} (o : Option X) (x y : X) → o ≡ Some x → o ≡ Some y → x ≡ y
found_is o x y one two = ap (λ (p : Option _). unwrap_or p x) (sym one ∙ two)

pub other_epoch : (v : JoinedEntries) (epoch : ℕ) (seen : Seen) (r : Record) (number : ℕ) → slice_get v.records (message_count v.entries) ≡ Some r → r.epoch ≢ epoch → IsWantedRecord v epoch seen number → ⊥
other_epoch v epoch seen r number next apart wanted =
    let want : Record = record { number = number; epoch = epoch; blob = seen.blob } in
    apart (ap (λ (s : Record). s.epoch) (found_is (slice_get v.records (message_count v.entries)) r want next wanted.next))

pub other_blob : (v : JoinedEntries) (epoch : ℕ) (seen : Seen) (r : Record) (number : ℕ) → slice_get v.records (message_count v.entries) ≡ Some r → r.blob ≢ seen.blob → IsWantedRecord v epoch seen number → ⊥
other_blob v epoch seen r number next apart wanted =
    let want : Record = record { number = number; epoch = epoch; blob = seen.blob } in
    apart (ap (λ (s : Record). s.blob) (found_is (slice_get v.records (message_count v.entries)) r want next wanted.next))

-- The item at an index of a list.
pub got : {X : Type 0} (xs : List X) (i : ℕ) (r : X) → i < length xs → r ≡ get_or xs i r → slice_get xs i ≡ Some r
got [] i r less is = absurd (omega (arith, less))
got (x ∷ xs) zero r less is = ap Some (sym is)
got (x ∷ xs) (suc i) r less is = got xs i r (omega (arith, less)) is

got_none : {X : Type 0} (xs : List X) (i : ℕ) → length xs ≤ i → slice_get xs i ≡ None
got_none [] i less = refl
got_none (x ∷ xs) zero less = absurd (omega (arith, less))
got_none (x ∷ xs) (suc i) less = got_none xs i (omega (arith, less))

pub found_at : (v : JoinedEntries) (xs : List Record) (i : ℕ) (r : Record) → xs ≡ v.records → i ≡ message_count v.entries → i < length xs → r ≡ get_or xs i r → slice_get v.records (message_count v.entries) ≡ Some r
found_at v xs i r records entries less is = (λ j. slice_get (sym records j) (sym entries j)) ∙ got xs i r less is

pub none_at : (v : JoinedEntries) (xs : List Record) (i : ℕ) → xs ≡ v.records → i ≡ message_count v.entries → length xs ≤ i → slice_get v.records (message_count v.entries) ≡ None
none_at v xs i records entries less = (λ j. slice_get (sym records j) (sym entries j)) ∙ got_none xs i less

-- Two ids differ if they compare so.
pub blobs_differ : (a b : ObjectId) (t : Bool) → t ≡ not (code.ghosts.eq a b) → t ≡ true → a ≢ b
blobs_differ a b t is yes_it same = let equal : id_eq a b ≡ true = (id_eq-Decides a b).1 same in let wrong : false ≡ true = ap not (sym (same_ids a b ∙ equal)) ∙ (sym is ∙ yes_it) in cc

pub blobs_same : (a b : ObjectId) (t : Bool) → t ≡ not (code.ghosts.eq a b) → t ≡ false → a ≡ b
blobs_same a b t is no_way = (id_eq-Decides a b).0 (not_false (id_eq a b) (ap not (sym (same_ids a b)) ∙ (sym is ∙ no_way))) where
  not_false : (d : Bool) → not d ≡ false → d ≡ true
  not_false true e = refl
  not_false false e = absurd (let wrong : true ≡ false = e in cc)

-- How many messages there are with one more entry of either kind.
pub count_by : (k : EntryKind) (xs : List StoredEntry) (t : StoredEntry) → t.seen.kind ≡ k → message_count (xs ++ t ∷ []) ≡ (if is_message k then message_count xs + 1 else message_count xs)
count_by k [] t is = one k is where
  one : (j : EntryKind) → t.seen.kind ≡ j → message_count (t ∷ []) ≡ (if is_message j then 1 else 0)
  one Message kind = rw kind refl
  one Deletion kind = rw kind refl
count_by k (x ∷ xs) t is = by (is_message x.seen.kind) (is_message k) (filter (λ (e : StoredEntry). is_message e.seen.kind) (xs ++ t ∷ [])) (filter (λ (e : StoredEntry). is_message e.seen.kind) xs) (count_by k xs t is) where
  by : (b c : Bool) (ys zs : List StoredEntry) → length ys ≡ (if c then length zs + 1 else length zs) → length (cond b (x ∷ ys) ys) ≡ (if c then length (cond b (x ∷ zs) zs) + 1 else length (cond b (x ∷ zs) zs))
  by true true ys zs more = omega (arith, more)
  by true false ys zs more = omega (arith, more)
  by false c ys zs more = more

-- All records have an entry, or this is the first that has none.
pub none_left : (v : JoinedEntries) → slice_get v.records (message_count v.entries) ≡ None → (form : Form) (rs after : List Record) (entries : List Entry) → HoldsJoined form v rs after entries → (v.entries ≡ stored_after form [] entries) × AreFirst form rs [] entries
none_left v none form rs after entries holds =
    let all = delivered entries in
    let count : message_count v.entries ≡ length all = ap message_count holds.entries_are ∙ kept_count form [] entries in
    let at_end : slice_get (map (record_of form) all ++ after) (length all) ≡ None = sym (λ j. slice_get ((holds.records ∙ holds.first.records) j) (count j)) ∙ none in
    (holds.entries_are, subst (λ (b : List Record). AreFirst form rs b entries) (first_none after (sym (record_after form all after) ∙ at_end)) holds.first)

pub one_left : (v : JoinedEntries) (r : Record) → slice_get v.records (message_count v.entries) ≡ Some r → (form : Form) (rs after : List Record) (entries : List Entry) → HoldsJoined form v rs after entries
    → (next : Record) × (left : List Record) × AreFirst form rs (next ∷ left) entries × (next.epoch ≡ r.epoch)
one_left v r found form rs after entries holds =
    let all = delivered entries in
    let count : message_count v.entries ≡ length all = ap message_count holds.entries_are ∙ kept_count form [] entries in
    let at_end : slice_get (map (record_of form) all ++ after) (length all) ≡ Some r = sym (λ j. slice_get ((holds.records ∙ holds.first.records) j) (count j)) ∙ found in
    let first = first_is after r (sym (record_after form all after) ∙ at_end) in
    (r, first.rest, subst (λ (b : List Record). AreFirst form rs b entries) first.is holds.first, refl)

-- A list whose entries are all in an epoch is the list of the epoch's entries.
all_in : (es : List Entry) (epoch : ℕ) → AllByRecursion (λ (e : Entry). e.epoch ≡ epoch) es → in_epoch es epoch ≡ es
all_in [] epoch all = refl
all_in (e ∷ es) epoch all = let test : (e.epoch == epoch) ≡ true = (let is : e.epoch ≡ epoch = all.0 in grind (arith, nat_tests)) in rw test (ap (λ (l : List Entry). e ∷ l) (all_in es epoch all.1))

pub only_here : (others more : List Entry) (epoch : ℕ) → AllByRecursion (λ (e : Entry). e.epoch < epoch) others → AllByRecursion (λ (e : Entry). e.epoch ≡ epoch) more → in_epoch (others ++ more) epoch ≡ more
only_here others more epoch below stand = filter-append (λ (e : Entry). e.epoch == epoch) others more ∙ (ap (λ (l : List Entry). l ++ in_epoch more epoch) (none_in others epoch below) ∙ all_in more epoch stand)

-- What holds of two lists holds of both together.
pub all_joined : {X : Type 0} (P : X → Type 0) (xs ys : List X) → AllByRecursion P xs → AllByRecursion P ys → AllByRecursion P (xs ++ ys)
all_joined P [] ys one two = two
all_joined P (x ∷ xs) ys one two = (one.0, all_joined P xs ys one.1 two)

-- The bytes of entries with one appended.
pub size_more : (form : Form) (parent : Option ObjectId) (es : List Entry) (e : Entry) → length (entries_bytes form parent (es ++ e ∷ [])) ≡ length (entries_bytes form parent es) + length (bytes_after form (last_commit form parent es) (in_file e))
size_more form parent [] e = omega (arith, length-append (entry_bytes form e.kind e.text e.moment parent) [])
size_more form parent (f ∷ es) e =
    let next : Option ObjectId = Some (commit_id form f.kind f.text f.moment parent) in
    let front = entry_bytes form f.kind f.text f.moment parent in
    omega (arith, size_more form next es e, length-append front (entries_bytes form next (es ++ e ∷ [])), length-append front (entries_bytes form next es))

-- What is recorded of one more entry of an epoch.
abbrev pub seen_next : Form → List Entry → EpochEntry → Seen
seen_next form more x = seen_at form (8 + length (entries_bytes form None more)) (last_commit form None more) x

-- An entry of an epoch's file with a number.
abbrev pub as_entry : ℕ → ℕ → EpochEntry → Entry
as_entry number epoch x = record { kind = x.kind; number = number; epoch = epoch; text = x.text; moment = x.moment }

-- Entries of an epoch's file, whatever their numbers.
abbrev pub as_entries : ℕ → List EpochEntry → List Entry
as_entries epoch [] = []
as_entries epoch (x ∷ xs) = as_entry 0 epoch x ∷ as_entries epoch xs

as_filed : (epoch : ℕ) (xs : List EpochEntry) → map in_file (as_entries epoch xs) ≡ xs
as_filed epoch [] = refl
as_filed epoch (x ∷ xs) = ap (λ (l : List EpochEntry). x ∷ l) (as_filed epoch xs)

as_stand : (epoch : ℕ) (xs : List EpochEntry) → AllByRecursion (λ (e : Entry). e.epoch ≡ epoch) (as_entries epoch xs)
as_stand epoch [] = tt
as_stand epoch (x ∷ xs) = (refl, as_stand epoch xs)

-- The files of the epochs up to one start with the entries of these.
abbrev pub AreThere : Root → Files → ℕ → List Entry → Type 0
AreThere root files epoch all = (d : ℕ) → d ≤ epoch → Fronts (epoch_bytes root.config.form (in_epoch all d)) (files (epoch_file_of root d))

-- The text of an entry is in its file.
text_there : (root : Root) (files : Files) (epoch : ℕ) (before : List Entry) (e : Entry) (behind : List Entry) → AreThere root files epoch (before ++ e ∷ behind) → e.epoch ≤ epoch
    → TextIn (bytes_of (files (epoch_file_of root e.epoch))) (stored_at root.config.form before e).seen e.text
text_there root files epoch before e behind stand less =
    let xs = in_epoch before e.epoch in
    let ys = in_epoch behind e.epoch in
    let fronts : Fronts (epoch_bytes root.config.form (xs ++ e ∷ ys)) (files (epoch_file_of root e.epoch)) = subst (λ (l : List Entry). Fronts (epoch_bytes root.config.form l) (files (epoch_file_of root e.epoch))) (in_epoch_split before e behind) (stand e.epoch less) in
    let reads = divided_reads (bytes_of (files (epoch_file_of root e.epoch))) (8 + length (entries_bytes root.config.form None xs) + blob_front e.text) e.text
    (in_fronts (epoch_bytes root.config.form (xs ++ e ∷ ys)) (files (epoch_file_of root e.epoch)) (8 + length (entries_bytes root.config.form None xs) + blob_front e.text) e.text fronts (epoch_text root.config.form xs e ys)) in
    (reads.0, sym reads.1)

-- An entry that is kept is that of one of the entries.
record KeptOne (form : Form) (before es : List Entry) (s : StoredEntry) : Type 0 where
  front : List Entry
  entry : Entry
  behind : List Entry
  is : es ≡ front ++ entry ∷ behind
  kept : s ≡ stored_at form (before ++ front) entry

kept_one : (form : Form) (before es : List Entry) (i : ℕ) (s : StoredEntry) → slice_get (stored_after form before es) i ≡ Some s → KeptOne form before es s
kept_one form before [] i s found = absurd (let wrong : None ≡ Some s = found in cc)
kept_one form before (e ∷ es) zero s found = record {
  front = [];
  entry = e;
  behind = es;
  is = refl;
  kept = sym (ap (λ (o : Option StoredEntry). unwrap_or o s) found) ∙ ap (λ (b : List Entry). stored_at form b e) (sym (append-nil before));
}
kept_one form before (e ∷ es) (suc i) s found =
    let f = kept_one form (before ++ e ∷ []) es i s found in
    record {
      front = e ∷ f.front;
      entry = f.entry;
      behind = f.behind;
      is = ap (λ (l : List Entry). e ∷ l) f.is;
      kept = f.kept ∙ ap (λ (b : List Entry). stored_at form b f.entry) (append_assoc before (e ∷ []) f.front);
    }

-- A kept message of a live number has the blob id of its text.
message_is : (form : Form) (v : JoinedEntries) (rs after : List Record) (all : List Entry) (n : ℕ) (s : StoredEntry) (text : List ℕ) → HoldsJoined form v rs after all → IsMessageOf v.entries n s → text_of (live all) n ≡ Some text → s.seen.blob ≡ blob_id_of form text
message_is form v rs after all n s text holds of shown =
    let f = kept_one form [] all of.index s (ap (λ (l : List StoredEntry). slice_get l of.index) (sym holds.entries_are) ∙ of.among) in
    let e = f.entry in
    let message : e.kind ≡ Message = ap (λ (t : StoredEntry). t.seen.kind) (sym f.kept) ∙ of.message in
    let number : e.number ≡ n = ap (λ (t : StoredEntry). t.number) (sym f.kept) ∙ of.number_is in
    let split : delivered all ≡ delivered f.front ++ e ∷ delivered f.behind =
    ap delivered f.is ∙ (delivered_joined f.front (e ∷ f.behind) ∙ ap (λ (k : EntryKind). delivered f.front ++ (if is_message k then e ∷ delivered f.behind else delivered f.behind)) message) in
    let its : text_of (delivered all) e.number ≡ Some e.text = ap (λ (l : List Entry). text_of l e.number) split ∙ (lone_text (delivered f.front) 1 e (delivered f.behind) (subst (Ascends 1) split (messages_ascend 1 0 all holds.first.order))).1 in
    let one = live-one 1 0 all n text holds.first.order shown in
    let same : e.text ≡ text = ap (λ (o : Option (List ℕ)). unwrap_or o text) (sym its ∙ (ap (text_of (delivered all)) number ∙ one.is)) in
    ap (λ (t : StoredEntry). t.seen.blob) f.kept ∙ ap (blob_id_of form) same

-- The live entry with an own id that the index has.
record Owns (all : List Entry) (id : List ℕ) (o : Owner) : Type 0 where
  entry : Entry
  is : owner (live all) id ≡ Some entry
  number_is : entry.number ≡ o.number

owns : (form : Form) (all : List Entry) (index : Index) (id : List ℕ) (o : Owner) → IsArchiveIndex form all index → owner_in index.owners id ≡ Some o → Owns all id o
owns form all index id o is found = by (owner (live all) id) refl (sym (is.owners id) ∙ found) where
  by : (x : Option Entry) → owner (live all) id ≡ x → option_map owner_of x ≡ Some o → Owns all id o
  by None none wrong = absurd (let no_way : None ≡ Some o = wrong in cc)
  by (Some e) some same = record { entry = e; is = some; number_is = ap (λ (p : Option Owner). (unwrap_or p o).number) same }

-- No live entry has an own id that the index hasn't, and one has it otherwise.
pub is_free : (v : JoinedEntries) (index : Index) (seen : Seen) → IndexesStored v.entries index → owner_in index.owners seen.id ≡ None → OfJoined v (λ (form : Form) (all : List Entry). owner (live all) seen.id ≡ None)
is_free v index seen indexed none form rs after all holds = unowned all index seen.id (index_held form v index rs after all indexed holds) none

pub is_taken : (v : JoinedEntries) (index : Index) (seen : Seen) (o : Owner) → IndexesStored v.entries index → owner_in index.owners seen.id ≡ Some o → OfJoined v (λ (form : Form) (all : List Entry). owner (live all) seen.id ≢ None)
is_taken v index seen o indexed found form rs after all holds none =
    let it = owns form all index seen.id o (index_held form v index rs after all indexed holds) found in
    let wrong : None ≡ Some it.entry = sym none ∙ it.is in
    cc

-- What a deletion ends.
pub ends_none : (v : JoinedEntries) (index : Index) (seen : Seen) → IndexesStored v.entries index → owner_in index.owners seen.id ≡ None → OfJoined v (λ (form : Form) (all : List Entry). EndedBy form all seen None)
ends_none v index seen indexed none form rs after all holds number joins = (let wrong : None ≡ Some joins.ended = sym (is_free v index seen indexed none form rs after all holds) ∙ joins.live in cc)

module _ (v : JoinedEntries) (index : Index) (seen : Seen) (o : Owner) (s : StoredEntry) (indexed : IndexesStored v.entries index) (found : owner_in index.owners seen.id ≡ Some o) (message : IsMessageOf v.entries o.number s) where
  its_blob : (form : Form) (rs after : List Record) (all : List Entry) → HoldsJoined form v rs after all → (it : Owns all seen.id o) → s.seen.blob ≡ blob_id_of form it.entry.text
  its_blob form rs after all holds it = message_is form v rs after all o.number s it.entry.text holds message
      (subst (λ (n : ℕ). text_of (live all) n ≡ Some it.entry.text) it.number_is (owner_text (live all) 1 seen.id it.entry (live_ascends 1 0 all holds.first.order) it.is))

  pub ends_one : seen.kind ≡ Deletion → s.seen.blob ≡ seen.blob → OfJoined v (λ (form : Form) (all : List Entry). EndedBy form all seen (Some o.number))
  ends_one deletion same form rs after all holds =
      let it = owns form all index seen.id o (index_held form v index rs after all indexed holds) found in
      record { deletion = deletion; ended = it.entry; live = it.is; blob = sym (its_blob form rs after all holds it) ∙ same; number_is = it.number_is }

  pub ends_other : s.seen.blob ≢ seen.blob → OfJoined v (λ (form : Form) (all : List Entry). EndedBy form all seen None)
  ends_other apart form rs after all holds number joins =
      let it = owns form all index seen.id o (index_held form v index rs after all indexed holds) found in
      let same : it.entry ≡ joins.ended = found_is (owner (live all) seen.id) it.entry joins.ended it.is joins.live in
      apart (its_blob form rs after all holds it ∙ (ap (λ (e : Entry). blob_id_of form e.text) same ∙ joins.blob))

-- If no entry has its blob id, a text agrees with all.
no_blob : (form : Form) (es : List Entry) (text : List ℕ) → blob_number form es (blob_id_of form text) ≡ None → Agrees form text es
no_blob form [] text none = tt
no_blob form (e ∷ es) text none = by (id_eq (blob_id_of form text) (blob_id_of form e.text)) refl none (no_blob form es text) where
  by : (t : Bool) → id_eq (blob_id_of form text) (blob_id_of form e.text) ≡ t → (if t then Some e.number else blob_number form es (blob_id_of form text)) ≡ None → (blob_number form es (blob_id_of form text) ≡ None → Agrees form text es) → Agrees form text (e ∷ es)
  by true test is more = absurd (let wrong : Some e.number ≡ None = is in cc)
  by false test is more = (λ same. absurd (let yes_it = id_eq-refl (blob_id_of form text) (blob_id_of form e.text) same in let wrong : true ≡ false = sym yes_it ∙ test in cc), more is)

text_among : (front : List Entry) (e : Entry) (behind : List Entry) (text : List ℕ) → e.text ≡ text → HasText text (front ++ e ∷ behind)
text_among [] e behind text is = inl is
text_among (f ∷ front) e behind text is = inr (text_among front e behind text is)

one_of_all : {X : Type 0} (P : X → Type 0) (xs : List X) (x : X) (ys : List X) → AllByRecursion P (xs ++ x ∷ ys) → P x
one_of_all P [] x ys all = all.0
one_of_all P (z ∷ xs) x ys all = one_of_all P xs x ys all.1

-- A text is the same as that of the first entry with its blob id exactly if it agrees with all.
pub record AgreesIf (form : Form) (same : Bool) (text : List ℕ) (all : List Entry) : Type 0 where
  pub agrees : same ≡ true → Agrees form text all
  pub yes_it : Agrees form text all → same ≡ true

compared : (root : Root) (files : Files) (cur : JoinedEntries) (rs after : List Record) (epoch : ℕ) (all : List Entry) (x : EpochEntry) (s : Seen) (rest : List Entry) (same : Bool) → HoldsJoined root.config.form cur rs after all → s ≡ seen_next root.config.form (in_epoch all epoch) x
    → IsSameText root.config.form root files cur all epoch s same → AllByRecursion (λ (e : Entry). e.epoch ≤ epoch) all → AreThere root files epoch (all ++ as_entry 0 epoch x ∷ rest) → AgreesIf root.config.form same x.text all
compared root files cur rs after epoch all x s rest same holds seen (inl none) older stand =
    record { agrees = λ yes_it. no_blob root.config.form all x.text (ap (λ (t : Seen). blob_number root.config.form all t.blob) (sym seen) ∙ none.0); yes_it = λ agrees. none.1 }
compared root files cur rs after epoch all x s rest same holds seen (inr one) older stand =
    let f = kept_one root.config.form [] all one.index one.older (ap (λ (l : List StoredEntry). slice_get l one.index) (sym holds.entries_are) ∙ one.among) in
    let e = f.entry in
    let new : Entry = as_entry 0 epoch x in
    let less : e.epoch ≤ epoch = one_of_all (λ (g : Entry). g.epoch ≤ epoch) f.front e f.behind (subst (AllByRecursion (λ (g : Entry). g.epoch ≤ epoch)) f.is older) in
    let whole : all ++ new ∷ rest ≡ f.front ++ e ∷ (f.behind ++ new ∷ rest) = ap (λ (l : List Entry). l ++ new ∷ rest) f.is ∙ append_assoc f.front (e ∷ f.behind) (new ∷ rest) in
    let old_text = text_there root files epoch f.front e (f.behind ++ new ∷ rest) (subst (AreThere root files epoch) whole stand) less in
    let new_text = text_there root files epoch all new rest stand (omega arith) in
    let is : same ≡ bytes_eq e.text x.text =
    one.is e.text x.text (subst (λ (t : StoredEntry). TextIn (bytes_of (files (epoch_file_of root t.epoch))) t.seen e.text) (sym f.kept) old_text) (subst (λ (t : Seen). TextIn (bytes_of (files (epoch_file_of root epoch))) t x.text) (sym seen) new_text) in
    let blob : blob_id_of root.config.form x.text ≡ blob_id_of root.config.form e.text = ap (λ (t : Seen). t.blob) (sym seen) ∙ (sym one.blob ∙ ap (λ (t : StoredEntry). t.seen.blob) f.kept) in
    record {
      agrees = λ yes_it. agrees-has root.config.form all x.text holds.first.blobs (subst (HasText x.text) (sym f.is) (text_among f.front e f.behind x.text (bytes_same e.text x.text (sym is ∙ yes_it))));
      yes_it = λ agrees. is ∙ bytes_yes e.text x.text (sym (one_of_all (λ (g : Entry). blob_id_of root.config.form x.text ≡ blob_id_of root.config.form g.text → x.text ≡ g.text) f.front e f.behind (subst (Agrees root.config.form x.text) f.is agrees) blob));
    }

-- What is known of an entry that joins: what records are left, and that it fits.
record Goes (form : Form) (rs after : List Record) (all : List Entry) (e : Entry) : Type 0 where
  left : List Record
  first : AreFirst form rs (with_record form e.kind e left) all
  fits : FitsKind e.kind all e

message_goes : (form : Form) (cur : JoinedEntries) (rs after : List Record) (all : List Entry) (epoch number : ℕ) (x : EpochEntry) (s : Seen) → HoldsJoined form cur rs after all → IsEpochEntry x → s ≡ seen_next form (in_epoch all epoch) x → JoinsMessage cur all epoch s number → Goes form rs after all (as_entry number epoch x)
message_goes form cur rs after all epoch number x s holds valid seen joins =
    let e : Entry = as_entry number epoch x in
    let kind : Message ≡ x.kind = sym joins.wanted.message ∙ ap (λ (t : Seen). t.kind) seen in
    let blob_is : s.blob ≡ blob_id_of form x.text = ap (λ (t : Seen). t.blob) seen in
    let count : message_count cur.entries ≡ length (delivered all) = ap message_count holds.entries_are ∙ kept_count form [] all in
    let found : slice_get (map (record_of form) (delivered all) ++ after) (length (delivered all)) ≡ Some (record { number = number; epoch = epoch; blob = s.blob }) =
    sym (ap (λ (l : List Record). slice_get l (length (delivered all))) (holds.records ∙ holds.first.records)) ∙ (sym (ap (slice_get cur.records) count) ∙ joins.wanted.next) in
    let first = first_is after (record { number = number; epoch = epoch; blob = s.blob }) (sym (record_after form (delivered all) after) ∙ found) in
    let left : after ≡ record_of form e ∷ first.rest = first.is ∙ ap (λ (b : ObjectId). let r : Record = record { number = number; epoch = epoch; blob = b } in r ∷ first.rest) blob_is in
    let free : owner (live all) (own_of x.text) ≡ None = ap (λ (t : Seen). owner (live all) t.id) (sym seen) ∙ joins.id in
    record {
      left = first.rest;
      first = subst (λ (k : EntryKind). AreFirst form rs (with_record form k e first.rest) all) kind (subst (λ (b : List Record). AreFirst form rs b all) left holds.first);
      fits = subst (λ (k : EntryKind). FitsKind k all e) kind (apart_by (live all) x.text valid.text.id free);
    }

deletion_goes : (form : Form) (rs after : List Record) (all : List Entry) (epoch number : ℕ) (x : EpochEntry) (s : Seen) → AreFirst form rs after all → s ≡ seen_next form (in_epoch all epoch) x → Agrees form x.text all → JoinsDeletion form all s number → Goes form rs after all (as_entry number epoch x)
deletion_goes form rs after all epoch number x s first seen agree joins =
    let e : Entry = as_entry number epoch x in
    let kind : Deletion ≡ x.kind = sym joins.deletion ∙ ap (λ (t : Seen). t.kind) seen in
    let blob : blob_id_of form x.text ≡ blob_id_of form joins.ended.text = ap (λ (t : Seen). t.blob) (sym seen) ∙ sym joins.blob in
    let same : x.text ≡ joins.ended.text = owner_all (λ (f : Entry). blob_id_of form x.text ≡ blob_id_of form f.text → x.text ≡ f.text) (live all) s.id joins.ended (live-all (λ (f : Entry). blob_id_of form x.text ≡ blob_id_of form f.text → x.text ≡ f.text) all agree) joins.live blob in
    let shown = owner_text (live all) 1 s.id joins.ended (live_ascends 1 0 all first.order) joins.live in
    record {
      left = after;
      first = subst (λ (k : EntryKind). AreFirst form rs (with_record form k e after) all) kind first;
      fits = subst (λ (k : EntryKind). FitsKind k all e) kind (ap (text_of (live all)) (sym joins.number_is) ∙ (shown ∙ ap Some (sym same)));
    }

-- One more entry is joined to those of the map's first records.
pub record OneMore (form : Form) (new : JoinedEntries) (rs : List Record) (all : List Entry) (epoch : ℕ) (x : EpochEntry) : Type 0 where
  pub entry : Entry
  pub left : List Record
  pub epoch_is : entry.epoch ≡ epoch
  pub file_is : in_file entry ≡ x
  pub holds : HoldsJoined form new rs left (all ++ entry ∷ [])

one_more : (form : Form) (cur new : JoinedEntries) (rs after : List Record) (all : List Entry) (epoch number : ℕ) (x : EpochEntry) (s : Seen) → HoldsJoined form cur rs after all → epoch ≤ 63 → AllByRecursion (λ (e : Entry). e.epoch ≤ epoch) all
    → IsEpochEntry x → s ≡ seen_next form (in_epoch all epoch) x → Agrees form x.text all → Goes form rs after all (as_entry number epoch x) → new ≡ with_seen cur number epoch s → OneMore form new rs all epoch x
one_more form cur new rs after all epoch number x s holds small older valid seen agree goes is =
    let e : Entry = as_entry number epoch x in
    let entry : IsEntry e = record { text = valid.text; epoch = small; moment = valid.moment } in
    let stored : entry_seen number epoch s ≡ stored_at form all e = ap (entry_seen number epoch) seen in
    record {
      entry = e;
      left = goes.left;
      epoch_is = refl;
      file_is = refl;
      holds = record {
        numbered = holds.numbered;
        records = ap (λ (v : JoinedEntries). v.records) is ∙ holds.records;
        entries_are = ap (λ (v : JoinedEntries). v.entries) is ∙ (ap (λ (l : List StoredEntry). l ++ entry_seen number epoch s ∷ []) holds.entries_are
            ∙ (ap (λ (t : StoredEntry). stored_after form [] all ++ t ∷ []) stored ∙ sym (stored_more form [] all e)));
        first = first_more form rs goes.left all e holds.numbered goes.first entry older goes.fits agree;
      };
    }

joined_goes : (form : Form) (cur : JoinedEntries) (rs after : List Record) (all : List Entry) (epoch number : ℕ) (x : EpochEntry) (s : Seen) → HoldsJoined form cur rs after all → IsEpochEntry x → s ≡ seen_next form (in_epoch all epoch) x → Agrees form x.text all → JoinsMessage cur all epoch s number ⊎ JoinsDeletion form all s number
    → Goes form rs after all (as_entry number epoch x)
joined_goes form cur rs after all epoch number x s holds valid seen agree (inl joins) = message_goes form cur rs after all epoch number x s holds valid seen joins
joined_goes form cur rs after all epoch number x s holds valid seen agree (inr joins) = deletion_goes form rs after all epoch number x s holds.first seen agree joins

-- A next entry of the map that is valid joins the entries before it.
next_by : (form : Form) (k : EntryKind) (cur : JoinedEntries) (rs after left : List Record) (all : List Entry) (epoch : ℕ) (next : Entry) (s : Seen) → next.kind ≡ k → HoldsJoined form cur rs after all → next.epoch ≡ epoch → s ≡ seen_next form (in_epoch all epoch) (in_file next)
    → IsEntry next → AreFirst form rs (with_record form k next left) all → FitsKind k all next → Agrees form next.text all → JoinsMessage cur all epoch s next.number ⊎ JoinsDeletion form all s next.number
next_by form Message cur rs after left all epoch next s is holds same seen entry first fits agree =
    let blob_is : blob_id_of form next.text ≡ s.blob = ap (λ (t : Seen). t.blob) (sym seen) in
    let count : message_count cur.entries ≡ length (delivered all) = ap message_count holds.entries_are ∙ kept_count form [] all in
    let records : cur.records ≡ map (record_of form) (delivered all) ++ record_of form next ∷ left = holds.records ∙ first.records in
    let joins : JoinsMessage cur all epoch s next.number = record {
      wanted = record {
        message = ap (λ (t : Seen). t.kind) seen ∙ is;
        next = ap (slice_get cur.records) count ∙ (ap (λ (l : List Record). slice_get l (length (delivered all))) records ∙ (record_after form (delivered all) (record_of form next ∷ left)
            ∙ (λ i. Some (record { number = next.number; epoch = same i; blob = blob_is i }))));
      };
      id = ap (λ (t : Seen). owner (live all) t.id) seen ∙ owner-none (live all) (own_id next.text) (own_of next.text) (apart_from (live all) fits) (there (own_id next.text) [] entry.text.id);
    } in inl joins
  where
    apart_from : (es : List Entry) → Apart next.text es → AllByRecursion (λ (f : Entry). own_id f.text ≢ own_id next.text) es
    apart_from [] apart = tt
    apart_from (f ∷ es) apart = (λ is. apart.0 (sym is), apart_from es apart.1)
next_by form Deletion cur rs after left all epoch next s is holds same seen entry first fits agree =
    let one = found_owner (live all) next.number next.text entry.text.id (ids-now all holds.first.ids) fits in
    inr (record {
      deletion = ap (λ (t : Seen). t.kind) seen ∙ is;
      ended = one.entry;
      live = ap (λ (t : Seen). owner (live all) t.id) seen ∙ one.owns;
      blob = ap (blob_id_of form) one.text_is ∙ ap (λ (t : Seen). t.blob) (sym seen);
      number_is = one.number_is;
    })

next_joins : (form : Form) (cur : JoinedEntries) (rs after left : List Record) (all : List Entry) (epoch : ℕ) (next : Entry) (s : Seen) (same : Bool) → HoldsJoined form cur rs after all → next.epoch ≡ epoch → s ≡ seen_next form (in_epoch all epoch) (in_file next)
    → AgreesIf form same next.text all → AreFirst form rs left (all ++ next ∷ []) → JoinsNext form cur all epoch s same next.number
next_joins form cur rs after left all epoch next s same holds here seen texts first =
    let agree = blobs_last form all next first.blobs in
    (texts.yes_it agree, next_by form next.kind cur rs after left all epoch next s refl holds here seen (all_last IsEntry all next first.valid) (first_less form rs left all next first) (fits_last form rs left all next first) agree)

-- Some first entries of an epoch have joined those of the epochs before it, and this is recorded of
-- the others.
pub record Comes (form : Form) (cur : JoinedEntries) (left : List Seen) (rs : List Record) (others : List Entry) (epoch : ℕ) (here : List EpochEntry) : Type 0 where
  pub more : List Entry
  pub rest : List EpochEntry
  pub after : List Record
  pub below : AllByRecursion (λ (e : Entry). e.epoch < epoch) others
  pub stand : AllByRecursion (λ (e : Entry). e.epoch ≡ epoch) more
  pub are : here ≡ map in_file more ++ rest
  pub valid : AreEpochEntries rest
  pub seen : left ≡ seen_from form (8 + length (entries_bytes form None more)) (last_commit form None more) rest
  pub holds : HoldsJoined form cur rs after (others ++ more)

-- No entry has joined yet.
pub comes_first : (form : Form) (cur : JoinedEntries) (left : List Seen) (rs after : List Record) (others : List Entry) (epoch : ℕ) (here : List EpochEntry) → AreBefore epoch cur.entries → HoldsJoined form cur rs after others → AreEpochEntries here → left ≡ seen_from form 8 None here
    → Comes form cur left rs others epoch here
comes_first form cur left rs after others epoch here before holds valid seen = record {
  more = [];
  rest = here;
  after = after;
  below = stored_before form epoch [] others (subst (AreBefore epoch) holds.entries_are before);
  stand = tt;
  are = refl;
  valid = valid;
  seen = seen;
  holds = subst (HoldsJoined form cur rs after) (sym (append-nil others)) holds;
}

-- The remaining entries start with one.
record Begins (form : Form) (left : List Seen) (s : Seen) (after : List Seen) (more : List Entry) (rest : List EpochEntry) : Type 0 where
  x : EpochEntry
  others : List EpochEntry
  are : rest ≡ x ∷ others
  first : s ≡ seen_next form more x
  seen_after : after ≡ seen_from form (8 + length (entries_bytes form None more) + length (bytes_after form (last_commit form None more) x)) (Some (commit_after form (last_commit form None more) x)) others

begins : (form : Form) (left : List Seen) (s : Seen) (after : List Seen) (more : List Entry) (rest : List EpochEntry) → left ≡ s ∷ after → left ≡ seen_from form (8 + length (entries_bytes form None more)) (last_commit form None more) rest → Begins form left s after more rest
begins form left s after more [] is seen = absurd (let wrong : s ∷ after ≡ [] = sym is ∙ seen in cc)
begins form left s after more (x ∷ others) is seen =
    let tail = seen_from form (8 + length (entries_bytes form None more) + length (bytes_after form (last_commit form None more) x)) (Some (commit_after form (last_commit form None more) x)) others in
    let both : s ∷ after ≡ seen_next form more x ∷ tail = sym is ∙ seen in
    record { x = x; others = others; are = refl; first = cc; seen_after = cc }

valid_parts : (rest : List EpochEntry) (x : EpochEntry) (others : List EpochEntry) → rest ≡ x ∷ others → AreEpochEntries rest → IsEpochEntry x × AreEpochEntries others
valid_parts rest x others is valid = subst AreEpochEntries is valid

-- The entries so far are of epochs up to this one.
pub all_older : (others more : List Entry) (epoch : ℕ) → AllByRecursion (λ (e : Entry). e.epoch < epoch) others → AllByRecursion (λ (e : Entry). e.epoch ≡ epoch) more → AllByRecursion (λ (e : Entry). e.epoch ≤ epoch) (others ++ more)
all_older others more epoch below stand =
    all_joined (λ (e : Entry). e.epoch ≤ epoch) others more
    (all_weaker (λ (e : Entry). e.epoch < epoch) (λ (e : Entry). e.epoch ≤ epoch) others (λ e less. omega (arith, less)) below)
    (all_weaker (λ (e : Entry). e.epoch ≡ epoch) (λ (e : Entry). e.epoch ≤ epoch) more (λ e same. omega (arith, same)) stand)

-- The files of the epochs up to this one start with the entries so far and the others.
all_out : (es : List Entry) (epoch other : ℕ) → epoch ≢ other → AllByRecursion (λ (e : Entry). e.epoch ≡ epoch) es → in_epoch es other ≡ []
all_out [] epoch other apart all = refl
all_out (e ∷ es) epoch other apart all =
    let test : (e.epoch == other) ≡ false = (let is : e.epoch ≡ epoch = all.0 in grind (arith, nat_tests)) in
    rw test (all_out es epoch other apart all.1)

files_chain : (form : Form) (parent : Option ObjectId) (es : List Entry) → entries_bytes form parent es ≡ chain form parent (map in_file es)
files_chain form parent [] = refl
files_chain form parent (e ∷ es) = ap (λ (b : List ℕ). bytes_after form parent (in_file e) ++ b) (files_chain form (Some (commit_after form parent (in_file e))) es)

files_joined : (xs ys : List Entry) → map in_file (xs ++ ys) ≡ map in_file xs ++ map in_file ys
files_joined [] ys = refl
files_joined (x ∷ xs) ys = ap (λ (l : List EpochEntry). in_file x ∷ l) (files_joined xs ys)

there_some : (form : Form) (more : List Entry) (e : Entry) (rest : List Entry) → epoch_bytes form (more ++ e ∷ rest) ≡ magic form ++ entries_bytes form None (more ++ e ∷ rest)
there_some form [] e rest = refl
there_some form (f ∷ more) e rest = refl

stand_there : (root : Root) (files : Files) (epoch : ℕ) (others more : List Entry) (x : EpochEntry) (rest : List EpochEntry) (here : List EpochEntry) → AllByRecursion (λ (e : Entry). e.epoch ≡ epoch) more → AreWhole root files epoch others
    → Fronts (epoch_of root.config.form here) (files (epoch_file_of root epoch)) → here ≡ map in_file more ++ x ∷ rest → AreThere root files epoch ((others ++ more) ++ as_entries epoch (x ∷ rest))
stand_there root files epoch others more x rest here stand whole fronts are = λ d most. elim (below_or_at d most) [
  | inl less ↦ subst (λ (l : List Entry). Fronts (epoch_bytes root.config.form l) (files (epoch_file_of root d))) (sym (under d less)) (whole.fronts d less)
  | inr same ↦ subst (λ (n : ℕ). Fronts (epoch_bytes root.config.form (in_epoch all n)) (files (epoch_file_of root n))) (sym same) at_it
] where
  tail : List Entry
  tail = as_entries epoch (x ∷ rest)

  all : List Entry
  all = (others ++ more) ++ tail

  below_or_at : (d : ℕ) → d ≤ epoch → (d < epoch) ⊎ (d ≡ epoch)
  below_or_at d most = elim (cases_lt d epoch) [
    | inl less ↦ inl less
    | inr over ↦ inr (omega (arith, most, over))
  ]

  both : AllByRecursion (λ (e : Entry). e.epoch ≡ epoch) (more ++ tail)
  both = all_joined (λ (e : Entry). e.epoch ≡ epoch) more tail stand (as_stand epoch (x ∷ rest))

  under : (d : ℕ) → d < epoch → in_epoch all d ≡ in_epoch others d
  under d less = ap (λ (l : List Entry). in_epoch l d) (append_assoc others more tail)
      ∙ (filter-append (λ (e : Entry). e.epoch == d) others (more ++ tail) ∙ (ap (λ (l : List Entry). in_epoch others d ++ l) (all_out (more ++ tail) epoch d (λ is. absurd (omega (arith, less, is))) both) ∙ append-nil (in_epoch others d)))

  bytes : epoch_of root.config.form here ≡ epoch_bytes root.config.form (more ++ tail)
  bytes = ap (λ (l : List EpochEntry). magic root.config.form ++ chain root.config.form None l) (are ∙ (ap (λ (l : List EpochEntry). map in_file more ++ l) (sym (as_filed epoch (x ∷ rest))) ∙ sym (files_joined more tail)))
      ∙ (ap (λ (b : List ℕ). magic root.config.form ++ b) (sym (files_chain root.config.form None (more ++ tail))) ∙ sym (there_some root.config.form more (as_entry 0 epoch x) (as_entries epoch rest)))

  at_it : Fronts (epoch_bytes root.config.form (in_epoch all epoch)) (files (epoch_file_of root epoch))
  at_it = subst (λ (l : List Entry). Fronts (epoch_bytes root.config.form l) (files (epoch_file_of root epoch))) (sym (ap (λ (l : List Entry). in_epoch l epoch) (append_assoc others more tail) ∙ only_here others (more ++ tail) epoch whole.below both))
      (subst (λ (b : List ℕ). Fronts b (files (epoch_file_of root epoch))) bytes fronts)

-- The next entry was compared.
come_texts : (root : Root) (files : Files) (cur : JoinedEntries) (left : List Seen) (s : Seen) (after : List Seen) (rs : List Record) (others : List Entry) (epoch : ℕ) (here : List EpochEntry) (same : Bool) → AreWhole root files epoch others → Fronts (epoch_of root.config.form here) (files (epoch_file_of root epoch))
    → (comes : Comes root.config.form cur left rs others epoch here) → (begin : Begins root.config.form left s after comes.more comes.rest) → IsSameText root.config.form root files cur (others ++ comes.more) epoch s same → AgreesIf root.config.form same begin.x.text (others ++ comes.more)
come_texts root files cur left s after rs others epoch here same whole fronts comes begin texts =
    let all = others ++ comes.more in
    let here_is : in_epoch all epoch ≡ comes.more = only_here others comes.more epoch comes.below comes.stand in
    compared root files cur rs comes.after epoch all begin.x s (as_entries epoch begin.others) same comes.holds (begin.first ∙ ap (λ (l : List Entry). seen_next root.config.form l begin.x) (sym here_is)) texts (all_older others comes.more epoch comes.below comes.stand)
    (stand_there root files epoch others comes.more begin.x begin.others here comes.stand whole fronts (comes.are ∙ ap (λ (l : List EpochEntry). map in_file comes.more ++ l) begin.are))

-- One more entry joins.
pub comes_more : (root : Root) (files : Files) (cur new : JoinedEntries) (left : List Seen) (s : Seen) (after : List Seen) (rs : List Record) (others : List Entry) (epoch number : ℕ) (here : List EpochEntry) (same : Bool) → epoch ≤ 63 → AreWhole root files epoch others
    → Fronts (epoch_of root.config.form here) (files (epoch_file_of root epoch)) → Comes root.config.form cur left rs others epoch here → left ≡ s ∷ after
    → OfJoined cur (λ (form : Form) (all : List Entry). IsSameText form root files cur all epoch s same) → OfJoined cur (λ (form : Form) (all : List Entry). JoinsNext form cur all epoch s same number) → new ≡ with_seen cur number epoch s → Comes root.config.form new after rs others epoch here
comes_more root files cur new left s after rs others epoch number here same small whole fronts comes is texts joining new_is =
    let begin = begins root.config.form left s after comes.more comes.rest is comes.seen in
    let parts = valid_parts comes.rest begin.x begin.others begin.are comes.valid in
    let all = others ++ comes.more in
    let joins = joining root.config.form rs comes.after all comes.holds in
    let agree = (come_texts root files cur left s after rs others epoch here same whole fronts comes begin (texts root.config.form rs comes.after all comes.holds)).agrees joins.0 in
    let here_is : in_epoch all epoch ≡ comes.more = only_here others comes.more epoch comes.below comes.stand in
    let older = all_older others comes.more epoch comes.below comes.stand in
    let seen = begin.first ∙ ap (λ (l : List Entry). seen_next root.config.form l begin.x) (sym here_is) in
    let goes = joined_goes root.config.form cur rs comes.after all epoch number begin.x s comes.holds parts.0 seen agree joins.1 in
    let one = one_more root.config.form cur new rs comes.after all epoch number begin.x s comes.holds small older parts.0 seen agree goes new_is in
    let more = comes.more ++ one.entry ∷ [] in
    let offset : 8 + length (entries_bytes root.config.form None comes.more) + length (bytes_after root.config.form (last_commit root.config.form None comes.more) begin.x) ≡ 8 + length (entries_bytes root.config.form None more) =
    ap (λ (x : EpochEntry). 8 + length (entries_bytes root.config.form None comes.more) + length (bytes_after root.config.form (last_commit root.config.form None comes.more) x)) (sym one.file_is)
    ∙ (let size = size_more root.config.form None comes.more one.entry in omega (arith, size)) in
    let parent : Some (commit_after root.config.form (last_commit root.config.form None comes.more) begin.x) ≡ last_commit root.config.form None more =
    ap (λ (x : EpochEntry). Some (commit_after root.config.form (last_commit root.config.form None comes.more) x)) (sym one.file_is) ∙ sym (last_commit_is root.config.form None comes.more one.entry) in
    record {
      more = more;
      rest = begin.others;
      after = one.left;
      below = comes.below;
      stand = all_after (λ (e : Entry). e.epoch ≡ epoch) comes.more one.entry comes.stand one.epoch_is;
      are = comes.are ∙ (ap (λ (l : List EpochEntry). map in_file comes.more ++ l) begin.are ∙ (ap (λ (x : EpochEntry). map in_file comes.more ++ x ∷ begin.others) (sym one.file_is) ∙ sym (map_after in_file comes.more one.entry begin.others)));
      valid = parts.1;
      seen = begin.seen_after ∙ (λ i. seen_from root.config.form (offset i) (parent i) begin.others);
      holds = subst (HoldsJoined root.config.form new rs one.left) (append_assoc others comes.more (one.entry ∷ [])) one.holds;
    }

-- All entries have joined.
pub all_come : (form : Form) (cur : JoinedEntries) (left : List Seen) (rs : List Record) (others : List Entry) (epoch : ℕ) (here : List EpochEntry) → Comes form cur left rs others epoch here → left ≡ [] → AreJoined form cur rs others epoch here
all_come form cur left rs others epoch here comes none = record {
  more = comes.more;
  after = comes.after;
  stand = comes.stand;
  are = comes.are ∙ (ap (λ (l : List EpochEntry). map in_file comes.more ++ l) (no_rest comes.rest (sym comes.seen ∙ none)) ∙ append-nil (map in_file comes.more));
  holds = comes.holds;
} where
  no_rest : (rest : List EpochEntry) → seen_from form (8 + length (entries_bytes form None comes.more)) (last_commit form None comes.more) rest ≡ [] → rest ≡ []
  no_rest [] is = refl
  no_rest (x ∷ xs) is = absurd (cc)

-- The next entry can't join.
pub stops : (root : Root) (files : Files) (cur : JoinedEntries) (left : List Seen) (s : Seen) (after : List Seen) (rs : List Record) (others : List Entry) (epoch offset : ℕ) (here : List EpochEntry) (same : Bool) → AreWhole root files epoch others
    → Fronts (epoch_of root.config.form here) (files (epoch_file_of root epoch)) → Comes root.config.form cur left rs others epoch here → left ≡ s ∷ after → OfJoined cur (λ (form : Form) (all : List Entry). IsSameText form root files cur all epoch s same)
    → offset ≡ s.at → OfJoined cur (λ (form : Form) (all : List Entry). (number : ℕ) → JoinsNext form cur all epoch s same number → ⊥) → StopsAt root.config.form rs others epoch here offset
stops root files cur left s after rs others epoch offset here same whole fronts comes is texts at none =
    let begin = begins root.config.form left s after comes.more comes.rest is comes.seen in
    let all = others ++ comes.more in
    let agreeing = come_texts root files cur left s after rs others epoch here same whole fronts comes begin (texts root.config.form rs comes.after all comes.holds) in
    let here_is : in_epoch all epoch ≡ comes.more = only_here others comes.more epoch comes.below comes.stand in
    record {
      more = comes.more;
      after = comes.after;
      wrong = begin.x;
      rest = begin.others;
      stand = comes.stand;
      are = comes.are ∙ ap (λ (l : List EpochEntry). map in_file comes.more ++ l) begin.are;
      first = comes.holds.first;
      offset_is = at ∙ ap (λ (t : Seen). t.at) begin.first;
      no_next = λ next left_records same_epoch file first.
          none root.config.form rs comes.after all comes.holds next.number (next_joins root.config.form cur rs comes.after left_records all epoch next s same comes.holds same_epoch
          (begin.first ∙ (ap (seen_next root.config.form comes.more) (sym file) ∙ ap (λ (l : List Entry). seen_next root.config.form l (in_file next)) (sym here_is)))
          (subst (λ (y : EpochEntry). AgreesIf root.config.form same y.text all) (sym file) agreeing) first);
    }

-- What an error then says.
pub joins_or_stops : (root : Root) (files : Files) (cur : JoinedEntries) (left : List Seen) (s : Seen) (after : List Seen) (rs : List Record) (others : List Entry) (epoch : ℕ) (here : List EpochEntry) (refusal : JoinRefusal) → AreWhole root files epoch others
    → Fronts (epoch_of root.config.form here) (files (epoch_file_of root epoch)) → Comes root.config.form cur left rs others epoch here → left ≡ s ∷ after → JoinsByText root cur epoch s (Err refusal) files → JoinsAll root.config.form rs others epoch here (Err refusal)
joins_or_stops root files cur left s after rs others epoch here NoMemory whole fronts comes is joins = tt
joins_or_stops root files cur left s after rs others epoch here DiskFault whole fronts comes is joins = tt
joins_or_stops root files cur left s after rs others epoch here (Damaged offset) whole fronts comes is joins =
    let same = joins.0 in stops root files cur left s after rs others epoch offset here same whole fronts comes is joins.1 joins.2.0 joins.2.1
