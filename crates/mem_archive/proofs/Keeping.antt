-- What the archive in memory holds after one more entry.
use Rattle.std.proofs.Common.{◌≡◌, ◌+◌, ◌-◌, ◌<◌, ◌≤◌, nat_lt, ℕ, zero, suc, Bool, true, false, List, [], ◌∷◌, ◌++◌, length, take, replicate, Option, Some, None, IsSome, refl, sym, ◌∙◌, ap, subst, arith, length-append, append-nil, append_assoc, if◌then◌else◌}
use Rattle.std.proofs.lemmas.Bool.Decides.{nat_tests}
use Rattle.std.proofs.lemmas.List.{length-replicate, take_all}
use Rattle.std.specs.List.{AllByRecursion}
use Rattle.arch_base.specs.declared.config.Config.{Config}
use Rattle.arch_base.specs.declared.ids.ObjectId.{ObjectId}
use Rattle.mail_reader.specs.Ids.{own_id}
use Rattle.mail_reader.specs.Content.{content_id_of}
use Rattle.git_objects.specs.Objects.{blob_id_of}
use Rattle.mail_commits.specs.declared.ids.TextIds.{TextIds}
use Rattle.mail_commits.specs.Ids.{text_ids_of}
use Rattle.git_objects.specs.declared.entry_kind.EntryKind.{EntryKind}
use Rattle.git_objects.specs.declared.entry_kind.EntryKind.TheVariants.{Message, Deletion}
use Rattle.arch_model.specs.Archives.{Archive, Entry, message, deletion, live, text_of, owner, IsFree}
use Rattle.arch_model.specs.Delivery.{greater, last_epoch}
use Rattle.arch_model.specs.Shelves.{lines_after}
use Rattle.arch_model.specs.Validity.{NumberIsFrom, number_after, Rise, AtEachPlace, EndsLive, IdsDiffer, LiveDiffer, BlobsAgree}
use Rattle.arch_model.specs.declared.line.EntryLine.{EntryLine}
use Rattle.arch_model.proofs.Shelving.{lines_after-push}
use Rattle.arch_model.proofs.LiveEntries.{live-message, live-deletion, place-push, ids-now, ids-without, live-all, HasText, all-text}
use Rattle.arch_model.proofs.ValidArchives.{all_after, all_weaker, none_later, rise_more, ids_more, blobs_more}
use Rattle.arch_model.proofs.Commands.{apart_ids, agrees-alone}
use Rattle.mem_archive.specs.Memory.{archive_of, entry_of, entries_of, line_of, lines_of, appended_as, numbered_to, Hides, HasId, IsNumberUpTo, IsEpochEnd, IsEndAfter, IsNumberedAfter, EntryMayFollow, IsKept}
use Rattle.arch_judge.specs.Indexes.{IsArchiveIndex, IndexPuts, IndexLoses}
use Rattle.mem_archive.specs.declared.kept.Kept.{Kept}
use Rattle.mem_archive.specs.declared.kept.KeptPlace.{KeptPlace}
use Rattle.arch_judge.specs.declared.index.Owner.{Owner}
use Rattle.mem_archive.specs.declared.kept.End.{End}
use Rattle.arch_judge.specs.declared.index.Index.{Index}
use Rattle.arch_judge.proofs.Indexes.{IsArchiveIndex-push}
use Rattle.arch_judge.proofs.Endings.{IsArchiveIndex-ends}
use Rattle.mem_archive.proofs.Lines.{entries_of-push, of-kind, lines_of-push}
use Rattle.mem_archive.proofs.Places.{text-in, placed-message, placed-none, placed-deletion}
use Rattle.mem_archive.proofs.Ends.{greater_end, last_epoch-push}

same_id : (es : List Entry) (text id : List ℕ) → own_id text ≡ Some id → IsFree es text → owner es id ≡ None
same_id es text id own free =
    let some : Some free.0 ≡ Some id = sym free.1 ∙ own in
    let same : free.0 ≡ id = cc in
    subst (λ (i : List ℕ). owner es i ≡ None) same free.2

none_asked : (n : ℕ) (es : List Entry) → AllByRecursion (λ (e : Entry). NumberIsFrom Deletion (e.number + 1) n) es
none_asked n [] = tt
none_asked n (e ∷ es) = (tt, none_asked n es)

-- One more entry of either kind.
module _ (config : Config) (ks : List Kept) (places : List (Option KeptPlace)) (index : Index) (end_ next : End) (k : Kept) (kept : IsKept config ks places index end_) (may : EntryMayFollow (archive_of config ks places) (entry_of k)) (after : IsEndAfter (archive_of config ks places) (entry_of k) k.commit next) where
  -- No older entry has a later epoch.
  older : AllByRecursion (λ (e : Entry). e.epoch ≤ k.epoch) (entries_of ks)
  older = all_weaker (λ (e : Entry). e.epoch ≤ last_epoch (entries_of ks)) (λ (e : Entry). e.epoch ≤ k.epoch) (entries_of ks) (λ e before. (let low : last_epoch (entries_of ks) ≤ k.epoch = may.epoch in omega (arith, before, low))) (none_later (entries_of ks))

  -- The lines are those of the entries.
  lines_are : lines_of config.form (ks ++ k ∷ []) ≡ lines_after config.form [] (entries_of (ks ++ k ∷ []))
  lines_are =
      lines_of-push config.form ks k
      ∙ ap (λ (ls : List EntryLine). ls ++ line_of config.form k ∷ []) kept.lines
      ∙ ap (λ (c : ObjectId). lines_after config.form [] (entries_of ks) ++ record { kind = k.kind; number = k.number; epoch = k.epoch; secs = k.moment; blob = blob_id_of config.form k.text; size = length k.text; commit = c } ∷ []) after.commit_is
      ∙ sym (lines_after-push config.form [] (entries_of ks) (entry_of k))
      ∙ ap (lines_after config.form []) (sym (entries_of-push ks k))

  last_is : next.epoch ≡ last_epoch (entries_of (ks ++ k ∷ []))
  last_is = after.epoch ∙ sym (ap last_epoch (entries_of-push ks k) ∙ last_epoch-push (entries_of ks) (entry_of k) may.epoch)

  ends_are : IsEpochEnd config.form config.limit (entries_of (ks ++ k ∷ [])) next
  ends_are = subst (λ (es : List Entry). IsEpochEnd config.form config.limit es next) (sym (entries_of-push ks k)) after.ends

  -- Ids of live entries differ at each place, if they do after the entry.
  differ : IdsDiffer (live (entries_of ks ++ entry_of k ∷ [])) → AtEachPlace LiveDiffer [] (entries_of ks ++ entry_of k ∷ [])
  differ ids = place-push LiveDiffer [] (entries_of ks) (entry_of k) kept.ids ids

-- One more message.
module _ (config : Config) (ks : List Kept) (places : List (Option KeptPlace)) (index new : Index) (end_ next : End) (k : Kept) (id : List ℕ)
    (kept : IsKept config ks places index end_) (may : EntryMayFollow (archive_of config ks places) (entry_of k)) (after : IsEndAfter (archive_of config ks places) (entry_of k) k.commit next)
    (is_message : k.kind ≡ Message) (number_is : k.number ≡ length places + 1) (own : own_id k.text ≡ Some id) (puts : IndexPuts index new id (blob_id_of config.form k.text) (record { number = length places + 1; content = content_id_of k.text })) where
  abbrev at_last : KeptPlace
  at_last = record { entry = length ks; live = true }

  abbrev entry : Entry
  entry = message (length places + 1) k.epoch k.text k.moment

  entry_is : entry_of k ≡ entry
  entry_is = of-kind k Message is_message ∙ ap (λ (n : ℕ). message n k.epoch k.text k.moment) number_is

  longer : length (places ++ Some at_last ∷ []) ≡ length places + 1
  longer = omega (arith, length-append places (Some at_last ∷ []))

  pushed : entries_of (ks ++ k ∷ []) ≡ entries_of ks ++ entry ∷ []
  pushed = entries_of-push ks k ∙ ap (λ (e : Entry). entries_of ks ++ e ∷ []) entry_is

  grows : live (entries_of ks ++ entry ∷ []) ≡ live (entries_of ks) ++ entry ∷ []
  grows = live-message (entries_of ks) (length places + 1) k.epoch k.text k.moment

  may_number : IsNumberedAfter Message (archive_of config ks places) (entry_of k)
  may_number = subst (λ (kind : EntryKind). IsNumberedAfter kind (archive_of config ks places) (entry_of k)) is_message may.numbered

  unowned : owner (live (entries_of ks)) id ≡ None
  unowned = same_id (live (entries_of ks)) k.text id own may_number.2

  below : AllByRecursion (λ (e : Entry). e.number + 1 ≤ length places + 1) (entries_of ks)
  below = all_weaker (IsNumberUpTo (length places)) (λ (e : Entry). e.number + 1 ≤ length places + 1) (entries_of ks) (λ e up. (let high : e.number < length places + 1 = up.1 in omega (arith, high))) kept.numbered

  numbered : AllByRecursion (IsNumberUpTo (length (places ++ Some at_last ∷ []))) (entries_of ks ++ entry ∷ [])
  numbered =
      all_after (IsNumberUpTo (length (places ++ Some at_last ∷ []))) (entries_of ks) entry
      (all_weaker (IsNumberUpTo (length places)) (IsNumberUpTo (length (places ++ Some at_last ∷ []))) (entries_of ks) (λ e up. (up.0, let high : e.number < length places + 1 = up.1 in omega (arith, high, longer))) kept.numbered)
      (omega arith, omega (arith, longer))

  ids : AtEachPlace LiveDiffer [] (entries_of ks ++ entry ∷ [])
  ids =
      subst (λ (e : Entry). AtEachPlace LiveDiffer [] (entries_of ks ++ e ∷ [])) entry_is
      (differ config ks places index end_ next k kept may after
      (subst (λ (e : Entry). IdsDiffer (live (entries_of ks ++ e ∷ []))) (sym entry_is) (subst IdsDiffer (sym grows) (ids_more (live (entries_of ks)) entry (ids-now (entries_of ks) kept.ids) (apart_ids (live (entries_of ks)) k.text id own unowned)))))

  kept-message : IsKept config (ks ++ k ∷ []) (places ++ Some at_last ∷ []) new next
  kept-message = record {
    settings = kept.settings;
    numbers = let room : k.number ≤ config.max = may_number.1 in omega (arith, room, number_is, longer);
    placed = placed-message ks places k k.epoch k.moment k.text kept.placed kept.numbered entry_is;
    numbered = subst (λ (es : List Entry). AllByRecursion (IsNumberUpTo (length (places ++ Some at_last ∷ []))) es) (sym pushed) numbered;
    order = subst (λ (es : List Entry). Rise 1 0 es) (sym pushed) (rise_more 1 0 (entries_of ks) entry kept.order (omega arith) (omega arith) below (older config ks places index end_ next k kept may after));
    deletions = subst (λ (es : List Entry). AtEachPlace (λ (before : List Entry) (e : Entry). EndsLive e.kind before e) [] es) (sym pushed) (place-push (λ (before : List Entry) (e : Entry). EndsLive e.kind before e) [] (entries_of ks) entry kept.deletions tt);
    ids = subst (λ (es : List Entry). AtEachPlace LiveDiffer [] es) (sym pushed) ids;
    blobs = subst (λ (es : List Entry). BlobsAgree config.form es) (sym pushed) (blobs_more config.form (entries_of ks) entry kept.blobs (agrees-alone config.form (entries_of ks) k.text may.alone));
    named = subst (λ (es : List Entry). AllByRecursion HasId es) (sym pushed) (all_after HasId (entries_of ks) entry kept.named may.named);
    indexed = subst (λ (es : List Entry). IsArchiveIndex config.form es new) (sym pushed) (IsArchiveIndex-push (entries_of ks) entry index new id (blob_id_of config.form k.text) (record { number = length places + 1; content = content_id_of k.text }) grows kept.indexed puts refl own unowned refl);
    lines = lines_are config ks places index end_ next k kept may after;
    last = last_is config ks places index end_ next k kept may after;
    ends = ends_are config ks places index end_ next k kept may after;
  }

  archive-message : archive_of config (ks ++ k ∷ []) (places ++ Some at_last ∷ []) ≡ appended_as (archive_of config ks places) (entry_of k)
  archive-message =
      ap (λ (es : List Entry). record { config = config; entries = es; next = length (places ++ Some at_last ∷ []) + 1 }) (entries_of-push ks k)
      ∙ ap (λ (n : ℕ). record { config = config; entries = entries_of ks ++ entry_of k ∷ []; next = n + 1 }) (longer ∙ sym number_is)
      ∙ ap (λ (n : ℕ). record { config = config; entries = entries_of ks ++ entry_of k ∷ []; next = n }) (sym (ap (λ (kind : EntryKind). number_after kind (length places + 1) k.number) is_message))

-- A text that is there has an own id.
pub has_id : (ks : List Kept) (text : List ℕ) → AllByRecursion HasId (entries_of ks) → HasText text (entries_of ks) → IsSome (own_id text)
has_id ks text named has = all-text (λ (t : List ℕ). IsSome (own_id t)) (entries_of ks) text named has

-- The number of a deletion that may follow is that of a message.
ended-within : (config : Config) (ks : List Kept) (places : List (Option KeptPlace)) (index : Index) (end_ : End) (a : Archive) (k : Kept) → archive_of config ks places ≡ a → IsKept config ks places index end_ → EntryMayFollow a (entry_of k) → k.kind ≡ Deletion → (1 ≤ k.number) × (k.number < length places + 1)
ended-within config ks places index end_ a k is kept may kind_is =
    let shown : text_of (live a.entries) k.number ≡ Some k.text = subst (λ (kind : EntryKind). IsNumberedAfter kind a (entry_of k)) kind_is may.numbered in
    text-in (live (entries_of ks)) (length places) k.number k.text (live-all (IsNumberUpTo (length places)) (entries_of ks) kept.numbered) (ap (λ (b : Archive). text_of (live b.entries) k.number) is ∙ shown)

-- An entry that may follow is a message, if it has the next number.
pub is-message : (config : Config) (ks : List Kept) (places : List (Option KeptPlace)) (index : Index) (end_ : End) (a : Archive) (k : Kept) → archive_of config ks places ≡ a → IsKept config ks places index end_ → EntryMayFollow a (entry_of k) → k.number ≡ a.next → k.kind ≡ Message
is-message config ks places index end_ a k is kept may number_is = by k.kind refl where
  by : (kind : EntryKind) → k.kind ≡ kind → kind ≡ Message
  by Message kind_is = refl
  by Deletion kind_is = absurd (
      let last : k.number ≡ length places + 1 = number_is ∙ sym (ap (λ (b : Archive). b.next) is) in
      let less : k.number < length places + 1 = (ended-within config ks places index end_ a k is kept may kind_is).1 in
      omega (arith, less, last)
      )

-- The same of an archive that these stand for, where what was read of the entry is as it should be.
pub keeps : (config : Config) (ks : List Kept) (places : List (Option KeptPlace)) (index new : Index) (end_ next : End) (k : Kept) (spelled : List ℕ) (ids : TextIds) (id : List ℕ) (made : Owner) (count : ℕ) (a : Archive)
    → archive_of config ks places ≡ a → IsKept config ks places index end_ → EntryMayFollow a (entry_of k) → k.number ≡ a.next → IsEndAfter a (entry_of k) k.commit next
    → own_id spelled ≡ Some id → spelled ≡ k.text → made ≡ record { number = a.next; content = ids.content } → ids ≡ text_ids_of a.config.form k.text → count ≡ length ks → IndexPuts index new id ids.blob made
    → (held : List Kept) → held ≡ ks ++ k ∷ [] → (spots : List (Option KeptPlace)) → spots ≡ places ++ Some (record { entry = count; live = true }) ∷ []
    → IsKept config held spots new next × (archive_of config held spots ≡ appended_as a (entry_of k))
keeps config ks places index new end_ next k spelled ids id made count a is kept may number_is after own spelled_is made_is ids_are count_is puts held held_is spots spots_is =
    let follows : EntryMayFollow (archive_of config ks places) (entry_of k) = subst (λ (b : Archive). EntryMayFollow b (entry_of k)) (sym is) may in
    let ends : IsEndAfter (archive_of config ks places) (entry_of k) k.commit next = subst (λ (b : Archive). IsEndAfter b (entry_of k) k.commit next) (sym is) after in
    let kind_is : k.kind ≡ Message = is-message config ks places index end_ a k is kept may number_is in
    let number : k.number ≡ length places + 1 = number_is ∙ sym (ap (λ (b : Archive). b.next) is) in
    let named : own_id k.text ≡ Some id = ap own_id (sym spelled_is) ∙ own in
    let owner_is : made ≡ record { number = length places + 1; content = content_id_of k.text } =
    made_is ∙ ap (λ (b : Archive). record { number = b.next; content = ids.content }) (sym is) ∙ ap (λ (i : TextIds). record { number = length places + 1; content = i.content }) ids_are in
    let named_so : IndexPuts index new id (blob_id_of config.form k.text) made = subst (λ (i : TextIds). IndexPuts index new id i.blob made) (ids_are ∙ ap (λ (b : Archive). text_ids_of b.config.form k.text) (sym is)) puts in
    let put : IndexPuts index new id (blob_id_of config.form k.text) (record { number = length places + 1; content = content_id_of k.text }) = subst (λ (o : Owner). IndexPuts index new id (blob_id_of config.form k.text) o) owner_is named_so in
    let places_are : spots ≡ places ++ Some (record { entry = length ks; live = true }) ∷ [] = spots_is ∙ ap (λ (m : ℕ). places ++ Some (record { entry = m; live = true }) ∷ []) count_is in
    subst (λ (ls : List Kept). IsKept config ls spots new next × (archive_of config ls spots ≡ appended_as a (entry_of k))) (sym held_is)
    (subst (λ (ps : List (Option KeptPlace)). IsKept config (ks ++ k ∷ []) ps new next × (archive_of config (ks ++ k ∷ []) ps ≡ appended_as a (entry_of k))) (sym places_are) (
      kept-message config ks places index new end_ next k id kept follows ends kind_is number named put,
      archive-message config ks places index new end_ next k id kept follows ends kind_is number named put ∙ ap (λ (b : Archive). appended_as b (entry_of k)) is,
    ))

-- The number of a deletion that may follow is at least 1.
pub ends-live : (config : Config) (ks : List Kept) (places : List (Option KeptPlace)) (index : Index) (end_ : End) (a : Archive) (k : Kept) → archive_of config ks places ≡ a → IsKept config ks places index end_ → EntryMayFollow a (entry_of k) → k.kind ≡ Deletion → 1 ≤ k.number
ends-live config ks places index end_ a k is kept may kind_is = (ended-within config ks places index end_ a k is kept may kind_is).0

-- One more deletion.
module _ (config : Config) (ks : List Kept) (places hidden : List (Option KeptPlace)) (index new : Index) (end_ next : End) (k : Kept) (id : List ℕ)
    (kept : IsKept config ks places index end_) (may : EntryMayFollow (archive_of config ks places) (entry_of k)) (after : IsEndAfter (archive_of config ks places) (entry_of k) k.commit next)
    (is_deletion : k.kind ≡ Deletion) (own : own_id k.text ≡ Some id) (lost : IndexLoses index new id) (hides : Hides places hidden (k.number - 1)) where
  abbrev last_entry : Entry
  last_entry = deletion k.number k.epoch k.text k.moment

  last_entry_is : entry_of k ≡ last_entry
  last_entry_is = of-kind k Deletion is_deletion

  added : entries_of (ks ++ k ∷ []) ≡ entries_of ks ++ last_entry ∷ []
  added = entries_of-push ks k ∙ ap (λ (e : Entry). entries_of ks ++ e ∷ []) last_entry_is

  shown : text_of (live (entries_of ks)) k.number ≡ Some k.text
  shown = subst (λ (kind : EntryKind). IsNumberedAfter kind (archive_of config ks places) (entry_of k)) is_deletion may.numbered

  is_one : (1 ≤ k.number) × (k.number < length places + 1)
  is_one = text-in (live (entries_of ks)) (length places) k.number k.text (live-all (IsNumberUpTo (length places)) (entries_of ks) kept.numbered) shown

  same_size : length hidden ≡ length places
  same_size = hides.size

  within : AllByRecursion (IsNumberUpTo (length hidden)) (entries_of ks ++ last_entry ∷ [])
  within = subst (λ (m : ℕ). AllByRecursion (IsNumberUpTo m) (entries_of ks ++ last_entry ∷ [])) (sym same_size) (all_after (IsNumberUpTo (length places)) (entries_of ks) last_entry kept.numbered is_one)

  fewer_ids : AtEachPlace LiveDiffer [] (entries_of ks ++ last_entry ∷ [])
  fewer_ids =
      subst (λ (e : Entry). AtEachPlace LiveDiffer [] (entries_of ks ++ e ∷ [])) last_entry_is
      (differ config ks places index end_ next k kept may after
      (subst (λ (e : Entry). IdsDiffer (live (entries_of ks ++ e ∷ []))) (sym last_entry_is) (subst IdsDiffer (sym (live-deletion (entries_of ks) k.number k.epoch k.text k.moment)) (ids-without k.number (live (entries_of ks)) (ids-now (entries_of ks) kept.ids)))))

  kept-deletion : IsKept config (ks ++ k ∷ []) hidden new next
  kept-deletion = record {
    settings = kept.settings;
    numbers = let few : length places ≤ config.max = kept.numbers in omega (arith, few, same_size);
    placed = placed-deletion ks places hidden k k.number k.epoch k.moment k.text kept.placed is_one.0 hides last_entry_is;
    numbered = subst (λ (es : List Entry). AllByRecursion (IsNumberUpTo (length hidden)) es) (sym added) within;
    order = subst (λ (es : List Entry). Rise 1 0 es) (sym added) (rise_more 1 0 (entries_of ks) last_entry kept.order tt (omega arith) (none_asked k.number (entries_of ks)) (older config ks places index end_ next k kept may after));
    deletions = subst (λ (es : List Entry). AtEachPlace (λ (before : List Entry) (e : Entry). EndsLive e.kind before e) [] es) (sym added) (place-push (λ (before : List Entry) (e : Entry). EndsLive e.kind before e) [] (entries_of ks) last_entry kept.deletions shown);
    ids = subst (λ (es : List Entry). AtEachPlace LiveDiffer [] es) (sym added) fewer_ids;
    blobs = subst (λ (es : List Entry). BlobsAgree config.form es) (sym added) (blobs_more config.form (entries_of ks) last_entry kept.blobs (agrees-alone config.form (entries_of ks) k.text may.alone));
    named = subst (λ (es : List Entry). AllByRecursion HasId es) (sym added) (all_after HasId (entries_of ks) last_entry kept.named may.named);
    indexed = subst (λ (es : List Entry). IsArchiveIndex config.form es new) (sym added) (IsArchiveIndex-ends (entries_of ks) k.number k.epoch k.text k.moment 1 0 index new id kept.indexed kept.order (ids-now (entries_of ks) kept.ids) shown own lost);
    lines = lines_are config ks places index end_ next k kept may after;
    last = last_is config ks places index end_ next k kept may after;
    ends = ends_are config ks places index end_ next k kept may after;
  }

  archive-deletion : archive_of config (ks ++ k ∷ []) hidden ≡ appended_as (archive_of config ks places) (entry_of k)
  archive-deletion =
      ap (λ (es : List Entry). record { config = config; entries = es; next = length hidden + 1 }) (entries_of-push ks k)
      ∙ ap (λ (m : ℕ). record { config = config; entries = entries_of ks ++ entry_of k ∷ []; next = m + 1 }) same_size
      ∙ ap (λ (n : ℕ). record { config = config; entries = entries_of ks ++ entry_of k ∷ []; next = n }) (sym (ap (λ (kind : EntryKind). number_after kind (length places + 1) k.number) is_deletion))

-- The same of an archive that these stand for.
pub ends-kept : (config : Config) (ks : List Kept) (places hidden : List (Option KeptPlace)) (index new : Index) (end_ next : End) (k : Kept) (spelled id : List ℕ) (a : Archive)
    → archive_of config ks places ≡ a → IsKept config ks places index end_ → EntryMayFollow a (entry_of k) → k.kind ≡ Deletion → IsEndAfter a (entry_of k) k.commit next
    → own_id spelled ≡ Some id → spelled ≡ k.text → (lost_id : List ℕ) → lost_id ≡ id → IndexLoses index new lost_id → Hides places hidden (k.number - 1)
    → (held : List Kept) → held ≡ ks ++ k ∷ []
    → IsKept config held hidden new next × (archive_of config held hidden ≡ appended_as a (entry_of k))
ends-kept config ks places hidden index new end_ next k spelled id a is kept may kind_is after own spelled_is lost_id lost_is loses hides held held_is =
    let follows : EntryMayFollow (archive_of config ks places) (entry_of k) = subst (λ (b : Archive). EntryMayFollow b (entry_of k)) (sym is) may in
    let ends : IsEndAfter (archive_of config ks places) (entry_of k) k.commit next = subst (λ (b : Archive). IsEndAfter b (entry_of k) k.commit next) (sym is) after in
    let lost : IndexLoses index new id = subst (λ (i : List ℕ). IndexLoses index new i) lost_is loses in
    let named : own_id k.text ≡ Some id = ap own_id (sym spelled_is) ∙ own in
    subst (λ (ls : List Kept). IsKept config ls hidden new next × (archive_of config ls hidden ≡ appended_as a (entry_of k))) (sym held_is) (
      kept-deletion config ks places hidden index new end_ next k id kept follows ends kind_is named lost hides,
      archive-deletion config ks places hidden index new end_ next k id kept follows ends kind_is named lost hides ∙ ap (λ (b : Archive). appended_as b (entry_of k)) is,
    )

-- One more number, which has no message.
one_number : (config : Config) (ks : List Kept) (places : List (Option KeptPlace)) (index : Index) (end_ : End) → IsKept config ks places index end_ → length places + 1 ≤ config.max → IsKept config ks (places ++ None ∷ []) index end_
one_number config ks places index end_ kept room =
    let longer : length (places ++ None ∷ []) ≡ length places + 1 = omega (arith, length-append places (None ∷ [])) in
    record {
      settings = kept.settings;
      numbers = omega (arith, room, longer);
      placed = placed-none ks places kept.placed kept.numbered;
      numbered = all_weaker (IsNumberUpTo (length places)) (IsNumberUpTo (length (places ++ None ∷ []))) (entries_of ks) (λ e up. (up.0, let high : e.number < length places + 1 = up.1 in omega (arith, high, longer))) kept.numbered;
      order = kept.order;
      deletions = kept.deletions;
      ids = kept.ids;
      blobs = kept.blobs;
      named = kept.named;
      indexed = kept.indexed;
      lines = kept.lines;
      last = kept.last;
      ends = kept.ends;
    }

more_numbers : (config : Config) (ks : List Kept) (places : List (Option KeptPlace)) (index : Index) (end_ : End) (count : ℕ) → IsKept config ks places index end_ → length places + count ≤ config.max → IsKept config ks (places ++ replicate count None) index end_
more_numbers config ks places index end_ zero kept room = subst (λ (ps : List (Option KeptPlace)). IsKept config ks ps index end_) (sym (append-nil places)) kept
more_numbers config ks places index end_ (suc count) kept room =
    let longer : length (places ++ None ∷ []) ≡ length places + 1 = omega (arith, length-append places (None ∷ [])) in
    subst (λ (ps : List (Option KeptPlace)). IsKept config ks ps index end_) (append_assoc places (None ∷ []) (replicate count None))
    (more_numbers config ks (places ++ None ∷ []) index end_ count (one_number config ks places index end_ kept (omega (arith, room))) (omega (arith, room, longer)))

early_next : (m n : ℕ) → n ≤ m → m ≡ greater m n
early_next m n low = let is : nat_lt m n ≡ false = grind (arith, nat_tests, low) in sym (ap (λ (t : Bool). if t then n else m) is)

-- Numbers up to a next one are given.
pub numbers-to : (config : Config) (ks : List Kept) (places spots : List (Option KeptPlace)) (index : Index) (end_ : End) (a : Archive) (now next count : ℕ) → archive_of config ks places ≡ a → IsKept config ks places index end_ → next ≤ a.config.max + 1 → now ≡ a.next → now < next → count ≡ length places
    → spots ≡ take (next - 1) places ++ replicate (next - 1 - count) None → IsKept config ks spots index end_ × (archive_of config ks spots ≡ numbered_to a next)
numbers-to config ks places spots index end_ a now next count is kept most now_is less count_is spots_are =
    let here : now ≡ length places + 1 = now_is ∙ sym (ap (λ (b : Archive). b.next) is) in
    let room : next ≤ config.max + 1 = subst (λ (b : Archive). next ≤ b.config.max + 1) (sym is) most in
    let added : ℕ = next - 1 - count in
    let all : spots ≡ places ++ replicate added None = spots_are ∙ ap (λ (ps : List (Option KeptPlace)). ps ++ replicate added None) (take_all (next - 1) places (omega (arith, here, less))) in
    let size : length spots ≡ length places + added = ap length all ∙ length-append places (replicate added None) ∙ ap (λ (n : ℕ). length places + n) (length-replicate added None) in
    let last : length spots + 1 ≡ next = omega (arith, size, count_is, here, less) in
    let numbered : archive_of config ks spots ≡ numbered_to (archive_of config ks places) next = ap (λ (n : ℕ). record { config = config; entries = entries_of ks; next = n }) (last ∙ sym (greater_end (length places + 1) next (omega (arith, here, less)))) in (
      subst (λ (ps : List (Option KeptPlace)). IsKept config ks ps index end_) (sym all) (more_numbers config ks places index end_ added kept (omega (arith, room, here, less, count_is))),
      numbered ∙ ap (λ (b : Archive). numbered_to b next) is,
    )

-- They were given before.
pub numbers-past : (a : Archive) (now next : ℕ) → now ≡ a.next → next ≤ now → a ≡ numbered_to a next
numbers-past a now next now_is past = ap (λ (n : ℕ). record { config = a.config; entries = a.entries; next = n }) (early_next a.next next (omega (arith, now_is, past)))
