-- What may be appended to the archive in memory: a new message, a new deletion, and entries again.
use Rattle.std.proofs.Common.{◌≡◌, ◌+◌, ◌≤◌, ℕ, Bool, true, false, not, ◌&&◌, List, [], ◌∷◌, ◌++◌, length, Option, Some, None, is_some, refl, sym, ◌∙◌, ap, subst, arith, if◌then◌else◌}
use Rattle.std.specs.Str.{bytes_eq}
use Rattle.std.proofs.lemmas.Slice.Eq.{bytes_eq-Decides}
use Rattle.arch_base.specs.declared.config.Config.{Config}
use Rattle.arch_base.specs.Ids.{id_eq}
use Rattle.arch_base.specs.declared.ids.ObjectId.{ObjectId}
use Rattle.arch_base.proofs.IdOrder.{id_eq-Decides}
use Rattle.arch_base.specs.declared.ids.Form.{Form}
use Rattle.git_objects.specs.Objects.{blob_id_of}
use Rattle.git_objects.specs.declared.entry_kind.EntryKind.{EntryKind}
use Rattle.git_objects.specs.declared.entry_kind.EntryKind.TheVariants.{Message, Deletion}
use Rattle.arch_model.specs.Archives.{Archive, Entry, message, deletion, live, text_of, with_entry, with_deletion, IsFree}
use Rattle.arch_model.specs.Delivery.{greater, last_epoch, new_epoch, collision}
use Rattle.arch_model.specs.Validity.{number_after}
use Rattle.arch_model.proofs.LiveEntries.{HasText, found-has, live-has}
use Rattle.arch_model.proofs.ValidArchives.{Agrees, agrees-has}
use Rattle.arch_judge.specs.declared.index.Index.{Index}
use Rattle.mem_archive.specs.Memory.{archive_of, entries_of, end_after, end_for_new, end_in_epoch, appended_as, numbered_to, IsEndAfter, IsNumberedAfter, EntryMayFollow, IsKept}
use Rattle.mem_archive.specs.declared.kept.End.{End}
use Rattle.mem_archive.specs.declared.kept.Kept.{Kept}
use Rattle.mem_archive.specs.declared.kept.KeptPlace.{KeptPlace}
use Rattle.mem_archive.proofs.Ends.{NewEnd, IsEpochEnd-new, IsEpochEnd-in, end-after, greater_end}
use Rattle.mem_archive.proofs.Keeping.{has_id}

-- Where each entry with the blob id of a text has the text, none collides with it.
clash_step : (b t : Bool) (n : ℕ) (rest : Option ℕ) → (b ≡ true → t ≡ true) → rest ≡ None → (if b && not t then Some n else rest) ≡ None
clash_step true true n rest same none = none
clash_step true false n rest same none = absurd (let wrong : false ≡ true = same refl in cc)
clash_step false t n rest same none = none

pub none_collides : (form : Form) (es : List Entry) (text : List ℕ) → Agrees form text es → collision form es text ≡ None
none_collides form [] text agrees = refl
none_collides form (e ∷ es) text agrees =
    let blob = blob_id_of form text in
    let own = blob_id_of form e.text in
    clash_step (id_eq blob own) (bytes_eq text e.text) e.number (collision form es text) (λ hit. (bytes_eq-Decides text e.text).1 (agrees.0 ((id_eq-Decides blob own).0 hit))) (none_collides form es text agrees.1)

-- An entry may be appended to an archive, which gives another one, and the end after it is this.
pub record Appends (a : Archive) (e : Entry) (commit : ObjectId) (next : End) (wanted : Archive) : Type 0 where
  pub follows : EntryMayFollow a e
  pub ends : IsEndAfter a e commit next
  pub gives : appended_as a e ≡ wanted

module _ (config : Config) (ks : List Kept) (places : List (Option KeptPlace)) (index : Index) (end_ : End) (kept : IsKept config ks places index end_) where
  begin : NewEnd config.form config.limit (entries_of ks) (new_epoch (archive_of config ks places)) (end_for_new config.limit end_)
  begin = IsEpochEnd-new (archive_of config ks places) end_ kept.ends kept.last

  module _ (next : End) (kind : EntryKind) (text : List ℕ) (moment : ℕ) (next_is : next ≡ end_after config.form (end_for_new config.limit end_) kind text moment) where
    at_epoch : next.epoch ≡ new_epoch (archive_of config ks places)
    at_epoch = ap (λ (e : End). e.epoch) next_is ∙ begin.1

    at_begin : NewEnd config.form config.limit (entries_of ks) next.epoch (end_for_new config.limit end_)
    at_begin = (begin.0, begin.1 ∙ sym at_epoch, begin.2)

    low : last_epoch (entries_of ks) ≤ next.epoch
    low = let past : last_epoch (entries_of ks) ≤ (end_for_new config.limit end_).epoch = begin.2 in let same : (end_for_new config.limit end_).epoch ≡ next.epoch = at_begin.1 in omega (arith, past, same)

    small : next.epoch ≤ 63
    small = let high : (end_for_new config.limit end_).epoch ≤ 63 = begin.0.small in let same : (end_for_new config.limit end_).epoch ≡ next.epoch = at_begin.1 in omega (arith, high, same)

  -- A new message, in the epoch for it.
  message_here : (text : List ℕ) (moment : ℕ) (next : End) (commit : ObjectId) → IsFree (live (entries_of ks)) text → collision config.form (entries_of ks) text ≡ None → length places + 1 ≤ config.max → next ≡ end_after config.form (end_for_new config.limit end_) Message text moment → next.parent ≡ Some commit
      → Appends (archive_of config ks places) (message (length places + 1) next.epoch text moment) commit next (with_entry (archive_of config ks places) (new_epoch (archive_of config ks places)) text moment)
  message_here text moment next commit free alone room next_is commit_is = record {
    follows = record {
      epoch = low next Message text moment next_is;
      small = small next Message text moment next_is;
      named = ap is_some free.1;
      alone = alone;
      numbered = (omega arith, room, free);
    };
    ends = end-after (archive_of config ks places) (message (length places + 1) next.epoch text moment) (end_for_new config.limit end_) next commit (at_begin next Message text moment next_is) next_is commit_is;
    gives = ap (λ (n : ℕ). with_entry (archive_of config ks places) n text moment) (at_epoch next Message text moment next_is);
  }

  there : (n : ℕ) (text : List ℕ) → text_of (live (entries_of ks)) n ≡ Some text → HasText text (entries_of ks)
  there n text shown = live-has (entries_of ks) text (found-has (live (entries_of ks)) n text shown)

  -- A new deletion.
  deletion_here : (n : ℕ) (text : List ℕ) (moment : ℕ) (next : End) (commit : ObjectId) → text_of (live (entries_of ks)) n ≡ Some text → next ≡ end_after config.form (end_for_new config.limit end_) Deletion text moment → next.parent ≡ Some commit
      → Appends (archive_of config ks places) (deletion n next.epoch text moment) commit next (with_deletion (archive_of config ks places) n (new_epoch (archive_of config ks places)) text moment)
  deletion_here n text moment next commit shown next_is commit_is = record {
    follows = record {
      epoch = low next Deletion text moment next_is;
      small = small next Deletion text moment next_is;
      named = has_id ks text kept.named (there n text shown);
      alone = none_collides config.form (entries_of ks) text (agrees-has config.form (entries_of ks) text kept.blobs (there n text shown));
      numbered = shown;
    };
    ends = end-after (archive_of config ks places) (deletion n next.epoch text moment) (end_for_new config.limit end_) next commit (at_begin next Deletion text moment next_is) next_is commit_is;
    gives = ap (λ (m : ℕ). with_deletion (archive_of config ks places) n m text moment) (at_epoch next Deletion text moment next_is);
  }

-- The same of an archive that these stand for.
pub new-message : (config : Config) (ks : List Kept) (places : List (Option KeptPlace)) (index : Index) (end_ : End) (a : Archive) (text read : List ℕ) (moment number : ℕ) (next : End) (commit : ObjectId) → archive_of config ks places ≡ a → IsKept config ks places index end_
    → IsFree (live a.entries) text → collision a.config.form a.entries text ≡ None → a.next ≤ a.config.max → next ≡ end_after config.form (end_for_new config.limit end_) Message read moment → read ≡ text → next.parent ≡ Some commit → number ≡ a.next
    → Appends a (message number next.epoch text moment) commit next (with_entry a (new_epoch a) text moment)
new-message config ks places index end_ a text read moment number next commit is kept free alone room next_is read_is commit_is number_is =
    let after : next ≡ end_after config.form (end_for_new config.limit end_) Message text moment = next_is ∙ ap (λ (t : List ℕ). end_after config.form (end_for_new config.limit end_) Message t moment) read_is in
    subst (λ (n : ℕ). Appends a (message n next.epoch text moment) commit next (with_entry a (new_epoch a) text moment)) (sym number_is)
    (subst (λ (b : Archive). IsFree (live b.entries) text → collision b.config.form b.entries text ≡ None → b.next ≤ b.config.max → Appends b (message b.next next.epoch text moment) commit next (with_entry b (new_epoch b) text moment)) is
    (λ free alone room. message_here config ks places index end_ kept text moment next commit free alone room after commit_is) free alone room)

pub new-deletion : (config : Config) (ks : List Kept) (places : List (Option KeptPlace)) (index : Index) (end_ : End) (a : Archive) (n : ℕ) (text read : List ℕ) (moment : ℕ) (next : End) (commit : ObjectId) → archive_of config ks places ≡ a → IsKept config ks places index end_
    → text_of (live a.entries) n ≡ Some text → next ≡ end_after config.form (end_for_new config.limit end_) Deletion read moment → read ≡ text → next.parent ≡ Some commit
    → Appends a (deletion n next.epoch text moment) commit next (with_deletion a n (new_epoch a) text moment)
new-deletion config ks places index end_ a n text read moment next commit is kept shown next_is read_is commit_is =
    let after : next ≡ end_after config.form (end_for_new config.limit end_) Deletion text moment = next_is ∙ ap (λ (t : List ℕ). end_after config.form (end_for_new config.limit end_) Deletion t moment) read_is in
    subst (λ (b : Archive). text_of (live b.entries) n ≡ Some text → Appends b (deletion n next.epoch text moment) commit next (with_deletion b n (new_epoch b) text moment)) is
    (λ shown. deletion_here config ks places index end_ kept n text moment next commit shown after commit_is) shown

-- The last epoch is at most that of an entry that may follow.
pub not-later : (config : Config) (ks : List Kept) (places : List (Option KeptPlace)) (index : Index) (end_ : End) (a : Archive) (e : Entry) → archive_of config ks places ≡ a → IsKept config ks places index end_ → EntryMayFollow a e → end_.epoch ≤ e.epoch
not-later config ks places index end_ a e is kept may =
    let low : last_epoch (entries_of ks) ≤ e.epoch = subst (λ (b : Archive). last_epoch b.entries ≤ e.epoch) (sym is) may.epoch in let last : end_.epoch ≡ last_epoch (entries_of ks) = kept.last in omega (arith, low, last)

-- An entry again, in its epoch.
pub end-again : (config : Config) (ks : List Kept) (places : List (Option KeptPlace)) (index : Index) (end_ : End) (a : Archive) (e : Entry) (begin next : End) (read : List ℕ) (commit : ObjectId) → archive_of config ks places ≡ a → IsKept config ks places index end_ → EntryMayFollow a e
    → begin ≡ end_in_epoch e.epoch config.limit end_ → next ≡ end_after config.form begin e.kind read e.moment → read ≡ e.text → next.parent ≡ Some commit → IsEndAfter a e commit next
end-again config ks places index end_ a e begin next read commit is kept may begin_is next_is read_is commit_is =
    let low : last_epoch (entries_of ks) ≤ e.epoch = subst (λ (b : Archive). last_epoch b.entries ≤ e.epoch) (sym is) may.epoch in
    let new : NewEnd config.form config.limit (entries_of ks) e.epoch begin = subst (λ (b : End). NewEnd config.form config.limit (entries_of ks) e.epoch b) (sym begin_is) (IsEpochEnd-in config.form config.limit e.epoch (entries_of ks) end_ kept.ends kept.last low may.small) in
    subst (λ (b : Archive). IsEndAfter b e commit next) is (end-after (archive_of config ks places) e begin next commit new (next_is ∙ ap (λ (t : List ℕ). end_after config.form begin e.kind t e.moment) read_is) commit_is)

-- The numbers that a message leaves out are given first.
pub again-message : (a : Archive) (e : Entry) (commit : ObjectId) (next : End) → e.kind ≡ Message → EntryMayFollow a e → IsEndAfter a e commit next → Appends (numbered_to a e.number) e commit next (appended_as a e) × (e.number ≡ greater a.next e.number)
again-message a e commit next kind_is may after =
    let numbered : IsNumberedAfter Message a e = subst (λ (k : EntryKind). IsNumberedAfter k a e) kind_is may.numbered in
    let now : greater a.next e.number ≡ e.number = greater_end a.next e.number numbered.0 in (
      record {
        follows = record {
          epoch = may.epoch;
          small = may.small;
          named = may.named;
          alone = may.alone;
          numbered = subst (λ (k : EntryKind). IsNumberedAfter k (numbered_to a e.number) e) (sym kind_is) (let most : e.number ≤ e.number = omega arith in subst (λ (n : ℕ). n ≤ e.number) (sym now) most, numbered.1, numbered.2);
        };
        ends = record { ends = after.ends; epoch = after.epoch; commit_is = after.commit_is };
        gives = ap (λ (n : ℕ). record { config = a.config; entries = a.entries ++ e ∷ []; next = n }) (ap (λ (k : EntryKind). number_after k (greater a.next e.number) e.number) kind_is ∙ sym (ap (λ (k : EntryKind). number_after k a.next e.number) kind_is));
      },
      sym now,
    )

-- The same, where the archive, the entry and the commit are as they should be.
pub appends-same : (a b : Archive) (e f : Entry) (commit other : ObjectId) (next : End) (wanted : Archive) → b ≡ a → f ≡ e → other ≡ commit → Appends a e commit next wanted → Appends b f other next wanted
appends-same a b e f commit other next wanted same_archive same_entry same_commit appends =
    subst (λ (c : ObjectId). Appends b f c next wanted) (sym same_commit) (subst (λ (x : Entry). Appends b x commit next wanted) (sym same_entry) (subst (λ (c : Archive). Appends c e commit next wanted) (sym same_archive) appends))

-- A deletion again.
pub again-deletion : (a : Archive) (e : Entry) (commit : ObjectId) (next : End) → EntryMayFollow a e → IsEndAfter a e commit next → Appends a e commit next (appended_as a e)
again-deletion a e commit next may after = record { follows = may; ends = after; gives = refl }
