-- The entries of the archive in memory but those of a text, appended to a new one.
use Rattle.std.proofs.Common.{◌≡◌, ◌≢◌, ◌+◌, ◌<◌, ◌≤◌, ℕ, Bool, true, false, not, List, [], ◌∷◌, ◌++◌, length, drop, get_or, Option, refl, sym, ◌∙◌, ap, subst, arith, append-nil, append_assoc, add-one, drop-cons, if◌then◌else◌}
use Rattle.std.specs.List.{AllByRecursion}
use Rattle.std.specs.Str.{bytes_eq}
use Rattle.std.proofs.lemmas.List.{drop_all}
use Rattle.arch_base.specs.declared.config.Config.{Config}
use Rattle.arch_base.specs.declared.ids.Form.{Form}
use Rattle.mail_reader.specs.Ids.{own_id}
use Rattle.git_objects.specs.Objects.{blob_id_of}
use Rattle.git_objects.specs.declared.entry_kind.EntryKind.{EntryKind}
use Rattle.git_objects.specs.declared.entry_kind.EntryKind.TheVariants.{Message, Deletion}
use Rattle.arch_model.specs.Archives.{Archive, Entry, empty_archive, message, live, without_text, without_entries, IsFree}
use Rattle.arch_model.specs.Delivery.{greater, last_epoch}
use Rattle.arch_model.specs.Validity.{NumberIsFrom, number_after, Rise, AtEachPlace, EndsLive, IdsDiffer, LiveDiffer, BlobsAgree}
use Rattle.arch_model.proofs.LiveEntries.{live-message}
use Rattle.arch_model.proofs.ValidArchives.{Agrees, all_weaker, none_later}
use Rattle.arch_model.proofs.Purging.{other, kept_all, kept_rise, kept_blobs, kept_places}
use Rattle.arch_judge.specs.declared.index.Index.{Index}
use Rattle.arch_judge.proofs.Endings.{owner-none}
use Rattle.mem_archive.specs.Memory.{archive_of, entry_of, entries_of, appended_as, numbered_to, HasId, IsNumberUpTo, IsNumberedAfter, EntryMayFollow, IsKept}
use Rattle.mem_archive.specs.declared.kept.End.{End}
use Rattle.mem_archive.specs.declared.kept.Kept.{Kept}
use Rattle.mem_archive.specs.declared.kept.KeptPlace.{KeptPlace}
use Rattle.mem_archive.proofs.Ends.{greater_end, last_epoch-push}
use Rattle.mem_archive.proofs.Appending.{none_collides}
use Rattle.mem_archive.proofs.Delivering.{some-of}

-- Entries may be appended to an archive one after another, with numbers below `next`.
pub record MayFollowAll (next : ℕ) (a : Archive) (es : List Entry) : Type 0 where
  pub rise : Rise a.next (last_epoch a.entries) es
  pub ends : AtEachPlace (λ (before : List Entry) (e : Entry). EndsLive e.kind before e) a.entries es
  pub ids : AtEachPlace LiveDiffer a.entries es
  pub blobs : BlobsAgree a.config.form (a.entries ++ es)
  pub below : AllByRecursion (λ (e : Entry). e.number < next) es
  pub named : AllByRecursion HasId es
  pub small : AllByRecursion (λ (e : Entry). e.epoch ≤ 63) es
  pub low : a.next ≤ next
  pub room : next ≤ a.config.max + 1

-- What holds of each of some entries holds of one in the middle.
middle : (P : Entry → Type 0) (xs es : List Entry) (e : Entry) → AllByRecursion P (xs ++ e ∷ es) → P e
middle P [] es e all = all.0
middle P (x ∷ xs) es e all = middle P xs es e all.1

agrees_before : (form : Form) (xs es : List Entry) (e : Entry) → BlobsAgree form (xs ++ e ∷ es) → Agrees form e.text xs
agrees_before form [] es e agree = tt
agrees_before form (x ∷ xs) es e agree = (middle (λ (f : Entry). blob_id_of form f.text ≡ blob_id_of form x.text → f.text ≡ x.text) xs es e agree.0, agrees_before form xs es e agree.1)

apart_before : (xs : List Entry) (e : Entry) → IdsDiffer (xs ++ e ∷ []) → AllByRecursion (λ (f : Entry). own_id f.text ≢ own_id e.text) xs
apart_before [] e differ = tt
apart_before (x ∷ xs) e differ = (let apart = middle (λ (f : Entry). own_id f.text ≢ own_id x.text) xs [] e differ.0 in (λ same. apart (sym same)), apart_before xs e differ.1)

module _ (next : ℕ) (a : Archive) (e : Entry) (es : List Entry) (may : MayFollowAll next a (e ∷ es)) where
  free : e.kind ≡ Message → IsFree (live a.entries) e.text
  free kind_is =
      let own = some-of (own_id e.text) may.named.0 in
      let entry_is : e ≡ message e.number e.epoch e.text e.moment = ap (λ (k : EntryKind). record { kind = k; number = e.number; epoch = e.epoch; text = e.text; moment = e.moment }) kind_is in
      let grows : live (a.entries ++ e ∷ []) ≡ live a.entries ++ message e.number e.epoch e.text e.moment ∷ [] = ap (λ (x : Entry). live (a.entries ++ x ∷ [])) entry_is ∙ live-message a.entries e.number e.epoch e.text e.moment in
      (own.0, own.1, owner-none (live a.entries) (own_id e.text) own.0 (apart_before (live a.entries) (message e.number e.epoch e.text e.moment) (subst IdsDiffer grows may.ids.0)) own.1)

  numbered : (k : EntryKind) → e.kind ≡ k → IsNumberedAfter k a e
  numbered Message is = (
    subst (λ (k : EntryKind). NumberIsFrom k a.next e.number) is may.rise.0,
    let less : e.number < next = may.below.0 in let room : next ≤ a.config.max + 1 = may.room in omega (arith, less, room),
    free is,
  )
  numbered Deletion is = subst (λ (k : EntryKind). EndsLive k a.entries e) is may.ends.0

  -- So may the first of them.
  pub first-follows : EntryMayFollow a e
  first-follows = record {
    epoch = may.rise.1;
    small = may.small.0;
    named = may.named.0;
    alone = none_collides a.config.form a.entries e.text (agrees_before a.config.form a.entries es e may.blobs);
    numbered = numbered e.kind refl;
  }

  low_after : (k : EntryKind) → number_after k a.next e.number ≤ next
  low_after Message = let less : e.number < next = may.below.0 in omega (arith, less)
  low_after Deletion = may.low

  -- And then the others.
  pub others-follow : MayFollowAll next (appended_as a e) es
  others-follow = record {
    rise = subst (λ (n : ℕ). Rise (number_after e.kind a.next e.number) n es) (sym (last_epoch-push a.entries e may.rise.1)) may.rise.2;
    ends = may.ends.1;
    ids = may.ids.1;
    blobs = subst (BlobsAgree a.config.form) (sym (append_assoc a.entries (e ∷ []) es)) may.blobs;
    below = may.below.1;
    named = may.named.1;
    small = may.small.1;
    low = low_after e.kind;
    room = may.room;
  }

-- What a test for another text tells.
pub differs : (text own : List ℕ) (t : Bool) → t ≡ not (bytes_eq text own) → t ≡ true → bytes_eq text own ≡ false
differs text own t test hit = by (bytes_eq text own) (sym test ∙ hit) where
  by : (u : Bool) → not u ≡ true → u ≡ false
  by true is = absurd (cc)
  by false is = refl

pub equals : (text own : List ℕ) (t : Bool) → t ≡ not (bytes_eq text own) → t ≡ false → bytes_eq text own ≡ true
equals text own t test miss = by (bytes_eq text own) (sym test ∙ miss) where
  by : (u : Bool) → not u ≡ false → u ≡ true
  by true is = refl
  by false is = absurd (cc)

-- The entries from an index on that are to be appended.
abbrev pub left_from : List Kept → ℕ → List ℕ → List Entry
left_from items i text = without_text (entries_of (drop i items)) text

-- The entries before an index are appended, but those of a text, and the others may follow.
pub record CopiedTo (a : Archive) (items : List Kept) (text : List ℕ) (i : ℕ) (made : Archive) : Type 0 where
  pub config_is : made.config ≡ a.config
  pub all : made.entries ++ left_from items i text ≡ without_text a.entries text
  pub follow : MayFollowAll a.next made (left_from items i text)

pub copied-start : (config : Config) (ks : List Kept) (places : List (Option KeptPlace)) (index : Index) (end_ : End) (a made : Archive) (text : List ℕ) (items : List Kept) → archive_of config ks places ≡ a → IsKept config ks places index end_ → made ≡ empty_archive config → items ≡ ks → CopiedTo a items text 0 made
copied-start config ks places index end_ a made text items is kept made_is items_are =
    subst (λ (m : Archive). CopiedTo a items text 0 m) (sym made_is) (subst (λ (b : Archive). CopiedTo b items text 0 (empty_archive config)) is (subst (λ (xs : List Kept). CopiedTo (archive_of config ks places) xs text 0 (empty_archive config)) (sym items_are) (record { config_is = refl; all = refl; follow = begins })))
  where
    begins : MayFollowAll (length places + 1) (empty_archive config) (without_text (entries_of ks) text)
    begins =
        let stays = kept_places (other text) [] (entries_of ks) kept.order kept.deletions kept.ids refl in
        record {
          rise = kept_rise (other text) (entries_of ks) 1 0 1 0 (omega arith) (omega arith) kept.order;
          ends = stays.ends;
          ids = stays.ids;
          blobs = kept_blobs (other text) config.form (entries_of ks) kept.blobs;
          below = kept_all (other text) (λ (e : Entry). e.number < length places + 1) (entries_of ks) (all_weaker (IsNumberUpTo (length places)) (λ (e : Entry). e.number < length places + 1) (entries_of ks) (λ e up. up.1) kept.numbered);
          named = kept_all (other text) HasId (entries_of ks) kept.named;
          small = kept_all (other text) (λ (e : Entry). e.epoch ≤ 63) (entries_of ks) (all_weaker (λ (e : Entry). e.epoch ≤ last_epoch (entries_of ks)) (λ (e : Entry). e.epoch ≤ 63) (entries_of ks) (λ e before. (let high : end_.epoch ≤ 63 = kept.ends.small in let last : end_.epoch ≡ last_epoch (entries_of ks) = kept.last in omega (arith, before, high, last))) (none_later (entries_of ks)));
          low = omega arith;
          room = let most : length places ≤ config.max = kept.numbers in omega (arith, most);
        }

module _ (a : Archive) (items : List Kept) (text : List ℕ) (i : ℕ) (made : Archive) (k : Kept) (less : i < length items) (at : k ≡ get_or items i k) (so_far : CopiedTo a items text i made) where
  front : entries_of (drop i items) ≡ entry_of k ∷ entries_of (drop (i + 1) items)
  front = ap entries_of (rw (add-one, drop-cons items i k) refl ∙ ap (λ (x : Kept). x ∷ drop (i + 1) items) (sym at))

  split : (t : Bool) → bytes_eq text k.text ≡ t → left_from items i text ≡ (if not t then entry_of k ∷ left_from items (i + 1) text else left_from items (i + 1) text)
  split t test = ap (λ (es : List Entry). without_text es text) front ∙ ap (λ (b : Bool). if not b then entry_of k ∷ left_from items (i + 1) text else left_from items (i + 1) text) test

  -- An entry with another text is appended.
  module _ (test : bytes_eq text k.text ≡ false) where
    goes_on : MayFollowAll a.next made (entry_of k ∷ left_from items (i + 1) text)
    goes_on = subst (MayFollowAll a.next made) (split false test) so_far.follow

    pub copied-follows : EntryMayFollow made (entry_of k)
    copied-follows = first-follows a.next made (entry_of k) (left_from items (i + 1) text) goes_on

    pub copied-one : CopiedTo a items text (i + 1) (appended_as made (entry_of k))
    copied-one = record {
      config_is = so_far.config_is;
      all = append_assoc made.entries (entry_of k ∷ []) (left_from items (i + 1) text) ∙ sym (ap (λ (es : List Entry). made.entries ++ es) (split false test)) ∙ so_far.all;
      follow = others-follow a.next made (entry_of k) (left_from items (i + 1) text) goes_on;
    }

  -- One with the text is left out.
  pub copied-none : bytes_eq text k.text ≡ true → CopiedTo a items text (i + 1) made
  copied-none test = record {
    config_is = so_far.config_is;
    all = sym (ap (λ (es : List Entry). made.entries ++ es) (split true test)) ∙ so_far.all;
    follow = subst (MayFollowAll a.next made) (split true test) so_far.follow;
  }

-- All others are appended.
pub copied-all : (a : Archive) (items : List Kept) (text : List ℕ) (i : ℕ) (made : Archive) → length items ≤ i → CopiedTo a items text i made → numbered_to made a.next ≡ without_entries a text
copied-all a items text i made whole copied =
    let none : left_from items i text ≡ [] = ap (λ (ks : List Kept). without_text (entries_of ks) text) (drop_all i items whole) in
    let entries : made.entries ≡ without_text a.entries text = sym (append-nil made.entries) ∙ ap (λ (es : List Entry). made.entries ++ es) (sym none) ∙ copied.all in
    ap (λ (c : Config). record { config = c; entries = made.entries; next = greater made.next a.next }) copied.config_is
    ∙ ap (λ (es : List Entry). record { config = a.config; entries = es; next = greater made.next a.next }) entries
    ∙ ap (λ (n : ℕ). record { config = a.config; entries = without_text a.entries text; next = n }) (greater_end made.next a.next copied.follow.low)
