-- The plans of a purge: from one entry to the next, and all of them.
use Rattle.std.specs.Prelude.{◌≡◌, ◌+◌, ◌-◌, ◌*◌, ◌<◌, ◌≤◌, not, ℕ, zero, suc, Bool, true, false, if◌then◌else◌, List, [], ◌∷◌, ◌++◌, length, take, drop, get_or, slice_get, Option, Some, None, Ok, Err, refl}
use Rattle.std.specs.List.{AllZip, Contains}
use Rattle.std.specs.Str.{bytes_eq}
use Rattle.std.proofs.Common.{◌∙◌, sym, ap, subst, inl, inr, arith}
use Rattle.std.proofs.lemmas.List.{append-nil, append_assoc, take_all}
use Rattle.std.proofs.lemmas.List.Elements.{AllZip-push, filter-append}
use Rattle.std.proofs.lemmas.Option.{same_Some, slice_get-get_or, slice_get_within}
use Rattle.std.proofs.lemmas.Slice.Eq.{bytes_eq-Decides}
use Rattle.arch_base.specs.declared.ids.ObjectId.{ObjectId}
use Rattle.disk_model.specs.Disk.{Content, BothTold, Unchanged, WhereTold}
use Rattle.disk_model.specs.declared.name.FileName.{FileName}
use Rattle.disk_model.specs.Sizes.{record_size}
use Rattle.git_objects.specs.Objects.{blob_id_of}
use Rattle.git_objects.specs.declared.entry_kind.EntryKind.{EntryKind}
use Rattle.git_objects.specs.declared.entry_kind.EntryKind.TheVariants.{Message, Deletion}
use Rattle.arch_base.specs.Counts.{RoseIf}
use Rattle.arch_base.specs.declared.ids.Form.{Form}
use Rattle.arch_base.specs.declared.config.Config.{Config}
use Rattle.arch_base.specs.Ids.{id_eq}
use Rattle.arch_base.proofs.IdOrder.{id_eq-Decides}
use Rattle.root_slots.specs.declared.root.Root.{Root}
use Rattle.root_slots.specs.Slots.{slot_number}
use Rattle.root_slots.specs.Valid.{IsRoot}
use Rattle.root_slots.specs.declared.slot.Slot.{Slot}
use Rattle.root_change.specs.Rewriting.{Plan}
use Rattle.root_change.specs.Texts.{Texts}
use Rattle.arch_model.specs.Archives.{Entry, Archive, is_message, messages}
use Rattle.arch_model.specs.Validity.{BlobsAgree}
use Rattle.arch_model.proofs.LiveEntries.{HasText, found-has}
use Rattle.arch_model.proofs.ValidArchives.{agrees-has, all_weaker}
use Rattle.epoch_file.specs.Planning.{Planned, texts_in}
use Rattle.epoch_file.specs.declared.refusal.StoreRefusal.{StoreRefusal}
use Rattle.epoch_file.specs.declared.refusal.StoreRefusal.TheVariants.{DiskFault, NoMemory, Damaged}
use Rattle.store_finding.specs.declared.entries.StoredEntry.{StoredEntry}
use Rattle.store_finding.specs.Extents.{AreNamedAfter}
use Rattle.store_finding.specs.Files.{epoch_file_of, map_file_of}
use Rattle.store_planning.specs.Planning.{AreAnew, AreFrom, ArePlansIn, ClosesAs, ClosesLast, FinishesPlans, GivesNext, IsKeptUpTo, IsPlannedUpTo, IsReadyPlan, IsTakenToOffset, KeepsBut, PicksText, Planning, PlansFirst, PlansLost, PlansOwn, PlansPurge, PlansUndamaged, PlansNext, no_planning, without_current}
use Rattle.store_planning.specs.Dropping.{KeptOf, SeesNoDamage, without_blob}
use Rattle.store_finding.specs.Kept.{StoreState, IsDiskWith, stored_after, stored_at}
use Rattle.epoch_store.proofs.Finished.{entries_are, finished_without}
use Rattle.epoch_store.proofs.Texts.{kept_found}

-- Before the first entry.
pub kept_none : (k : Content) (v : StoreState) (cache : List ℕ) (a : Archive) → IsDiskWith v cache a k → IsKeptUpTo (texts_in k) v.root a [] [] (no_planning v.root.config.form)
kept_none k v cache a own = record {
  entries = refl;
  among = λ x none. none;
  before = λ x less. absurd (omega (arith, less));
  after = λ x high. refl;
  map = λ x. refl;
  whole = λ i p here. absurd (let wrong : None ≡ Some p = here in cc);
  current = refl;
  form = ap (λ (c : Config). c.form) own.keeps.names.config;
}

pub first_none : (v : StoreState) (blob : ObjectId) (content : Option Content) → WhereTold (PlansFirst v blob 0 (no_planning v.root.config.form)) content
first_none v blob None = tt
first_none v blob (Some k) = λ cache a text own picks. (kept_none k v cache a own, refl)

pub plans_none : (root : Root) → ArePlansIn root (no_planning root.config.form)
plans_none root = record { each = λ i p here. absurd (let wrong : None ≡ Some p = here in cc); current = tt; form = refl }

-- An entry of a store at an index.
pub entry_at : (v : StoreState) (root : Root) (slot : Slot) (es items : List StoredEntry) (i : ℕ) (e : StoredEntry) → ◌≡◌ {A = StoreState} (record { root = root; slot = slot_number slot; entries = es }) v → items ≡ es → i < length items → e ≡ get_or items i e → slice_get v.entries i ≡ Some e
entry_at v root slot es items i e view_is same within is =
    let all : items ≡ v.entries = same ∙ ap (λ (u : StoreState). u.entries) view_is in
    ap (λ (l : List StoredEntry). slice_get l i) (sym all) ∙ (slice_get-get_or items i e within ∙ ap (λ (s : StoredEntry). Some s) (sym is))

-- A count that rose from where it stood.
pub rose_later_than : (P : Type 0) (old mid new : ℕ) → mid ≡ old → RoseIf P mid new → RoseIf P old new
rose_later_than P old mid new same rose = subst (λ (n : ℕ). RoseIf P n new) same rose

-- The next entry of an archive, and what is kept of it.
pub record IsNth (form : Form) (before es : List Entry) (n : ℕ) (s : StoredEntry) : Type 0 where
  pub entry : Entry
  pub is : es ≡ take n es ++ entry ∷ drop (suc n) es
  pub more : take (suc n) es ≡ take n es ++ entry ∷ []
  pub kept : s ≡ stored_at form (before ++ take n es) entry

pub nth : (form : Form) (before es : List Entry) (n : ℕ) (s : StoredEntry) → slice_get (stored_after form before es) n ≡ Some s → IsNth form before es n s
nth form before [] n s here = absurd (let less = slice_get_within {A = StoredEntry} [] n s here in omega (arith, less))
nth form before (e ∷ es) zero s here = record {
  entry = e;
  is = refl;
  more = refl;
  kept = sym (same_Some (stored_at form before e) s here) ∙ ap (λ (b : List Entry). stored_at form b e) (sym (append-nil before));
}
nth form before (e ∷ es) (suc n) s here =
    let r = nth form (before ++ e ∷ []) es n s here in
    record {
      entry = r.entry;
      is = ap (λ (l : List Entry). e ∷ l) r.is;
      more = ap (λ (l : List Entry). e ∷ l) r.more;
      kept = r.kept ∙ ap (λ (b : List Entry). stored_at form b r.entry) (append_assoc before (e ∷ []) (take n es));
    }

-- Contents that agree at each name are one.
pub one_content : (k m : Content) → Unchanged k m → m ≡ k
one_content k m same = λ i. λ (name : FileName). same name i

-- One entry more.
pub first_more : (v : StoreState) (blob : ObjectId) (n : ℕ) (p new : Planning) (content mid : Option Content) (stored : StoredEntry) (file : FileName) → BothTold Unchanged content mid → slice_get v.entries n ≡ Some stored → file ≡ epoch_file_of v.root stored.epoch
    → WhereTold (PlansFirst v blob n p) content → PlansNext p file stored blob mid new (Ok tt) → WhereTold (PlansFirst v blob (n + 1) new) content
first_more v blob n p new None mid stored file same here file_is up takes = tt
first_more v blob n p new (Some k) None stored file same here file_is up takes = absurd same
first_more v blob n p new (Some k) (Some m) stored file same here file_is up takes = λ cache a text own picks.
    let at = nth a.config.form [] a.entries n stored (ap (λ (l : List StoredEntry). slice_get l n) (sym own.keeps.kept) ∙ here) in
    let takes_k = subst (λ (c : Content). PlansNext p file stored blob (Some c) new (Ok tt)) (one_content k m same) takes in
    let one = takes_k v cache a (take n a.entries) (drop (suc n) a.entries) at.entry text own at.is at.kept (file_is ∙ ap (λ (s : StoredEntry). epoch_file_of v.root s.epoch) at.kept) picks (up cache a text own picks) in
    let count : suc n ≡ n + 1 = omega arith in
    subst (λ (es : List Entry). IsPlannedUpTo (texts_in k) v.root a es text new) (sym at.more ∙ ap (λ (j : ℕ). take j a.entries) count) one

-- All entries of a store are those of its archive.
pub length_stored : (form : Form) (before es : List Entry) → length (stored_after form before es) ≡ length es
length_stored form before [] = refl
length_stored form before (e ∷ es) = ap suc (length_stored form (before ++ e ∷ []) es)

pub first_whole : (v : StoreState) (blob : ObjectId) (n : ℕ) (p : Planning) (content : Option Content) → length v.entries ≤ n → WhereTold (PlansFirst v blob n p) content → WhereTold (PlansFirst v blob (length v.entries) p) content
first_whole v blob n p None most up = tt
first_whole v blob n p (Some k) most up = λ cache a text own picks.
    let size : length v.entries ≡ length a.entries = ap length own.keeps.kept ∙ length_stored a.config.form [] a.entries in
    let all : take n a.entries ≡ take (length v.entries) a.entries = take_all n a.entries (omega (arith, most, size)) ∙ sym (take_all (length v.entries) a.entries (omega (arith, size))) in
    subst (λ (es : List Entry). IsPlannedUpTo (texts_in k) v.root a es text p) all (up cache a text own picks)

-- An entry with a text is among those of an archive.
has_there : (front : List Entry) (e : Entry) (rest : List Entry) → HasText e.text (front ++ e ∷ rest)
has_there [] e rest = inl refl
has_there (x ∷ front) e rest = inr (has_there front e rest)

-- Each entry has a text exactly if it has the text's blob id, where one entry has the text.
test_step : (t u : Bool) → (t ≡ true → u ≡ true) → (u ≡ true → t ≡ true) → t ≡ u
test_step true true one two = refl
test_step true false one two = absurd (let wrong : false ≡ true = one refl in cc)
test_step false true one two = absurd (let wrong : false ≡ true = two refl in cc)
test_step false false one two = refl

picks_one : (form : Form) (blob : ObjectId) (text : List ℕ) (e : Entry) → blob ≡ blob_id_of form text → (blob_id_of form text ≡ blob_id_of form e.text → text ≡ e.text) → id_eq blob (blob_id_of form e.text) ≡ bytes_eq text e.text
picks_one form blob text e is agrees =
    test_step (id_eq blob (blob_id_of form e.text)) (bytes_eq text e.text)
    (λ hit. (bytes_eq-Decides text e.text).1 (agrees (sym is ∙ (id_eq-Decides blob (blob_id_of form e.text)).0 hit)))
    (λ hit. (id_eq-Decides blob (blob_id_of form e.text)).1 (is ∙ ap (blob_id_of form) ((bytes_eq-Decides text e.text).0 hit)))

pub picks_text : (a : Archive) (blob : ObjectId) (text : List ℕ) → BlobsAgree a.config.form a.entries → HasText text a.entries → blob ≡ blob_id_of a.config.form text → PicksText a blob text
picks_text a blob text agree has is =
    all_weaker (λ (e : Entry). blob_id_of a.config.form text ≡ blob_id_of a.config.form e.text → text ≡ e.text) (λ (e : Entry). id_eq blob (blob_id_of a.config.form e.text) ≡ bytes_eq text e.text) a.entries (λ e agrees. picks_one a.config.form blob text e is agrees)
    (agrees-has a.config.form a.entries text agree has)

-- The text of an entry that is kept with a blob id.
pub picked : (v : StoreState) (cache : List ℕ) (a : Archive) (k : Content) (blob : ObjectId) → IsDiskWith v cache a k → (e : StoredEntry) × Contains v.entries e × (e.seen.blob ≡ blob) → (text : List ℕ) × PicksText a blob text
picked v cache a k blob own there =
    let at = there.1 in
    let here : slice_get v.entries at.0 ≡ Some there.0 = slice_get-get_or v.entries at.0 there.0 at.1 ∙ ap (λ (s : StoredEntry). Some s) at.2 in
    let r = kept_found a.config.form [] a.entries at.0 there.0 (ap (λ (l : List StoredEntry). slice_get l at.0) (sym own.keeps.kept) ∙ here) in
    let blob_so : blob ≡ blob_id_of a.config.form r.entry.text = sym there.2 ∙ ap (λ (s : StoredEntry). s.seen.blob) r.kept in
    (r.entry.text, picks_text a blob r.entry.text own.keeps.valid.blobs (subst (HasText r.entry.text) (sym r.is) (has_there r.front r.entry r.rest)) blob_so)

-- So planning finds no damage on an archive's disk.
sees_none : (texts : Texts) (root : Root) (a : Archive) (es : List Entry) (e : Entry) (text : List ℕ) (new : Planning) (refusal : StoreRefusal) (T : Type 0) → GivesNext texts root a es e text new (Err refusal) → SeesNoDamage {T = T} (Err refusal)
sees_none texts root a es e text new DiskFault T gives = tt
sees_none texts root a es e text new NoMemory T gives = tt
sees_none texts root a es e text new (Damaged file at) T gives = gives

pub first_stops : (v : StoreState) (blob : ObjectId) (n : ℕ) (p new : Planning) (content mid : Option Content) (stored : StoredEntry) (file : FileName) (refusal : StoreRefusal) (T : Type 0) → BothTold Unchanged content mid → slice_get v.entries n ≡ Some stored → file ≡ epoch_file_of v.root stored.epoch
    → (e : StoredEntry) × Contains v.entries e × (e.seen.blob ≡ blob) → WhereTold (PlansFirst v blob n p) content → PlansNext p file stored blob mid new (Err refusal) → PlansUndamaged {T = T} v (Err refusal) content
first_stops v blob n p new None mid stored file refusal T same here file_is there up takes = λ a cache store. absurd store
first_stops v blob n p new (Some k) None stored file refusal T same here file_is there up takes = absurd same
first_stops v blob n p new (Some k) (Some m) stored file refusal T same here file_is there up takes = λ a cache own.
    let text = picked v cache a k blob own there in
    let at = nth a.config.form [] a.entries n stored (ap (λ (l : List StoredEntry). slice_get l n) (sym own.keeps.kept) ∙ here) in
    let takes_k = subst (λ (c : Content). PlansNext p file stored blob (Some c) new (Err refusal)) (one_content k m same) takes in
    let one = takes_k v cache a (take n a.entries) (drop (suc n) a.entries) at.entry text.0 own at.is at.kept (file_is ∙ ap (λ (s : StoredEntry). epoch_file_of v.root s.epoch) at.kept) text.1 (up cache a text.0 own text.1) in
    sees_none (texts_in k) v.root a (take n a.entries) at.entry text.0 new refusal T one

-- The entries that are kept, with one more.
pub take_one : (es : List StoredEntry) (n : ℕ) (e : StoredEntry) → slice_get es n ≡ Some e → take (suc n) es ≡ take n es ++ e ∷ []
take_one [] n e here = absurd (let less = slice_get_within {A = StoredEntry} [] n e here in omega (arith, less))
take_one (x ∷ es) zero e here = ap (λ (y : StoredEntry). y ∷ []) (same_Some x e here)
take_one (x ∷ es) (suc n) e here = ap (λ (l : List StoredEntry). x ∷ l) (take_one es n e here)

kept_step : (t : Bool) (e : StoredEntry) (front old new : List StoredEntry) → AllZip KeptOf front old → KeepsBut t old e new → AllZip KeptOf (front ++ (if not t then e ∷ [] else [])) new
kept_step true e front old new all is = subst (λ (l : List StoredEntry). AllZip KeptOf l new) (sym (append-nil front)) (subst (AllZip KeptOf front) (sym is) all)
kept_step false e front old new all more = subst (AllZip KeptOf (front ++ e ∷ [])) (sym more.2) (AllZip-push KeptOf front old e more.0 all more.1)

pub kept_more : (es : List StoredEntry) (n : ℕ) (e : StoredEntry) (blob : ObjectId) (old new : List StoredEntry) → slice_get es n ≡ Some e → AllZip KeptOf (without_blob (take n es) blob) old → KeepsBut (id_eq blob e.seen.blob) old e new → AllZip KeptOf (without_blob (take (n + 1) es) blob) new
kept_more es n e blob old new here all keeps =
    let count : suc n ≡ n + 1 = omega arith in
    let parts : without_blob (take (n + 1) es) blob ≡ without_blob (take n es) blob ++ without_blob (e ∷ []) blob =
    ap (λ (j : ℕ). without_blob (take j es) blob) (sym count) ∙ (ap (λ (l : List StoredEntry). without_blob l blob) (take_one es n e here) ∙ filter-append (λ (f : StoredEntry). not (id_eq blob f.seen.blob)) (take n es) (e ∷ [])) in
    subst (λ (l : List StoredEntry). AllZip KeptOf l new) (sym parts) (kept_step (id_eq blob e.seen.blob) e (without_blob (take n es) blob) old new all keeps)

-- A message with a text is an entry with it.
any_step : (k : EntryKind) (e : Entry) (es ms : List Entry) (text : List ℕ) → (HasText text ms → HasText text es) → HasText text (if is_message k then e ∷ ms else ms) → HasText text (e ∷ es)
any_step Message e es ms text rest (inl is) = inl is
any_step Message e es ms text rest (inr more) = inr (rest more)
any_step Deletion e es ms text rest has = inr (rest has)

messages_has : (es : List Entry) (text : List ℕ) → HasText text (messages es) → HasText text es
messages_has [] text has = has
messages_has (e ∷ es) text has = any_step e.kind e es (messages es) text (messages_has es text) has

-- What was kept of the entries before the last epoch was closed is kept still.
closes_entries : (old : Planning) (finished : Option Plan) (new : Planning) → ClosesAs old finished new → new.entries ≡ old.entries
closes_entries old None new is = ap (λ (p : Planning). p.entries) is
closes_entries old (Some plan) new is = ap (λ (p : Planning). p.entries) is.0

pub finish_entries : (old : Planning) (map : FileName) (count : ℕ) (new : Planning) → FinishesPlans old map count new → new.entries ≡ old.entries
finish_entries old map count new finishes = ap (λ (p : Planning). p.entries) finishes.2.2.0 ∙ by old.current finishes.1 where
  by : (current : Option Planned) → ClosesLast old current finishes.0 → finishes.0.entries ≡ old.entries
  by None is = ap (λ (p : Planning). p.entries) is
  by (Some c) closes = closes_entries (without_current old) closes.0 finishes.0 closes.3

-- All entries were planned, and the map.
module _ (v : StoreState) (blob : ObjectId) (p new : Planning) (map : FileName) (map_is : map ≡ map_file_of v.root) (count : ℕ) (count_is : count ≡ v.root.next - 1) (finishes : FinishesPlans p map count new) (from : AreFrom v.root new.plans) where
  up_all : (k : Content) (cache : List ℕ) (a : Archive) (text : List ℕ) → IsDiskWith v cache a k → PicksText a blob text → PlansFirst v blob (length v.entries) p k → IsPlannedUpTo (texts_in k) v.root a a.entries text p
  up_all k cache a text own picks up =
      let size : length v.entries ≡ length a.entries = ap length own.keeps.kept ∙ length_stored a.config.form [] a.entries in
      subst (λ (es : List Entry). IsPlannedUpTo (texts_in k) v.root a es text p) (take_all (length v.entries) a.entries (omega (arith, size))) (up cache a text own picks)

  pub plans_own : (content : Option Content) → WhereTold (PlansFirst v blob (length v.entries) p) content → PlansOwn v blob new.entries new.plans content
  plans_own None up = λ a cache text store. absurd store
  plans_own (Some k) up = λ a cache text own is has.
      let picks = picks_text a blob text own.keeps.valid.blobs (messages_has a.entries text (found-has (messages a.entries) has.0 text has.1)) (sym is) in
      let all = up_all k cache a text own picks up in
      (finished_without k v cache a own text p all map map_is count count_is new finishes from, entries_are k v cache a own text p all map map_is count count_is new finishes from)

-- What is known once a planner is finished, of a store that was looked into.
pub record ReadyOf (v : StoreState) (root : Root) (p new : Planning) : Type 0 where
  pub purge : (blob : ObjectId) → AllZip KeptOf (without_blob v.entries blob) p.entries → PlansLost v.entries blob new.plans → PlansPurge v blob new.entries new.plans
  pub own : (blob : ObjectId) (content : Option Content) → WhereTold (PlansFirst v blob (length v.entries) p) content → PlansOwn v blob new.entries new.plans content

pub ready_of : (v : StoreState) (root : Root) (slot : ℕ) (entries : List StoredEntry) (map : FileName) (p new : Planning) → ◌≡◌ {A = StoreState} (record { root = root; slot = slot; entries = entries }) v → IsRoot root → map ≡ map_file_of root → ArePlansIn v.root p → IsTakenToOffset v.root p → FinishesPlans p map (root.next - 1) new
    → ((r : Root) → IsRoot r → map ≡ map_file_of r → r.map.length ≡ record_size r.config.form * (root.next - 1) → ArePlansIn r p → IsTakenToOffset r p → AreFrom r new.plans × AreAnew new.plans × IsReadyPlan r new.plans (root.next - 1 + 1) × AreNamedAfter r new.plans new.entries)
    → ReadyOf v root p new
ready_of v root slot entries map p new view_is valid map_is are taken finishes ready =
    let root_is : root ≡ v.root = ap (λ (u : StoreState). u.root) view_is in
    let are_inside = subst (λ (r : Root). ArePlansIn r p) (sym root_is) are in
    let taken_inside = subst (λ (r : Root). IsTakenToOffset r p) (sym root_is) taken in
    let so = ready root valid map_is valid.map_length are_inside taken_inside in
    let least = valid.next_least in
    let count : root.next - 1 + 1 ≡ root.next = omega (arith, least) in
    let map_so : map ≡ map_file_of v.root = map_is ∙ ap map_file_of root_is in
    let count_so : root.next - 1 ≡ v.root.next - 1 = ap (λ (r : Root). r.next - 1) root_is in
    let from = subst (λ (r : Root). AreFrom r new.plans) root_is so.0 in
    record {
      purge = λ blob kept lost. record {
        kept = subst (AllZip KeptOf (without_blob v.entries blob)) (sym (finish_entries p map (root.next - 1) new finishes)) kept;
        ready = subst (λ (r : Root). IsReadyPlan r new.plans r.next) root_is (subst (IsReadyPlan root new.plans) count so.2);
        anew = so.1;
        lost = lost;
        named = subst (λ (r : Root). AreNamedAfter r new.plans new.entries) root_is so.3;
      };
      own = λ blob content up. plans_own v blob p new map map_so (root.next - 1) count_so finishes from content up;
    }
