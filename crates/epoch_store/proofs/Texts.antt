-- Where the text of an entry is in the file of its epoch.
use Rattle.std.specs.Prelude.{◌≡◌, ◌≢◌, ◌+◌, ◌<◌, ◌≤◌, ℕ, zero, suc, List, [], ◌∷◌, ◌++◌, length, take, drop, slice_get, get_or, Option, Some, None, Ok, Err, refl}
use Rattle.std.specs.List.{AllByRecursion}
use Rattle.std.proofs.Common.{◌∙◌, sym, ap, subst, arith, append_assoc}
use Rattle.std.proofs.lemmas.List.{append-nil}
use Rattle.std.proofs.lemmas.Option.{same_Some, slice_get_within, slice_get-get_or}
use Rattle.arch_base.specs.Ids.{form_of}
use Rattle.arch_base.specs.declared.ids.ObjectId.{ObjectId}
use Rattle.arch_base.specs.declared.ids.Form.{Form}
use Rattle.disk_model.specs.Disk.{Content, bytes_of}
use Rattle.git_objects.specs.Objects.{blob_id_of}
use Rattle.arch_model.specs.Archives.{Entry, Archive, in_epoch}
use Rattle.arch_model.specs.Epochs.{epoch_bytes, entries_bytes}
use Rattle.epoch_file.specs.Walking.{blob_front}
use Rattle.store_finding.specs.declared.entries.StoredEntry.{StoredEntry}
use Rattle.root_change.specs.Texts.{Fronts}
use Rattle.store_finding.specs.Files.{epoch_file_of}
use Rattle.arch_model.specs.Validity.{IsEntry}
use Rattle.store_finding.specs.Kept.{StoreState, stored_at, stored_after}
use Rattle.arch_model.specs.declared.text_refusal.TextRefusal.TheVariants.{Damaged}
use Rattle.root_slots.specs.declared.root.Root.{Root}
use Rattle.store_finding.specs.Kept.{IsStoreWith}
use Rattle.store_finding.proofs.FindingTold.{where_so}
use Rattle.store_finding.proofs.FrontParts.{disk_fronts}
use Rattle.disk_model.specs.declared.name.FileName.{FileName}
use Rattle.disk_model.specs.Disk.{WhereTold}
use Rattle.store_finding.specs.Reading.{StandsAt}
use Rattle.epoch_store.specs.Reads.{GivesText, FindsText, text_if}
use Rattle.epoch_store.proofs.OwnForm.{in_own_form}
use Rattle.store_finding.proofs.TextBytes.{one_of_all, Divided, divided_reads, in_epoch_split, epoch_text, in_fronts}

-- An entry of an archive, and what is kept of it.
pub record IsKeptOf (form : Form) (before es : List Entry) (i : ℕ) (s : StoredEntry) : Type 0 where
  pub front : List Entry
  pub entry : Entry
  pub rest : List Entry
  pub is : es ≡ front ++ entry ∷ rest
  pub here : slice_get es i ≡ Some entry
  pub kept : s ≡ stored_at form (before ++ front) entry

pub kept_found : (form : Form) (before es : List Entry) (i : ℕ) (s : StoredEntry) → slice_get (stored_after form before es) i ≡ Some s → IsKeptOf form before es i s
kept_found form before [] i s is = let wrong = slice_get_within {A = StoredEntry} [] i s is in absurd (omega (arith, wrong))
kept_found form before (e ∷ es) zero s is = record {
  front = [];
  entry = e;
  rest = es;
  is = refl;
  here = refl;
  kept = same_Some s (stored_at form before e) (sym is) ∙ ap (λ (b : List Entry). stored_at form b e) (sym (append-nil before));
}
kept_found form before (e ∷ es) (suc i) s is =
    let r = kept_found form (before ++ e ∷ []) es i s is in
    record {
      front = e ∷ r.front;
      entry = r.entry;
      rest = r.rest;
      is = ap (λ (l : List Entry). e ∷ l) r.is;
      here = r.here;
      kept = r.kept ∙ ap (λ (b : List Entry). stored_at form b r.entry) (append_assoc before (e ∷ []) r.front);
    }

-- The text of an entry that is kept is in the file of its epoch at the offset that is kept, and has the
-- size and the blob id of the entry.
pub record IsTextAt (form : Form) (root : Root) (es : List Entry) (k : Content) (i : ℕ) (s : StoredEntry) : Type 0 where
  pub entry : Entry
  pub here : slice_get es i ≡ Some entry
  pub size : s.seen.size ≡ length entry.text
  pub blob : s.seen.blob ≡ blob_id_of form entry.text
  pub long : s.seen.text_at + s.seen.size ≤ length (bytes_of (k (epoch_file_of root s.epoch)).seen)
  pub stands : take s.seen.size (drop s.seen.text_at (bytes_of (k (epoch_file_of root s.epoch)).seen)) ≡ entry.text

pub text_at : (form : Form) (root : Root) (es : List Entry) (k : Content) → AllByRecursion IsEntry es → ((e : ℕ) → e < 64 → Fronts (epoch_bytes form (in_epoch es e)) (k (epoch_file_of root e)).seen) → (i : ℕ) (s : StoredEntry) → slice_get (stored_after form [] es) i ≡ Some s → IsTextAt form root es k i s
text_at form root es k valid fronts i s is =
    let r = kept_found form [] es i s is in
    let e = r.entry in
    let low = (one_of_all IsEntry r.front e r.rest (subst (AllByRecursion IsEntry) r.is valid)).epoch in
    let xs = in_epoch r.front e.epoch in
    let ys = in_epoch r.rest e.epoch in
    let offset = 8 + length (entries_bytes form None xs) + blob_front e.text in
    let bytes : epoch_bytes form (in_epoch es e.epoch) ≡ epoch_bytes form (xs ++ e ∷ ys) = ap (λ (l : List Entry). epoch_bytes form (in_epoch l e.epoch)) r.is ∙ ap (epoch_bytes form) (in_epoch_split r.front e r.rest) in
    let file = (k (epoch_file_of root e.epoch)).seen in
    let inside : Divided (bytes_of file) offset e.text =
    in_fronts (epoch_bytes form (in_epoch es e.epoch)) file offset e.text (fronts e.epoch (omega (arith, low))) (subst (λ (b : List ℕ). Divided b offset e.text) (sym bytes) (epoch_text form xs e ys)) in
    let reads = divided_reads (bytes_of file) offset e.text inside in
    subst (IsTextAt form root es k i) (sym r.kept) (record { entry = e; here = r.here; size = refl; blob = refl; long = reads.0; stands = reads.1 })

-- The bytes at the offset, on the disk of an archive, are the text of its entry.
stands_is_text : (v : StoreState) (a : Archive) (k : Content) (i : ℕ) (s : StoredEntry) (text : List ℕ) → IsTextAt a.config.form v.root a.entries k i s
    → StandsAt (bytes_of (k (epoch_file_of v.root s.epoch)).seen) s.seen.text_at s.seen.size text → (text_if (slice_get a.entries i) ≡ Some text) × (blob_id_of (form_of s.seen.blob) text ≡ s.seen.blob)
stands_is_text v a k i s text at stands =
    let same : text ≡ at.entry.text = stands at.long ∙ at.stands in
    (ap text_if at.here ∙ ap (λ (t : List ℕ). Some t) (sym same), in_own_form a.config.form text s.seen.blob (ap (blob_id_of a.config.form) same ∙ sym at.blob))

-- So the text is read, and no damage is found.
pub right_text : (v : StoreState) (cache : List ℕ) (a : Archive) (k : Option Content) (i : ℕ) (s : StoredEntry) (text : List ℕ) → IsStoreWith v cache a k → slice_get v.entries i ≡ Some s
    → WhereTold (λ (c : Content). StandsAt (bytes_of (c (epoch_file_of v.root s.epoch)).seen) s.seen.text_at s.seen.size text) k → (text_if (slice_get a.entries i) ≡ Some text) × (blob_id_of (form_of s.seen.blob) text ≡ s.seen.blob)
right_text v cache a None i s text own is stands = absurd own
right_text v cache a (Some k) i s text own is stands =
    stands_is_text v a k i s text (text_at a.config.form v.root a.entries k own.keeps.valid.entries (disk_fronts v cache a k own).epochs_front i s (subst (λ (l : List StoredEntry). slice_get l i ≡ Some s) own.keeps.kept is)) stands

-- The entry that is looked up.
pub here_is : (v : StoreState) (root : Root) (slot : ℕ) (es : List StoredEntry) (i : ℕ) (e : StoredEntry) → ◌≡◌ {A = StoreState} (record { root = root; slot = slot; entries = es }) v → e ≡ get_or es i e → i < length v.entries → slice_get v.entries i ≡ Some e
here_is v root slot es i e view is within =
    let same : es ≡ v.entries = ap (λ (w : StoreState). w.entries) view in
    slice_get-get_or v.entries i e within ∙ ap (λ (f : StoredEntry). Some f) (sym (is ∙ ap (λ (l : List StoredEntry). get_or l i e) same))

-- There is only one entry at an index.
pub one_here : (es : List StoredEntry) (i : ℕ) (s e : StoredEntry) → slice_get es i ≡ Some e → slice_get es i ≡ Some s → e ≡ s
one_here es i s e here is = same_Some e s (sym here ∙ is)

-- What is told of another text.
pub tells_damage : (s e : StoredEntry) (old text : List ℕ) (found : ObjectId) → e ≡ s → found ≢ e.seen.blob → length text ≡ e.seen.size → found ≡ blob_id_of (form_of e.seen.blob) text → GivesText s old old (Err (Damaged e.seen.blob found))
tells_damage s e old text found is apart size found_is =
    (refl, ap (λ (f : StoredEntry). f.seen.blob) is, apart, (text, size ∙ ap (λ (f : StoredEntry). f.seen.size) is, found_is ∙ ap (λ (f : StoredEntry). blob_id_of (form_of f.seen.blob) text) is))

stands_by : (root : Root) (s e : StoredEntry) (text : List ℕ) (file : FileName) (c : Content) → e ≡ s → file ≡ epoch_file_of root e.epoch → StandsAt (bytes_of (c file).seen) e.seen.text_at e.seen.size text
    → StandsAt (bytes_of (c (epoch_file_of root s.epoch)).seen) s.seen.text_at s.seen.size text
stands_by root s e text file c is file_is there =
    subst (λ (f : StoredEntry). StandsAt (bytes_of (c (epoch_file_of root f.epoch)).seen) f.seen.text_at f.seen.size text) is (subst (λ (f : FileName). StandsAt (bytes_of (c f).seen) e.seen.text_at e.seen.size text) file_is there)

pub finds_damage : (root : Root) (s e : StoredEntry) (old text : List ℕ) (file : FileName) (named found : ObjectId) (k : Option Content) → e ≡ s → file ≡ epoch_file_of root e.epoch → found ≡ blob_id_of (form_of e.seen.blob) text
    → WhereTold (λ (c : Content). StandsAt (bytes_of (c file).seen) e.seen.text_at e.seen.size text) k → WhereTold (FindsText root s old old (Err (Damaged named found))) k
finds_damage root s e old text file named found k is file_is found_is stands =
    where_so _ (FindsText root s old old (Err (Damaged named found))) k stands (λ c there. (text, stands_by root s e text file c is file_is there, found_is ∙ ap (λ (f : StoredEntry). blob_id_of (form_of f.seen.blob) text) is))

-- What is said of the text that is read.
pub gives_text : (s e : StoredEntry) (old new text : List ℕ) → e ≡ s → length text ≡ e.seen.size → blob_id_of (form_of e.seen.blob) text ≡ e.seen.blob → new ≡ old ++ text → GivesText s old new (Ok (tt {0}))
gives_text s e old new text is size blob added = (text, record { size = size ∙ ap (λ (f : StoredEntry). f.seen.size) is; blob = subst (λ (f : StoredEntry). blob_id_of (form_of f.seen.blob) text ≡ f.seen.blob) is blob }, added)

pub finds_text : (root : Root) (s e : StoredEntry) (old new text : List ℕ) (file : FileName) (k : Option Content) → e ≡ s → file ≡ epoch_file_of root e.epoch → new ≡ old ++ text
    → WhereTold (λ (c : Content). StandsAt (bytes_of (c file).seen) e.seen.text_at e.seen.size text) k → WhereTold (FindsText root s old new (Ok (tt {0}))) k
finds_text root s e old new text file k is file_is added stands =
    where_so _ (FindsText root s old new (Ok (tt {0}))) k stands (λ c there. (text, stands_by root s e text file c is file_is there, added))

-- The same for a file by its name.
pub right_text_in : (v : StoreState) (cache : List ℕ) (a : Archive) (k : Option Content) (i : ℕ) (e : StoredEntry) (text : List ℕ) (file : FileName) → IsStoreWith v cache a k → slice_get v.entries i ≡ Some e → file ≡ epoch_file_of v.root e.epoch
    → WhereTold (λ (c : Content). StandsAt (bytes_of (c file).seen) e.seen.text_at e.seen.size text) k → (text_if (slice_get a.entries i) ≡ Some text) × (blob_id_of (form_of e.seen.blob) text ≡ e.seen.blob)
right_text_in v cache a k i e text file own here file_is stands =
    right_text v cache a k i e text own here (subst (λ (f : FileName). WhereTold (λ (c : Content). StandsAt (bytes_of (c f).seen) e.seen.text_at e.seen.size text) k) file_is stands)
