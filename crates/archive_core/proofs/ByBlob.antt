-- The entries of a store by their blob ids: the index of a blob id, and its text.
use Rattle.std.specs.Prelude.{◌≡◌, ℕ, Bool, true, false, cond, List, [], ◌∷◌, slice_get, Option, Some, None, Ok, Err, IsTrue, is_some, ◌↔◌, refl}
use Rattle.std.proofs.Common.{◌∙◌, sym, ap, subst}
use Rattle.std.proofs.lemmas.Option.{same_Some}
use Rattle.arch_base.specs.declared.ids.ObjectId.{ObjectId}
use Rattle.arch_base.specs.declared.ids.Form.{Form}
use Rattle.arch_base.specs.Ids.{id_eq}
use Rattle.arch_base.specs.contracts.ids.ObjectIdPartialEq.TheImpl as code
use Rattle.arch_base.proofs.IdOrder.{id_eq-Decides, same_ids}
use Rattle.git_objects.specs.Objects.{blob_id_of}
use Rattle.arch_model.specs.Archives.{Entry, Archive, is_message, messages, text_of, blob_number}
use Rattle.arch_model.specs.Shelves.{blob_text, GivesBlobIn}
use Rattle.arch_model.specs.declared.line.EntryLine.{EntryLine}
use Rattle.arch_model.specs.declared.text_refusal.TextRefusal.{TextRefusal}
use Rattle.arch_model.specs.declared.text_refusal.TextRefusal.TheVariants.{DiskFault, Damaged, NoMemory}
use Rattle.arch_model.proofs.Shelving.{rises-from, blob_found-text, blob-found, blob-none}
use Rattle.store_finding.specs.declared.entries.StoredEntry.{StoredEntry}
use Rattle.epoch_store.specs.Reads.{GivesTextOf, line_if, line_of, text_if}
use Rattle.store_finding.specs.Kept.{StoreState, KeepsArchive}
use Rattle.archive_core.specs.Numbers.{IsMessageAt, HasBlobAt, IsBlobIndex}
use Rattle.archive_core.proofs.Stored.{kept-at, message-at}

-- The text of a blob id has it.
has_step : (form : Form) (t : Bool) (e : Entry) (es : List Entry) (blob : ObjectId) (text : List ℕ) → id_eq blob (blob_id_of form e.text) ≡ t → cond t (Some e.text) (blob_text form es blob) ≡ Some text
    → (blob_text form es blob ≡ Some text → id_eq blob (blob_id_of form text) ≡ true) → id_eq blob (blob_id_of form text) ≡ true
has_step form true e es blob text test is rest = subst (λ (t : List ℕ). id_eq blob (blob_id_of form t) ≡ true) (same_Some e.text text is) test
has_step form false e es blob text test is rest = rest is

has_it : (form : Form) (es : List Entry) (blob : ObjectId) (text : List ℕ) → blob_text form es blob ≡ Some text → id_eq blob (blob_id_of form text) ≡ true
has_it form [] blob text is = absurd (cc)
has_it form (e ∷ es) blob text is = has_step form (id_eq blob (blob_id_of form e.text)) e es blob text refl is (λ more. has_it form es blob text more)

-- The entry of the archive that is the message of a number is the one of that number's text.
pub record MessageOf (v : StoreState) (a : Archive) (n i : ℕ) (s : StoredEntry) : Type 0 where
  pub entry : Entry
  pub there : slice_get a.entries i ≡ Some entry
  pub once : text_of (messages a.entries) n ≡ Some entry.text
  pub blob : s.seen.blob ≡ blob_id_of a.config.form entry.text

pub message-of : (v : StoreState) (a : Archive) (n i : ℕ) → KeepsArchive v a → (at : IsMessageAt v.entries n i) → MessageOf v a n i at.entry
message-of v a n i keeps at =
    let found = kept-at a.config.form [] a.entries i at.entry (ap (λ (es : List StoredEntry). slice_get es i) (sym keeps.kept) ∙ at.there) in
    let e : Entry = found.entry in
    let number_is : e.number ≡ n = ap (λ (s : StoredEntry). s.number) (sym found.kept.1) ∙ at.number_is in
    let is_one : is_message e.kind ≡ true = ap (λ (s : StoredEntry). is_message s.seen.kind) (sym found.kept.1) ∙ at.is_one in
    record {
      entry = e;
      there = found.there;
      once = subst (λ (m : ℕ). text_of (messages a.entries) m ≡ Some e.text) number_is (message-at 1 0 a.entries i e keeps.valid.order found.there is_one).1;
      blob = ap (λ (s : StoredEntry). s.seen.blob) found.kept.1;
    }

-- The entry of the number of a blob id has its text.
pub blob-index : (v : StoreState) (a : Archive) (blob : ObjectId) (n i : ℕ) → KeepsArchive v a → Some n ≡ blob_number a.config.form a.entries blob → IsMessageAt v.entries n i → IsBlobIndex a.config.form a.entries blob (Some i)
blob-index v a blob n i keeps is at =
    let own = message-of v a n i keeps at in
    sym (blob_found-text a.config.form 1 a.entries blob n keeps.valid.ends (rises-from 1 0 a.entries keeps.valid.order) (sym is)) ∙ own.once ∙ sym (ap text_if own.there)

-- And so it has the blob id.
pub blob-there : (v : StoreState) (a : Archive) (id : ObjectId) (n i : ℕ) → KeepsArchive v a → Some n ≡ blob_number a.config.form a.entries id → IsMessageAt v.entries n i → HasBlobAt v.entries id i
blob-there v a id n i keeps is at =
    let own = message-of v a n i keeps at in
    let text : blob_text a.config.form a.entries id ≡ Some own.entry.text = blob-index v a id n i keeps is at ∙ ap text_if own.there in
    let same : id ≡ blob_id_of a.config.form own.entry.text = (id_eq-Decides id (blob_id_of a.config.form own.entry.text)).0 (has_it a.config.form a.entries id own.entry.text text) in
    (at.entry, at.there, own.blob ∙ sym same)

-- No entry has the blob id.
pub blob-nowhere : (a : Archive) (id : ObjectId) → None ≡ blob_number a.config.form a.entries id → IsBlobIndex a.config.form a.entries id None
blob-nowhere a id is = blob-none a.config.form a.entries id (sym is)

-- The message of a blob id's number has an index.
pub never-lost : (v : StoreState) (a : Archive) (id : ObjectId) (n : ℕ) → KeepsArchive v a → Some n ≡ blob_number a.config.form a.entries id → is_some (text_of (messages a.entries) n) ≡ false → ⊥
never-lost v a id n keeps is lacks =
    let found = blob-found a.config.form 1 a.entries id n keeps.valid.ends (rises-from 1 0 a.entries keeps.valid.order) (sym is) in
    let wrong : true ≡ false = sym (ap is_some found.1.1) ∙ lacks in
    cc

-- Whether an entry has a blob id, by its line.
pub blob-line : (es : List StoredEntry) (i : ℕ) (line : EntryLine) (id : ObjectId) (b : Bool) → Some line ≡ line_if (slice_get es i) → b ≡ code.ghosts.eq line.blob id → IsTrue b ↔ HasBlobAt es id i
blob-line es i line id b lined test = by (slice_get es i) refl lined
  where
    by : (o : Option StoredEntry) → slice_get es i ≡ o → Some line ≡ line_if o → IsTrue b ↔ HasBlobAt es id i
    by None is none = absurd (cc)
    by (Some e) is some =
        let blob : line.blob ≡ e.seen.blob = ap (λ (l : EntryLine). l.blob) (same_Some line (line_of e) some) in
        let decides = id_eq-Decides line.blob id in
        let tests : b ≡ id_eq line.blob id = test ∙ same_ids line.blob id in (
          λ hit. (e, is, sym blob ∙ decides.0 (sym tests ∙ hit)),
          λ has. tests ∙ decides.1 (blob ∙ ap (λ (s : StoredEntry). s.seen.blob) (same_Some e has.0 (sym is ∙ has.1)) ∙ has.2),
        )

-- The result by the text that is read.
pub blob-gives : (a : Archive) (id : ObjectId) (i : ℕ) (old new : List ℕ) → IsBlobIndex a.config.form a.entries id (Some i) → GivesTextOf a i old new (Ok tt) → GivesBlobIn a.config.form a.entries id old new (Ok true)
blob-gives a id i old new is given = (given.0, is ∙ given.1, given.2)

pub blob-refuses : (a : Archive) (id : ObjectId) (i : ℕ) (old new : List ℕ) (why : TextRefusal) → GivesTextOf a i old new (Err why) → GivesBlobIn a.config.form a.entries id old new (Err why)
blob-refuses a id i old new DiskFault given = tt
blob-refuses a id i old new (Damaged named found) given = given
blob-refuses a id i old new NoMemory given = tt
