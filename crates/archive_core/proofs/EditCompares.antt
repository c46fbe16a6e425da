-- Whether the storage form of an edit is the text of a live number.
use Rattle.std.specs.Prelude.{◌≡◌, ℕ, Bool, true, false, not, List, [], get_or, Some, Result, Ok, Err, refl}
use Rattle.std.specs.Str.{bytes_eq}
use Rattle.std.proofs.Common.{◌∙◌, sym, ap, subst}
use Rattle.std.proofs.lemmas.Option.{get_or_from_slice_get, same_Some}
use Rattle.std.proofs.lemmas.Slice.Eq.{bytes_eq-Decides}
use Rattle.arch_base.specs.declared.ids.Form.{Form}
use Rattle.arch_base.specs.declared.ids.ObjectId.{ObjectId}
use Rattle.arch_base.specs.Ids.{id_eq}
use Rattle.arch_base.specs.contracts.ids.ObjectIdPartialEq.TheImpl as code
use Rattle.arch_base.proofs.IdOrder.{id_eq-Decides, same_ids}
use Rattle.git_objects.specs.Objects.{blob_id_of}
use Rattle.mail_reader.specs.declared.storing.StoredRefusal.{StoredRefusal}
use Rattle.arch_model.specs.Archives.{Archive, live, text_of}
use Rattle.arch_model.specs.Delivery.{is_form}
use Rattle.arch_model.specs.declared.answer.Answer.{Answer}
use Rattle.arch_model.specs.declared.text_refusal.TextRefusal.{TextRefusal}
use Rattle.arch_model.specs.declared.text_refusal.TextRefusal.TheVariants as reading
use Rattle.store_finding.specs.declared.entries.StoredEntry.{StoredEntry}
use Rattle.epoch_store.specs.Reads.{GivesTextOf, text_if}
use Rattle.store_finding.specs.Kept.{StoreState, KeepsArchive}
use Rattle.archive_core.specs.Commands.{unread_answer}
use Rattle.archive_core.specs.Numbers.{IsLiveAt}
use Rattle.archive_core.specs.Rewriting.{ComparesForm}
use Rattle.archive_core.proofs.ByBlob.{message-of}
use Rattle.archive_core.proofs.ByNumber.{entry-text, text-gives}
use Rattle.archive_core.proofs.Indexes.{form-is}

-- The entry of a live number has the blob id of its text.
pub live-blob : (v : StoreState) (a : Archive) (n i : ℕ) (text : List ℕ) → KeepsArchive v a → (at : IsLiveAt v.entries n i) → text_of (live a.entries) n ≡ Some text → at.message.entry.seen.blob ≡ blob_id_of a.config.form text
live-blob v a n i text keeps at shown =
    let own = message-of v a n i keeps at.message in
    let read : text_of (live a.entries) n ≡ Some own.entry.text = entry-text v a keeps n i at own.entry.text (ap text_if own.there) in
    own.blob ∙ ap (blob_id_of a.config.form) (same_Some own.entry.text text (sym read ∙ shown))

-- A form with another blob id isn't the text.
pub compares-other : (v : StoreState) (a : Archive) (n i : ℕ) (seen : List StoredEntry) (e : StoredEntry) (found : ObjectId) (kept bytes text : List ℕ) (wanted : Result (List ℕ) StoredRefusal) (r : Bool)
    → KeepsArchive v a → IsLiveAt v.entries n i → seen ≡ v.entries → wanted ≡ Ok kept → found ≡ blob_id_of v.root.config.form bytes → bytes ≡ kept → r ≡ not (code.ghosts.eq found (get_or seen i e).seen.blob) → r ≡ true → text_of (live a.entries) n ≡ Some text → false ≡ is_form text wanted
compares-other v a n i seen e found kept bytes text wanted r keeps at same form_is found_is bytes_is r_is told shown =
    by (bytes_eq kept text) refl ∙ ap (is_form text) (sym form_is)
  where
    at_entry : get_or seen i e ≡ at.message.entry
    at_entry = ap (λ (l : List StoredEntry). get_or l i e) same ∙ get_or_from_slice_get v.entries i at.message.entry e at.message.there

    by : (t : Bool) → bytes_eq kept text ≡ t → false ≡ bytes_eq kept text
    by false other = sym other
    by true equal =
        absurd (let is_text : kept ≡ text = (bytes_eq-Decides kept text).0 equal in
        let blob : (get_or seen i e).seen.blob ≡ blob_id_of a.config.form text = ap (λ (s : StoredEntry). s.seen.blob) at_entry ∙ live-blob v a n i text keeps at shown in
        let ids : found ≡ (get_or seen i e).seen.blob = found_is ∙ ap (λ (f : Form). blob_id_of f bytes) (form-is v a keeps) ∙ ap (blob_id_of a.config.form) (bytes_is ∙ is_text) ∙ sym blob in
        let hit : id_eq found (get_or seen i e).seen.blob ≡ true = (id_eq-Decides found (get_or seen i e).seen.blob).1 ids in
        let wrong : true ≡ false = sym told ∙ r_is ∙ ap not (same_ids found (get_or seen i e).seen.blob ∙ hit) in cc)

-- A text that was read is compared with the form.
pub compares-read : (v : StoreState) (a : Archive) (n i : ℕ) (form bytes old new read text : List ℕ) (wanted : Result (List ℕ) StoredRefusal) (r : Bool)
    → KeepsArchive v a → IsLiveAt v.entries n i → wanted ≡ Ok form → bytes ≡ form → read ≡ new → old ≡ [] → GivesTextOf a i old new (Ok tt) → r ≡ bytes_eq bytes read → text_of (live a.entries) n ≡ Some text → r ≡ is_form text wanted
compares-read v a n i form bytes old new read text wanted r keeps at form_is bytes_is read_is empty given r_is shown =
    let gives = text-gives v a keeps n i at [] new (Ok tt) (subst (λ (l : List ℕ). GivesTextOf a i l new (Ok tt)) empty given) in
    let same : read ≡ text = read_is ∙ gives.2 ∙ same_Some gives.0 text (sym gives.1 ∙ shown) in
    r_is ∙ ap (λ (l : List ℕ). bytes_eq l read) bytes_is ∙ ap (bytes_eq form) same ∙ ap (is_form text) (sym form_is)

-- A text that wasn't read decides nothing.
pub compares-unread : (v : StoreState) (a : Archive) (n i : ℕ) (old new : List ℕ) (wanted : Result (List ℕ) StoredRefusal) (why : TextRefusal) (reply : Answer) → reply ≡ unread_answer v i why → GivesTextOf a i old new (Err why) → ComparesForm a n wanted (Err reply)
compares-unread v a n i old new wanted reading.DiskFault reply is given = subst (λ (r : Answer). ComparesForm a n wanted (Err r)) (sym is) tt
compares-unread v a n i old new wanted reading.NoMemory reply is given = subst (λ (r : Answer). ComparesForm a n wanted (Err r)) (sym is) tt
compares-unread v a n i old new wanted (reading.Damaged named found) reply is given = absurd given
