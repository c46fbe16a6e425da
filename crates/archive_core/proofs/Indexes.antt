-- The index of what a store keeps: that of an archive's entries, and with one more entry.
use Rattle.std.specs.Prelude.{◌≡◌, ℕ, true, false, List, [], Option, Some, None, IsSome, unwrap_or, refl}
use Rattle.std.proofs.Common.{◌∙◌, sym, ap, subst}
use Rattle.arch_base.specs.declared.config.Config.{Config}
use Rattle.arch_base.specs.declared.ids.ObjectId.{ObjectId}
use Rattle.git_objects.specs.Objects.{blob_id_of}
use Rattle.git_objects.specs.declared.entry_kind.EntryKind.{EntryKind}
use Rattle.mail_reader.specs.Ids.{own_id}
use Rattle.mail_reader.specs.Content.{content_id_of}
use Rattle.arch_model.specs.Archives.{Archive}
use Rattle.arch_model.specs.Validity.{IsArchive}
use Rattle.arch_judge.specs.Indexes.{IsArchiveIndex, IndexPuts, owner_in}
use Rattle.arch_judge.specs.declared.index.Index.{Index}
use Rattle.arch_judge.proofs.Indexes.{unowned}
use Rattle.store_finding.specs.declared.entries.StoredEntry.{StoredEntry}
use Rattle.store_finding.specs.Kept.{StoreState, KeepsArchive}
use Rattle.epoch_store.specs.Commands.{AddsEntry, EndsEntry}
use Rattle.store_finding.specs.Indexes.{EntriesAreInOrder, AreOf, IndexesStored, TakesBy, owner_kept}
use Rattle.store_finding.proofs.Indexes.{indexes_more}
use Rattle.archive_core.specs.Kept.{PutsText, LosesText, IsNewTo}

-- The entries of a valid archive are in order.
pub in-order : (a : Archive) → IsArchive a → EntriesAreInOrder a.entries
in-order a valid = record { each = valid.entries; order = valid.order; ends = valid.ends; ids = valid.ids }

-- What a store keeps is that of its archive's entries.
pub are-of : (v : StoreState) (a : Archive) → KeepsArchive v a → AreOf a.config.form v.entries a.entries
are-of v a keeps = record { ordered = in-order a keeps.valid; is = keeps.kept }

-- The archive has the form of the store's root.
pub form-is : (v : StoreState) (a : Archive) → KeepsArchive v a → v.root.config.form ≡ a.config.form
form-is v a keeps = ap (λ (c : Config). c.form) keeps.names.config

pub index-of_kept : (v : StoreState) (a : Archive) (index : Index) → KeepsArchive v a → IndexesStored v.entries index → IsArchiveIndex a.config.form a.entries index
index-of_kept v a index keeps indexed = indexed a.config.form a.entries (are-of v a keeps)

id_of : (o : Option (List ℕ)) → IsSome o → o ≡ Some (unwrap_or o [])
id_of None some = absurd (let no : false ≡ true = some in cc)
id_of (Some id) some = refl

-- An index with a new text is that of what is kept with it.
pub indexes-added : (old new : StoreState) (before after : Index) (text : List ℕ) (blob : ObjectId) → IndexesStored old.entries before → blob ≡ blob_id_of old.root.config.form text → PutsText before after text blob old.root.next → AddsEntry old new text → IndexesStored new.entries after
indexes-added old new before after text blob indexed blob_is puts adds =
    let s = adds.entry in
    let put : IndexPuts before after s.seen.id blob (record { number = old.root.next; content = content_id_of text }) = puts s.seen.id adds.id in
    let at_blob : IndexPuts before after s.seen.id s.seen.blob (record { number = old.root.next; content = content_id_of text }) = subst (λ (i : ObjectId). IndexPuts before after s.seen.id i (record { number = old.root.next; content = content_id_of text })) (blob_is ∙ sym adds.blob) put in
    let at_number : IndexPuts before after s.seen.id s.seen.blob (record { number = s.number; content = content_id_of text }) = subst (λ (n : ℕ). IndexPuts before after s.seen.id s.seen.blob (record { number = n; content = content_id_of text })) (sym adds.number) at_blob in
    let message_put : IndexPuts before after s.seen.id s.seen.blob (owner_kept s) = subst (λ (c : List ℕ). IndexPuts before after s.seen.id s.seen.blob (record { number = s.number; content = c })) (sym adds.content) at_number in
    subst (λ (es : List StoredEntry). IndexesStored es after) (sym adds.entries)
    (indexes_more old.entries s before after indexed (subst (λ (k : EntryKind). TakesBy k before after s) (sym adds.kind) message_put))

-- An index without the own id of a removed text is that of what is kept with its deletion.
pub indexes-ended : (old new : StoreState) (before after : Index) (number : ℕ) (text : List ℕ) → IndexesStored old.entries before → LosesText before after text → EndsEntry old new number text → IndexesStored new.entries after
indexes-ended old new before after number text indexed loses ends =
    let s = ends.entry in
    subst (λ (es : List StoredEntry). IndexesStored es after) (sym ends.entries)
    (indexes_more old.entries s before after indexed (subst (λ (k : EntryKind). TakesBy k before after s) (sym ends.kind) (loses s.seen.id ends.id)))

-- The id of a text that is new to what is kept is free in the index, and the other way round.
pub new-to : (kept : List StoredEntry) (index : Index) (text : List ℕ) → IndexesStored kept index → IsSome (own_id text) → ((id : List ℕ) → own_id text ≡ Some id → owner_in index.owners id ≡ None) → IsNewTo kept text
new-to kept index text indexed some free form entries are =
    let id = unwrap_or (own_id text) [] in
    let own = id_of (own_id text) some in
    (id, own, unowned entries index id (indexed form entries are) (free id own))
