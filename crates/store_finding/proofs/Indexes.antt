-- The index of what is kept: with one more entry, and of the entries that hold.
use Rattle.std.specs.Prelude.{◌≡◌, ◌≢◌, ℕ, List, [], ◌∷◌, ◌++◌, length, refl}
use Rattle.std.specs.List.{AllByRecursion}
use Rattle.std.specs.Global.{Vec}
use Rattle.std.specs.Map.{lookup}
use Rattle.std.specs.BTreeMap.{is_at}
use Rattle.std.specs.Ordering.{nat_cmp}
use Rattle.std.specs.Cmp.Lexicographic.{slice_cmp}
use Rattle.std.proofs.Common.{◌∙◌, sym, ap, subst, arith, length-append, Some}
use Rattle.arch_base.specs.declared.ids.Form.{Form}
use Rattle.arch_base.specs.Ids.{id_cmp}
use Rattle.arch_base.specs.declared.ids.ObjectId.{ObjectId}
use Rattle.git_objects.specs.Objects.{blob_id_of}
use Rattle.git_objects.specs.declared.entry_kind.EntryKind.{EntryKind}
use Rattle.git_objects.specs.declared.entry_kind.EntryKind.TheVariants.{Message, Deletion}
use Rattle.mail_reader.specs.Ids.{own_id}
use Rattle.arch_model.specs.Archives.{Entry, live, text_of}
use Rattle.arch_model.specs.Validity.{IsEntry, EndsLive, IdsDiffer, LiveDiffer}
use Rattle.arch_model.proofs.LiveEntries.{ids-now}
use Rattle.arch_judge.specs.Indexes.{IsArchiveIndex, IndexPuts, IndexLoses, owner_of}
use Rattle.arch_judge.specs.declared.index.Index.{Index}
use Rattle.arch_judge.specs.declared.index.Owner.{Owner}
use Rattle.arch_judge.proofs.Indexes.{IsArchiveIndex-push}
use Rattle.arch_judge.proofs.Endings.{IsArchiveIndex-ends, owner-none}
use Rattle.number_map.specs.declared.line.Record.{Record}
use Rattle.store_finding.specs.declared.entries.StoredEntry.{StoredEntry}
use Rattle.store_finding.specs.Kept.{stored_at, stored_after}
use Rattle.store_finding.specs.Indexes.{EntriesAreInOrder, IndexesStored, TakesBy, IndexTakes}
use Rattle.store_finding.specs.Joined.{JoinedEntries, HoldsJoined}
use Rattle.store_finding.proofs.Growing.{stored_more}
use Rattle.store_finding.proofs.Live.{Ending, own_of, there}
use Rattle.store_finding.proofs.Firsts.{all_last, all_front, rise_front, place_front, place_last, as_deletion, live_more}

-- An index of nothing.
pub indexes_none : (index : Index) → index.owners.entries ≡ [] → index.blobs.entries ≡ [] → IndexesStored [] index
indexes_none index no_owners no_blobs form [] are = record {
  owners = λ id. ap (λ (l : List (Vec ℕ × Owner)). lookup (is_at (λ (k : Vec ℕ). slice_cmp nat_cmp id k.items)) l) no_owners;
  blobs = λ blob. ap (λ (l : List (ObjectId × ℕ)). lookup (is_at (id_cmp blob)) l) no_blobs;
}
indexes_none index no_owners no_blobs form (e ∷ es) are = absurd (let wrong : [] ≡ stored_at form [] e ∷ stored_after form (e ∷ []) es = are.is in cc)

-- The last id of ids that differ is new to the others.
last_apart : (es : List Entry) (e : Entry) → IdsDiffer (es ++ e ∷ []) → AllByRecursion (λ (f : Entry). own_id f.text ≢ own_id e.text) es
last_apart [] e differ = tt
last_apart (x ∷ es) e differ = ((λ same. all_last (λ (f : Entry). own_id f.text ≢ own_id x.text) es e differ.0 (sym same)), last_apart es e differ.1)

-- The index with the last of entries taken in.
module _ (form : Form) (es : List Entry) (e : Entry) (old new : Index) (ordered : EntriesAreInOrder (es ++ e ∷ [])) (is_index : IsArchiveIndex form es old) where
  own : own_id e.text ≡ Some (own_of e.text)
  own = there (own_id e.text) [] (all_last IsEntry es e ordered.each).text.id

  taken_message : e.kind ≡ Message → IndexPuts old new (own_of e.text) (blob_id_of form e.text) (owner_of e) → IsArchiveIndex form (es ++ e ∷ []) new
  taken_message one puts =
      let grows = live_more es e one in
      let apart = last_apart (live es) e (subst IdsDiffer grows (place_last LiveDiffer [] es e ordered.ids)) in
      IsArchiveIndex-push es e old new (own_of e.text) (blob_id_of form e.text) (owner_of e) grows is_index puts refl own (owner-none (live es) (own_id e.text) (own_of e.text) apart own) refl

  taken_deletion : e.kind ≡ Deletion → IndexLoses old new (own_of e.text) → IsArchiveIndex form (es ++ e ∷ []) new
  taken_deletion gone lost =
      let ends : EndsLive e.kind es e = place_last Ending [] es e ordered.ends in
      let shown : text_of (live es) e.number ≡ Some e.text = subst (λ (k : EntryKind). EndsLive k es e) gone ends in
      subst (λ (f : Entry). IsArchiveIndex form (es ++ f ∷ []) new) (sym (as_deletion e gone))
      (IsArchiveIndex-ends es e.number e.epoch e.text e.moment 1 0 old new (own_of e.text) is_index (rise_front 1 0 es (e ∷ []) ordered.order) (ids-now es (place_front LiveDiffer [] es (e ∷ []) ordered.ids)) shown own lost)

  taken_by : (k : EntryKind) → e.kind ≡ k → TakesBy k old new (stored_at form es e) → IsArchiveIndex form (es ++ e ∷ []) new
  taken_by Message one takes = taken_message one takes
  taken_by Deletion gone takes = taken_deletion gone takes

-- Two lists with one item appended to each.
snoc_same : {X : Type 0} (xs ys : List X) (x y : X) → xs ++ x ∷ [] ≡ ys ++ y ∷ [] → (xs ≡ ys) × (x ≡ y)
snoc_same {X} [] [] x y is = (refl, cc)
snoc_same {X} [] (z ∷ zs) x y is = absurd (let size : length (x ∷ []) ≡ length (z ∷ (zs ++ y ∷ [])) = ap length is in omega (arith, size, length-append zs (y ∷ [])))
snoc_same {X} (w ∷ ws) [] x y is = absurd (let size : length (w ∷ (ws ++ x ∷ [])) ≡ length (y ∷ []) = ap length is in omega (arith, size, length-append ws (x ∷ [])))
snoc_same {X} (w ∷ ws) (z ∷ zs) x y is =
    let head : w ≡ z = cc in
    let tail : ws ++ x ∷ [] ≡ zs ++ y ∷ [] = cc in
    let rest = snoc_same ws zs x y tail in
    ((λ i. head i ∷ rest.0 i), rest.1)

record HasLast (es : List Entry) : Type 0 where
  front : List Entry
  last : Entry
  is : es ≡ front ++ last ∷ []

last_of : (e : Entry) (es : List Entry) → HasLast (e ∷ es)
last_of e [] = record { front = []; last = e; is = refl }
last_of e (f ∷ es) = let rest = last_of f es in record { front = e ∷ rest.front; last = rest.last; is = ap (λ (l : List Entry). e ∷ l) rest.is }

-- An index into which one more entry was taken is that of what is kept with it.
pub indexes_more : (kept : List StoredEntry) (s : StoredEntry) (old new : Index) → IndexesStored kept old → IndexTakes old new s → IndexesStored (kept ++ s ∷ []) new
indexes_more kept s old new indexed takes form [] are = absurd (let size : length (kept ++ s ∷ []) ≡ 0 = ap length are.is in omega (arith, size, length-append kept (s ∷ [])))
indexes_more kept s old new indexed takes form (x ∷ es) are =
    let p = last_of x es in
    let ordered : EntriesAreInOrder (p.front ++ p.last ∷ []) = subst EntriesAreInOrder p.is are.ordered in
    let same = snoc_same kept (stored_after form [] p.front) s (stored_at form p.front p.last) (are.is ∙ ap (stored_after form []) p.is ∙ stored_more form [] p.front p.last) in
    let front : IsArchiveIndex form p.front old = indexed form p.front (record { ordered = front_order p.front p.last ordered; is = same.0 }) in
    subst (λ (l : List Entry). IsArchiveIndex form l new) (sym p.is) (taken_by form p.front p.last old new ordered front p.last.kind refl (subst (λ (t : StoredEntry). IndexTakes old new t) same.1 takes))
  where
    front_order : (fs : List Entry) (e : Entry) → EntriesAreInOrder (fs ++ e ∷ []) → EntriesAreInOrder fs
    front_order fs e ordered = record {
      each = all_front IsEntry fs (e ∷ []) ordered.each;
      order = rise_front 1 0 fs (e ∷ []) ordered.order;
      ends = place_front Ending [] fs (e ∷ []) ordered.ends;
      ids = place_front LiveDiffer [] fs (e ∷ []) ordered.ids;
    }

-- The index of what is kept is that of the entries that hold.
pub index_held : (form : Form) (v : JoinedEntries) (index : Index) (rs after : List Record) (es : List Entry) → IndexesStored v.entries index → HoldsJoined form v rs after es → IsArchiveIndex form es index
index_held form v index rs after es indexed holds = indexed form es (record {
  ordered = record { each = holds.first.valid; order = holds.first.order; ends = holds.first.ends; ids = holds.first.ids };
  is = holds.entries_are;
})
