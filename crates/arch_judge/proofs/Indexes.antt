-- An index after one more message, and what it tells of the messages.
use Rattle.std.proofs.Common.{◌≡◌, ℕ, Bool, true, false, List, [], ◌∷◌, ◌++◌, Option, Some, None, option_map, refl, sym, ◌∙◌, ap, subst, if◌then◌else◌}
use Rattle.std.specs.Str.{bytes_eq}
use Rattle.std.proofs.lemmas.Slice.Eq.{bytes_eq-Decides}
use Rattle.arch_base.specs.Ids.{id_eq}
use Rattle.arch_base.specs.declared.ids.ObjectId.{ObjectId}
use Rattle.arch_base.specs.declared.ids.Form.{Form}
use Rattle.mail_reader.specs.Ids.{own_id}
use Rattle.git_objects.specs.Objects.{blob_id_of}
use Rattle.arch_model.specs.Archives.{Entry, live, owner, is_id, blob_number}
use Rattle.arch_judge.specs.Indexes.{IsArchiveIndex, IndexPuts, HasSame, first_found, owner_of, owner_in}
use Rattle.arch_judge.specs.declared.index.Index.{Index}
use Rattle.arch_judge.specs.declared.index.Owner.{Owner}

found_step : {X : Type 0} (t : Bool) (x : X) (a b all : Option X) → all ≡ first_found a b → (if t then Some x else all) ≡ first_found (if t then Some x else a) b
found_step true x a b all ih = refl
found_step false x a b all ih = ih

pub owner-push : (es : List Entry) (e : Entry) (q : List ℕ) → owner (es ++ e ∷ []) q ≡ first_found (owner es q) (if is_id q (own_id e.text) then Some e else None)
owner-push [] e q = refl
owner-push (x ∷ es) e q = found_step (is_id q (own_id x.text)) x (owner es q) (if is_id q (own_id e.text) then Some e else None) (owner (es ++ e ∷ []) q) (owner-push es e q)

pub blob_number-push : (form : Form) (es : List Entry) (e : Entry) (q : ObjectId) → blob_number form (es ++ e ∷ []) q ≡ first_found (blob_number form es q) (if id_eq q (blob_id_of form e.text) then Some e.number else None)
blob_number-push form [] e q = refl
blob_number-push form (x ∷ es) e q = found_step (id_eq q (blob_id_of form x.text)) x.number (blob_number form es q) (if id_eq q (blob_id_of form e.text) then Some e.number else None) (blob_number form (es ++ e ∷ []) q) (blob_number-push form es e q)

put_step : {X Y : Type 0} (f : X → Y) (t u : Bool) (x : X) (found : Option X) (y : Y) → f x ≡ y → t ≡ u → (u ≡ true → found ≡ None) → (if t then Some y else option_map f found) ≡ option_map f (first_found found (if u then Some x else None))
put_step f true true x found y is same none = rw (none refl) (ap Some (sym is))
put_step f true false x found y is same none = absurd (cc)
put_step f false true x found y is same none = absurd (cc)
put_step f false false x None y is same none = refl
put_step f false false x (Some z) y is same none = refl

-- An index with one more message is the index of one more live entry.
pub IsArchiveIndex-push : {form : Form} (es : List Entry) (e : Entry) (old new : Index) (id : List ℕ) (blob : ObjectId) (message : Owner) → live (es ++ e ∷ []) ≡ live es ++ e ∷ [] → IsArchiveIndex form es old → IndexPuts old new id blob message → owner_of e ≡ message → own_id e.text ≡ Some id → owner (live es) id ≡ None
    → blob ≡ blob_id_of form e.text → IsArchiveIndex form (es ++ e ∷ []) new
IsArchiveIndex-push {form} es e old new id blob message grows is puts known own free blob_is = record {
  owners = λ q.
      puts.owners q
      ∙ ap (λ (f : Option Owner). if bytes_eq q id then Some message else f) (is.owners q)
      ∙ put_step owner_of (bytes_eq q id) (is_id q (own_id e.text)) e (owner (live es) q) message known (sym (ap (is_id q) own))
      (λ yes. subst (λ (i : List ℕ). owner (live es) i ≡ None) (sym ((bytes_eq-Decides q id).0 (ap (is_id q) (sym own) ∙ yes))) free)
      ∙ ap (option_map owner_of) (sym (ap (λ (l : List Entry). owner l q) grows ∙ owner-push (live es) e q));
  blobs = λ q.
      puts.blobs q
      ∙ ap (λ (f : Option ℕ). first_found f (if id_eq q blob then Some message.number else None)) (is.blobs q)
      ∙ ap (λ (n : ℕ). first_found (blob_number form es q) (if id_eq q blob then Some n else None)) (sym (ap (λ (o : Owner). o.number) known))
      ∙ ap (λ (i : ObjectId). first_found (blob_number form es q) (if id_eq q i then Some e.number else None)) blob_is
      ∙ sym (blob_number-push form es e q);
}

-- An index with the same content is an index of the same entries.
pub IsArchiveIndex-same : {form : Form} (es : List Entry) (old new : Index) → IsArchiveIndex form es old → HasSame old new → IsArchiveIndex form es new
IsArchiveIndex-same es old new is same = record { owners = λ q. same.owners q ∙ is.owners q; blobs = λ q. same.blobs q ∙ is.blobs q }

-- If an index has no message with an id, no live entry has that own id.
pub unowned : {form : Form} (es : List Entry) (index : Index) (id : List ℕ) → IsArchiveIndex form es index → owner_in index.owners id ≡ None → owner (live es) id ≡ None
unowned es index id is none = empty (owner (live es) id) (sym (is.owners id) ∙ none) where
  empty : (o : Option Entry) → option_map owner_of o ≡ None → o ≡ None
  empty None h = refl
  empty (Some e) h = absurd (cc)
