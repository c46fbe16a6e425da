-- The texts of blobs, by the digits of their ids.
use Rattle.std.proofs.Common.{◌≡◌, ◌∙◌, ℕ, Bool, true, false, List, [], ◌∷◌, ◌++◌, Option, Some, None, Result, Err, refl, sym, ap, subst, if◌then◌else◌}
use Rattle.std.specs.Prelude.{◌≢◌}
use Rattle.std.proofs.lemmas.Slice.Eq.{bytes_eq-Decides}
use Rattle.hex.specs.Hex.{encode_lower}
use Rattle.arch_base.specs.Ids.{IsObjectId, id_bytes, id_eq}
use Rattle.arch_base.specs.declared.ids.Form.{Form}
use Rattle.arch_base.specs.declared.ids.ObjectId.{ObjectId}
use Rattle.arch_base.proofs.IdOrder.{id_eq-Decides, id_eq-refl}
use Rattle.git_objects.specs.Objects.{blob_id_of, blob_spelling}
use Rattle.git_objects.proofs.HexLines.{hex-once}
use Rattle.git_objects.proofs.ObjectIds.{IsObjectId-id_of}
use Rattle.arch_model.specs.Archives.{Archive, Entry}
use Rattle.arch_model.specs.Shelves.{blob_text, GivesBlobIn}
use Rattle.arch_model.specs.declared.text_refusal.TextRefusal.{TextRefusal}
use Rattle.arch_model.specs.declared.text_refusal.TextRefusal.TheVariants as refusal
use Rattle.http_heads.specs.declared.reply.Body.TheVariants.{Blob}
use Rattle.http_front.specs.Views.{is_blob_hex, blob_named}
use Rattle.http_front.specs.Asking.{Found, Gives, Missing, blob_found}
use Rattle.http_front.specs.Sessions.{FindsTarget}
use Rattle.http_front.specs.declared.found.FoundBody.{FoundBody}

blob-valid : (form : Form) (text : List ℕ) → IsObjectId form (blob_id_of form text)
blob-valid form text = IsObjectId-id_of form (blob_spelling text)

-- An id is that of a blob exactly where its digits are the blob's.
same-test : (form : Form) (digits text : List ℕ) (id : ObjectId) → IsObjectId form id → digits ≡ encode_lower (id_bytes id) → id_eq id (blob_id_of form text) ≡ is_blob_hex form digits text
same-test form digits text id valid is = by (id_eq id blob) (is_blob_hex form digits text) refl refl
  where
    blob : ObjectId
    blob = blob_id_of form text

    by : (t u : Bool) → id_eq id blob ≡ t → is_blob_hex form digits text ≡ u → t ≡ u
    by true true p q = refl
    by false false p q = refl
    by true false p q =
        let same : id ≡ blob = (id_eq-Decides id blob).0 p in
        sym ((bytes_eq-Decides digits (encode_lower (id_bytes blob))).1 (is ∙ ap (λ (i : ObjectId). encode_lower (id_bytes i)) same)) ∙ q
    by false true p q =
        let spelled : digits ≡ encode_lower (id_bytes blob) = (bytes_eq-Decides digits (encode_lower (id_bytes blob))).0 q in
        sym p ∙ id_eq-refl id blob (hex-once id blob valid (blob-valid form text) (sym is ∙ spelled))

-- The text of a blob by its id is the one by the id's digits.
text-by_digits : (form : Form) (es : List Entry) (digits : List ℕ) (id : ObjectId) → IsObjectId form id → digits ≡ encode_lower (id_bytes id) → blob_text form es id ≡ blob_named form es digits
text-by_digits form [] digits id valid is = refl
text-by_digits form (e ∷ es) digits id valid is =
    ap (λ (t : Bool). if t then Some e.text else blob_text form es id) (same-test form digits e.text id valid is)
    ∙ ap (λ (o : Option (List ℕ)). if is_blob_hex form digits e.text then Some e.text else o) (text-by_digits form es digits id valid is)

-- Digits of no id of the form name no blob.
none-by_digits : (form : Form) (es : List Entry) (digits : List ℕ) → ((id : ObjectId) → IsObjectId form id → digits ≢ encode_lower (id_bytes id)) → blob_named form es digits ≡ None
none-by_digits form [] digits none = refl
none-by_digits form (e ∷ es) digits none =
    ap (λ (t : Bool). if t then Some e.text else blob_named form es digits) (by (is_blob_hex form digits e.text) refl)
    ∙ none-by_digits form es digits none
  where
    by : (t : Bool) → is_blob_hex form digits e.text ≡ t → is_blob_hex form digits e.text ≡ false
    by false p = p
    by true p = absurd (none (blob_id_of form e.text) (blob-valid form e.text) ((bytes_eq-Decides digits (encode_lower (id_bytes (blob_id_of form e.text)))).0 p))

module _ (a : Archive) (form : Form) (same : form ≡ a.config.form) (digits : List ℕ) where
  -- What was found of an id is found of its digits.
  pub finds-blob : (id : ObjectId) (result : Result FoundBody TextRefusal) → IsObjectId form id → digits ≡ encode_lower (id_bytes id) → FindsTarget a (blob_found (blob_text a.config.form a.entries id)) true result → FindsTarget a (blob_found (blob_named a.config.form a.entries digits)) true result
  finds-blob id result valid is found =
      subst (λ (o : Option (List ℕ)). FindsTarget a (blob_found o) true result)
      (text-by_digits a.config.form a.entries digits id (subst (λ (f : Form). IsObjectId f id) same valid) is) found

  -- Nothing is found of other digits.
  pub finds-no_blob : ((id : ObjectId) → IsObjectId form id → digits ≢ encode_lower (id_bytes id)) → blob_found (blob_named a.config.form a.entries digits) ≡ Missing
  finds-no_blob none =
      ap blob_found (none-by_digits a.config.form a.entries digits (subst (λ (f : Form). (id : ObjectId) → IsObjectId f id → digits ≢ encode_lower (id_bytes id)) same none))

-- The text of an id was read.
pub blob-read : (o : Option (List ℕ)) (text old new : List ℕ) → o ≡ Some text → new ≡ old ++ text → old ≡ [] → blob_found o ≡ Gives Blob new
blob-read o text old new is read empty = ap blob_found is ∙ ap (Gives Blob) (sym (read ∙ ap (λ (t : List ℕ). t ++ text) empty))

-- It was not read, while an archive is held.
pub blob-unread : (a : Archive) (found : Found) (form : Form) (entries : List Entry) (id : ObjectId) (old new : List ℕ) (why : TextRefusal) → GivesBlobIn form entries id old new (Err why) → FindsTarget a found true (Err why)
blob-unread a found form entries id old new refusal.DiskFault given = refl
blob-unread a found form entries id old new (refusal.Damaged named other) given = given
blob-unread a found form entries id old new refusal.NoMemory given = tt
