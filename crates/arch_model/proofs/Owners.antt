-- The messages by their own ids and blob ids.
use Rattle.std.proofs.Common.{◌≡◌, ℕ, Bool, true, false, not, ◌&&◌, List, [], ◌∷◌, Option, Some, None, refl, sym, ◌∙◌, ap, if◌then◌else◌}
use Rattle.std.specs.Str.{bytes_eq}
use Rattle.std.proofs.lemmas.Slice.Eq.{bytes_eq-Decides}
use Rattle.mail_reader.specs.Ids.{own_id}
use Rattle.git_objects.specs.Objects.{blob_id_of}
use Rattle.arch_model.specs.Archives.{Entry, owner, is_id, blob_number}
use Rattle.arch_model.specs.Shelves.{blob_text}
use Rattle.arch_model.specs.Validity.{BlobsAgree}
use Rattle.std.specs.List.{AllByRecursion}
use Rattle.arch_base.specs.Ids.{id_eq}
use Rattle.arch_base.proofs.IdOrder.{id_eq-Decides}
use Rattle.arch_base.specs.declared.ids.Form.{Form}
use Rattle.arch_model.specs.Delivery.{collision}

-- A text equals itself.
pub bytes_eq-refl : (a b : List ℕ) → a ≡ b → bytes_eq a b ≡ true
bytes_eq-refl a b e = (bytes_eq-Decides a b).1 e

abbrev pub FrontFree : Entry → List Entry → List ℕ → Type 0
FrontFree e es id = (is_id id (own_id e.text) ≡ false) × (owner es id ≡ None)

pub front_free : (e : Entry) (found : Option Entry) (t : Bool) → (if t then Some e else found) ≡ None → (t ≡ false) × (found ≡ None)
front_free e found true h = absurd (cc)
front_free e found false h = (refl, h)

-- Without an entry that has the blob id of a text there is no collision.
alone_step : (b t : Bool) (number : ℕ) (own found : Option ℕ) → (if b then Some number else found) ≡ None → (found ≡ None → own ≡ None) → (if b && not t then Some number else own) ≡ None
alone_step true t number own found none rest = absurd (cc)
alone_step false t number own found none rest = rest none

pub collision-alone : (form : Form) (es : List Entry) (text : List ℕ) → blob_number form es (blob_id_of form text) ≡ None → collision form es text ≡ None
collision-alone form [] text none = refl
collision-alone form (e ∷ es) text none =
    alone_step (id_eq (blob_id_of form text) (blob_id_of form e.text)) (bytes_eq text e.text) e.number (collision form es text) (blob_number form es (blob_id_of form text)) none (collision-alone form es text)

-- Where each entry with the blob id of a text has that text, there is no collision.
same_step : (b t : Bool) (number : ℕ) (own : Option ℕ) → (b ≡ true → t ≡ true) → own ≡ None → (if b && not t then Some number else own) ≡ None
same_step true true number own same rest = rest
same_step true false number own same rest = absurd (let wrong : false ≡ true = same refl in cc)
same_step false t number own same rest = rest

none-clashes : (form : Form) (es : List Entry) (text kept : List ℕ) → text ≡ kept → AllByRecursion (λ (f : Entry). blob_id_of form f.text ≡ blob_id_of form kept → f.text ≡ kept) es → collision form es text ≡ None
none-clashes form [] text kept is all = refl
none-clashes form (e ∷ es) text kept is all =
    same_step (id_eq (blob_id_of form text) (blob_id_of form e.text)) (bytes_eq text e.text) e.number (collision form es text)
    (λ hit. (let same : blob_id_of form text ≡ blob_id_of form e.text = (id_eq-Decides (blob_id_of form text) (blob_id_of form e.text)).0 hit in bytes_eq-refl text e.text (is ∙ sym (all.0 (sym same ∙ ap (blob_id_of form) is))))) (none-clashes form es text kept is all.1)

-- The first entry with the blob id of a text decides: it has the text, or there is a collision with
-- it.
first_step : (b t : Bool) (number n : ℕ) (own found : Option ℕ) (kept text other : List ℕ) (more : Option (List ℕ)) → bytes_eq text other ≡ t → (if b then Some number else found) ≡ Some n → (if b then Some other else more) ≡ Some kept → (b ≡ true → t ≡ true → own ≡ None)
    → (found ≡ Some n → more ≡ Some kept → own ≡ (if bytes_eq text kept then None else Some n)) → (if b && not t then Some number else own) ≡ (if bytes_eq text kept then None else Some n)
first_step true true number n own found kept text other more test is kept_is none rest =
    let same : other ≡ kept = cc in
    none refl refl ∙ sym (ap (λ (u : Bool). if u then None else Some n) (ap (bytes_eq text) (sym same) ∙ test))
first_step true false number n own found kept text other more test is kept_is none rest =
    let same : other ≡ kept = cc in
    is ∙ sym (ap (λ (u : Bool). if u then None else Some n) (ap (bytes_eq text) (sym same) ∙ test))
first_step false t number n own found kept text other more test is kept_is none rest = rest is kept_is

pub collision-first : (form : Form) (es : List Entry) (text kept : List ℕ) (n : ℕ) → BlobsAgree form es → blob_number form es (blob_id_of form text) ≡ Some n → blob_text form es (blob_id_of form text) ≡ Some kept → collision form es text ≡ (if bytes_eq text kept then None else Some n)
collision-first form [] text kept n agree is kept_is = absurd (cc)
collision-first form (e ∷ es) text kept n agree is kept_is =
    first_step (id_eq (blob_id_of form text) (blob_id_of form e.text)) (bytes_eq text e.text) e.number n (collision form es text) (blob_number form es (blob_id_of form text)) kept text e.text (blob_text form es (blob_id_of form text)) refl is kept_is
    (λ hit same. none-clashes form es text e.text ((bytes_eq-Decides text e.text).0 same) agree.0) (λ more kept_more. collision-first form es text kept n agree.1 more kept_more)
