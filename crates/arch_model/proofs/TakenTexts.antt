-- A text that is taken is a storage text with an own id that no entry has.
use Rattle.std.specs.Prelude.{◌≡◌, ◌+◌, ◌^◌, ◌<◌, ◌≤◌, ℕ, zero, suc, Bool, true, false, nat_lt, List, [], ◌∷◌, ◌++◌, length, codes, Option, Some, None, IsSome, Ok, Err, refl, if◌then◌else◌}
use Rattle.std.proofs.Common.{sym, ap, subst, arith, length-append}
use Rattle.std.proofs.lemmas.Bool.Decides.{nat_tests}
use Rattle.arch_base.specs.Names.{IsArchiveName}
use Rattle.mail_reader.specs.Content.{content_id_of}
use Rattle.mail_reader.specs.Ids.{own_id}
use Rattle.mail_reader.specs.Laws.{StoredOnce, FormsAreShort, FieldInFront, IdLineIsKept, id_line}
use Rattle.mail_reader.specs.StorageTexts.{IsStorageText}
use Rattle.mail_reader.specs.Stored.{stored, storage_form, limited, max_len}
use Rattle.mail_reader.specs.declared.storing.StoredRefusal.TheVariants.{TooLarge}
use Rattle.arch_model.specs.Archives.{Entry, owner, IsFree}
use Rattle.arch_model.specs.Candidates.{met, made_id, with_made, made_choice, choice_from, decided}
use Rattle.arch_model.specs.Laws.{TakenAreStorage}
use Rattle.arch_model.specs.declared.choice.Meeting.{Meeting}
use Rattle.arch_model.specs.declared.choice.Meeting.TheVariants.{Free, Same, Other}
use Rattle.arch_model.specs.declared.choice.Choice.TheVariants.{Take}
use Rattle.arch_model.proofs.Candidates.{met-free, below_or_at}
use Rattle.arch_model.proofs.FirstChoice.{made_meets, last_one}
use Rattle.arch_model.proofs.MadeIds.{made-IsMessageId, made-own, made-length}

-- What is stored is the form of bytes that aren't too many.
form_is : (len : ℕ) (form : Option (List ℕ)) (text : List ℕ) → limited len form ≡ Ok text → (form ≡ Some text) × (len ≤ max_len)
form_is len None text is = absurd (cc)
form_is len (Some t) text is = by (nat_lt max_len len) refl is where
  by : (b : Bool) → nat_lt max_len len ≡ b → (if b then Err (TooLarge len) else Ok t) ≡ Ok text → (Some t ≡ Some text) × (len ≤ max_len)
  by true test e = absurd (cc)
  by false test e = let same : t ≡ text = cc in (ap Some same, grind (arith, nat_tests, test))

-- What is stored is a storage text, if it has an own id.
as_it_is : StoredOnce → FormsAreShort → (bytes text : List ℕ) → stored bytes ≡ Ok text → IsSome (own_id text) → IsStorageText text
as_it_is once short bytes text is some =
    let form = form_is (length bytes) (storage_form bytes) text is in
    let few = short bytes text form.0 in
    record { short = omega (arith, few, form.1); form = once bytes text form.0; id = some }

-- It is a storage text with a made id at the front, too.
with_id : FormsAreShort → FieldInFront → IdLineIsKept → (name bytes text : List ℕ) → stored bytes ≡ Ok text → IsArchiveName name → (k : ℕ) → k < 2 ^ 64 → IsStorageText (with_made name text k)
with_id short in_front kept_line name bytes text is is_name k small =
    let form = form_is (length bytes) (storage_form bytes) text is in
    let few = short bytes text form.0 in
    let id = made_id name text k in
    let size = made-length name text k is_name small in
    let line : length (id_line id) ≡ 12 + (length id + 1) = omega (arith, length-append (codes "Message-ID: ") (id ++ 10 ∷ []), length-append id (10 ∷ [])) in
    record {
      short = omega (arith, few, form.1, size, line, length-append (id_line id) text);
      form = in_front bytes text (id_line id) form.0 (kept_line id (made-IsMessageId name text k is_name small));
      id = subst (λ (o : Option (List ℕ)). IsSome o) (sym (made-own name text k is_name small)) refl;
    }

pub taken_are_storage : StoredOnce → FormsAreShort → FieldInFront → IdLineIsKept → TakenAreStorage
taken_are_storage once short in_front kept_line name bytes text is = (as_it_is once short bytes text is, with_id short in_front kept_line name bytes text is)

-- The text that is taken is a storage text, and no entry has its own id.
pub record IsTaken (entries : List Entry) (kept : List ℕ) : Type 0 where
  pub free : IsFree entries kept
  pub storage : IsStorageText kept

module _ (law : TakenAreStorage) (entries : List Entry) (name bytes text : List ℕ) (small : length entries < 2 ^ 63) (is_name : IsArchiveName name) (stored_is : stored bytes ≡ Ok text) where
  with_free : (i : ℕ) (kept : List ℕ) → i ≤ length entries → made_meets entries name text small i ≡ Free → Take (with_made name text i) ≡ Take kept → IsTaken entries kept
  with_free i kept within free e =
      let same : with_made name text i ≡ kept = cc in
      let few : i < 2 ^ 64 = omega (arith, within, small) in
      subst (λ (t : List ℕ). IsTaken entries t) same
      (record { free = (made_id name text i, made-own name text i is_name few, met-free (owner entries (made_id name text i)) (content_id_of text) free); storage = (law name bytes text stored_is).1 is_name i few })

  made_step : (i left : ℕ) (kept : List ℕ) (m : Meeting) → i ≤ length entries → made_meets entries name text small i ≡ m → (made_meets entries name text small i ≡ Other → made_choice entries name text (i + 1) left ≡ Take kept → IsTaken entries kept)
      → decided m (with_made name text i) (made_choice entries name text (i + 1) left) ≡ Take kept → IsTaken entries kept
  made_step i left kept Free within is rest e = with_free i kept within is e
  made_step i left kept (Same n) within is rest e = absurd (cc)
  made_step i left kept Other within is rest e = rest is e

  made_taken : (i left : ℕ) (kept : List ℕ) → i + left ≡ length entries → ((j : ℕ) → j < i → made_meets entries name text small j ≡ Other) → made_choice entries name text i left ≡ Take kept → IsTaken entries kept
  made_taken i zero kept at passed e = with_free i kept (omega (arith, at)) (last_one entries name text small i (omega (arith, at)) passed) e
  made_taken i (suc left) kept at passed e =
      made_step i left kept (made_meets entries name text small i) (omega (arith, at)) refl
      (λ other f. made_taken (i + 1) left kept (omega (arith, at)) (λ j l. below_or_at j i (λ k. made_meets entries name text small k ≡ Other) passed other (omega (arith, l))) f) e

  own_taken : (kept id : List ℕ) (m : Meeting) → own_id text ≡ Some id → met (owner entries id) (content_id_of text) ≡ m → decided m text (made_choice entries name text 0 (length entries)) ≡ Take kept → IsTaken entries kept
  own_taken kept id Free own is e =
      let same : text ≡ kept = cc in
      subst (λ (t : List ℕ). IsTaken entries t) same
      (record { free = (id, own, met-free (owner entries id) (content_id_of text) is); storage = (law name bytes text stored_is).0 (subst (λ (o : Option (List ℕ)). IsSome o) (sym own) refl) })
  own_taken kept id (Same n) own is e = absurd (cc)
  own_taken kept id Other own is e = made_taken 0 (length entries) kept (omega arith) (λ j l. absurd (omega (arith, l))) e

  -- The text that the choice takes is such a text.
  pub taken : (kept : List ℕ) (own : Option (List ℕ)) → own_id text ≡ own → choice_from entries name text own ≡ Take kept → IsTaken entries kept
  taken kept None is e = made_taken 0 (length entries) kept (omega arith) (λ j l. absurd (omega (arith, l))) e
  taken kept (Some id) is e = own_taken kept id (met (owner entries id) (content_id_of text)) is refl e
