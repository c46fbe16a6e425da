-- An index after a removal.
use Rattle.std.proofs.Common.{◌≡◌, ◌≢◌, ◌+◌, ◌<◌, ◌≤◌, ◌==◌, ℕ, Bool, true, false, not, ◌&&◌, List, [], ◌∷◌, ◌++◌, length, Option, Some, None, option_map, refl, sym, ◌∙◌, ap, subst, arith, if◌then◌else◌}
use Rattle.std.specs.Str.{bytes_eq}
use Rattle.std.specs.List.{AllByRecursion}
use Rattle.std.proofs.lemmas.Bool.Decides.{nat_tests}
use Rattle.std.proofs.lemmas.Slice.Eq.{bytes_eq-Decides}
use Rattle.arch_base.specs.Ids.{id_eq}
use Rattle.arch_base.specs.declared.ids.ObjectId.{ObjectId}
use Rattle.arch_base.specs.declared.ids.Form.{Form}
use Rattle.arch_base.proofs.IdOrder.{id_eq-Decides}
use Rattle.mail_reader.specs.Ids.{own_id}
use Rattle.git_objects.specs.Objects.{blob_id_of}
use Rattle.git_objects.specs.declared.entry_kind.EntryKind.{EntryKind}
use Rattle.git_objects.specs.declared.entry_kind.EntryKind.TheVariants.{Message, Deletion}
use Rattle.arch_model.specs.Archives.{Entry, deletion, is_message, is_ended, is_id, live, text_of, owner, blob_number}
use Rattle.arch_model.specs.Validity.{NumberIsFrom, number_after, Rise, IdsDiffer}
use Rattle.arch_model.proofs.LiveEntries.{without, live-deletion, found-has, live-has, all-text}
use Rattle.arch_model.proofs.Shelving.{has-blob}
use Rattle.arch_judge.specs.Indexes.{IsArchiveIndex, IndexLoses, owner_of}
use Rattle.arch_judge.specs.declared.index.Index.{Index}
use Rattle.arch_judge.specs.declared.index.Owner.{Owner}
use Rattle.arch_judge.proofs.Indexes.{blob_number-push}
use Rattle.arch_judge.proofs.Maps.{kept_put}

-- The numbers of entries rise, each from this one on.
abbrev pub Ascend : ℕ → List Entry → Type 0
Ascend number [] = Unit {0}
Ascend number (e ∷ es) = (number ≤ e.number) × Ascend (e.number + 1) es

pub ascend-low : (low number : ℕ) (es : List Entry) → low ≤ number → Ascend number es → Ascend low es
ascend-low low number [] less ascend = tt
ascend-low low number (e ∷ es) less ascend = (let above : number ≤ e.number = ascend.0 in omega (arith, less, above), ascend.1)

ascend_step : (k : EntryKind) (ended : Bool) (number : ℕ) (e : Entry) (xs : List Entry) → NumberIsFrom k number e.number → Ascend (number_after k number e.number) xs → Ascend number (if is_message k && not ended then e ∷ xs else xs)
ascend_step Message true number e xs low rest = ascend-low number (e.number + 1) xs (omega (arith, low)) rest
ascend_step Message false number e xs low rest = (low, rest)
ascend_step Deletion ended number e xs low rest = rest

-- The numbers of live entries rise.
pub live-ascend : (number epoch : ℕ) (es : List Entry) → Rise number epoch es → Ascend number (live es)
live-ascend number epoch [] rise = tt
live-ascend number epoch (e ∷ es) rise = ascend_step e.kind (is_ended es e.number) number e (live es) rise.0 (live-ascend (number_after e.kind number e.number) e.epoch es rise.2)

fewer_step : (t : Bool) (e : Entry) (xs es : List Entry) → length xs ≤ length es → length (if t then e ∷ xs else xs) ≤ length (e ∷ es)
fewer_step true e xs es few = omega (arith, few)
fewer_step false e xs es few = omega (arith, few)

-- There are at most as many live entries as entries.
pub live-few : (es : List Entry) → length (live es) ≤ length es
live-few [] = omega arith
live-few (e ∷ es) = fewer_step (is_message e.kind && not (is_ended es e.number)) e (live es) es (live-few es)

-- Entries with numbers above one are without it.
without-none : (es : List Entry) (n number : ℕ) → Ascend number es → n < number → without n es ≡ es
without-none [] n number ascend less = refl
without-none (e ∷ es) n number ascend less =
    let above : number ≤ e.number = ascend.0 in
    let other : (e.number == n) ≡ false = grind (arith, nat_tests, above, less) in
    ap (λ (t : Bool). if t then without n es else e ∷ without n es) other
    ∙ ap (λ (l : List Entry). e ∷ l) (without-none es n (e.number + 1) ascend.1 (omega (arith, above, less)))

-- An own id that isn't this one.
other_id : (q : List ℕ) (own : Option (List ℕ)) → (own ≡ Some q → ⊥) → is_id q own ≡ false
other_id q None apart = refl
other_id q (Some id) apart = by (bytes_eq q id) refl where
  by : (t : Bool) → bytes_eq q id ≡ t → bytes_eq q id ≡ false
  by false test = test
  by true test = absurd (apart (ap Some (sym ((bytes_eq-Decides q id).0 test))))

skip_step : (t : Bool) (e : Entry) (found : Option Entry) → t ≡ false → found ≡ None → (if t then Some e else found) ≡ None
skip_step true e found never none = absurd (cc)
skip_step false e found never none = none

-- Where each own id is another, none has this one.
pub owner-none : (es : List Entry) (own : Option (List ℕ)) (q : List ℕ) → AllByRecursion (λ (f : Entry). own_id f.text ≢ own) es → own ≡ Some q → owner es q ≡ None
owner-none [] own q apart is = refl
owner-none (e ∷ es) own q apart is = skip_step (is_id q (own_id e.text)) e (owner es q) (other_id q (own_id e.text) (λ same. apart.0 (same ∙ sym is))) (owner-none es own q apart.1 is)

lone_step : (t : Bool) (e : Entry) (found : Option Entry) → (t ≡ true → found ≡ None) → found ≡ (if t then None else (if t then Some e else found))
lone_step true e found none = none refl
lone_step false e found none = refl

-- The entry with the number is the first.
ended_here : (n : ℕ) (own q : List ℕ) (e : Entry) (es : List Entry) → own_id e.text ≡ Some own → AllByRecursion (λ (f : Entry). own_id f.text ≢ own_id e.text) es → without n es ≡ es
    → owner (without n es) q ≡ (if bytes_eq q own then None else (if is_id q (own_id e.text) then Some e else owner es q))
ended_here n own q e es own_is apart same =
    ap (λ (l : List Entry). owner l q) same
    ∙ lone_step (bytes_eq q own) e (owner es q) (λ yes. owner-none es (own_id e.text) q apart (own_is ∙ ap Some (sym ((bytes_eq-Decides q own).0 yes))))
    ∙ ap (λ (o : Option (List ℕ)). if bytes_eq q own then None else (if is_id q o then Some e else owner es q)) (sym own_is)

later_step : (t u : Bool) (e : Entry) (found less : Option Entry) → (t ≡ true → u ≡ false) → less ≡ (if t then None else found) → (if u then Some e else less) ≡ (if t then None else (if u then Some e else found))
later_step true true e found less apart is = absurd (let wrong : true ≡ false = apart refl in cc)
later_step true false e found less apart is = is
later_step false true e found less apart is = refl
later_step false false e found less apart is = is

ended_step : (t : Bool) (n : ℕ) (text own q : List ℕ) (e : Entry) (es : List Entry) → own_id text ≡ Some own → AllByRecursion (λ (f : Entry). own_id f.text ≢ own_id e.text) es → (t ≡ true → without n es ≡ es)
    → (text_of es n ≡ Some text → owner (without n es) q ≡ (if bytes_eq q own then None else owner es q)) → (if t then Some e.text else text_of es n) ≡ Some text
    → owner (if t then without n es else e ∷ without n es) q ≡ (if bytes_eq q own then None else (if is_id q (own_id e.text) then Some e else owner es q))
ended_step true n text own q e es own_is apart same rest is =
    let text_is : e.text ≡ text = cc in
    ended_here n own q e es (ap own_id text_is ∙ own_is) apart (same refl)
ended_step false n text own q e es own_is apart same rest is =
    later_step (bytes_eq q own) (is_id q (own_id e.text)) e (owner es q) (owner (without n es) q)
    (λ yes. other_id q (own_id e.text) (λ here. all-text (λ (t : List ℕ). own_id t ≢ own_id e.text) es text apart (found-has es n text is) (own_is ∙ ap Some (sym ((bytes_eq-Decides q own).0 yes)) ∙ sym here)))
    (rest is)

-- Without the entry of a number, no entry has its own id, and each other id has its owner.
pub owner-without : (es : List Entry) (n number : ℕ) (text own q : List ℕ) → IdsDiffer es → Ascend number es → text_of es n ≡ Some text → own_id text ≡ Some own → owner (without n es) q ≡ (if bytes_eq q own then None else owner es q)
owner-without [] n number text own q differ ascend is own_is = absurd (cc)
owner-without (e ∷ es) n number text own q differ ascend is own_is =
    ended_step (e.number == n) n text own q e es own_is differ.0
    (λ yes. (let same : e.number ≡ n = grind (arith, nat_tests, yes) in without-none es n (e.number + 1) ascend.1 (omega (arith, same))))
    (λ more. owner-without es n (e.number + 1) text own q differ.1 ascend.1 more own_is)
    is

lose_step : (t : Bool) (found : Option Entry) → (if t then None else option_map owner_of found) ≡ option_map owner_of (if t then None else found)
lose_step true found = refl
lose_step false found = refl

-- An index that lost the own id of a live message is the index after the deletion of that message.
pub IsArchiveIndex-ends : {form : Form} (es : List Entry) (n epoch : ℕ) (text : List ℕ) (moment number first : ℕ) (old new : Index) (own : List ℕ) → IsArchiveIndex form es old → Rise number first es → IdsDiffer (live es) → text_of (live es) n ≡ Some text → own_id text ≡ Some own → IndexLoses old new own
    → IsArchiveIndex form (es ++ deletion n epoch text moment ∷ []) new
IsArchiveIndex-ends {form} es n epoch text moment number first old new own is rise differ shown own_is lost = record {
  owners = λ q.
      lost.owners q
      ∙ ap (λ (f : Option Owner). if bytes_eq q own then None else f) (is.owners q)
      ∙ lose_step (bytes_eq q own) (owner (live es) q)
      ∙ ap (option_map owner_of) (sym (ap (λ (l : List Entry). owner l q) (live-deletion es n epoch text moment) ∙ owner-without (live es) n number text own q differ (live-ascend number first es rise) shown own_is));
  blobs = λ q.
      lost.blobs q
      ∙ is.blobs q
      ∙ kept_put (id_eq q (blob_id_of form text)) n (blob_number form es q)
      (λ yes none. has-blob form es text (live-has es text (found-has (live es) n text shown)) (subst (λ (b : ObjectId). blob_number form es b ≡ None) ((id_eq-Decides q (blob_id_of form text)).0 yes) none))
      ∙ sym (blob_number-push form es (deletion n epoch text moment) q);
}
