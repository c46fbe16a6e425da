-- What the tables show of a row and of a key.
use Rattle.std.proofs.Common.{◌≡◌, ◌⊎◌, ℕ, Bool, true, false, cond, List, [], ◌∷◌, ◌++◌, map, Option, Some, None, is_some, refl, sym, ◌∙◌, ap, subst, inl, inr, nat_cmp, MatchBool}
use Rattle.std.specs.Map.{lookup, remove_entry}
use Rattle.std.specs.BTreeMap.{is_at}
use Rattle.std.proofs.lemmas.Bool.{false≢true}
use Rattle.thread_model.specs.Members.{Among, Rises}
use Rattle.thread_model.specs.Threads.{KeyedRow, thread, shares, reached}
use Rattle.thread_model.specs.Labelling.{label_at, label_in}
use Rattle.thread_model.proofs.Members.{among-left, among-push, among-pushed, among-map, among-mapped, among-filter, among-filtered}
use Rattle.thread_model.proofs.Numbers.{rises-filter, rises-same}
use Rattle.thread_model.proofs.Entries.{lookup-among, lookup-none, at-true}
use Rattle.thread_model.proofs.Rounds.{thread-row, thread-linked, linked-thread, reached-none, reached-begin, shares-key, key-shares}
use Rattle.thread_model.proofs.ThreadLabels.{linked-label}
use Rattle.thread_index.specs.Index.{IsLabelOf, IsNew, ListsThread, OrdersNumbers, members_of, keys_of_row}
use Rattle.thread_index.specs.Adding.{NotesLabel}
use Rattle.thread_index.specs.Tables.{IsThreadIndex, IsLabelOfKey}

-- A row of a number is there, or not.
pub row-or-new : (rows : List KeyedRow) (n : ℕ) → ((keys : List (List ℕ)) × (lookup (is_at (nat_cmp n)) rows ≡ Some keys) × Among rows (n, keys)) ⊎ ((lookup (is_at (nat_cmp n)) rows ≡ None) × IsNew rows n)
row-or-new rows n = by (lookup (is_at (nat_cmp n)) rows) refl
  where
    by : (found : Option (List (List ℕ))) → lookup (is_at (nat_cmp n)) rows ≡ found → ((keys : List (List ℕ)) × (lookup (is_at (nat_cmp n)) rows ≡ Some keys) × Among rows (n, keys)) ⊎ ((lookup (is_at (nat_cmp n)) rows ≡ None) × IsNew rows n)
    by None e = inr (e, lookup-none rows n e)
    by (Some keys) e = inl (keys, e, lookup-among rows n keys e)

has-by : (A B : Type 0) (b : Bool) → (b ≡ true → A) → (b ≡ false → B) → MatchBool b A B
has-by A B true f g = f refl
has-by A B false f g = g refl

pub has-row : (rows : List KeyedRow) (n : ℕ) (b : Bool) → b ≡ is_some (lookup (is_at (nat_cmp n)) rows) → MatchBool b (IsNew rows n → ⊥) (IsNew rows n)
has-row rows n b is = elim (row-or-new rows n) [
  | inl r ↦ has-by (IsNew rows n → ⊥) (IsNew rows n) b (λ t new. new (n, r.0) r.2 refl) (λ f. absurd (false≢true (sym f ∙ is ∙ ap is_some r.1)))
  | inr none ↦ has-by (IsNew rows n → ⊥) (IsNew rows n) b (λ t. absurd (false≢true (sym (ap is_some none.0) ∙ sym is ∙ t))) (λ f. none.1)
]

-- The label of a row that is there.
pub label-shown : (rows : List KeyedRow) (labels : List (ℕ × ℕ)) (members : ℕ → List ℕ) (holders : List ℕ → List ℕ) → IsThreadIndex rows labels members holders → (n : ℕ) → (IsNew rows n → ⊥) → (found : Option ℕ) → found ≡ label_at labels n → IsLabelOf rows labels n found
label-shown rows labels members holders is n there found e = elim (row-or-new rows n) [
  | inl r ↦ subst (IsLabelOf rows labels n) (sym (e ∙ is.labelled (n, r.0) r.2)) (refl, ((n, r.0), r.2, refl))
  | inr none ↦ absurd (there none.1)
]

-- The label of the first row that has a key.
pub key-shown : (rows : List KeyedRow) (labels : List (ℕ × ℕ)) (members : ℕ → List ℕ) (holders : List ℕ → List ℕ) → IsThreadIndex rows labels members holders → (key : List ℕ) (first : ℕ) → Among (holders key) first → (found : Option ℕ) → found ≡ label_at labels first → IsLabelOfKey rows labels key found
key-shown rows labels members holders is key first in_first found e =
    let r = is.has.holds key first in_first in
    let at : found ≡ Some (label_in labels first) = e ∙ ap (label_at labels) (sym r.2) ∙ is.labelled r.0 r.1 ∙ ap (λ (n : ℕ). Some (label_in labels n)) r.2 in
    subst (IsLabelOfKey rows labels key) (sym at) (r.0, r.1, r.3, ap (label_in labels) r.2)

-- A label that was noted.
pub notes-label : (rows : List KeyedRow) (labels : List (ℕ × ℕ)) (members : ℕ → List ℕ) (holders : List ℕ → List ℕ) → IsThreadIndex rows labels members holders → (key : List ℕ) (label : ℕ) → (r : KeyedRow) → Among rows r → Among r.1 key → label_in labels r.0 ≡ label → (old new : List ℕ) → new ≡ old ++ label ∷ [] → NotesLabel rows labels key old new
notes-label rows labels members holders is key label r in_r has_key own old new pushed = record {
  kept = λ l h. subst (λ ns. Among ns l) (sym pushed) (among-left old (label ∷ []) l h);
  hit = λ s in_s in_key. subst (λ ns. Among ns (label_in labels s.0)) (sym pushed)
      (subst (Among (old ++ label ∷ [])) (sym own ∙ is.threads.sound r s in_r in_s key has_key in_key) (among-pushed old label));
  only = λ l h. elim (among-push old label l (subst (λ ns. Among ns l) pushed h)) [
    | inl a ↦ inl a
    | inr e ↦ inr (r, in_r, own ∙ sym e, has_key)
  ];
}

-- A row that isn't there, or has no keys, shows no thread.
pub lists-none : (rows : List KeyedRow) (n : ℕ) → keys_of_row rows n ≡ [] → ListsThread rows n []
lists-none rows n none = record {
  to = λ m h. absurd h;
  from = λ m h.
      let r = among-mapped (λ (x : KeyedRow). x.0) (thread rows (keys_of_row rows n)) m h in
      let s = among-filter (shares (reached rows (keys_of_row rows n))) rows r.0 r.1 in
      let k = shares-key (reached rows (keys_of_row rows n)) r.0 s.1 in
      absurd (reached-none rows k.0 (subst (λ (keys : List (List ℕ)). Among (reached rows keys) k.0) none k.2));
}

first-key : (keys : List (List ℕ)) → (keys ≡ [] → ⊥) → (k : List ℕ) × Among keys k
first-key [] some = absurd (some refl)
first-key (k ∷ keys) some = (k, inl refl)

-- The list of a row's label shows its thread.
module _ (rows : List KeyedRow) (labels : List (ℕ × ℕ)) (members : ℕ → List ℕ) (holders : List ℕ → List ℕ) (is : IsThreadIndex rows labels members holders) (n : ℕ) (keys : List (List ℕ)) (in_row : Among rows (n, keys)) (some : keys ≡ [] → ⊥) where
  thread-of : (m : ℕ) → Among (members (label_in labels n)) m → Among (map (λ (x : KeyedRow). x.0) (thread rows keys)) m
  thread-of m h =
      let r = is.of_list (label_in labels n) m h in
      let e : label_in labels n ≡ label_in labels r.0.0 = sym r.3 ∙ ap (label_in labels) (sym r.2) in
      subst (Among (map (λ (x : KeyedRow). x.0) (thread rows keys))) r.2 (among-map (λ (x : KeyedRow). x.0) (thread rows keys) r.0 (elim (is.threads.tight (n, keys) r.0 in_row r.1 e) [
        | inl one ↦
            let k = first-key keys some in
            among-filtered (shares (reached rows keys)) rows r.0 r.1
            (key-shares (reached rows keys) r.0 k.0 (subst (λ (x : KeyedRow). Among x.1 k.0) one k.1) (reached-begin rows keys k.0 k.1))
        | inr l ↦ linked-thread rows (n, keys) r.0 r.1 l
      ]))

  in-members : (m : ℕ) → Among (map (λ (x : KeyedRow). x.0) (thread rows keys)) m → Among (members (label_in labels n)) m
  in-members m h =
      let r = among-mapped (λ (x : KeyedRow). x.0) (thread rows keys) m h in
      let in_r = thread-row rows keys r.0 r.1 in
      let e : label_in labels n ≡ label_in labels r.0.0 = linked-label rows (label_in labels) is.threads (n, keys) r.0 in_row in_r (thread-linked rows (n, keys) r.0 in_row r.1) in
      subst (Among (members (label_in labels n))) r.2 (subst (λ l. Among (members l) r.0.0) (sym e) (is.in_list r.0 in_r))

  pub lists-thread : (list : List ℕ) → list ≡ members (label_in labels n) → keys_of_row rows n ≡ keys → ListsThread rows n list
  lists-thread list is_list is_keys = record {
    to = λ m h. subst (λ (ks : List (List ℕ)). Among (map (λ (x : KeyedRow). x.0) (thread rows ks)) m) (sym is_keys) (thread-of m (subst (λ ns. Among ns m) is_list h));
    from = λ m h. subst (λ ns. Among ns m) (sym is_list) (in-members m (subst (λ (ks : List (List ℕ)). Among (map (λ (x : KeyedRow). x.0) (thread rows ks)) m) is_keys h));
  }

-- No row is removed where none has the number.
removed-idle-by : {X : Type 0} (e : ℕ × X) (es : List (ℕ × X)) (n : ℕ) (t : Bool) → is_at (nat_cmp n) e.0 ≡ t → (e.0 ≡ n → ⊥) → remove_entry (is_at (nat_cmp n)) es ≡ es → cond t es (e ∷ remove_entry (is_at (nat_cmp n)) es) ≡ e ∷ es
removed-idle-by e es n true at other ih = absurd (other (sym (at-true n e.0 at)))
removed-idle-by {X = X} e es n false at other ih = ap (λ (xs : List (ℕ × X)). e ∷ xs) ih

pub removed-idle : {X : Type 0} (es : List (ℕ × X)) (n : ℕ) → ((x : ℕ × X) → Among es x → x.0 ≡ n → ⊥) → remove_entry (is_at (nat_cmp n)) es ≡ es
removed-idle [] n none = refl
removed-idle (e ∷ es) n none = removed-idle-by e es n (is_at (nat_cmp n) e.0) refl (none e (inl refl)) (removed-idle es n (λ x h. none x (inr h)))

-- A list that shows a thread in rising order is the thread's list of numbers.
pub shown-order : (rows : List KeyedRow) (n : ℕ) (list ordered : List ℕ) → Rises (map (λ (r : KeyedRow). r.0) rows) → ListsThread rows n list → OrdersNumbers list ordered → ordered ≡ members_of rows n
shown-order rows n list ordered rises shows is =
    rises-same ordered (members_of rows n) is.rises (rises-filter (λ (r : KeyedRow). r.0) (shares (reached rows (keys_of_row rows n))) rows rises)
    (λ m h. shows.to m (is.to m h)) (λ m h. is.from m (shows.from m h))
