-- An index whose row was taken, with the rest of its thread pending; and one with nothing pending.
use Rattle.std.proofs.Common.{◌≡◌, ◌⊎◌, ℕ, List, [], map, sym, ◌∙◌, ap, subst, inl, inr, nat_cmp}
use Rattle.std.specs.Map.{remove_entry}
use Rattle.std.specs.BTreeMap.{is_at}
use Rattle.std.proofs.lemmas.Bool.{cases_eq}
use Rattle.thread_model.specs.Members.{Among, Once}
use Rattle.thread_model.specs.Threads.{KeyedRow, Linked}
use Rattle.thread_model.specs.Labelling.{label_in}
use Rattle.thread_model.proofs.Numbers.{once-single}
use Rattle.thread_model.proofs.ThreadLabels.{still-linked}
use Rattle.thread_model.proofs.Entries.{removed-cases, removed-kept}
use Rattle.thread_index.specs.Lists.{PutsList}
use Rattle.thread_index.specs.Tables.{IsThreadIndex, AreHolders}
use Rattle.thread_index.specs.Taking.{AreOthers, LetGo, IsPartial}
use Rattle.thread_index.proofs.MapLists.{put-here, put-other}

-- Rows without the row of a number.
pub record Leaves (rows left : List KeyedRow) (n : ℕ) : Type 0 where
  pub cases : (x : KeyedRow) → Among left x → Among rows x × (x.0 ≡ n → ⊥)
  pub kept : (x : KeyedRow) → (x.0 ≡ n → ⊥) → Among rows x → Among left x

pub leaves-row : (rows : List KeyedRow) (n : ℕ) → Once (map (λ (r : KeyedRow). r.0) rows) → Leaves rows (remove_entry (is_at (nat_cmp n)) rows) n
leaves-row rows n once = record {
  cases = removed-cases rows n once;
  kept = removed-kept rows n;
}

module _ (rows left : List KeyedRow) (labels : List (ℕ × ℕ)) (members members' : ℕ → List ℕ) (holders holders' : List ℕ → List ℕ) (n : ℕ) (keys : List (List ℕ)) (pending : List ℕ)
    (is : IsThreadIndex rows labels members holders) (taken : Among rows (n, keys)) (leaves : Leaves rows left n) (distinct : Once (map (λ (r : KeyedRow). r.0) left))
    (puts : PutsList members members' (label_in labels n) []) (are : AreOthers (members (label_in labels n)) n pending) (go : LetGo holders holders' keys n) where
  -- A pending row had the label of the one that was taken.
  pending-label : (x : ℕ) → Among pending x → label_in labels x ≡ label_in labels n
  pending-label x p = let r = is.of_list (label_in labels n) x (are.to x p).0 in r.3

  -- A row that is left and had that label is pending.
  label-pending : (r : KeyedRow) → Among left r → label_in labels r.0 ≡ label_in labels n → Among pending r.0
  label-pending r in_r e =
      let c = leaves.cases r in_r in
      are.from r.0 (subst (λ l. Among (members l) r.0) e (is.in_list r c.0)) c.1

  shut-label : (r : KeyedRow) → Among left r → (Among pending r.0 → ⊥) → label_in labels r.0 ≡ label_in labels n → ⊥
  shut-label r in_r shut e = shut (label-pending r in_r e)

  left-kept : (x : KeyedRow) → Among rows x → (label_in labels x.0 ≡ label_in labels n → ⊥) → Among left x
  left-kept x in_x other = leaves.kept x (λ e. other (ap (label_in labels) e)) in_x

  left-tight : (r s : KeyedRow) → Among left r → (Among pending r.0 → ⊥) → Among left s → (Among pending s.0 → ⊥) → label_in labels r.0 ≡ label_in labels s.0 → (r ≡ s) ⊎ Linked left r s
  left-tight r s in_r shut_r in_s shut_s e =
      let cr = leaves.cases r in_r in
      let cs = leaves.cases s in_s in
      elim (is.threads.tight r s cr.0 cs.0 e) [
        | inl one ↦ inl one
        | inr l ↦ inr (still-linked rows left (label_in labels) (label_in labels n) is.threads left-kept r s cr.0 cs.0 (shut-label r in_r shut_r) (shut-label s in_s shut_s) l)
      ]

  left-apart : (r s : KeyedRow) → Among left r → (Among pending r.0 → ⊥) → Among left s → Among pending s.0 → (k : List ℕ) → Among r.1 k → Among s.1 k → ⊥
  left-apart r s in_r shut in_s p k kr ks =
      shut (label-pending r in_r (is.threads.sound r s (leaves.cases r in_r).0 (leaves.cases s in_s).0 k kr ks ∙ pending-label s.0 p))

  left-list : (l : ℕ) → (l ≡ label_in labels n → ⊥) → members' l ≡ members l
  left-list l other = put-other members members' (label_in labels n) [] puts l other

  left-in : (r : KeyedRow) → Among left r → (Among pending r.0 → ⊥) → Among (members' (label_in labels r.0)) r.0
  left-in r in_r shut = subst (λ ns. Among ns r.0) (sym (left-list (label_in labels r.0) (shut-label r in_r shut))) (is.in_list r (leaves.cases r in_r).0)

  left-of : (l x : ℕ) → Among (members' l) x → (r : KeyedRow) × Among left r × (r.0 ≡ x) × (Among pending x → ⊥) × (label_in labels x ≡ l)
  left-of l x in_x = elim (cases_eq l (label_in labels n)) [
    | inl e ↦ absurd (subst (λ ns. Among ns x) (ap members' e ∙ put-here members members' (label_in labels n) [] puts) in_x)
    | inr other ↦
        let r = is.of_list l x (subst (λ ns. Among ns x) (left-list l other) in_x) in
        (r.0, leaves.kept r.0 (λ e. other (sym r.3 ∙ ap (label_in labels) (sym r.2 ∙ e))) r.1, r.2, λ p. other (sym r.3 ∙ pending-label x p), r.3)
  ]

  left-once : (l : ℕ) → Once (members' l)
  left-once l = elim (cases_eq l (label_in labels n)) [
    | inl e ↦ subst Once (sym (ap members' e ∙ put-here members members' (label_in labels n) [] puts)) tt
    | inr other ↦ subst Once (sym (left-list l other)) (is.once l)
  ]

  left-named : (r : KeyedRow) → Among left r → (Among pending r.0 → ⊥) → (s : KeyedRow) × Among left s × (Among pending s.0 → ⊥) × (s.0 ≡ label_in labels r.0) × (label_in labels s.0 ≡ label_in labels r.0)
  left-named r in_r shut =
      let s = is.named r (leaves.cases r in_r).0 in
      let other : label_in labels r.0 ≡ label_in labels n → ⊥ = shut-label r in_r shut in
      (s.0, left-kept s.0 s.1 (λ e. other (sym s.3 ∙ e)), λ p. other (sym s.3 ∙ pending-label s.0.0 p), s.2, s.3)

  left-opened : (x : ℕ) → Among pending x → (r : KeyedRow) × Among left r × (r.0 ≡ x)
  left-opened x p =
      let o = are.to x p in
      let r = is.of_list (label_in labels n) x o.0 in
      (r.0, leaves.kept r.0 (λ e. o.1 (sym r.2 ∙ e)) r.1, r.2)

  left-holders : AreHolders left holders'
  left-holders = record {
    distinct = distinct;
    held = λ r k in_r in_k. let c = leaves.cases r in_r in go.kept k r.0 (is.has.held r k c.0 in_k) c.1;
    holds = λ k x in_x.
        let r = is.has.holds k x (go.less k x in_x) in (
          r.0,
          leaves.kept r.0 (λ e.
              let same : r.0 ≡ (n, keys) = once-single (λ (y : KeyedRow). y.0) rows is.has.distinct r.0 (n, keys) r.1 taken e in
              go.gone k (subst (λ (y : KeyedRow). Among y.1 k) same r.3) (subst (Among (holders' k)) (sym r.2 ∙ e) in_x)) r.1,
          r.2,
          r.3,
        );
  }

  pub partial-begins : IsPartial left pending labels members' holders'
  partial-begins = record {
    sound = λ r s in_r shut_r in_s shut_s. is.threads.sound r s (leaves.cases r in_r).0 (leaves.cases s in_s).0;
    tight = left-tight;
    apart = left-apart;
    labelled = λ r in_r shut. is.labelled r (leaves.cases r in_r).0;
    in_list = left-in;
    of_list = left-of;
    once = left-once;
    named = left-named;
    opened = left-opened;
    once_pending = are.once;
    has = left-holders;
  }

-- With nothing pending it is an index.
pub partial-ends : (rows : List KeyedRow) (labels : List (ℕ × ℕ)) (members : ℕ → List ℕ) (holders : List ℕ → List ℕ) → IsPartial rows [] labels members holders → IsThreadIndex rows labels members holders
partial-ends rows labels members holders is = record {
  threads = record {
    sound = λ r s in_r in_s. is.sound r s in_r (λ none. none) in_s (λ none. none);
    tight = λ r s in_r in_s. is.tight r s in_r (λ none. none) in_s (λ none. none);
  };
  labelled = λ r in_r. is.labelled r in_r (λ none. none);
  in_list = λ r in_r. is.in_list r in_r (λ none. none);
  of_list = λ l n in_n. let r = is.of_list l n in_n in (r.0, r.1, r.2, r.4);
  once = is.once;
  named = λ r in_r. let s = is.named r in_r (λ none. none) in (s.0, s.1, s.3, s.4);
  has = is.has;
}
