-- A thread whose rows are pending, after one part more got its label.
use Rattle.std.proofs.Common.{◌≡◌, ◌⊎◌, ℕ, List, ◌∷◌, length, Some, refl, sym, ◌∙◌, ap, subst, inl, inr, arith}
use Rattle.std.proofs.lemmas.Bool.{cases_eq}
use Rattle.thread_model.specs.Members.{Among, Once}
use Rattle.thread_model.specs.Threads.{KeyedRow, Linked}
use Rattle.thread_model.specs.Labelling.{label_at, label_in, label_or_zero}
use Rattle.thread_model.proofs.Members.{cases_among, take-end}
use Rattle.thread_model.proofs.Rounds.{linked-sym, linked-trans}
use Rattle.thread_index.specs.Lists.{PutsList}
use Rattle.thread_index.specs.Adding.{GiveLabel}
use Rattle.thread_index.specs.Taking.{IsThreadPart, IsPartial}
use Rattle.thread_index.proofs.MapLists.{put-here, put-other}
use Rattle.thread_index.proofs.Added.{label-found, found-label}

module _ (rows : List KeyedRow) (holders : List ℕ → List ℕ) (pending pending' : List ℕ) (labels labels' : List (ℕ × ℕ)) (members members' : ℕ → List ℕ) (seed : ℕ) (part : List ℕ)
    (is : IsPartial rows (seed ∷ pending) labels members holders) (walked : IsThreadPart rows holders pending pending' seed part (length part)) (gives : GiveLabel labels labels' part seed) (puts : PutsList members members' seed part) where
  -- A number that isn't pending any more is in the part, or was not pending before.
  was-shut : (x : ℕ) → (Among pending' x → ⊥) → (Among part x → ⊥) → Among (seed ∷ pending) x → ⊥
  was-shut x shut out p = elim p [
    | inl e ↦ out (subst (Among part) (sym e) walked.seeded)
    | inr h ↦ elim (walked.split x h) [ inl q ↦ shut q | inr a ↦ out a ]
  ]

  part-pending : (x : ℕ) → Among part x → Among (seed ∷ pending) x
  part-pending x a = walked.from x a

  still-shut : (x : ℕ) → (Among (seed ∷ pending) x → ⊥) → Among pending' x → ⊥
  still-shut x shut p = shut (inr (walked.less x p))

  label-part : (x : ℕ) → Among part x → label_in labels' x ≡ seed
  label-part x a = label-found (label_at labels' x) seed (gives.given x a)

  label-other : (x : ℕ) → (Among part x → ⊥) → label_in labels' x ≡ label_in labels x
  label-other x out = ap label_or_zero (gives.kept x out)

  -- No row that wasn't pending has the first row's number for its label.
  not-seed : (r : KeyedRow) → Among rows r → (Among (seed ∷ pending) r.0 → ⊥) → label_in labels r.0 ≡ seed → ⊥
  not-seed r in_r shut e = let t = is.named r in_r shut in t.2 (inl (t.3 ∙ e))

  -- A row of the part shares no key with one that is still pending, or wasn't before.
  part-apart : (r s : KeyedRow) → Among rows r → Among part r.0 → Among rows s → Among pending' s.0 → (k : List ℕ) → Among r.1 k → Among s.1 k → ⊥
  part-apart r s in_r a in_s p k kr ks =
      walked.closed r.0 s.0 (take-end part (length part) r.0 (omega arith) a) (r, k, in_r, refl, kr, is.has.held s k in_s ks) p

  part-old : (r s : KeyedRow) → Among rows r → Among part r.0 → Among rows s → (Among (seed ∷ pending) s.0 → ⊥) → (k : List ℕ) → Among r.1 k → Among s.1 k → ⊥
  part-old r s in_r a in_s shut k kr ks = is.apart s r in_s shut in_r (part-pending r.0 a) k ks kr

  more-sound : (r s : KeyedRow) → Among rows r → (Among pending' r.0 → ⊥) → Among rows s → (Among pending' s.0 → ⊥) → (k : List ℕ) → Among r.1 k → Among s.1 k → label_in labels' r.0 ≡ label_in labels' s.0
  more-sound r s in_r shut_r in_s shut_s k kr ks = elim (cases_among part r.0) [
    | inl a ↦ elim (cases_among part s.0) [
      | inl b ↦ label-part r.0 a ∙ sym (label-part s.0 b)
      | inr out ↦ absurd (part-old r s in_r a in_s (was-shut s.0 shut_s out) k kr ks)
    ]
    | inr out ↦ elim (cases_among part s.0) [
      | inl b ↦ absurd (part-old s r in_s b in_r (was-shut r.0 shut_r out) k ks kr)
      | inr off ↦ label-other r.0 out ∙ is.sound r s in_r (was-shut r.0 shut_r out) in_s (was-shut s.0 shut_s off) k kr ks ∙ sym (label-other s.0 off)
    ]
  ]

  -- The row of the first number.
  seed-row : (z : KeyedRow) × Among rows z × (z.0 ≡ seed)
  seed-row = is.opened seed (inl refl)

  part-tight : (r s : KeyedRow) → Among rows r → Among part r.0 → Among rows s → Among part s.0 → (r ≡ s) ⊎ Linked rows r s
  part-tight r s in_r a in_s b =
      let z = seed-row in
      elim (walked.joined r z.0 in_r a z.1 z.2) [
        | inl e ↦ elim (walked.joined s z.0 in_s b z.1 z.2) [
          | inl f ↦ inl (e ∙ sym f)
          | inr l ↦ inr (linked-sym rows s r (subst (Linked rows s) (sym e) l))
        ]
        | inr l ↦ elim (walked.joined s z.0 in_s b z.1 z.2) [
          | inl f ↦ inr (subst (Linked rows r) (sym f) l)
          | inr m ↦ inr (linked-trans rows r z.0 s z.1 l (linked-sym rows s z.0 m))
        ]
      ]

  more-tight : (r s : KeyedRow) → Among rows r → (Among pending' r.0 → ⊥) → Among rows s → (Among pending' s.0 → ⊥) → label_in labels' r.0 ≡ label_in labels' s.0 → (r ≡ s) ⊎ Linked rows r s
  more-tight r s in_r shut_r in_s shut_s e = elim (cases_among part r.0) [
    | inl a ↦ elim (cases_among part s.0) [
      | inl b ↦ part-tight r s in_r a in_s b
      | inr out ↦ absurd (not-seed s in_s (was-shut s.0 shut_s out) (sym (label-other s.0 out) ∙ sym e ∙ label-part r.0 a))
    ]
    | inr out ↦ elim (cases_among part s.0) [
      | inl b ↦ absurd (not-seed r in_r (was-shut r.0 shut_r out) (sym (label-other r.0 out) ∙ e ∙ label-part s.0 b))
      | inr off ↦ is.tight r s in_r (was-shut r.0 shut_r out) in_s (was-shut s.0 shut_s off) (sym (label-other r.0 out) ∙ e ∙ label-other s.0 off)
    ]
  ]

  more-apart : (r s : KeyedRow) → Among rows r → (Among pending' r.0 → ⊥) → Among rows s → Among pending' s.0 → (k : List ℕ) → Among r.1 k → Among s.1 k → ⊥
  more-apart r s in_r shut in_s p k kr ks = elim (cases_among part r.0) [
    | inl a ↦ part-apart r s in_r a in_s p k kr ks
    | inr out ↦ is.apart r s in_r (was-shut r.0 shut out) in_s (inr (walked.less s.0 p)) k kr ks
  ]

  more-labelled : (r : KeyedRow) → Among rows r → (Among pending' r.0 → ⊥) → label_at labels' r.0 ≡ Some (label_in labels' r.0)
  more-labelled r in_r shut = elim (cases_among part r.0) [
    | inl a ↦ found-label (label_at labels' r.0) seed (gives.given r.0 a)
    | inr out ↦ found-label (label_at labels' r.0) (label_in labels r.0) (gives.kept r.0 out ∙ is.labelled r in_r (was-shut r.0 shut out))
  ]

  list-seed : members' seed ≡ part
  list-seed = put-here members members' seed part puts

  list-rest : (l : ℕ) → (l ≡ seed → ⊥) → members' l ≡ members l
  list-rest l other = put-other members members' seed part puts l other

  more-in : (r : KeyedRow) → Among rows r → (Among pending' r.0 → ⊥) → Among (members' (label_in labels' r.0)) r.0
  more-in r in_r shut = elim (cases_among part r.0) [
    | inl a ↦ subst (λ ns. Among ns r.0) (sym (ap members' (label-part r.0 a) ∙ list-seed)) a
    | inr out ↦
        let before : Among (seed ∷ pending) r.0 → ⊥ = was-shut r.0 shut out in
        let e : members' (label_in labels' r.0) ≡ members (label_in labels r.0) = ap members' (label-other r.0 out) ∙ list-rest (label_in labels r.0) (not-seed r in_r before) in
        subst (λ ns. Among ns r.0) (sym e) (is.in_list r in_r before)
  ]

  part-row : (x : ℕ) → Among part x → (r : KeyedRow) × Among rows r × (r.0 ≡ x)
  part-row x a = is.opened x (part-pending x a)

  more-of : (l x : ℕ) → Among (members' l) x → (r : KeyedRow) × Among rows r × (r.0 ≡ x) × (Among pending' x → ⊥) × (label_in labels' x ≡ l)
  more-of l x in_x = elim (cases_eq l seed) [
    | inl e ↦
        let a : Among part x = subst (λ ns. Among ns x) (ap members' e ∙ list-seed) in_x in
        let r = part-row x a in
        (r.0, r.1, r.2, λ p. walked.apart x p a, label-part x a ∙ sym e)
    | inr other ↦
        let r = is.of_list l x (subst (λ ns. Among ns x) (list-rest l other) in_x) in
        (r.0, r.1, r.2, still-shut x r.3, label-other x (λ a. r.3 (part-pending x a)) ∙ r.4)
  ]

  more-once : (l : ℕ) → Once (members' l)
  more-once l = elim (cases_eq l seed) [
    | inl e ↦ subst Once (sym (ap members' e ∙ list-seed)) walked.once
    | inr other ↦ subst Once (sym (list-rest l other)) (is.once l)
  ]

  more-named : (r : KeyedRow) → Among rows r → (Among pending' r.0 → ⊥) → (s : KeyedRow) × Among rows s × (Among pending' s.0 → ⊥) × (s.0 ≡ label_in labels' r.0) × (label_in labels' s.0 ≡ label_in labels' r.0)
  more-named r in_r shut = elim (cases_among part r.0) [
    | inl a ↦
        let z = seed-row in
        let in_z : Among part z.0.0 = subst (Among part) (sym z.2) walked.seeded in
        (z.0, z.1, λ p. walked.apart z.0.0 p in_z, z.2 ∙ sym (label-part r.0 a), label-part z.0.0 in_z ∙ sym (label-part r.0 a))
    | inr out ↦
        let s = is.named r in_r (was-shut r.0 shut out) in
        let e : label_in labels' r.0 ≡ label_in labels r.0 = label-other r.0 out in
        (s.0, s.1, still-shut s.0.0 s.2, s.3 ∙ sym e, label-other s.0.0 (λ a. s.2 (part-pending s.0.0 a)) ∙ s.4 ∙ sym e)
  ]

  pub partial-more : IsPartial rows pending' labels' members' holders
  partial-more = record {
    sound = more-sound;
    tight = more-tight;
    apart = more-apart;
    labelled = more-labelled;
    in_list = more-in;
    of_list = more-of;
    once = more-once;
    named = more-named;
    opened = λ x p. is.opened x (inr (walked.less x p));
    once_pending = walked.once_pending;
    has = is.has;
  }
