-- The tables after a row was added.
use Rattle.std.proofs.Common.{◌≡◌, ℕ, List, [], ◌∷◌, ◌++◌, map, Option, Some, refl, sym, ◌∙◌, ap, subst, inl, inr, nat_cmp}
use Rattle.std.specs.BTreeMap.{insert_entry}
use Rattle.std.proofs.lemmas.Bool.{cases_eq}
use Rattle.thread_model.specs.Members.{Among, Once}
use Rattle.thread_model.specs.Threads.{KeyedRow}
use Rattle.thread_model.specs.Labelling.{IsLabelling, IsTouched, label_at, label_in, label_or_zero}
use Rattle.thread_model.proofs.Members.{among-left, among-right, among-append, among-push, among-pushed, cases_among}
use Rattle.thread_model.proofs.Numbers.{once-append, once-push}
use Rattle.thread_model.proofs.ThreadLabels.{Adds, Relabels, joins}
use Rattle.thread_model.proofs.Entries.{insert-cases, insert-here, insert-kept}
use Rattle.thread_index.specs.Lists.{PutsList}
use Rattle.thread_index.specs.Index.{IsNew}
use Rattle.thread_index.specs.Tables.{IsThreadIndex, AreHolders}
use Rattle.thread_index.specs.Adding.{IsTarget, Gathers, GiveLabel, HeldBy}
use Rattle.thread_index.proofs.MapLists.{put-here, put-other}

pub label-found : (found : Option ℕ) (label : ℕ) → found ≡ Some label → label_or_zero found ≡ label
label-found found label is = ap label_or_zero is

pub found-label : (found : Option ℕ) (label : ℕ) → found ≡ Some label → found ≡ Some (label_or_zero found)
found-label found label is = is ∙ ap Some (sym (label-found found label is))

-- A row of a new number, inserted.
pub adds-row : (rows : List KeyedRow) (n : ℕ) (keys : List (List ℕ)) → IsNew rows n → Adds rows (insert_entry nat_cmp rows n keys) (n, keys)
adds-row rows n keys new = record {
  cases = insert-cases rows n keys new;
  here = insert-here rows n keys new;
  kept = insert-kept rows n keys new;
}

module _ (rows later : List KeyedRow) (labels labels' : List (ℕ × ℕ)) (members mid members' : ℕ → List ℕ) (holders holders' : List ℕ → List ℕ) (n : ℕ) (keys : List (List ℕ)) (touched : List ℕ) (target : ℕ) (moved : List ℕ)
    (is : IsThreadIndex rows labels members holders) (new : IsNew rows n) (adds : Adds rows later (n, keys)) (distinct : Once (map (λ (r : KeyedRow). r.0) later))
    (hits : IsTouched rows (label_in labels) keys touched) (goal : IsTarget members touched n target) (gathers : Gathers members mid touched target moved)
    (gives : GiveLabel labels labels' (moved ++ n ∷ []) target) (puts : PutsList mid members' target (mid target ++ (moved ++ n ∷ []))) (holds : HeldBy holders holders' keys n) where
  -- A moved row had a touched label that isn't the target.
  moved-row : (x : ℕ) → Among moved x → (r : KeyedRow) × Among rows r × (r.0 ≡ x) × Among touched (label_in labels r.0) × (label_in labels r.0 ≡ target → ⊥)
  moved-row x in_x =
      let g = gathers.from x in_x in
      let r = is.of_list g.0 x g.3 in
      let e : label_in labels r.0.0 ≡ g.0 = ap (label_in labels) r.2 ∙ r.3 in
      (r.0, r.1, r.2, subst (Among touched) (sym e) g.1, λ t. g.2 (sym e ∙ t))

  label-given : (x : ℕ) → Among (moved ++ n ∷ []) x → label_in labels' x ≡ target
  label-given x in_x = label-found (label_at labels' x) target (gives.given x in_x)

  label-kept : (x : ℕ) → (Among (moved ++ n ∷ []) x → ⊥) → label_in labels' x ≡ label_in labels x
  label-kept x f = ap label_or_zero (gives.kept x f)

  label-new : label_in labels' n ≡ target
  label-new = label-given n (among-pushed moved n)

  label-moved : (s : KeyedRow) → Among rows s → Among touched (label_in labels s.0) → label_in labels' s.0 ≡ target
  label-moved s in_s t = elim (cases_among (moved ++ n ∷ []) s.0) [
    | inl a ↦ label-given s.0 a
    | inr f ↦ elim (cases_eq (label_in labels s.0) target) [
      | inl e ↦ label-kept s.0 f ∙ e
      | inr other ↦ absurd (f (among-left moved (n ∷ []) s.0 (gathers.all (label_in labels s.0) s.0 t other (is.in_list s in_s))))
    ]
  ]

  not-moved : (s : KeyedRow) → Among rows s → (Among touched (label_in labels s.0) → ⊥) → Among (moved ++ n ∷ []) s.0 → ⊥
  not-moved s in_s f in_moved = elim (among-push moved n s.0 in_moved) [
    | inl a ↦ let r = moved-row s.0 a in f (subst (λ x. Among touched (label_in labels x)) r.2 r.3)
    | inr e ↦ new s in_s e
  ]

  label-stays : (s : KeyedRow) → Among rows s → (Among touched (label_in labels s.0) → ⊥) → label_in labels' s.0 ≡ label_in labels s.0
  label-stays s in_s f = label-kept s.0 (not-moved s in_s f)

  label-apart : (s : KeyedRow) → Among rows s → (Among touched (label_in labels s.0) → ⊥) → label_in labels s.0 ≡ target → ⊥
  label-apart s in_s f e = elim goal.some [
    | inl t ↦ f (subst (Among touched) (sym e) t)
    | inr w ↦ let t = is.named s in_s in new t.0 t.1 (t.2 ∙ e ∙ w.1)
  ]

  relabels : Relabels rows (label_in labels) (label_in labels') touched target n
  relabels = record { new' = label-new; moved = label-moved; stays = label-stays; apart = label-apart }

  labels-later : IsLabelling later (label_in labels')
  labels-later = joins rows later (n, keys) (label_in labels) (label_in labels') touched target is.threads adds hits relabels

  labelled-later : (r : KeyedRow) → Among later r → label_at labels' r.0 ≡ Some (label_in labels' r.0)
  labelled-later r in_r = elim (cases_among (moved ++ n ∷ []) r.0) [
    | inl a ↦ found-label (label_at labels' r.0) target (gives.given r.0 a)
    | inr f ↦ elim (adds.cases r in_r) [
      | inl e ↦ absurd (f (subst (Among (moved ++ n ∷ [])) (sym (ap (λ (x : KeyedRow). x.0) e)) (among-pushed moved n)))
      | inr old ↦ found-label (label_at labels' r.0) (label_in labels r.0) (gives.kept r.0 f ∙ is.labelled r old)
    ]
  ]

  -- The lists of the target, and of another label.
  list-target : members' target ≡ mid target ++ (moved ++ n ∷ [])
  list-target = put-here mid members' target (mid target ++ (moved ++ n ∷ [])) puts

  mid-target : mid target ≡ members target
  mid-target = gathers.stay target (λ a. refl)

  list-other : (l : ℕ) → (l ≡ target → ⊥) → members' l ≡ mid l
  list-other l other = put-other mid members' target (mid target ++ (moved ++ n ∷ [])) puts l other

  in-moved : (x : ℕ) → Among (moved ++ n ∷ []) x → Among (members' target) x
  in-moved x in_x = subst (λ ns. Among ns x) (sym list-target) (among-right (mid target) (moved ++ n ∷ []) x in_x)

  in-target : (x : ℕ) → Among (members target) x → Among (members' target) x
  in-target x in_x = subst (λ ns. Among ns x) (sym list-target) (among-left (mid target) (moved ++ n ∷ []) x (subst (λ ns. Among ns x) (sym mid-target) in_x))

  in-old : (r : KeyedRow) → Among rows r → Among (members' (label_in labels' r.0)) r.0
  in-old r in_r = elim (cases_among touched (label_in labels r.0)) [
    | inl t ↦ subst (λ l. Among (members' l) r.0) (sym (label-moved r in_r t)) (elim (cases_eq (label_in labels r.0) target) [
      | inl e ↦ in-target r.0 (subst (λ l. Among (members l) r.0) e (is.in_list r in_r))
      | inr other ↦ in-moved r.0 (among-left moved (n ∷ []) r.0 (gathers.all (label_in labels r.0) r.0 t other (is.in_list r in_r)))
    ])
    | inr f ↦
        let e : members' (label_in labels' r.0) ≡ members (label_in labels r.0) =
        ap members' (label-stays r in_r f) ∙ list-other (label_in labels r.0) (label-apart r in_r f) ∙ gathers.stay (label_in labels r.0) (λ t. absurd (f t)) in
        subst (λ ns. Among ns r.0) (sym e) (is.in_list r in_r)
  ]

  in-later : (r : KeyedRow) → Among later r → Among (members' (label_in labels' r.0)) r.0
  in-later r in_r = elim (adds.cases r in_r) [
    | inl e ↦ subst (λ (x : KeyedRow). Among (members' (label_in labels' x.0)) x.0) (sym e) (subst (λ l. Among (members' l) n) (sym label-new) (in-moved n (among-pushed moved n)))
    | inr old ↦ in-old r old
  ]

  -- A row in a list of the tables after.
  target-row : (x : ℕ) → Among (mid target ++ (moved ++ n ∷ [])) x → (r : KeyedRow) × Among later r × (r.0 ≡ x) × (label_in labels' x ≡ target)
  target-row x in_x = elim (among-append (mid target) (moved ++ n ∷ []) x in_x) [
    | inl a ↦
        let r = is.of_list target x (subst (λ ns. Among ns x) mid-target a) in
        let e : label_in labels r.0.0 ≡ target = ap (label_in labels) r.2 ∙ r.3 in
        elim (cases_among touched (label_in labels r.0.0)) [
          | inl t ↦ (r.0, adds.kept r.0 r.1, r.2, sym (ap (label_in labels') r.2) ∙ label-moved r.0 r.1 t)
          | inr f ↦ absurd (label-apart r.0 r.1 f e)
        ]
    | inr b ↦ elim (among-push moved n x b) [
      | inl c ↦ let r = moved-row x c in (r.0, adds.kept r.0 r.1, r.2, label-given x b)
      | inr e ↦ ((n, keys), adds.here, sym e, label-given x b)
    ]
  ]

  other-row : (l x : ℕ) → (l ≡ target → ⊥) → Among (mid l) x → (r : KeyedRow) × Among later r × (r.0 ≡ x) × (label_in labels' x ≡ l)
  other-row l x other in_x = elim (cases_among touched l) [
    | inl t ↦ absurd (subst (λ ns. Among ns x) (gathers.emptied l t other) in_x)
    | inr f ↦
        let r = is.of_list l x (subst (λ ns. Among ns x) (gathers.stay l (λ t. absurd (f t))) in_x) in
        let e : label_in labels r.0.0 ≡ l = ap (label_in labels) r.2 ∙ r.3 in
        (r.0, adds.kept r.0 r.1, r.2, sym (ap (label_in labels') r.2) ∙ label-stays r.0 r.1 (λ t. f (subst (Among touched) e t)) ∙ e)
  ]

  of-later : (l x : ℕ) → Among (members' l) x → (r : KeyedRow) × Among later r × (r.0 ≡ x) × (label_in labels' x ≡ l)
  of-later l x in_x = elim (cases_eq l target) [
    | inl e ↦
        let r = target-row x (subst (λ ns. Among ns x) (ap members' e ∙ list-target) in_x) in
        (r.0, r.1, r.2, r.3 ∙ sym e)
    | inr other ↦ other-row l x other (subst (λ ns. Among ns x) (list-other l other) in_x)
  ]

  -- No list of the tables after has a number twice.
  moved-once : Once (moved ++ n ∷ [])
  moved-once = once-push moved n
      (gathers.once is.once (λ l m x in_l in_m. let r = is.of_list l x in_l in let s = is.of_list m x in_m in sym r.3 ∙ s.3))
      (λ in_n. let r = moved-row n in_n in new r.0 r.1 r.2)

  once-target : Once (mid target ++ (moved ++ n ∷ []))
  once-target = once-append (mid target) (moved ++ n ∷ []) (subst Once (sym mid-target) (is.once target)) moved-once (λ x in_target in_moved.
      let r = is.of_list target x (subst (λ ns. Among ns x) mid-target in_target) in
      elim (among-push moved n x in_moved) [
        | inl a ↦ let s = moved-row x a in s.4 (ap (label_in labels) s.2 ∙ r.3)
        | inr e ↦ new r.0 r.1 (r.2 ∙ e)
      ])

  mid-once : (l : ℕ) → (l ≡ target → ⊥) → Once (mid l)
  mid-once l other = elim (cases_among touched l) [
    | inl t ↦ subst Once (sym (gathers.emptied l t other)) tt
    | inr f ↦ subst Once (sym (gathers.stay l (λ t. absurd (f t)))) (is.once l)
  ]

  once-later : (l : ℕ) → Once (members' l)
  once-later l = elim (cases_eq l target) [
    | inl e ↦ subst Once (sym (ap members' e ∙ list-target)) once-target
    | inr other ↦ subst Once (sym (list-other l other)) (mid-once l other)
  ]

  -- The target is the number of one of its rows.
  target-named : (s : KeyedRow) × Among later s × (s.0 ≡ target) × (label_in labels' s.0 ≡ target)
  target-named = elim goal.some [
    | inl t ↦
        let x = hits.only target t in
        let s = is.named x.0 x.2 in
        (s.0, adds.kept s.0 s.1, s.2 ∙ x.3, label-moved s.0 s.1 (subst (Among touched) (sym (s.3 ∙ x.3)) t))
    | inr w ↦ ((n, keys), adds.here, sym w.1, label-new)
  ]

  named-old : (r : KeyedRow) → Among rows r → (s : KeyedRow) × Among later s × (s.0 ≡ label_in labels' r.0) × (label_in labels' s.0 ≡ label_in labels' r.0)
  named-old r in_r = elim (cases_among touched (label_in labels r.0)) [
    | inl t ↦
        let e = label-moved r in_r t in
        (target-named.0, target-named.1, target-named.2 ∙ sym e, target-named.3 ∙ sym e)
    | inr f ↦
        let s = is.named r in_r in
        let e = label-stays r in_r f in
        (s.0, adds.kept s.0 s.1, s.2 ∙ sym e, label-stays s.0 s.1 (λ t. f (subst (Among touched) s.3 t)) ∙ s.3 ∙ sym e)
  ]

  named-later : (r : KeyedRow) → Among later r → (s : KeyedRow) × Among later s × (s.0 ≡ label_in labels' r.0) × (label_in labels' s.0 ≡ label_in labels' r.0)
  named-later r in_r = elim (adds.cases r in_r) [
    | inl e ↦
        let is_target : label_in labels' r.0 ≡ target = ap (λ (x : KeyedRow). label_in labels' x.0) e ∙ label-new in
        (target-named.0, target-named.1, target-named.2 ∙ sym is_target, target-named.3 ∙ sym is_target)
    | inr old ↦ named-old r old
  ]

  holders-later : AreHolders later holders'
  holders-later = record {
    distinct = distinct;
    held = λ r k in_r in_k. elim (adds.cases r in_r) [
      | inl e ↦ subst (λ (x : KeyedRow). Among (holders' k) x.0) (sym e) (holds.new' k (subst (λ (x : KeyedRow). Among x.1 k) e in_k))
      | inr old ↦ holds.kept k r.0 (is.has.held r k old in_k)
    ];
    holds = λ k x in_x. elim (holds.cases k x in_x) [
      | inl a ↦ let r = is.has.holds k x a in (r.0, adds.kept r.0 r.1, r.2, r.3)
      | inr b ↦ ((n, keys), adds.here, sym b.0, b.1)
    ];
  }

  pub added : IsThreadIndex later labels' members' holders'
  added = record {
    threads = labels-later;
    labelled = labelled-later;
    in_list = in-later;
    of_list = of-later;
    once = once-later;
    named = named-later;
    has = holders-later;
  }
