-- Labels that stand for threads: what they say, and how a new and a taken row change them.
use Rattle.std.proofs.Common.{◌≡◌, ◌⊎◌, ◌↔◌, ◌==◌, ℕ, Bool, true, false, not, ◌&&◌, ◌||◌, List, [], ◌∷◌, refl, sym, ◌∙◌, ap, subst, inl, inr}
use Rattle.std.specs.List.{list_any}
use Rattle.std.proofs.lemmas.Bool.{cases_Bool, cases_eq, false≢true, and_parts, and_from, or_cases, or_left, or_right, eqb-true, eq-eqb}
use Rattle.thread_model.specs.Members.{Among, has, has_number}
use Rattle.thread_model.specs.Threads.{KeyedRow, shares, reached, thread, Respects, JoinsKeys, Linked, AreInOneThread, AreThreads}
use Rattle.thread_model.specs.Labelling.{IsLabelling, IsTouched}
use Rattle.thread_model.proofs.Members.{any-among, among-any, none-any, has-among, among-has, number-among, among-number, among-filter, among-filtered, cases_among}
use Rattle.thread_model.proofs.Rounds.{same_bools, shares-key, key-shares, reached-begin, reached-one, reached-respects, linked-sym, linked-trans, linked-key, linked-more, thread-linked, linked-thread}

-- Some row of a label holds a key.
abbrev holds_by : List KeyedRow → (ℕ → ℕ) → ℕ → List ℕ → Bool
holds_by rows label l k = list_any (λ (s : KeyedRow). label s.0 == l && has s.1 k) rows

holds-row : (rows : List KeyedRow) (label : ℕ → ℕ) (l : ℕ) (k : List ℕ) → holds_by rows label l k ≡ true → (s : KeyedRow) × Among rows s × (label s.0 ≡ l) × Among s.1 k
holds-row rows label l k h =
    let r = any-among (λ (s : KeyedRow). label s.0 == l && has s.1 k) rows h in
    let x : KeyedRow = r.0 in
    let both = and_parts (label x.0 == l) (has x.1 k) r.2 in
    (x, r.1, eqb-true (label x.0) l both.0, has-among x.1 k both.1)

row-holds : (rows : List KeyedRow) (label : ℕ → ℕ) (l : ℕ) (k : List ℕ) (s : KeyedRow) → Among rows s → label s.0 ≡ l → Among s.1 k → holds_by rows label l k ≡ true
row-holds rows label l k s h is m = among-any (λ (x : KeyedRow). label x.0 == l && has x.1 k) rows s h (and_from (label s.0 == l) (has s.1 k) (eq-eqb (label s.0) l is) (among-has s.1 k m))

holds-respects : (rows : List KeyedRow) (label : ℕ → ℕ) → IsLabelling rows label → (l : ℕ) → Respects (holds_by rows label l) rows
holds-respects rows label is l = record {
  same = λ row h k m in_k in_m. same_bools (holds_by rows label l k) (holds_by rows label l m)
      (λ t. let r = holds-row rows label l k t in row-holds rows label l m row h (is.sound row r.0 h r.1 k in_k r.3 ∙ r.2) in_m)
      (λ t. let r = holds-row rows label l m t in row-holds rows label l k row h (is.sound row r.0 h r.1 m in_m r.3 ∙ r.2) in_k);
}

-- Linked rows have one label.
pub linked-label : (rows : List KeyedRow) (label : ℕ → ℕ) → IsLabelling rows label → (r s : KeyedRow) → Among rows r → Among rows s → Linked rows r s → label r.0 ≡ label s.0
linked-label rows label is r s in_r in_s l =
    let first : holds_by rows label (label r.0) l.0 ≡ true = row-holds rows label (label r.0) l.0 r in_r refl l.2 in
    let last : holds_by rows label (label r.0) l.1 ≡ true = sym (l.4 (holds_by rows label (label r.0)) (holds-respects rows label is (label r.0))) ∙ first in
    let x = holds-row rows label (label r.0) l.1 last in
    sym x.2 ∙ is.sound x.0 s x.1 in_s l.1 x.3 l.3

-- Labels stand for threads.
pub labels-threads : (rows : List KeyedRow) (label : ℕ → ℕ) → IsLabelling rows label → AreThreads rows label
labels-threads rows label is = λ r s in_r in_s. (
  λ e. elim (is.tight r s in_r in_s e) [ inl same ↦ inl same | inr l ↦ inr (linked-thread rows r s in_s l) ],
  λ one. elim one [ inl same ↦ ap (λ (x : KeyedRow). label x.0) same | inr h ↦ linked-label rows label is r s in_r in_s (thread-linked rows r s in_r h) ],
)

-- A list of rows with one row more, in any order.
pub record Adds (rows later : List KeyedRow) (row : KeyedRow) : Type 0 where
  pub cases : (x : KeyedRow) → Among later x → (x ≡ row) ⊎ Among rows x
  pub here : Among later row
  pub kept : (x : KeyedRow) → Among rows x → Among later x

-- Some row of a touched label holds a key.
abbrev holds_touched : List KeyedRow → (ℕ → ℕ) → List ℕ → List ℕ → Bool
holds_touched rows label touched k = list_any (λ (s : KeyedRow). has_number touched (label s.0) && has s.1 k) rows

touched-holder : (rows : List KeyedRow) (label : ℕ → ℕ) (touched : List ℕ) (k : List ℕ) → holds_touched rows label touched k ≡ true → (s : KeyedRow) × Among rows s × Among touched (label s.0) × Among s.1 k
touched-holder rows label touched k h =
    let r = any-among (λ (s : KeyedRow). has_number touched (label s.0) && has s.1 k) rows h in
    let x : KeyedRow = r.0 in
    let both = and_parts (has_number touched (label x.0)) (has x.1 k) r.2 in
    (x, r.1, number-among touched (label x.0) both.0, has-among x.1 k both.1)

holder-touched : (rows : List KeyedRow) (label : ℕ → ℕ) (touched : List ℕ) (k : List ℕ) (s : KeyedRow) → Among rows s → Among touched (label s.0) → Among s.1 k → holds_touched rows label touched k ≡ true
holder-touched rows label touched k s h t m = among-any (λ (x : KeyedRow). has_number touched (label x.0) && has x.1 k) rows s h (and_from (has_number touched (label s.0)) (has s.1 k) (among-number touched (label s.0) t) (among-has s.1 k m))

-- The rows of touched labels are the thread of the new row's keys.
module _ (rows : List KeyedRow) (label : ℕ → ℕ) (keys : List (List ℕ)) (touched : List ℕ) (is : IsLabelling rows label) (hits : IsTouched rows label keys touched) where
  -- A row with a key that is the new row's, or that a row of a touched label holds, has a touched label.
  reached-touched : (s : KeyedRow) → Among rows s → (k : List ℕ) → Among s.1 k → (has keys k || holds_touched rows label touched k) ≡ true → Among touched (label s.0)
  reached-touched s in_s k in_k t = elim (or_cases (has keys k) (holds_touched rows label touched k) t) [
    | inl a ↦ hits.hit s in_s k in_k (has-among keys k a)
    | inr b ↦ let x = touched-holder rows label touched k b in subst (Among touched) (is.sound x.0 s x.1 in_s k x.3 in_k) x.2
  ]

  touched-respects : Respects (λ k. has keys k || holds_touched rows label touched k) rows
  touched-respects = record {
    same = λ row h k m in_k in_m. same_bools (has keys k || holds_touched rows label touched k) (has keys m || holds_touched rows label touched m)
        (λ t. or_right (has keys m) (holds_touched rows label touched m) (holder-touched rows label touched m row h (reached-touched row h k in_k t) in_m))
        (λ t. or_right (has keys k) (holds_touched rows label touched k) (holder-touched rows label touched k row h (reached-touched row h m in_m t) in_k));
  }

  pub thread-touched : (s : KeyedRow) → Among (thread rows keys) s → Among touched (label s.0)
  thread-touched s h =
      let p = among-filter (shares (reached rows keys)) rows s h in
      let q = shares-key (reached rows keys) s p.1 in
      reached-touched s p.0 q.0 q.1
      (reached-one rows keys (λ k. has keys k || holds_touched rows label touched k) touched-respects true
      (λ k in_k. or_left (has keys k) (holds_touched rows label touched k) (among-has keys k in_k)) q.0 q.2)

  reached-row : (x : KeyedRow) → Among rows x → (k : List ℕ) → Among x.1 k → Among keys k → (m : List ℕ) → Among x.1 m → has (reached rows keys) m ≡ true
  reached-row x in_x k xk in_k m xm =
      (reached-respects rows keys).same x in_x m k xm xk ∙ among-has (reached rows keys) k (reached-begin rows keys k in_k)

  pub touched-thread : (s : KeyedRow) → Among rows s → Among touched (label s.0) → Among (thread rows keys) s
  touched-thread s in_s t =
      let x = hits.only (label s.0) t in
      elim (is.tight x.0 s x.2 in_s x.3) [
        | inl same ↦ among-filtered (shares (reached rows keys)) rows s in_s
            (key-shares (reached rows keys) s x.1 (subst (λ (y : KeyedRow). Among y.1 x.1) same x.4) (reached-begin rows keys x.1 x.5))
        | inr l ↦ among-filtered (shares (reached rows keys)) rows s in_s
            (key-shares (reached rows keys) s l.1 l.3 (has-among (reached rows keys) l.1
            (sym (l.4 (has (reached rows keys)) (reached-respects rows keys)) ∙ reached-row x.0 x.2 x.1 x.4 x.5 l.0 l.2)))
      ]

-- Touched labels become the target, which no other row has. The rest stay.
pub record Relabels (rows : List KeyedRow) (label after : ℕ → ℕ) (touched : List ℕ) (target number : ℕ) : Type 0 where
  pub new' : after number ≡ target
  pub moved : (s : KeyedRow) → Among rows s → Among touched (label s.0) → after s.0 ≡ target
  pub stays : (s : KeyedRow) → Among rows s → (Among touched (label s.0) → ⊥) → after s.0 ≡ label s.0
  pub apart : (s : KeyedRow) → Among rows s → (Among touched (label s.0) → ⊥) → label s.0 ≡ target → ⊥

-- A new row joins the threads of its keys.
module _ (rows later : List KeyedRow) (row : KeyedRow) (label after : ℕ → ℕ) (touched : List ℕ) (target : ℕ) (is : IsLabelling rows label) (adds : Adds rows later row) (hits : IsTouched rows label row.1 touched) (moves : Relabels rows label after touched target row.0) where
  -- A row of a touched label is linked to the new one.
  touched-linked : (s : KeyedRow) → Among rows s → Among touched (label s.0) → Linked later row s
  touched-linked s in_s t =
      let x = hits.only (label s.0) t in
      elim (is.tight x.0 s x.2 in_s x.3) [
        | inl same ↦ linked-key later row s x.1 x.5 (subst (λ (y : KeyedRow). Among y.1 x.1) same x.4)
        | inr l ↦ linked-trans later row x.0 s (adds.kept x.0 x.2) (linked-key later row x.0 x.1 x.5 x.4) (linked-more rows later adds.kept x.0 s l)
      ]

  -- A row whose label becomes the target had a touched one.
  target-touched : (s : KeyedRow) → Among rows s → after s.0 ≡ target → Among touched (label s.0)
  target-touched s in_s e = elim (cases_among touched (label s.0)) [
    | inl t ↦ t
    | inr f ↦ absurd (moves.apart s in_s f (sym (moves.stays s in_s f) ∙ e))
  ]

  sound-new : (s : KeyedRow) → Among rows s → (k : List ℕ) → Among row.1 k → Among s.1 k → after row.0 ≡ after s.0
  sound-new s in_s k in_row in_k = moves.new' ∙ sym (moves.moved s in_s (hits.hit s in_s k in_k in_row))

  sound-old : (r s : KeyedRow) → Among rows r → Among rows s → label r.0 ≡ label s.0 → after r.0 ≡ after s.0
  sound-old r s in_r in_s e = elim (cases_among touched (label r.0)) [
    | inl t ↦ moves.moved r in_r t ∙ sym (moves.moved s in_s (subst (Among touched) e t))
    | inr f ↦ moves.stays r in_r f ∙ e ∙ sym (moves.stays s in_s (λ t. f (subst (Among touched) (sym e) t)))
  ]

  tight-old : (r s : KeyedRow) → Among rows r → Among rows s → after r.0 ≡ after s.0 → (r ≡ s) ⊎ Linked later r s
  tight-old r s in_r in_s e = elim (cases_among touched (label r.0)) [
    | inl t ↦ inr (linked-trans later r row s adds.here (linked-sym later row r (touched-linked r in_r t)) (touched-linked s in_s (target-touched s in_s (sym e ∙ moves.moved r in_r t))))
    | inr f ↦ elim (cases_among touched (label s.0)) [
      | inl t ↦ absurd (f (target-touched r in_r (e ∙ moves.moved s in_s t)))
      | inr g ↦ elim (is.tight r s in_r in_s (sym (moves.stays r in_r f) ∙ e ∙ moves.stays s in_s g)) [
        | inl same ↦ inl same
        | inr l ↦ inr (linked-more rows later adds.kept r s l)
      ]
    ]
  ]

  sound-later : (r s : KeyedRow) → Among later r → Among later s → (k : List ℕ) → Among r.1 k → Among s.1 k → after r.0 ≡ after s.0
  sound-later r s in_r in_s k kr ks = elim (adds.cases r in_r) [
    | inl p ↦ elim (adds.cases s in_s) [
      | inl q ↦ ap (λ (x : KeyedRow). after x.0) (p ∙ sym q)
      | inr old ↦ ap (λ (x : KeyedRow). after x.0) p ∙ sound-new s old k (subst (λ (x : KeyedRow). Among x.1 k) p kr) ks
    ]
    | inr here ↦ elim (adds.cases s in_s) [
      | inl q ↦ sym (sound-new r here k (subst (λ (x : KeyedRow). Among x.1 k) q ks) kr) ∙ sym (ap (λ (x : KeyedRow). after x.0) q)
      | inr old ↦ sound-old r s here old (is.sound r s here old k kr ks)
    ]
  ]

  tight-new : (s : KeyedRow) → Among rows s → after row.0 ≡ after s.0 → Linked later row s
  tight-new s in_s e = touched-linked s in_s (target-touched s in_s (sym e ∙ moves.new'))

  tight-later : (r s : KeyedRow) → Among later r → Among later s → after r.0 ≡ after s.0 → (r ≡ s) ⊎ Linked later r s
  tight-later r s in_r in_s e = elim (adds.cases r in_r) [
    | inl p ↦ elim (adds.cases s in_s) [
      | inl q ↦ inl (p ∙ sym q)
      | inr old ↦ inr (subst (λ (x : KeyedRow). Linked later x s) (sym p) (tight-new s old (sym (ap (λ (x : KeyedRow). after x.0) p) ∙ e)))
    ]
    | inr here ↦ elim (adds.cases s in_s) [
      | inl q ↦ inr (subst (λ (x : KeyedRow). Linked later r x) (sym q) (linked-sym later row r (tight-new r here (sym (ap (λ (x : KeyedRow). after x.0) q) ∙ sym e))))
      | inr old ↦ tight-old r s here old e
    ]
  ]

  pub joins : IsLabelling later after
  joins = record { sound = sound-later; tight = tight-later }

-- A test that no key of a label's rows passes, and that is another one elsewhere.
abbrev outside : List KeyedRow → (ℕ → ℕ) → ℕ → (List ℕ → Bool) → List ℕ → Bool
outside rows label gone test k = not (holds_by rows label gone k) && test k

-- A taken row leaves all other threads.
module _ (rows left : List KeyedRow) (label : ℕ → ℕ) (gone : ℕ) (is : IsLabelling rows label) (keeps : (x : KeyedRow) → Among rows x → (label x.0 ≡ gone → ⊥) → Among left x) where
  unheld : (row : KeyedRow) → Among rows row → (label row.0 ≡ gone → ⊥) → (k : List ℕ) → Among row.1 k → holds_by rows label gone k ≡ false
  unheld row h other k in_k = none-any (λ (s : KeyedRow). label s.0 == gone && has s.1 k) rows (λ s in_s t.
      let both = and_parts (label s.0 == gone) (has s.1 k) t in
      other (is.sound row s h in_s k in_k (has-among s.1 k both.1) ∙ eqb-true (label s.0) gone both.0))

  outside-other : (test : List ℕ → Bool) (row : KeyedRow) → Among rows row → (label row.0 ≡ gone → ⊥) → (k : List ℕ) → Among row.1 k → outside rows label gone test k ≡ test k
  outside-other test row h other k in_k = ap (λ (b : Bool). not b && test k) (unheld row h other k in_k)

  outside-gone : (test : List ℕ → Bool) (row : KeyedRow) → Among rows row → label row.0 ≡ gone → (k : List ℕ) → Among row.1 k → outside rows label gone test k ≡ false
  outside-gone test row h own k in_k = ap (λ (b : Bool). not b && test k) (row-holds rows label gone k row h own in_k)

  outside-respects : (test : List ℕ → Bool) → Respects test left → Respects (outside rows label gone test) rows
  outside-respects test t = record {
    same = λ row h k m in_k in_m. elim (cases_eq (label row.0) gone) [
      | inl own ↦ outside-gone test row h own k in_k ∙ sym (outside-gone test row h own m in_m)
      | inr other ↦ outside-other test row h other k in_k ∙ t.same row (keeps row h other) k m in_k in_m ∙ sym (outside-other test row h other m in_m)
    ];
  }

  pub still-linked : (r s : KeyedRow) → Among rows r → Among rows s → (label r.0 ≡ gone → ⊥) → (label s.0 ≡ gone → ⊥) → Linked rows r s → Linked left r s
  still-linked r s in_r in_s or os l = (
    l.0,
    l.1,
    l.2,
    l.3,
    λ test t.
        sym (outside-other test r in_r or l.0 l.2) ∙ l.4 (outside rows label gone test) (outside-respects test t) ∙ outside-other test s in_s os l.1 l.3,
  )
