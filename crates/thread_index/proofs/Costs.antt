-- What adding and taking a row cost.
use Rattle.std.proofs.Common.{◌≡◌, ◌+◌, ◌≤◌, ℕ, List, [], ◌∷◌, ◌++◌, length, map, sym, ◌∙◌, ap, subst, inl, inr, arith, length-append}
use Rattle.std.proofs.lemmas.List.{length-map, length_push}
use Rattle.thread_model.specs.Members.{Among, Once}
use Rattle.thread_model.specs.Threads.{KeyedRow, thread, shares, reached}
use Rattle.thread_model.specs.Labelling.{IsTouched, label_in}
use Rattle.thread_model.proofs.Members.{among-append, among-map, among-mapped}
use Rattle.thread_model.proofs.Numbers.{once-length, once-append, once-filter}
use Rattle.thread_model.proofs.Rounds.{thread-row, thread-linked, linked-thread}
use Rattle.thread_model.proofs.ThreadLabels.{linked-label, thread-touched, touched-thread}
use Rattle.thread_index.specs.Index.{IsCostOfAdd, IsCostOfTake}
use Rattle.thread_index.specs.Tables.{IsThreadIndex}
use Rattle.thread_index.specs.Adding.{IsTarget, Gathers}
use Rattle.thread_index.specs.Taking.{AreOthers}

abbrev numbers : List KeyedRow → List ℕ
numbers rows = map (λ (r : KeyedRow). r.0) rows

-- The list of a row's label has at least as many rows as its thread.
pub thread-list : (rows : List KeyedRow) (labels : List (ℕ × ℕ)) (members : ℕ → List ℕ) (holders : List ℕ → List ℕ) → IsThreadIndex rows labels members holders → (r : KeyedRow) → Among rows r → length (thread rows r.1) ≤ length (members (label_in labels r.0))
thread-list rows labels members holders is r in_r =
    let once : Once (numbers (thread rows r.1)) = once-filter (λ (x : KeyedRow). x.0) (shares (reached rows r.1)) rows is.has.distinct in
    let le : length (numbers (thread rows r.1)) ≤ length (members (label_in labels r.0)) = once-length (numbers (thread rows r.1)) (members (label_in labels r.0)) once (λ n h.
    let s = among-mapped (λ (x : KeyedRow). x.0) (thread rows r.1) n h in
    let in_s = thread-row rows r.1 s.0 s.1 in
    let e : label_in labels r.0 ≡ label_in labels s.0.0 = linked-label rows (label_in labels) is.threads r s.0 in_r in_s (thread-linked rows r s.0 in_r s.1) in
    subst (Among (members (label_in labels r.0))) s.2 (subst (λ l. Among (members l) s.0.0) (sym e) (is.in_list s.0 in_s))) in
    let len : length (numbers (thread rows r.1)) ≡ length (thread rows r.1) = length-map (thread rows r.1) (λ (x : KeyedRow). x.0) in
    omega arith

module _ (rows : List KeyedRow) (labels : List (ℕ × ℕ)) (members mid : ℕ → List ℕ) (holders : List ℕ → List ℕ) (n : ℕ) (keys : List (List ℕ)) (touched : List ℕ) (target : ℕ) (moved : List ℕ)
    (is : IsThreadIndex rows labels members holders) (hits : IsTouched rows (label_in labels) keys touched) (goal : IsTarget members touched n target) (gathers : Gathers members mid touched target moved) where
  -- A row of a touched label is in the thread of the keys.
  listed-thread : (l x : ℕ) → Among touched l → Among (members l) x → Among (numbers (thread rows keys)) x
  listed-thread l x t in_x =
      let r = is.of_list l x in_x in
      let e : label_in labels r.0.0 ≡ l = ap (label_in labels) r.2 ∙ r.3 in
      subst (Among (numbers (thread rows keys))) r.2
      (among-map (λ (s : KeyedRow). s.0) (thread rows keys) r.0
      (touched-thread rows (label_in labels) keys touched is.threads hits r.0 r.1 (subst (Among touched) (sym e) t)))

  moved-thread : (x : ℕ) → Among moved x → Among (numbers (thread rows keys)) x
  moved-thread x in_x = let g = gathers.from x in_x in listed-thread g.0 x g.1 g.3

  moved-own : Once moved
  moved-own = gathers.once is.once (λ l m x in_l in_m. let r = is.of_list l x in_l in let s = is.of_list m x in_m in sym r.3 ∙ s.3)

  thread-count : length (numbers (thread rows keys)) ≡ length (thread rows keys)
  thread-count = length-map (thread rows keys) (λ (x : KeyedRow). x.0)

  moved-count : length moved ≤ length (thread rows keys)
  moved-count =
      let le : length moved ≤ length (numbers (thread rows keys)) = once-length moved (numbers (thread rows keys)) moved-own moved-thread in
      let len = thread-count in
      omega arith

  -- With the rows of the target, where it is a touched label.
  both-count : Among touched target → length moved + length (members target) ≤ length (thread rows keys)
  both-count t =
      let once : Once (moved ++ members target) = once-append moved (members target) moved-own (is.once target) (λ x in_moved in_target.
      let g = gathers.from x in_moved in
      let r = is.of_list g.0 x g.3 in
      let s = is.of_list target x in_target in
      g.2 (sym r.3 ∙ s.3)) in
      let le : length (moved ++ members target) ≤ length (numbers (thread rows keys)) = once-length (moved ++ members target) (numbers (thread rows keys)) once (λ x h.
      elim (among-append moved (members target) x h) [ inl a ↦ moved-thread x a | inr b ↦ listed-thread target x t b ]) in
      let sum : length (moved ++ members target) ≡ length moved + length (members target) = length-append moved (members target) in
      let len = thread-count in
      omega arith

  target-hit : (l : ℕ) → Among touched l → Among touched target
  target-hit l t = elim goal.some [ inl h ↦ h | inr w ↦ absurd (subst (λ ns. Among ns l) w.0 t) ]

  merged-count : (r : KeyedRow) → Among (thread rows keys) r → length moved + length (thread rows r.1) ≤ length (thread rows keys)
  merged-count r in_r =
      let in_rows = thread-row rows keys r in_r in
      let t : Among touched (label_in labels r.0) = thread-touched rows (label_in labels) keys touched is.threads hits r in_r in
      let own : length (thread rows r.1) ≤ length (members (label_in labels r.0)) = thread-list rows labels members holders is r in_rows in
      let most : length (members (label_in labels r.0)) ≤ length (members target) = goal.most (label_in labels r.0) t in
      let both : length moved + length (members target) ≤ length (thread rows keys) = both-count (target-hit (label_in labels r.0) t) in
      omega arith

  pub cost-of-add : (before after : ℕ) → after ≡ before + length (moved ++ n ∷ []) → IsCostOfAdd rows keys before after
  cost-of-add before after e =
      let sum : length (moved ++ n ∷ []) ≡ length moved + 1 = length_push moved n in
      let all : length moved ≤ length (thread rows keys) = moved-count in
      record {
        all = omega arith;
        but_one = λ r in_r. let one : length moved + length (thread rows r.1) ≤ length (thread rows keys) = merged-count r in_r in omega arith;
      }

-- The others of a taken row's list are no more than its thread.
pub cost-of-take : (rows : List KeyedRow) (labels : List (ℕ × ℕ)) (members : ℕ → List ℕ) (holders : List ℕ → List ℕ) → IsThreadIndex rows labels members holders → (n : ℕ) (others : List ℕ) → AreOthers (members (label_in labels n)) n others
    → (before after : ℕ) → after ≡ before + length others → IsCostOfTake rows n before after
cost-of-take rows labels members holders is n others are before after e = λ r in_r own.
    let le : length others ≤ length (numbers (thread rows r.1)) = once-length others (numbers (thread rows r.1)) are.once (λ x in_x.
    let o = are.to x in_x in
    let s = is.of_list (label_in labels n) x o.0 in
    let same : label_in labels r.0 ≡ label_in labels s.0.0 = ap (label_in labels) own ∙ sym s.3 ∙ sym (ap (label_in labels) s.2) in
    elim (is.threads.tight r s.0 in_r s.1 same) [
      | inl one ↦ absurd (o.1 (sym s.2 ∙ sym (ap (λ (y : KeyedRow). y.0) one) ∙ own))
      | inr l ↦ subst (Among (numbers (thread rows r.1))) s.2 (among-map (λ (y : KeyedRow). y.0) (thread rows r.1) s.0 (linked-thread rows r s.0 s.1 l))
    ]) in
    let len : length (numbers (thread rows r.1)) ≡ length (thread rows r.1) = length-map (thread rows r.1) (λ (x : KeyedRow). x.0) in
    omega arith
