-- The loop of a walk: what it has written, and what waits on its stack.
use Rattle.std.proofs.Common.{◌≡◌, ◌+◌, ◌≤◌, ◌<◌, ℕ, suc, List, [], ◌∷◌, ◌++◌, length, refl, sym, ◌∙◌, ap, subst, inl, arith, append-nil}
use Rattle.std.proofs.lemmas.List.{length-map}
use Rattle.thread_model.specs.Members.{Among}
use Rattle.thread_tree.specs.Nodes.{IsForest, WalksNodes, stacked}
use Rattle.thread_tree.proofs.Walking.{HasWalked, IsShallow, Meets, at_depth, backward, backward-push, backward-stacked, indices, indices-append, indices-depth, meets-begins, meets-count, meets-more, shallow-begins, shallow-more, walked-begins, walked-ends, walked-more}

pub record IsOnWalk (under : ℕ → List ℕ) (roots : List ℕ) (bound : ℕ) (out stack : List (ℕ × ℕ)) : Type 0 where
  pub walked : HasWalked under roots out (backward stack)
  pub meets : Meets under roots bound (indices out) (indices (backward stack))
  pub shallow : IsShallow out (backward stack)

pub walk-begins : (under : ℕ → List ℕ) (roots : List ℕ) (bound : ℕ) (out empty stack : List (ℕ × ℕ)) → IsForest under roots bound → out ≡ [] → empty ≡ [] → stack ≡ empty ++ stacked 0 roots → IsOnWalk under roots bound out stack
walk-begins under roots bound out empty stack forest none bare pushed =
    let top : backward stack ≡ at_depth 0 roots =
    ap backward (pushed ∙ ap (λ (xs : List (ℕ × ℕ)). xs ++ stacked 0 roots) bare) ∙ backward-stacked [] 0 roots ∙ append-nil (at_depth 0 roots) in
    subst (λ (xs : List (ℕ × ℕ)). IsOnWalk under roots bound xs stack) (sym none) (record {
      walked = walked-begins under roots (backward stack) top;
      meets = subst (Meets under roots bound []) (sym (ap indices top ∙ indices-depth 0 roots)) (meets-begins under roots bound forest);
      shallow = shallow-begins roots (backward stack) top;
    })

-- The top of a stack.
top-of : (old rest : List (ℕ × ℕ)) (x : ℕ × ℕ) → old ≡ rest ++ x ∷ [] → backward old ≡ x ∷ backward rest
top-of old rest x popped = ap backward popped ∙ backward-push rest x

pub walk-more : (under : ℕ → List ℕ) (roots : List ℕ) (bound : ℕ) (out old rest later new : List (ℕ × ℕ)) (depth i : ℕ) (list : List ℕ) → IsForest under roots bound → IsOnWalk under roots bound out old → old ≡ rest ++ (depth, i) ∷ [] → later ≡ out ++ (depth, i) ∷ []
    → list ≡ under i → new ≡ rest ++ stacked (depth + 1) list → IsOnWalk under roots bound later new
walk-more under roots bound out old rest later new depth i list forest is popped written own pushed =
    let top : backward old ≡ (depth, i) ∷ backward rest = top-of old rest (depth, i) popped in
    let next : backward new ≡ at_depth (depth + 1) (under i) ++ backward rest =
    ap backward pushed ∙ backward-stacked rest (depth + 1) list ∙ ap (λ (ns : List ℕ). at_depth (depth + 1) ns ++ backward rest) own in
    let met : indices (backward new) ≡ under i ++ indices (backward rest) =
    ap indices next ∙ indices-append (at_depth (depth + 1) (under i)) (backward rest) ∙ ap (λ (ns : List ℕ). ns ++ indices (backward rest)) (indices-depth (depth + 1) (under i)) in
    subst (λ (xs : List (ℕ × ℕ)). IsOnWalk under roots bound xs new) (sym written) (record {
      walked = walked-more under roots out (backward old) (backward rest) (backward new) depth i is.walked top next;
      meets = subst (λ (ns : List ℕ). Meets under roots bound ns (indices (backward new))) (sym (indices-append out ((depth, i) ∷ [])))
          (subst (Meets under roots bound (indices out ++ i ∷ [])) (sym met)
          (meets-more under roots bound (indices out) (indices (backward rest)) i forest
          (subst (Meets under roots bound (indices out)) (ap indices top) is.meets)));
      shallow = shallow-more out (backward old) (backward rest) (backward new) depth i (under i) is.shallow top next;
    })

-- A walk is no longer than there are indices, and no depth is more than its length.
pub walk-room : (under : ℕ → List ℕ) (roots : List ℕ) (bound : ℕ) (out old rest : List (ℕ × ℕ)) (depth i : ℕ) → IsOnWalk under roots bound out old → old ≡ rest ++ (depth, i) ∷ [] → (length out < bound) × (depth ≤ length out)
walk-room under roots bound out old rest depth i is popped =
    let top : backward old ≡ (depth, i) ∷ backward rest = top-of old rest (depth, i) popped in
    let met : length (indices out) + length (indices (backward old)) ≤ bound = meets-count under roots bound (indices out) (indices (backward old)) is.meets in (
      room (length out) (length (indices out)) (length (indices (backward old))) (length (indices (backward rest))) bound
          (length-map out (λ (x : ℕ × ℕ). x.1)) (ap (λ (xs : List (ℕ × ℕ)). length (indices xs)) top) met,
      is.shallow.deep (depth, i) (subst (λ (xs : List (ℕ × ℕ)). Among xs (depth, i)) (sym top) (inl refl)),
    )
  where
    room : (n m k l b : ℕ) → m ≡ n → k ≡ suc l → m + k ≤ b → n < b
    room n m k l b same more le = omega arith

-- A walk is no longer than there are indices.
pub walk-short : (under : ℕ → List ℕ) (roots : List ℕ) (bound : ℕ) (out stack : List (ℕ × ℕ)) → IsOnWalk under roots bound out stack → length out ≤ bound
walk-short under roots bound out stack is =
    let met : length (indices out) + length (indices (backward stack)) ≤ bound = meets-count under roots bound (indices out) (indices (backward stack)) is.meets in
    let same : length (indices out) ≡ length out = length-map out (λ (x : ℕ × ℕ). x.1) in
    omega (arith, met, same)

pub walk-ends : (under : ℕ → List ℕ) (roots : List ℕ) (bound : ℕ) (out stack : List (ℕ × ℕ)) → IsOnWalk under roots bound out stack → stack ≡ [] → WalksNodes under 0 roots out
walk-ends under roots bound out stack is empty = walked-ends under roots out (backward stack) is.walked (ap backward empty)
