-- Trees of a part of the list of parts.
use Rattle.std.proofs.Common.{◌≡◌, ℕ, suc, ◌-◌, ◌<◌, ◌≤◌, Bool, true, false, cond, eqb, nat_lt, List, [], ◌∷◌, length, drop, get_or, refl, sym, ap, ◌∙◌, subst, arith}
use Rattle.std.proofs.lemmas.Bool.Decides.{nat_tests}
use Rattle.std.specs.List.{All}
use Rattle.mime_parts.specs.declared.part.Part.{Part}
use Rattle.mime_parts.specs.Trees.{tree_of}
use Rattle.mime_parts.specs.Laws.{PartStands, TreesAreTrees}
use Rattle.imap_structure.specs.Forests.{Forest, Bare, Tree, ForestSplit, split, split_after, split_at, planted, forest_of}
use Rattle.imap_items.specs.Sections.{nth_tree}
use Rattle.imap_items.specs.Finding.{after_deeper}

-- A forest that is split at a greater depth and then at a lesser one.
twice : (deep less : Bool) → (deep ≡ true → less ≡ true) → (d e : ℕ) (q : Part) (below beside : Forest)
    → (nat_lt d q.depth ≡ less) → (split_at d (split_at e beside).others).others ≡ (split_at d beside).others
    → (split_at d (cond deep (split_after q below (split_at e beside)) (split Bare (Tree q below beside))).others).others
    ≡ (cond less (split_after q below (split_at d beside)) (split Bare (Tree q below beside))).others
twice true true f d e q below beside t h = h
twice true false f d e q below beside t h = absurd (let z = f refl in cc)
twice false less f d e q below beside t h = ap (λ b. (cond b (split_after q below (split_at d beside)) (split Bare (Tree q below beside))).others) t

pub split-others : (d e : ℕ) (f : Forest) → d < e → (split_at d (split_at e f).others).others ≡ (split_at d f).others
split-others d e Bare h = refl
split-others d e (Tree q below beside) h =
    twice (nat_lt e q.depth) (nat_lt d q.depth) (λ t. grind (arith, nat_tests, t, h)) d e q below beside refl (split-others d e beside h)

others_step : (less : Bool) (d : ℕ) (p : Part) (ps : List Part) → nat_lt d p.depth ≡ less
    → (split_at d (forest_of ps)).others ≡ forest_of (after_deeper d ps)
    → (cond less (split_after p (split_at p.depth (forest_of ps)).deeper (split_at d (split_at p.depth (forest_of ps)).others)) (split Bare (planted p (split_at p.depth (forest_of ps))))).others
    ≡ forest_of (cond less (after_deeper d ps) (p ∷ ps))
others_step true d p ps t h = split-others d p.depth (forest_of ps) (grind (arith, nat_tests, t)) ∙ h
others_step false d p ps t h = refl

-- The trees beside the deeper ones are those of the parts after these.
pub others-forest : (d : ℕ) (ps : List Part) → (split_at d (forest_of ps)).others ≡ forest_of (after_deeper d ps)
others-forest d [] = refl
others-forest d (p ∷ ps) = others_step (nat_lt d p.depth) d p ps refl (others-forest d ps)

-- The trees at the front that are deeper, where the first part is deeper, and where it isn't.
pub deeper-tree : (d : ℕ) (p : Part) (ps : List Part) → d < p.depth
    → (split_at d (forest_of (p ∷ ps))).deeper ≡ Tree p (split_at p.depth (forest_of ps)).deeper (split_at d (forest_of (after_deeper p.depth ps))).deeper
deeper-tree d p ps h =
    let yes_deeper : nat_lt d p.depth ≡ true = grind (arith, nat_tests, h) in
    rw yes_deeper (ap (λ (f : Forest). Tree p (split_at p.depth (forest_of ps)).deeper (split_at d f).deeper) (others-forest p.depth ps))

pub deeper-bare : (d : ℕ) (p : Part) (ps : List Part) → p.depth ≤ d → (split_at d (forest_of (p ∷ ps))).deeper ≡ Bare
deeper-bare d p ps h = let not_deeper : nat_lt d p.depth ≡ false = grind (arith, nat_tests, h) in rw not_deeper refl

-- Each tree's first part is deeper than a depth.
RootsDeep : ℕ → Forest → Type 0
RootsDeep d Bare = Unit {0}
RootsDeep d (Tree p below beside) = (d < p.depth) × RootsDeep d beside

roots_step : (t : Bool) (d : ℕ) (p : Part) (below beside : Forest) (s : ForestSplit) → RootsDeep d (Tree p below beside) → RootsDeep d s.others
    → RootsDeep d (cond t (split_after p below s) (split Bare (Tree p below beside))).others
unfolding RootsDeep
roots_step true d p below beside s h k = k
roots_step false d p below beside s h k = h

roots_split : (d e : ℕ) (f : Forest) → RootsDeep d f → RootsDeep d (split_at e f).others
unfolding RootsDeep
roots_split d e Bare h = tt
roots_split d e (Tree p below beside) h = roots_step (nat_lt e p.depth) d p below beside (split_at e beside) h (roots_split d e beside h.1)

roots_of : (d : ℕ) (ps : List Part) → All (λ (p : Part). d < p.depth) ps → RootsDeep d (forest_of ps)
unfolding RootsDeep
roots_of d [] h = tt
roots_of d (p ∷ ps) h = (h 0 p (omega arith), roots_split d p.depth (forest_of ps) (roots_of d ps (λ k q within. h (suc k) q (omega (arith, within)))))

whole_step : (d : ℕ) (p : Part) (below beside : Forest) → d < p.depth → (split_at d beside).deeper ≡ beside → (split_at d (Tree p below beside)).deeper ≡ Tree p below beside
whole_step d p below beside h e = let yes_deeper : nat_lt d p.depth ≡ true = grind (arith, nat_tests, h) in rw yes_deeper (ap (Tree p below) e)

whole_split : (d : ℕ) (f : Forest) → RootsDeep d f → (split_at d f).deeper ≡ f
unfolding RootsDeep
whole_split d Bare h = refl
whole_split d (Tree p below beside) h = whole_step d p below beside h.0 (whole_split d beside h.1)

-- All trees of a mail are deeper than nothing.
pub all-deeper : (text : List ℕ) → TreesAreTrees → (split_at 0 (forest_of (tree_of text))).deeper ≡ forest_of (tree_of text)
all-deeper text law =
    whole_split 0 (forest_of (tree_of text)) (roots_of 0 (tree_of text) (λ k d within. (let stands : PartStands text (get_or (tree_of text) k d) = (law text).stand k d within in let least = stands.depth in omega arith)))

-- The parts at the front, and what follows the first of them.
pub first-split : (rest later : List Part) (first d : Part) → 1 ≤ length rest → first ≡ get_or rest 0 d → later ≡ drop 1 rest → rest ≡ first ∷ later
first-split [] later first d some e f = absurd (omega (arith, some))
first-split (p ∷ ps) later first d some e f = rw (e, f) refl

-- The first tree isn't the one with the number: it is one of those beside it.
pub tree-next : (text : List ℕ) (left left' depth : ℕ) (first : Part) (rest later rest' : List Part) → rest ≡ first ∷ later → depth < first.depth → (left ≡ 1 → ⊥)
    → left' ≡ left - 1 → rest' ≡ after_deeper first.depth later
    → nth_tree text left' (split_at depth (forest_of rest')).deeper ≡ nth_tree text left (split_at depth (forest_of rest)).deeper
tree-next text left left' depth first rest later rest' e h n l r =
    let not_first : eqb left 1 ≡ false = grind (arith, nat_tests, n) in
    let next : nth_tree text left (Tree first (split_at first.depth (forest_of later)).deeper (split_at depth (forest_of (after_deeper first.depth later))).deeper)
    ≡ nth_tree text (left - 1) (split_at depth (forest_of (after_deeper first.depth later))).deeper = rw not_first refl in
    rw (l, r) (sym (ap (λ (ps : List Part). nth_tree text left (split_at depth (forest_of ps)).deeper) e ∙ ap (nth_tree text left) (deeper-tree depth first later h) ∙ next))

-- What holds of all parts holds of those after the first tree.
all_after : (P : Part → Type 0) (d : ℕ) (ps : List Part) → All P ps → All P (after_deeper d ps)
all_after P d [] h = h
all_after P d (p ∷ ps) h = step (nat_lt d p.depth) (all_after P d ps (λ k q w. h (suc k) q (omega (arith, w))))
  where
    step : (t : Bool) → All P (after_deeper d ps) → All P (cond t (after_deeper d ps) (p ∷ ps))
    step true k = k
    step false k = h

pub within-next : (P : Part → Type 0) (first : Part) (rest later rest' : List Part) → rest ≡ first ∷ later → rest' ≡ after_deeper first.depth later → All P rest → All P rest'
within-next P first rest later rest' e r h =
    let all : All P (first ∷ later) = subst (All P) e h in
    subst (All P) (sym r) (all_after P first.depth later (λ k q w. all (suc k) q (omega (arith, w))))
