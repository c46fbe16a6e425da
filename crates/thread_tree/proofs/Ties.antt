-- What is found over indices is what the definition says of messages.
use Rattle.std.proofs.Common.{◌≡◌, ◌==◌, ◌&&◌, ◌+◌, ◌≤◌, ◌<◌, ℕ, zero, suc, Bool, true, false, not, cond, List, [], ◌∷◌, ◌++◌, length, take, map, filter, Option, Some, None, is_none, if◌then◌else◌, bytes_eq, refl, sym, ◌∙◌, ap, subst, inl, inr, arith}
use Rattle.std.specs.Option.{option_map}
use Rattle.std.proofs.lemmas.Bool.{cases_eq, false≢true, or_left, or_right, or_cases, eq-eqb, eqb-true, ne_eqb}
use Rattle.std.proofs.lemmas.List.{take_all, take_more}
use Rattle.std.proofs.lemmas.Slice.Eq.{bytes_eq-Decides}
use Rattle.thread_model.specs.Members.{Among}
use Rattle.thread_model.proofs.Members.{among-append, among-any, any-among}
use Rattle.thread_model.proofs.Rounds.{same_bools}
use Rattle.thread_tree.specs.Trees.{Node, PrintsNodes, below, far_up, is_id, is_on_loop, is_root, line_of, node, nodes, nothing, roots, step_up, under, up}
use Rattle.thread_tree.specs.Facts.{AreFacts}
use Rattle.thread_tree.specs.Nodes.{AreRoots, AreUps, HaveNodeIds, OnLoop, WalksNodes, count_up, ends, far_by, flag_at, id_at, is_under, jump_at, kept_line, leads_to, node_at, step_by, visits}
use Rattle.thread_tree.specs.declared.twigs.Twig.{Twig}
use Rattle.thread_tree.specs.declared.lines.Line.{Line}
use Rattle.thread_tree.specs.declared.lines.Who.TheVariants.{Live, Ghost}
use Rattle.thread_tree.specs.declared.facts.Facts.{Facts}
use Rattle.thread_tree.proofs.Kept.{kept-ghost}
use Rattle.thread_tree.proofs.Pigeons.{among-below, far-inside, loop-short}
use Rattle.thread_tree.proofs.Unders.{among-count}

-- Two ids are one exactly where their indices are.
module _ (twigs : List Twig) (ns : List Node) (ups : List (Option ℕ)) (flags : List Bool) (is : ns ≡ nodes twigs) (ids : HaveNodeIds ns) (are : AreUps (up twigs) ns ups) (marks : AreRoots ups flags) where
  inside : (i : ℕ) → i < length ns → i < length ups
  inside i lt = let e = are.size in omega arith

  -- Steps over indices are steps over ids.
  far-by : (i : ℕ) (o : Option ℕ) → ((j : ℕ) → o ≡ Some j → j < length ups) → (found : Option (List ℕ)) → option_map (id_at ns) o ≡ found → option_map (id_at ns) (step_by ups o) ≡ step_up (up twigs) found
  far-by i None stays found e = subst (λ (f : Option (List ℕ)). option_map (id_at ns) None ≡ step_up (up twigs) f) e refl
  far-by i (Some j) stays found e =
      let lt : j < length ns = (let l : j < length ups = stays j refl in let s = are.size in omega arith) in
      are.each j lt ∙ ap (step_up (up twigs)) e

  far-tie : (k i : ℕ) → i < length ns → option_map (id_at ns) (far_by ups k i) ≡ far_up twigs k (id_at ns i)
  far-tie zero i lt = refl
  far-tie (suc k) i lt = far-by i (far_by ups k i) (λ j e. far-inside ups are.inside k i j (inside i lt) e) (far_up twigs k (id_at ns i)) (far-tie k i lt)

  same-id : (i j : ℕ) → i < length ns → j < length ns → bytes_eq (id_at ns j) (id_at ns i) ≡ (j == i)
  same-id i j li lj = elim (cases_eq j i) [
    | inl e ↦ (bytes_eq-Decides (id_at ns j) (id_at ns i)).1 (ap (id_at ns) e) ∙ sym (eq-eqb j i e)
    | inr f ↦ apart (bytes_eq (id_at ns j) (id_at ns i)) refl f ∙ sym (ne_eqb j i f)
  ]
    where
      apart : (b : Bool) → bytes_eq (id_at ns j) (id_at ns i) ≡ b → (j ≡ i → ⊥) → bytes_eq (id_at ns j) (id_at ns i) ≡ false
      apart true e f = absurd (f (ids j i lj li ((bytes_eq-Decides (id_at ns j) (id_at ns i)).0 e)))
      apart false e f = e

  leads-by : (i : ℕ) → i < length ns → (o : Option ℕ) → ((j : ℕ) → o ≡ Some j → j < length ups) → is_id (option_map (id_at ns) o) (id_at ns i) ≡ leads_to o i
  leads-by i lt None stays = refl
  leads-by i lt (Some j) stays = same-id i j lt (let l : j < length ups = stays j refl in let s = are.size in omega arith)

  far-leads : (k i : ℕ) → i < length ns → is_id (far_up twigs k (id_at ns i)) (id_at ns i) ≡ leads_to (far_by ups k i) i
  far-leads k i lt =
      ap (λ (o : Option (List ℕ)). is_id o (id_at ns i)) (sym (far-tie k i lt))
      ∙ leads-by i lt (far_by ups k i) (λ j e. far-inside ups are.inside k i j (inside i lt) e)

  leads-some : (o : Option ℕ) (i : ℕ) → leads_to o i ≡ true → o ≡ Some i
  leads-some None i e = absurd (false≢true e)
  leads-some (Some j) i e = ap Some (eqb-true j i e)

  some-leads : (o : Option ℕ) (i : ℕ) → o ≡ Some i → leads_to o i ≡ true
  some-leads o i e = ap (λ (p : Option ℕ). leads_to p i) e ∙ eq-eqb i i refl

  count : length (nodes twigs) ≡ length ups
  count = ap length (sym is) ∙ sym are.size

  -- An id is on a loop exactly where its index is.
  loop-to : (i : ℕ) → i < length ns → is_on_loop twigs (id_at ns i) ≡ true → OnLoop ups i
  loop-to i lt t =
      let r = any-among (λ (k : ℕ). is_id (far_up twigs (suc k) (id_at ns i)) (id_at ns i)) (below (length (nodes twigs))) t in
      (r.0, leads-some (far_by ups (suc r.0) i) i (sym (far-leads (suc r.0) i lt) ∙ r.2))

  loop-from : (i : ℕ) → i < length ns → OnLoop ups i → is_on_loop twigs (id_at ns i) ≡ true
  loop-from i lt loop =
      let r = loop-short ups are.inside i (inside i lt) loop in
      among-any (λ (k : ℕ). is_id (far_up twigs (suc k) (id_at ns i)) (id_at ns i)) (below (length (nodes twigs))) r.0
      (among-below (length (nodes twigs)) r.0 (subst (λ n. r.0 < n) (sym count) r.1))
      (far-leads (suc r.0) i lt ∙ some-leads (far_by ups (suc r.0) i) i r.2)

  none-by : (o : Option ℕ) → is_none (option_map (id_at ns) o) ≡ true → o ≡ None
  none-by None e = refl
  none-by (Some j) e = absurd (false≢true e)

  -- A node is a root exactly where its index is flagged.
  pub root-tie : (i : ℕ) → i < length ns → is_root twigs (node_at ns i) ≡ flag_at flags i
  root-tie i lt = same_bools (is_root twigs (node_at ns i)) (flag_at flags i)
      (λ t. elim (or_cases (is_none (up twigs (id_at ns i))) (is_on_loop twigs (id_at ns i)) t) [
        | inl a ↦ marks.top i (inside i lt) (none-by (jump_at ups i) (ap is_none (are.each i lt) ∙ a))
        | inr b ↦ marks.loop i (inside i lt) (loop-to i lt b)
      ])
      (λ t. elim (marks.only i (inside i lt) t) [
        | inl e ↦ or_left (is_none (up twigs (id_at ns i))) (is_on_loop twigs (id_at ns i)) (ap is_none (sym (are.each i lt)) ∙ ap (λ (o : Option ℕ). is_none (option_map (id_at ns) o)) e)
        | inr loop ↦ or_right (is_none (up twigs (id_at ns i))) (is_on_loop twigs (id_at ns i)) (loop-from i lt loop)
      ])

  pub under-tie : (p i : ℕ) → p < length ns → i < length ns → (not (is_root twigs (node_at ns i)) && is_id (up twigs (id_at ns i)) (id_at ns p)) ≡ is_under ups flags p i
  under-tie p i lp li =
      ap (λ (b : Bool). not b && is_id (up twigs (id_at ns i)) (id_at ns p)) (root-tie i li)
      ∙ ap (λ (b : Bool). not (flag_at flags i) && b) (
      ap (λ (o : Option (List ℕ)). is_id o (id_at ns p)) (sym (are.each i li))
      ∙ leads-by p lp (jump_at ups i) (λ j e. are.inside i j (inside i li) e))

-- A filter of nodes is one of their indices.
filter-map : {X Y : Type 0} (p : Y → Bool) (f : X → Y) (xs : List X) → filter p (map f xs) ≡ map f (filter (λ x. p (f x)) xs)
filter-map p f [] = refl
filter-map p f (x ∷ xs) = by (p (f x)) (filter-map p f xs)
  where
    by : (b : Bool) → filter p (map f xs) ≡ map f (filter (λ x. p (f x)) xs) → cond b (f x ∷ filter p (map f xs)) (filter p (map f xs)) ≡ map f (cond b (x ∷ filter (λ x. p (f x)) xs) (filter (λ x. p (f x)) xs))
    by true e = λ i. f x ∷ e i
    by false e = e

filter-on : {X : Type 0} (p q : X → Bool) (xs : List X) → ((x : X) → Among xs x → p x ≡ q x) → filter p xs ≡ filter q xs
filter-on p q [] e = refl
filter-on p q (x ∷ xs) e = λ i. cond (e x (inl refl) i) (x ∷ filter-on p q xs (λ y h. e y (inr h)) i) (filter-on p q xs (λ y h. e y (inr h)) i)

map-on : {X Y : Type 0} (f g : X → Y) (xs : List X) → ((x : X) → Among xs x → f x ≡ g x) → map f xs ≡ map g xs
map-on f g [] e = refl
map-on f g (x ∷ xs) e = λ i. e x (inl refl) i ∷ map-on f g xs (λ y h. e y (inr h)) i

map-append : {X Y : Type 0} (f : X → Y) (xs ys : List X) → map f (xs ++ ys) ≡ map f xs ++ map f ys
map-append f [] ys = refl
map-append f (x ∷ xs) ys = λ i. f x ∷ map-append f xs ys i

-- All nodes by their indices.
front-map : (ns : List Node) (k : ℕ) → k ≤ length ns → map (node_at ns) (count_up k) ≡ take k ns
front-map ns zero le = refl
front-map ns (suc k) le =
    let one : k + 1 ≡ suc k = omega arith in
    map-append (node_at ns) (count_up k) (k ∷ [])
    ∙ ap (λ (ms : List Node). ms ++ node_at ns k ∷ []) (front-map ns k (omega arith))
    ∙ sym (take_more ns k (0, 0, []) (omega arith)) ∙ ap (λ j. take j ns) one

pub all-map : (ns : List Node) → ns ≡ map (node_at ns) (count_up (length ns))
all-map ns = sym (front-map ns (length ns) (omega arith) ∙ take_all (length ns) ns (omega arith))

-- The roots, and what stands under a node, by indices.
pub roots-map : (twigs : List Twig) (ns : List Node) (flags : List Bool) → ns ≡ nodes twigs → ((i : ℕ) → i < length ns → is_root twigs (node_at ns i) ≡ flag_at flags i) → roots twigs ≡ map (node_at ns) (filter (flag_at flags) (count_up (length ns)))
roots-map twigs ns flags is tie =
    ap (filter (is_root twigs)) (sym is ∙ all-map ns)
    ∙ filter-map (is_root twigs) (node_at ns) (count_up (length ns))
    ∙ ap (map (node_at ns)) (filter-on (λ (i : ℕ). is_root twigs (node_at ns i)) (flag_at flags) (count_up (length ns)) (λ i h. tie i (among-count (length ns) i h)))

pub under-map : (twigs : List Twig) (ns : List Node) (ups : List (Option ℕ)) (flags : List Bool) (p : ℕ) → ns ≡ nodes twigs → ((i : ℕ) → i < length ns → (not (is_root twigs (node_at ns i)) && is_id (up twigs (id_at ns i)) (id_at ns p)) ≡ is_under ups flags p i)
    → under twigs (node_at ns p) ≡ map (node_at ns) (filter (is_under ups flags p) (count_up (length ns)))
under-map twigs ns ups flags p is tie =
    ap (filter (λ (n : Node). not (is_root twigs n) && is_id (up twigs n.2) (id_at ns p))) (sym is ∙ all-map ns)
    ∙ filter-map (λ (n : Node). not (is_root twigs n) && is_id (up twigs n.2) (id_at ns p)) (node_at ns) (count_up (length ns))
    ∙ ap (map (node_at ns)) (filter-on (λ (i : ℕ). not (is_root twigs (node_at ns i)) && is_id (up twigs (id_at ns i)) (id_at ns p)) (is_under ups flags p) (count_up (length ns)) (λ i h. tie i (among-count (length ns) i h)))

-- Lines of indices, as lines of nodes.
abbrev pub lines_by : List Twig → List Node → List (ℕ × ℕ) → List Line
lines_by twigs ns walked = map (λ (x : ℕ × ℕ). line_of twigs x.0 (node_at ns x.1)) walked

pub walk-prints : (twigs : List Twig) (ns : List Node) (lists : ℕ → List ℕ) → ((p i : ℕ) → Among (lists p) i → i < length ns) → ((p : ℕ) → p < length ns → under twigs (node_at ns p) ≡ map (node_at ns) (lists p))
    → {depth : ℕ} {is : List ℕ} {walked : List (ℕ × ℕ)} → WalksNodes lists depth is walked → ((i : ℕ) → Among is i → i < length ns) → PrintsNodes twigs depth (map (node_at ns) is) (lines_by twigs ns walked)
walk-prints twigs ns lists below tie ends small = nothing
walk-prints twigs ns lists below tie (visits {depth = depth} {n = n} own rest e w r) small =
    node (lines_by twigs ns own) (lines_by twigs ns rest)
    (ap (lines_by twigs ns) e ∙ ap (λ (ls : List Line). line_of twigs depth (node_at ns n) ∷ ls) (map-append (λ (x : ℕ × ℕ). line_of twigs x.0 (node_at ns x.1)) own rest))
    (subst (λ (ms : List Node). PrintsNodes twigs (suc depth) ms (lines_by twigs ns own)) (sym (tie n (small n (inl refl)))) (walk-prints twigs ns lists below tie w (λ i h. below n i h)))
    (walk-prints twigs ns lists below tie r (λ i h. small i (inr h)))

-- All that a walk meets is among the nodes.
pub walk-below : (lists : ℕ → List ℕ) (bound : ℕ) → ((p i : ℕ) → Among (lists p) i → i < bound) → {depth : ℕ} {is : List ℕ} {walked : List (ℕ × ℕ)} → WalksNodes lists depth is walked → ((i : ℕ) → Among is i → i < bound) → (x : ℕ × ℕ) → Among walked x → x.1 < bound
walk-below lists bound below ends small x h = absurd h
walk-below lists bound below (visits {depth = depth} {n = n} own rest e w r) small x h =
    elim (subst (λ (ls : List (ℕ × ℕ)). Among ls x) e h) [
      | inl is ↦ subst (λ k. k < bound) (sym (ap (λ (y : ℕ × ℕ). y.1) is)) (small n (inl refl))
      | inr later ↦ elim (among-append own rest x later) [
        | inl a ↦ walk-below lists bound below w (λ i k. below n i k) x a
        | inr b ↦ walk-below lists bound below r (λ i k. small i (inr k)) x b
      ]
    ]

-- The line of a node, by what is kept.
abbrev line_if : Bool → ℕ → Node → Line
line_if b depth n = record { depth = depth; who = if b then Ghost n.2 else Live n.1 }

line-same : {a b : Bool} (depth : ℕ) (n : Node) → a ≡ b → line_if a depth n ≡ line_if b depth n
line-same depth n e = ap (λ (t : Bool). line_if t depth n) e

pub kept-lines : (twigs : List Twig) (facts : Facts) → AreFacts twigs facts → (ns : List Node) (walked : List (ℕ × ℕ)) → map (λ (x : ℕ × ℕ). kept_line facts x.0 (node_at ns x.1)) walked ≡ lines_by twigs ns walked
kept-lines twigs facts are ns walked = map-on (λ (x : ℕ × ℕ). kept_line facts x.0 (node_at ns x.1)) (λ (x : ℕ × ℕ). line_of twigs x.0 (node_at ns x.1)) walked
    (λ x h. line-same x.0 (node_at ns x.1) (kept-ghost twigs facts are (node_at ns x.1).2))
