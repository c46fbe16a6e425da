-- The nodes in order: how they are put there, and that they are known by their ids.
use Rattle.std.proofs.Common.{◌≡◌, ◌⊎◌, ◌+◌, ◌<◌, ℕ, zero, suc, Bool, true, false, cond, List, [], ◌∷◌, ◌++◌, length, take, get_or, map, filter, flat_map, Option, Some, None, is_some, is_none, if◌then◌else◌, bytes_eq, refl, sym, ◌∙◌, ap, subst, inl, inr, arith, append_assoc, append-nil, nat_cmp, is_eq, Ordering, Less, Equal, Greater}
use Rattle.std.specs.Ordering.{match_ordering, ordering_then}
use Rattle.std.specs.Cmp.Lexicographic.{slice_cmp}
use Rattle.std.specs.BTreeSet.{insert_key}
use Rattle.std.specs.Global.{Vec}
use Rattle.std.specs.List.Sorted.{IsStrictlySortedBy}
use Rattle.std.proofs.lemmas.Bool.{cases_order, false≢true}
use Rattle.std.proofs.lemmas.List.{take_more, map_push, length-map, get_or-map}
use Rattle.std.proofs.lemmas.List.Elements.{filter-append}
use Rattle.std.proofs.lemmas.Cmp.{nat_cmp_total, nat_list_cmp_total, tied_itself}
use Rattle.std.proofs.lemmas.Map.Keys.{Less-from_sorted}
use Rattle.std.proofs.lemmas.Map.Text.{is_eq-slice_cmp}
use Rattle.std.proofs.lemmas.Slice.Eq.{bytes_eq-Decides}
use Rattle.thread_model.specs.Members.{Among}
use Rattle.thread_model.proofs.Members.{among-left, among-right, among-append, among-filter, among-filtered, among-flat_map, among-flattened, among-map, among-mapped}
use Rattle.thread_model.proofs.Entries.{equal-true, key-cases, none-some, some-same}
use Rattle.thread_tree.specs.Trees.{Node, before, ghost_node, ghosts_of, HaveOwnIds, is_ghost, last_other, live_node, message_of, named_by, node_by, node_cmp, nodes, or_else, placed_by, put_nodes, up, up_by}
use Rattle.thread_tree.specs.Facts.{AreFacts, kept_ghost, kept_is_ghost}
use Rattle.thread_tree.specs.Nodes.{AreClosed, HaveNodeIds, id_at, node_in, nodes_in}
use Rattle.thread_tree.specs.declared.twigs.Twig.{Twig}
use Rattle.thread_tree.specs.declared.facts.Facts.{Facts}
use Rattle.thread_tree.proofs.Kept.{kept-ghost, kept-node, kept-up, least-in}

-- The order of nodes as the code has them.
abbrev pub plain_cmp : ℕ × ℕ × Vec ℕ → ℕ × ℕ × Vec ℕ → Ordering
plain_cmp a b = node_cmp (node_in a) (node_in b)

in-by : (k y : ℕ × ℕ × Vec ℕ) (ks : List (ℕ × ℕ × Vec ℕ)) (rest : List Node) (o : Ordering) → nodes_in (insert_key plain_cmp ks k) ≡ rest
    → nodes_in (match_ordering o (k ∷ y ∷ ks) (y ∷ ks) (y ∷ insert_key plain_cmp ks k)) ≡ match_ordering o (node_in k ∷ node_in y ∷ nodes_in ks) (node_in y ∷ nodes_in ks) (node_in y ∷ rest)
in-by k y ks rest Less ih = refl
in-by k y ks rest Equal ih = refl
in-by k y ks rest Greater ih = ap (λ (ns : List Node). node_in y ∷ ns) ih

pub nodes-insert : (ks : List (ℕ × ℕ × Vec ℕ)) (k : ℕ × ℕ × Vec ℕ) → nodes_in (insert_key plain_cmp ks k) ≡ insert_key node_cmp (nodes_in ks) (node_in k)
nodes-insert [] k = refl
nodes-insert (y ∷ ks) k = in-by k y ks (insert_key node_cmp (nodes_in ks) (node_in k)) (plain_cmp k y) (nodes-insert ks k)

pub put-append : (done xs ys : List Node) → put_nodes done (xs ++ ys) ≡ put_nodes (put_nodes done xs) ys
put-append done [] ys = refl
put-append done (x ∷ xs) ys = put-append (insert_key node_cmp done x) xs ys

-- Loops that put nodes.
pub live-take : (twigs : List Twig) (i : ℕ) (d : Twig) (start old new : List Node) → i < length twigs → old ≡ put_nodes start (map live_node (take i twigs)) → new ≡ insert_key node_cmp old (live_node (get_or twigs i d)) → new ≡ put_nodes start (map live_node (take (i + 1) twigs))
live-take twigs i d start old new lt is puts =
    puts ∙ ap (λ (ns : List Node). insert_key node_cmp ns (live_node (get_or twigs i d))) is
    ∙ sym (put-append start (map live_node (take i twigs)) (live_node (get_or twigs i d) ∷ []))
    ∙ ap (put_nodes start) (sym (map_push live_node (take i twigs) (get_or twigs i d)) ∙ ap (map live_node) (sym (take_more twigs i d lt)))

filter-last : (p : List ℕ → Bool) (r : List ℕ) (b : Bool) → p r ≡ b → filter p (r ∷ []) ≡ (if b then r ∷ [] else [])
filter-last p r true e = ap (λ (c : Bool). cond c (r ∷ []) []) e
filter-last p r false e = ap (λ (c : Bool). cond c (r ∷ []) []) e

ghost-by : (g : List ℕ → Node) (r : List ℕ) (done : List Node) (b : Bool) → (if b then insert_key node_cmp done (g r) else done) ≡ put_nodes done (map g (if b then r ∷ [] else []))
ghost-by g r done true = refl
ghost-by g r done false = refl

map-append : {X Y : Type 0} (f : X → Y) (xs ys : List X) → map f (xs ++ ys) ≡ map f xs ++ map f ys
map-append f [] ys = refl
map-append {Y = Y} f (x ∷ xs) ys = ap (λ (zs : List Y). f x ∷ zs) (map-append f xs ys)

pub ghosts-take : (g : List ℕ → Node) (p : List ℕ → Bool) (refs : List (List ℕ)) (i : ℕ) (d : List ℕ) (start old new : List Node) → i < length refs → old ≡ put_nodes start (map g (filter p (take i refs)))
    → new ≡ (if p (get_or refs i d) then insert_key node_cmp old (g (get_or refs i d)) else old) → new ≡ put_nodes start (map g (filter p (take (i + 1) refs)))
ghosts-take g p refs i d start old new lt is puts =
    let r = get_or refs i d in
    puts ∙ ghost-by g r old (p r)
    ∙ ap (λ (ns : List Node). put_nodes ns (map g (if p r then r ∷ [] else []))) is
    ∙ sym (put-append start (map g (filter p (take i refs))) (map g (if p r then r ∷ [] else [])))
    ∙ ap (put_nodes start) (
    sym (map-append g (filter p (take i refs)) (if p r then r ∷ [] else []))
    ∙ ap (map g) (ap (λ (xs : List (List ℕ)). filter p (take i refs) ++ xs) (sym (filter-last p r (p r) refl)) ∙ sym (filter-append p (take i refs) (r ∷ [])) ∙ ap (filter p) (sym (take_more refs i d lt))))

flat-push : {X Y : Type 0} (f : X → List Y) (xs : List X) (x : X) → flat_map f (xs ++ x ∷ []) ≡ flat_map f xs ++ f x
flat-push f [] x = append-nil (f x)
flat-push {Y = Y} f (y ∷ ys) x = ap (λ (zs : List Y). f y ++ zs) (flat-push f ys x) ∙ sym (append_assoc (f y) (flat_map f ys) (f x))

pub flat-take : (f : Twig → List Node) (twigs : List Twig) (i : ℕ) (d : Twig) (start old new : List Node) → i < length twigs → old ≡ put_nodes start (flat_map f (take i twigs)) → new ≡ put_nodes old (f (get_or twigs i d)) → new ≡ put_nodes start (flat_map f (take (i + 1) twigs))
flat-take f twigs i d start old new lt is puts =
    puts ∙ ap (λ (ns : List Node). put_nodes ns (f (get_or twigs i d))) is
    ∙ sym (put-append start (flat_map f (take i twigs)) (f (get_or twigs i d)))
    ∙ ap (put_nodes start) (sym (flat-push f (take i twigs) (get_or twigs i d)) ∙ ap (flat_map f) (sym (take_more twigs i d lt)))

-- What is kept gives the same ghosts.
map-agree : {X Y : Type 0} (f g : X → Y) → ((x : X) → f x ≡ g x) → (xs : List X) → map f xs ≡ map g xs
map-agree f g e [] = refl
map-agree f g e (x ∷ xs) = λ i. e x i ∷ map-agree f g e xs i

filter-agree : {X : Type 0} (p q : X → Bool) → ((x : X) → p x ≡ q x) → (xs : List X) → filter p xs ≡ filter q xs
filter-agree p q e [] = refl
filter-agree p q e (x ∷ xs) = λ i. cond (e x i) (x ∷ filter-agree p q e xs i) (filter-agree p q e xs i)

flat-agree : {X Y : Type 0} (f g : X → List Y) → ((x : X) → f x ≡ g x) → (xs : List X) → flat_map f xs ≡ flat_map g xs
flat-agree f g e [] = refl
flat-agree f g e (x ∷ xs) = λ i. e x i ++ flat-agree f g e xs i

-- The ghosts of a message, by what is kept.
abbrev pub kept_ghosts : Facts → Twig → List Node
kept_ghosts facts t = map (kept_ghost facts) (filter (kept_is_ghost facts) t.refs)

pub nodes-kept : (twigs : List Twig) (facts : Facts) → AreFacts twigs facts → put_nodes (put_nodes [] (map live_node twigs)) (flat_map (kept_ghosts facts) twigs) ≡ nodes twigs
nodes-kept twigs facts are =
    ap (put_nodes (put_nodes [] (map live_node twigs))) (flat-agree (kept_ghosts facts) (ghosts_of twigs) (λ t.
    map-agree (kept_ghost facts) (ghost_node twigs) (kept-node twigs facts are) (filter (kept_is_ghost facts) t.refs)
    ∙ ap (map (ghost_node twigs)) (filter-agree (kept_is_ghost facts) (is_ghost twigs) (kept-ghost twigs facts are) t.refs)) twigs)
    ∙ sym (put-append [] (map live_node twigs) (flat_map (ghosts_of twigs) twigs))

-- A node of all is a message's or a ghost's.
put-cases : (done ns : List Node) (n : Node) → Among (put_nodes done ns) n → Among done n ⊎ Among ns n
put-cases done [] n h = inl h
put-cases done (x ∷ xs) n h = elim (put-cases (insert_key node_cmp done x) xs n h) [
  | inl a ↦ elim (key-cases node_cmp done x n a) [ inl e ↦ inr (inl e) | inr b ↦ inl b ]
  | inr b ↦ inr (inr b)
]

-- The message with an id.
find-in : (ts : List Twig) (id : List ℕ) (u : Twig) → message_of ts id ≡ Some u → Among ts u × (u.id ≡ id)
find-in [] id u e = absurd (none-some u e)
find-in (t ∷ ts) id u e = find-by t ts id u (find-in ts id u) (bytes_eq t.id id) refl e
  where
    find-by : (t : Twig) (ts : List Twig) (id : List ℕ) (u : Twig) → (message_of ts id ≡ Some u → Among ts u × (u.id ≡ id)) → (b : Bool) → bytes_eq t.id id ≡ b → cond b (Some t) (message_of ts id) ≡ Some u → Among (t ∷ ts) u × (u.id ≡ id)
    find-by t ts id u ih true is e = let same : t ≡ u = some-same t u e in (inl (sym same), ap (λ (v : Twig). v.id) (sym same) ∙ (bytes_eq-Decides t.id id).0 is)
    find-by t ts id u ih false is e = let r = ih e in (inr r.0, r.1)

message-by : (t u : Twig) (found : Option Twig) (b : Bool) → b ≡ false → found ≡ Some u → cond b (Some t) found ≡ Some u
message-by t u found true e is = absurd (false≢true (sym e))
message-by t u found false e is = is

message-own : (ts : List Twig) → HaveOwnIds ts → (u : Twig) → Among ts u → message_of ts u.id ≡ Some u
message-own [] own u h = absurd h
message-own (t ∷ ts) own u (inl is) =
    ap (λ (b : Bool). cond b (Some t) (message_of ts u.id)) ((bytes_eq-Decides t.id u.id).1 (ap (λ (v : Twig). v.id) (sym is))) ∙ ap Some (sym is)
message-own (t ∷ ts) own u (inr h) = message-by t u (message_of ts u.id) (bytes_eq t.id u.id) (apart (bytes_eq t.id u.id) refl) (message-own ts own.1 u h)
  where
    apart : (b : Bool) → bytes_eq t.id u.id ≡ b → b ≡ false
    apart true e = absurd (own.0 u h (sym ((bytes_eq-Decides t.id u.id).0 e)))
    apart false e = refl

-- The node that an id has.
abbrev node_of_by : Option Twig → Node → Node
node_of_by None ghost = ghost
node_of_by (Some t) ghost = live_node t

abbrev node_of : List Twig → List ℕ → Node
node_of twigs id = node_of_by (message_of twigs id) (ghost_node twigs id)

ghost-id : (o : Option Twig) (id : List ℕ) → (node_by o id).2 ≡ id
ghost-id None id = refl
ghost-id (Some t) id = refl

none-message : (o : Option Twig) → is_none o ≡ true → o ≡ None
none-message None e = refl
none-message (Some t) e = absurd (false≢true e)

pub known-by-id : (twigs : List Twig) → HaveOwnIds twigs → (n : Node) → Among (nodes twigs) n → n ≡ node_of twigs n.2
known-by-id twigs own n h = elim (put-cases [] (map live_node twigs ++ flat_map (ghosts_of twigs) twigs) n h) [
  | inl none ↦ absurd none
  | inr b ↦ elim (among-append (map live_node twigs) (flat_map (ghosts_of twigs) twigs) n b) [
    | inl live ↦
        let r = among-mapped live_node twigs n live in
        let e : message_of twigs n.2 ≡ Some r.0 = ap (λ (m : Node). message_of twigs m.2) (sym r.2) ∙ message-own twigs own r.0 r.1 in
        sym r.2 ∙ sym (ap (λ (o : Option Twig). node_of_by o (ghost_node twigs n.2)) e)
    | inr ghost ↦
        let r = among-flat_map (ghosts_of twigs) twigs n ghost in
        let s = among-mapped (ghost_node twigs) (filter (is_ghost twigs) r.0.refs) n r.2 in
        let t = among-filter (is_ghost twigs) r.0.refs s.0 s.1 in
        let id : s.0 ≡ n.2 = sym (ghost-id (named_by twigs s.0) s.0) ∙ ap (λ (m : Node). m.2) s.2 in
        let e : message_of twigs n.2 ≡ None = ap (message_of twigs) (sym id) ∙ none-message (message_of twigs s.0) t.1 in
        sym s.2 ∙ ap (ghost_node twigs) id ∙ sym (ap (λ (o : Option Twig). node_of_by o (ghost_node twigs n.2)) e)
  ]
]

-- The order tells nodes apart.
pub cmp-self : (n : Node) → node_cmp n n ≡ Equal
cmp-self n =
    ap (λ (o : Ordering). ordering_then (ordering_then o (nat_cmp n.1 n.1)) (slice_cmp nat_cmp n.2 n.2)) (tied_itself nat_cmp_total n.0)
    ∙ ap (λ (o : Ordering). ordering_then o (slice_cmp nat_cmp n.2 n.2)) (tied_itself nat_cmp_total n.1)
    ∙ tied_itself nat_list_cmp_total n.2

less-equal : Less ≡ Equal → ⊥
less-equal e = cc

greater-equal : Greater ≡ Equal → ⊥
greater-equal e = cc

then-equal : (o p : Ordering) → ordering_then o p ≡ Equal → (o ≡ Equal) × (p ≡ Equal)
then-equal Less p e = absurd (less-equal e)
then-equal Equal p e = (refl, e)
then-equal Greater p e = absurd (greater-equal e)

pub cmp-same : (a b : Node) → node_cmp a b ≡ Equal → a ≡ b
cmp-same a b e =
    let first = then-equal (ordering_then (nat_cmp a.0 b.0) (nat_cmp a.1 b.1)) (slice_cmp nat_cmp a.2 b.2) e in
    let second = then-equal (nat_cmp a.0 b.0) (nat_cmp a.1 b.1) first.0 in
    let p : a.0 ≡ b.0 = equal-true a.0 b.0 second.0 in
    let q : a.1 ≡ b.1 = equal-true a.1 b.1 second.1 in
    let r : a.2 ≡ b.2 = (bytes_eq-Decides a.2 b.2).0 (sym (is_eq-slice_cmp a.2 b.2) ∙ ap is_eq first.1) in
    λ i. (p i, q i, r i)

-- Nodes in order are known by their ids.
get-among : {X : Type 0} (xs : List X) (i : ℕ) (d : X) → i < length xs → Among xs (get_or xs i d)
get-among [] i d lt = absurd (omega arith)
get-among (x ∷ xs) zero d lt = inl refl
get-among (x ∷ xs) (suc i) d lt = inr (get-among xs i d (omega arith))

apart-ids : (twigs : List Twig) → HaveOwnIds twigs → (list : List (ℕ × ℕ × Vec ℕ)) (d : ℕ × ℕ × Vec ℕ) → IsStrictlySortedBy plain_cmp list → nodes_in list ≡ nodes twigs → (i j : ℕ) → i < j → j < length list → id_at (nodes_in list) i ≡ id_at (nodes_in list) j → ⊥
apart-ids twigs own list d sorted is i j less lt e =
    let cmp : plain_cmp (get_or list i d) (get_or list j d) ≡ Less = Less-from_sorted plain_cmp list i j d sorted less lt in
    let lti : i < length list = omega arith in
    let len : length (nodes_in list) ≡ length list = length-map list node_in in
    let in_i : Among (nodes twigs) (get_or (nodes_in list) i (0, 0, [])) = subst (λ (ns : List Node). Among ns (get_or (nodes_in list) i (0, 0, []))) is (get-among (nodes_in list) i (0, 0, []) (omega arith)) in
    let in_j : Among (nodes twigs) (get_or (nodes_in list) j (0, 0, [])) = subst (λ (ns : List Node). Among ns (get_or (nodes_in list) j (0, 0, []))) is (get-among (nodes_in list) j (0, 0, []) (omega arith)) in
    let same : get_or (nodes_in list) i (0, 0, []) ≡ get_or (nodes_in list) j (0, 0, []) =
    known-by-id twigs own (get_or (nodes_in list) i (0, 0, [])) in_i ∙ ap (node_of twigs) e ∙ sym (known-by-id twigs own (get_or (nodes_in list) j (0, 0, [])) in_j) in
    let plain : node_in (get_or list i d) ≡ node_in (get_or list j d) = sym (get_or-map node_in list i d (0, 0, []) lti) ∙ same ∙ get_or-map node_in list j d (0, 0, []) lt in
    less-equal (sym cmp ∙ ap (λ (n : Node). node_cmp n (node_in (get_or list j d))) plain ∙ cmp-self (node_in (get_or list j d)))

pub own-node-ids : (twigs : List Twig) → HaveOwnIds twigs → (list : List (ℕ × ℕ × Vec ℕ)) → IsStrictlySortedBy plain_cmp list → nodes_in list ≡ nodes twigs → HaveNodeIds (nodes_in list)
own-node-ids twigs own [] sorted is = λ i j lt lj e. absurd (omega arith)
own-node-ids twigs own (x ∷ xs) sorted is = λ i j lt lj e.
    let len : length (nodes_in (x ∷ xs)) ≡ length (x ∷ xs) = length-map (x ∷ xs) node_in in
    elim (cases_order i j) [
      | inl same ↦ same
      | inr apart ↦ elim apart [
        | inl less ↦ absurd (apart-ids twigs own (x ∷ xs) x sorted is i j less (omega arith) e)
        | inr more ↦ absurd (apart-ids twigs own (x ∷ xs) x sorted is j i more (omega arith) (sym e))
      ]
    ]

-- What an id stands under is a reference.
or-cases : (a b : Option (List ℕ)) (q : List ℕ) → or_else a b ≡ Some q → (a ≡ Some q) ⊎ (b ≡ Some q)
or-cases None b q e = inr e
or-cases (Some x) b q e = inl e

if-some : (b : Bool) (x : Option (List ℕ)) (q : List ℕ) → (if b then x else None) ≡ Some q → x ≡ Some q
if-some true x q e = e
if-some false x q e = absurd (none-some q e)

if-other : (b : Bool) (r q : List ℕ) → (if b then None else Some r) ≡ Some q → r ≡ q
if-other true r q e = absurd (none-some q e)
if-other false r q e = some-same r q e

last-ref : (refs : List (List ℕ)) (id q : List ℕ) → last_other refs id ≡ Some q → Among refs q
last-ref [] id q e = absurd (none-some q e)
last-ref (r ∷ rs) id q e = elim (or-cases (last_other rs id) (if bytes_eq r id then None else Some r) q e) [
  | inl a ↦ inr (last-ref rs id q a)
  | inr b ↦ inl (sym (if-other (bytes_eq r id) r q b))
]

before-ref : (prev : Option (List ℕ)) (refs : List (List ℕ)) (id q : List ℕ) → before prev refs id ≡ Some q → (prev ≡ Some q) ⊎ Among refs q
before-ref prev [] id q e = absurd (none-some q e)
before-ref prev (r ∷ rs) id q e = elim (or-cases (if bytes_eq r id then prev else None) (before (Some r) rs id) q e) [
  | inl a ↦ inl (if-some (bytes_eq r id) prev q a)
  | inr b ↦ elim (before-ref (Some r) rs id q b) [
    | inl is ↦ inr (inl (sym (some-same r q is)))
    | inr h ↦ inr (inr h)
  ]
]

up-ref-by : (twigs : List Twig) (id q : List ℕ) (m p : Option Twig) → message_of twigs id ≡ m → placed_by twigs id ≡ p → up_by m p id ≡ Some q → (t : Twig) × Among twigs t × Among t.refs q
up-ref-by twigs id q (Some t) p is places e = (t, (find-in twigs id t is).0, last-ref t.refs t.id q e)
up-ref-by twigs id q None None is places e = absurd (none-some q e)
up-ref-by twigs id q None (Some t) is places e = (
  t,
  (least-in (λ (u : Twig). is_some (before None u.refs id)) twigs t places).0,
  elim (before-ref None t.refs id q e) [ inl none ↦ absurd (none-some q none) | inr h ↦ h ],
)

up-ref : (twigs : List Twig) (id q : List ℕ) → up twigs id ≡ Some q → (t : Twig) × Among twigs t × Among t.refs q
up-ref twigs id q e = up-ref-by twigs id q (message_of twigs id) (placed_by twigs id) refl refl e

-- A reference is a node.
kept-by : (cmp : Node → Node → Ordering) (y : Node) (ks : List Node) (k x : Node) (o : Ordering) → (Among ks x → Among (insert_key cmp ks k) x) → Among (y ∷ ks) x → Among (match_ordering o (k ∷ y ∷ ks) (y ∷ ks) (y ∷ insert_key cmp ks k)) x
kept-by cmp y ks k x Less ih h = inr h
kept-by cmp y ks k x Equal ih h = h
kept-by cmp y ks k x Greater ih (inl a) = inl a
kept-by cmp y ks k x Greater ih (inr b) = inr (ih b)

insert-kept : (ks : List Node) (k x : Node) → Among ks x → Among (insert_key node_cmp ks k) x
insert-kept [] k x h = absurd h
insert-kept (y ∷ ks) k x h = kept-by node_cmp y ks k x (node_cmp k y) (insert-kept ks k x) h

here-by : (y : Node) (ks : List Node) (k : Node) (o : Ordering) → node_cmp k y ≡ o → Among (insert_key node_cmp ks k) k → Among (match_ordering o (k ∷ y ∷ ks) (y ∷ ks) (y ∷ insert_key node_cmp ks k)) k
here-by y ks k Less e ih = inl refl
here-by y ks k Equal e ih = inl (cmp-same k y e)
here-by y ks k Greater e ih = inr ih

insert-here : (ks : List Node) (k : Node) → Among (insert_key node_cmp ks k) k
insert-here [] k = inl refl
insert-here (y ∷ ks) k = here-by y ks k (node_cmp k y) refl (insert-here ks k)

put-kept : (done ns : List Node) (n : Node) → Among done n → Among (put_nodes done ns) n
put-kept done [] n h = h
put-kept done (x ∷ xs) n h = put-kept (insert_key node_cmp done x) xs n (insert-kept done x n h)

put-new : (done ns : List Node) (n : Node) → Among ns n → Among (put_nodes done ns) n
put-new done [] n h = absurd h
put-new done (x ∷ xs) n (inl is) = put-kept (insert_key node_cmp done x) xs n (subst (Among (insert_key node_cmp done x)) (sym is) (insert-here done x))
put-new done (x ∷ xs) n (inr h) = put-new (insert_key node_cmp done x) xs n h

ref-node-by : (twigs : List Twig) (t : Twig) (q : List ℕ) → Among twigs t → Among t.refs q → (m : Option Twig) → message_of twigs q ≡ m → (n : Node) × Among (nodes twigs) n × (n.2 ≡ q)
ref-node-by twigs t q in_t in_q (Some u) is =
    let r = find-in twigs q u is in
    (live_node u, put-new [] (map live_node twigs ++ flat_map (ghosts_of twigs) twigs) (live_node u) (among-left (map live_node twigs) (flat_map (ghosts_of twigs) twigs) (live_node u) (among-map live_node twigs u r.0)), r.1)
ref-node-by twigs t q in_t in_q None is = (
  ghost_node twigs q,
  put-new [] (map live_node twigs ++ flat_map (ghosts_of twigs) twigs) (ghost_node twigs q) (among-right (map live_node twigs) (flat_map (ghosts_of twigs) twigs) (ghost_node twigs q)
      (among-flattened (ghosts_of twigs) twigs t (ghost_node twigs q) in_t (among-map (ghost_node twigs) (filter (is_ghost twigs) t.refs) q (among-filtered (is_ghost twigs) t.refs q in_q (ap is_none is))))),
  ghost-id (named_by twigs q) q,
)

among-place : (ns : List Node) (n : Node) → Among ns n → (j : ℕ) × (j < length ns) × (get_or ns j (0, 0, []) ≡ n)
among-place [] n h = absurd h
among-place (x ∷ xs) n (inl is) = (0, omega arith, sym is)
among-place (x ∷ xs) n (inr h) = let r = among-place xs n h in (suc r.0, (let lt = r.1 in omega arith), r.2)

pub closed-ups : (twigs : List Twig) (facts : Facts) (ns : List Node) → AreFacts twigs facts → ns ≡ nodes twigs → AreClosed facts ns
closed-ups twigs facts ns are is = λ id q e.
    let t = up-ref twigs id q (sym (kept-up twigs facts are id) ∙ e) in
    let n = ref-node-by twigs t.0 q t.1 t.2 (message_of twigs q) refl in
    let p = among-place ns n.0 (subst (λ (ms : List Node). Among ms n.0) (sym is) n.1) in
    (p.0, p.1, ap (λ (m : Node). m.2) p.2 ∙ n.2)
