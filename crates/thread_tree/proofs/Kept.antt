-- What is kept of messages, after one message more, and what it says.
use Rattle.std.proofs.Common.{◌≡◌, ◌+◌, ◌-◌, ◌≤◌, ◌<◌, ℕ, zero, suc, Bool, true, false, cond, ◌||◌, List, [], ◌∷◌, ◌++◌, length, take, get_or, Option, Some, None, is_some, is_none, nat_lt, if◌then◌else◌, bytes_eq, refl, sym, ◌∙◌, ap, subst, inl, inr, arith}
use Rattle.std.specs.Option.{option_map}
use Rattle.std.specs.BTreeMap.{BTreeMap}
use Rattle.std.specs.Global.{Vec}
use Rattle.std.proofs.lemmas.Bool.{cases_Bool, false≢true}
use Rattle.std.proofs.lemmas.List.{take_more}
use Rattle.std.proofs.lemmas.Slice.Eq.{bytes_eq-Decides}
use Rattle.thread_model.specs.Members.{Among, has}
use Rattle.thread_model.proofs.Members.{get-among}
use Rattle.thread_model.proofs.Rounds.{same_bools}
use Rattle.thread_model.proofs.Entries.{none-some, some-same}
use Rattle.thread_tree.specs.Trees.{or_else, last_other, before, lesser_by, least, message_of, named_by, placed_by, up_by, up_of_ghost, up, node_by, ghost_node, is_ghost, HaveOwnIds}
use Rattle.thread_tree.specs.Facts.{AreFacts, NamesAll, NotesAbove, NotesNaming, NotesPlacing, PlacesAll, above_value, at_id, kept_ghost, kept_is_ghost, kept_node, kept_up, kept_up_by, least_placing, lesser_naming, lesser_placing, naming_of, placing_at, placing_in}
use Rattle.thread_tree.specs.declared.twigs.Twig.{Twig}
use Rattle.thread_tree.specs.declared.facts.Naming.{Naming}
use Rattle.thread_tree.specs.declared.facts.Placing.{Placing}
use Rattle.thread_tree.specs.declared.facts.Facts.{Facts}
use Rattle.thread_tree.proofs.Lesser.{lesser-none, lesser-assoc, lesser-ge, lesser-lt, lesser-same, least-push, least_placing-push, naming-lesser}

pub eq-swap : (a b : List ℕ) → bytes_eq a b ≡ bytes_eq b a
eq-swap a b = same_bools (bytes_eq a b) (bytes_eq b a)
    (λ t. (bytes_eq-Decides b a).1 (sym ((bytes_eq-Decides a b).0 t)))
    (λ t. (bytes_eq-Decides a b).1 (sym ((bytes_eq-Decides b a).0 t)))

-- The last reference, of one more.
or-none : (o : Option (List ℕ)) → or_else o None ≡ o
or-none None = refl
or-none (Some x) = refl

or-assoc : (a b c : Option (List ℕ)) → or_else a (or_else b c) ≡ or_else (or_else a b) c
or-assoc None b c = refl
or-assoc (Some x) b c = refl

pub last-push : (xs : List (List ℕ)) (r id : List ℕ) → last_other (xs ++ r ∷ []) id ≡ or_else (if bytes_eq r id then None else Some r) (last_other xs id)
last-push [] r id = sym (or-none (if bytes_eq r id then None else Some r))
last-push (x ∷ xs) r id =
    ap (λ (o : Option (List ℕ)). or_else o (if bytes_eq x id then None else Some x)) (last-push xs r id)
    ∙ sym (or-assoc (if bytes_eq r id then None else Some r) (last_other xs id) (if bytes_eq x id then None else Some x))

-- What stands before an id, of one reference more.
abbrev pub last_or : Option (List ℕ) → List (List ℕ) → Option (List ℕ)
last_or prev [] = prev
last_or prev (x ∷ xs) = last_or (Some x) xs

pub before-push : (prev : Option (List ℕ)) (xs : List (List ℕ)) (r id : List ℕ) → before prev (xs ++ r ∷ []) id ≡ or_else (before prev xs id) (if bytes_eq r id then last_or prev xs else None)
before-push prev [] r id = or-none (if bytes_eq r id then prev else None)
before-push prev (x ∷ xs) r id =
    ap (or_else (if bytes_eq x id then prev else None)) (before-push (Some x) xs r id)
    ∙ or-assoc (if bytes_eq x id then prev else None) (before (Some x) xs id) (if bytes_eq r id then last_or (Some x) xs else None)

pub last-take : (prev : Option (List ℕ)) (xs : List (List ℕ)) (i : ℕ) (d : List ℕ) → i < length xs → last_or prev (take (suc i) xs) ≡ Some (get_or xs i d)
last-take prev [] i d lt = absurd (omega arith)
last-take prev (x ∷ xs) zero d lt = refl
last-take prev (x ∷ xs) (suc i) d lt = last-take (Some x) xs i d (omega arith)

-- The message with an id, of one more that has an id of its own.
message-one : {Y : Type 0} (f : Twig → Y) (t : Twig) (b : Bool) → option_map f (cond b (Some t) None) ≡ (if b then Some (f t) else None)
message-one f t true = refl
message-one f t false = refl

message-later : {Y : Type 0} (f : Twig → Y) (u t : Twig) (found later : Option Twig) (b c : Bool) → (b ≡ true → c ≡ true → ⊥) → option_map f later ≡ (if c then Some (f t) else option_map f found)
    → option_map f (cond b (Some u) later) ≡ (if c then Some (f t) else option_map f (cond b (Some u) found))
message-later f u t found later true true apart ih = absurd (apart refl refl)
message-later f u t found later true false apart ih = refl
message-later f u t found later false true apart ih = ih
message-later f u t found later false false apart ih = ih

pub message-push : {Y : Type 0} (f : Twig → Y) (ts : List Twig) (t : Twig) (q : List ℕ) → ((u : Twig) → Among ts u → u.id ≡ t.id → ⊥) → option_map f (message_of (ts ++ t ∷ []) q) ≡ (if bytes_eq q t.id then Some (f t) else option_map f (message_of ts q))
message-push f [] t q own = message-one f t (bytes_eq t.id q) ∙ ap (λ (b : Bool). if b then Some (f t) else None) (eq-swap t.id q)
message-push f (u ∷ us) t q own =
    message-later f u t (message_of us q) (message_of (us ++ t ∷ []) q) (bytes_eq u.id q) (bytes_eq q t.id)
    (λ b c. own u (inl refl) ((bytes_eq-Decides u.id q).0 b ∙ (bytes_eq-Decides q t.id).0 c))
    (message-push f us t q (λ v h. own v (inr h)))

-- A message whose id no earlier one has.
pub own-before : (ts : List Twig) → HaveOwnIds ts → (i : ℕ) (d u : Twig) → i < length ts → Among (take i ts) u → u.id ≡ (get_or ts i d).id → ⊥
own-before [] own i d u lt h e = absurd (omega arith)
own-before (t ∷ ts) own zero d u lt h e = h
own-before (t ∷ ts) own (suc i) d u lt (inl is) e =
    own.0 (get_or ts i d) (get-among ts i d (omega arith)) (sym e ∙ ap (λ (v : Twig). v.id) is)
own-before (t ∷ ts) own (suc i) d u lt (inr h) e = own-before ts own.1 i d u (omega arith) h e

-- Names that were noted.
any-push : (xs : List (List ℕ)) (r q : List ℕ) → has (xs ++ r ∷ []) q ≡ (has xs q || bytes_eq r q)
any-push [] r q = or-false (bytes_eq r q)
  where
    or-false : (b : Bool) → (b || false) ≡ b
    or-false true = refl
    or-false false = refl
any-push (x ∷ xs) r q = ap (λ (b : Bool). bytes_eq x q || b) (any-push xs r q) ∙ or-later (bytes_eq x q) (has xs q) (bytes_eq r q)
  where
    or-later : (a b c : Bool) → (a || (b || c)) ≡ ((a || b) || c)
    or-later true b c = refl
    or-later false b c = refl

naming-again : (o : Option Naming) (n : Naming) → lesser_naming (lesser_naming o (Some n)) (Some n) ≡ lesser_naming o (Some n)
naming-again o n =
    lesser-assoc (λ (m : Naming). m.number) o (Some n) (Some n)
    ∙ ap (lesser_naming o) (lesser-same (λ (m : Naming). m.number) n n refl)

names-by : (old mid new : Option Naming) (n : Naming) (h b : Bool) → mid ≡ (if h then lesser_naming old (Some n) else old) → new ≡ (if b then lesser_naming mid (Some n) else mid) → new ≡ (if h || b then lesser_naming old (Some n) else old)
names-by old mid new n true true e g = g ∙ ap (λ (o : Option Naming). lesser_naming o (Some n)) e ∙ naming-again old n
names-by old mid new n true false e g = g ∙ e
names-by old mid new n false true e g = g ∙ ap (λ (o : Option Naming). lesser_naming o (Some n)) e
names-by old mid new n false false e g = g ∙ e

pub names-take : (old mid new : BTreeMap (Vec ℕ) Naming) (refs : List (List ℕ)) (i : ℕ) (d : List ℕ) (n : Naming) → i < length refs → NamesAll old mid (take i refs) n → NotesNaming mid new (get_or refs i d) n → NamesAll old new (take (i + 1) refs) n
names-take old mid new refs i d n in' is notes = λ q.
    let r = get_or refs i d in
    names-by (at_id old q) (at_id mid q) (at_id new q) n (has (take i refs) q) (bytes_eq r q) (is q)
    (notes q ∙ ap (λ (b : Bool). if b then lesser_naming (at_id mid q) (Some n) else at_id mid q) (eq-swap q r))
    ∙ ap (λ (b : Bool). if b then lesser_naming (at_id old q) (Some n) else at_id old q)
    (sym (any-push (take i refs) r q) ∙ ap (λ (xs : List (List ℕ)). has xs q) (sym (take_more refs i d in')))

-- Places that were noted.
places-by : (old mid new : Option (ℕ × List ℕ)) (number : ℕ) (prev : List ℕ) (w : Option (List ℕ)) (b : Bool) → mid ≡ lesser_placing old (option_map (λ (x : List ℕ). (number, x)) w) → new ≡ (if b then lesser_placing mid (Some (number, prev)) else mid)
    → new ≡ lesser_placing old (option_map (λ (x : List ℕ). (number, x)) (or_else w (if b then Some prev else None)))
places-by old mid new number prev None true e g = g ∙ ap (λ (o : Option (ℕ × List ℕ)). lesser_placing o (Some (number, prev))) (e ∙ lesser-none (λ (p : ℕ × List ℕ). p.0) old)
places-by old mid new number prev None false e g = g ∙ e
places-by old mid new number prev (Some x) true e g =
    g ∙ ap (λ (o : Option (ℕ × List ℕ)). lesser_placing o (Some (number, prev))) e
    ∙ lesser-assoc (λ (p : ℕ × List ℕ). p.0) old (Some (number, x)) (Some (number, prev))
    ∙ ap (lesser_placing old) (lesser-same (λ (p : ℕ × List ℕ). p.0) (number, x) (number, prev) refl)
places-by old mid new number prev (Some x) false e g = g ∙ e

pub places-take : (old mid new : BTreeMap (Vec ℕ) Placing) (number : ℕ) (refs : List (List ℕ)) (i : ℕ) (d : List ℕ) → 1 ≤ i → i < length refs → PlacesAll old mid number (take i refs) → NotesPlacing mid new (get_or refs i d) (number, get_or refs (i - 1) d) → PlacesAll old new number (take (i + 1) refs)
places-take old mid new number refs i d some in' is notes = λ q.
    let r = get_or refs i d in
    let prev = get_or refs (i - 1) d in
    let e : suc (i - 1) ≡ i = omega arith in
    let last : last_or None (take i refs) ≡ Some prev = ap (λ k. last_or None (take k refs)) (sym e) ∙ last-take None refs (i - 1) d (omega arith) in
    places-by (placing_at old q) (placing_at mid q) (placing_at new q) number prev (before None (take i refs) q) (bytes_eq r q) (is q)
    (notes q ∙ ap (λ (b : Bool). if b then lesser_placing (placing_at mid q) (Some (number, prev)) else placing_at mid q) (eq-swap q r))
    ∙ ap (λ (w : Option (List ℕ)). lesser_placing (placing_at old q) (option_map (λ (x : List ℕ). (number, x)) w))
    (ap (λ (o : Option (List ℕ)). or_else (before None (take i refs) q) (if bytes_eq r q then o else None)) (sym last)
    ∙ sym (before-push None (take i refs) r q) ∙ ap (λ (xs : List (List ℕ)). before None xs q) (sym (take_more refs i d in')))

-- One message more.
named-by : (o : Option Naming) (t : Twig) (b : Bool) → (if b then lesser_naming o (Some (naming_of t)) else o) ≡ lesser_naming o (option_map naming_of (if b then Some t else None))
named-by o t true = refl
named-by o t false = sym (lesser-none (λ (n : Naming). n.number) o)

pub facts-more : (ts : List Twig) (t : Twig) (old new : Facts) → ((u : Twig) → Among ts u → u.id ≡ t.id → ⊥) → AreFacts ts old → NotesAbove old.live new.live t → NamesAll old.naming new.naming t.refs (naming_of t) → PlacesAll old.placing new.placing t.number t.refs → AreFacts (ts ++ t ∷ []) new
facts-more ts t old new own are notes names places = record {
  live = λ q.
      notes q
      ∙ ap (λ (o : Option (Option (List ℕ))). if bytes_eq q t.id then Some (last_other t.refs t.id) else o) (are.live q)
      ∙ sym (message-push (λ (u : Twig). last_other u.refs u.id) ts t q own);
  naming = λ q.
      names q
      ∙ named-by (at_id old.naming q) t (has t.refs q)
      ∙ ap (λ (o : Option Naming). lesser_naming o (option_map naming_of (if has t.refs q then Some t else None))) (are.naming q)
      ∙ sym (ap (option_map naming_of) (least-push (λ (u : Twig). has u.refs q) ts t) ∙ naming-lesser (named_by ts q) (if has t.refs q then Some t else None));
  placing = λ q.
      places q
      ∙ ap (λ (o : Option (ℕ × List ℕ)). lesser_placing o (placing_in t.number t.refs q)) (are.placing q)
      ∙ sym (least_placing-push ts t q);
}

-- What is kept says what an id stands under.
least-in-by : (test : Twig → Bool) (t : Twig) (ts : List Twig) (u : Twig) → ((v : Twig) → least test ts ≡ Some v → Among ts v × (test v ≡ true)) → (b : Bool) → test t ≡ b → (o : Option Twig) → least test ts ≡ o
    → lesser_by (λ (v : Twig). v.number) (if b then Some t else None) o ≡ Some u → Among (t ∷ ts) u × (test u ≡ true)
least-in-by test t ts u ih true is None later e = let same : t ≡ u = some-same t u e in (inl (sym same), ap test (sym same) ∙ is)
least-in-by test t ts u ih true is (Some v) later e = elim (cases_Bool (nat_lt v.number t.number)) [
  | inl c ↦
      let same : v ≡ u = some-same v u (sym (lesser-lt (λ (w : Twig). w.number) t v c) ∙ e) in
      let r = ih v later in
      (inr (subst (Among ts) same r.0), ap test (sym same) ∙ r.1)
  | inr c ↦
      let same : t ≡ u = some-same t u (sym (lesser-ge (λ (w : Twig). w.number) t v c) ∙ e) in
      (inl (sym same), ap test (sym same) ∙ is)
]
least-in-by test t ts u ih false is o later e = let r = ih u (later ∙ e) in (inr r.0, r.1)

pub least-in : (test : Twig → Bool) (ts : List Twig) (u : Twig) → least test ts ≡ Some u → Among ts u × (test u ≡ true)
least-in test [] u e = absurd (none-some u e)
least-in test (t ∷ ts) u e = least-in-by test t ts u (least-in test ts) (test t) refl (least test ts) refl e

-- How a message that may be there places an id.
abbrev placing_by : Option Twig → List ℕ → Option (ℕ × List ℕ)
placing_by None id = None
placing_by (Some t) id = placing_in t.number t.refs id

-- A message that places an id, and what is kept of it.
some-before : (o : Option (List ℕ)) → is_some o ≡ true → (b : List ℕ) × (o ≡ Some b)
some-before None e = absurd (false≢true e)
some-before (Some b) e = (b, refl)

placed-pick : (t u : Twig) (id : List ℕ) (c : Bool) → placing_by (if c then Some u else Some t) id ≡ (if c then placing_by (Some u) id else placing_by (Some t) id)
placed-pick t u id true = refl
placed-pick t u id false = refl

if-same : (x y z w : Option (ℕ × List ℕ)) (c : Bool) → x ≡ z → y ≡ w → (if c then x else y) ≡ (if c then z else w)
if-same x y z w true p q = p
if-same x y z w false p q = q

placed-by : (t : Twig) (ts : List Twig) (id : List ℕ) (w : Option (List ℕ)) → before None t.refs id ≡ w → (o : Option Twig) → placed_by ts id ≡ o → least_placing ts id ≡ placing_by o id
    → lesser_placing (option_map (λ (b : List ℕ). (t.number, b)) w) (least_placing ts id) ≡ placing_by (lesser_by (λ (u : Twig). u.number) (if is_some w then Some t else None) o) id
placed-by t ts id None is o later ih = ih
placed-by t ts id (Some b) is None later ih =
    ap (lesser_placing (Some (t.number, b))) ih ∙ ap (option_map (λ (x : List ℕ). (t.number, x))) (sym is)
placed-by t ts id (Some b) is (Some u) later ih =
    let r = least-in (λ (v : Twig). is_some (before None v.refs id)) ts u later in
    let s = some-before (before None u.refs id) r.1 in
    let own : placing_by (Some t) id ≡ Some (t.number, b) = ap (option_map (λ (x : List ℕ). (t.number, x))) is in
    let other : placing_by (Some u) id ≡ Some (u.number, s.0) = ap (option_map (λ (x : List ℕ). (u.number, x))) s.1 in
    ap (lesser_placing (Some (t.number, b))) (ih ∙ other)
    ∙ if-same (Some (u.number, s.0)) (Some (t.number, b)) (placing_by (Some u) id) (placing_by (Some t) id) (nat_lt u.number t.number) (sym other) (sym own)
    ∙ sym (placed-pick t u id (nat_lt u.number t.number))

pub least-placed : (ts : List Twig) (id : List ℕ) → least_placing ts id ≡ placing_by (placed_by ts id) id
least-placed [] id = refl
least-placed (t ∷ ts) id = placed-by t ts id (before None t.refs id) refl (placed_by ts id) refl (least-placed ts id)

unpair : (n : ℕ) (w : Option (List ℕ)) → option_map (λ (p : ℕ × List ℕ). p.1) (option_map (λ (b : List ℕ). (n, b)) w) ≡ w
unpair n None = refl
unpair n (Some b) = refl

placed-up : (o : Option Twig) (id : List ℕ) → option_map (λ (p : ℕ × List ℕ). p.1) (placing_by o id) ≡ up_of_ghost o id
placed-up None id = refl
placed-up (Some t) id = unpair t.number (before None t.refs id)

up-by : (m p : Option Twig) (placing : Option (ℕ × List ℕ)) (id : List ℕ) → option_map (λ (x : ℕ × List ℕ). x.1) placing ≡ up_of_ghost p id → kept_up_by (option_map (λ (t : Twig). last_other t.refs t.id) m) placing ≡ up_by m p id
up-by None p placing id e = e
up-by (Some t) p placing id e = refl

pub kept-up : (twigs : List Twig) (facts : Facts) → AreFacts twigs facts → (id : List ℕ) → kept_up facts id ≡ up twigs id
kept-up twigs facts are id =
    ap (λ (o : Option (Option (List ℕ))). kept_up_by o (placing_at facts.placing id)) (are.live id)
    ∙ up-by (message_of twigs id) (placed_by twigs id) (placing_at facts.placing id) id
    (ap (option_map (λ (x : ℕ × List ℕ). x.1)) (are.placing id ∙ least-placed twigs id) ∙ placed-up (placed_by twigs id) id)

none-map : {X Y : Type 0} (f : X → Y) (o : Option X) → is_none (option_map f o) ≡ is_none o
none-map f None = refl
none-map f (Some x) = refl

pub kept-ghost : (twigs : List Twig) (facts : Facts) → AreFacts twigs facts → (id : List ℕ) → kept_is_ghost facts id ≡ is_ghost twigs id
kept-ghost twigs facts are id =
    sym (none-map above_value (at_id facts.live id))
    ∙ ap is_none (are.live id)
    ∙ none-map (λ (t : Twig). last_other t.refs t.id) (message_of twigs id)

node-by : (o : Option Twig) (id : List ℕ) → kept_node (option_map naming_of o) id ≡ node_by o id
node-by None id = refl
node-by (Some t) id = refl

pub kept-node : (twigs : List Twig) (facts : Facts) → AreFacts twigs facts → (id : List ℕ) → kept_ghost facts id ≡ ghost_node twigs id
kept-node twigs facts are id = ap (λ (o : Option Naming). kept_node o id) (are.naming id) ∙ node-by (named_by twigs id) id
