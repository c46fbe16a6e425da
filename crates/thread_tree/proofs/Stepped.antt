-- Single steps of loops and maps.
use Rattle.std.proofs.Common.{◌≡◌, ◌+◌, ◌-◌, ◌≤◌, ◌<◌, ℕ, zero, suc, Bool, true, false, cond, List, [], ◌∷◌, ◌++◌, length, take, get_or, filter, Option, Some, None, is_some, ◌||◌, unwrap_or, if◌then◌else◌, bytes_eq, BTreeMap, refl, sym, ◌∙◌, ap, subst, inl, inr, arith, MatchBool}
use Rattle.std.specs.Option.{option_map}
use Rattle.std.specs.Ordering.{nat_cmp}
use Rattle.std.specs.Cmp.Lexicographic.{slice_cmp}
use Rattle.std.specs.BTreeMap.{insert_entry}
use Rattle.std.specs.Global.{Vec}
use Rattle.std.proofs.lemmas.Bool.{false≢true}
use Rattle.std.proofs.lemmas.List.{take_more}
use Rattle.std.proofs.lemmas.List.Elements.{filter-append}
use Rattle.std.proofs.lemmas.Slice.Eq.{bytes_eq-Decides}
use Rattle.thread_model.specs.Members.{Among}
use Rattle.thread_model.proofs.Members.{any-among, among-any, among-push}
use Rattle.thread_model.proofs.Texts.{found_after}
use Rattle.thread_tree.specs.Trees.{HaveOwnIds, last_other, lesser_by, names_id, or_else}
use Rattle.thread_tree.specs.Facts.{AreIdsOf, NotesAbove, NotesNaming, NotesPlacing, above_at, above_value, at_id, is_lesser, placing_at, placing_value}
use Rattle.thread_tree.specs.Nodes.{count_up, flag_at, jump_at, jump_of, node_at, node_in, nodes_in}
use Rattle.thread_tree.specs.declared.twigs.Twig.{Twig}
use Rattle.thread_tree.specs.declared.facts.Above.{Above}
use Rattle.thread_tree.specs.declared.facts.Naming.{Naming}
use Rattle.thread_tree.specs.declared.facts.Placing.{Placing}
use Rattle.thread_tree.proofs.Doubling.{get-some}
use Rattle.thread_tree.proofs.Kept.{eq-swap, last-push}
use Rattle.thread_tree.proofs.Lesser.{takes-lesser}

-- An item that is there doesn't depend on what stands for a missing one.
pub get-any : {X : Type 0} (xs : List X) (i : ℕ) (d e : X) → i < length xs → get_or xs i d ≡ get_or xs i e
get-any [] i d e low = absurd (none-below i low)
  where
    none-below : (i : ℕ) → i < 0 → ⊥
    none-below i low = omega arith
get-any (x ∷ xs) zero d e low = refl
get-any (x ∷ xs) (suc i) d e low = get-any xs i d e (lower i (length xs) low)
  where
    lower : (i n : ℕ) → suc i < suc n → i < n
    lower i n low = omega arith

pub jump-is : (jumps : List (Option ℕ)) (i : ℕ) → i < length jumps → get_or jumps i None ≡ jump_at jumps i
jump-is jumps i low = sym (ap jump_of (get-some jumps i None low))

pub flag-is : (flags : List Bool) (i : ℕ) → i < length flags → get_or flags i false ≡ flag_at flags i
flag-is flags i low = sym (ap (λ (o : Option Bool). unwrap_or o false) (get-some flags i false low))

-- A map by ids, after an id got a value.
pub value-after : {X : Type 0} (old new : BTreeMap (Vec ℕ) X) (key : Vec ℕ) (id : List ℕ) (v : X) → key.items ≡ id → new.entries ≡ insert_entry (λ (a b : Vec ℕ). slice_cmp nat_cmp a.items b.items) old.entries key v → (q : List ℕ) → at_id new q ≡ (if bytes_eq q id then Some v else at_id old q)
value-after old new key id v is e = λ q.
    found_after (λ (k : Vec ℕ). k.items) q key v old.entries new.entries e
    ∙ ap (λ (b : List ℕ). if bytes_eq q b then Some v else at_id old q) is

map-if : {X Y : Type 0} (f : X → Y) (t : Bool) (a b : Option X) → option_map f (if t then a else b) ≡ (if t then option_map f a else option_map f b)
map-if f true a b = refl
map-if f false a b = refl

pub notes-above : (old new : BTreeMap (Vec ℕ) Above) (key : Vec ℕ) (above : Above) (t : Twig) → key.items ≡ t.id → above_value above ≡ last_other t.refs t.id → new.entries ≡ insert_entry (λ (a b : Vec ℕ). slice_cmp nat_cmp a.items b.items) old.entries key above → NotesAbove old new t
notes-above old new key above t is own e = λ q.
    ap (option_map above_value) (value-after old new key t.id above is e q)
    ∙ map-if above_value (bytes_eq q t.id) (Some above) (at_id old q)
    ∙ ap (λ (a : Option (List ℕ)). if bytes_eq q t.id then Some a else above_at old q) own

lesser-at : {Y : Type 0} (f : Y → ℕ) (old : List ℕ → Option Y) (v : Y) (q id : List ℕ) (t : Bool) → bytes_eq q id ≡ t → is_lesser (f v) (option_map f (old id)) ≡ true
    → (if t then Some v else old q) ≡ (if t then lesser_by f (old q) (Some v) else old q)
lesser-at f old v q id true same lesser =
    sym (takes-lesser f (old q) v (ap (λ (b : List ℕ). is_lesser (f v) (option_map f (old b))) ((bytes_eq-Decides q id).0 same) ∙ lesser))
lesser-at f old v q id false other lesser = refl

pub notes-naming : (old new : BTreeMap (Vec ℕ) Naming) (key : Vec ℕ) (id : List ℕ) (naming : Naming) → key.items ≡ id → is_lesser naming.number (option_map (λ (n : Naming). n.number) (at_id old id)) ≡ true → new.entries ≡ insert_entry (λ (a b : Vec ℕ). slice_cmp nat_cmp a.items b.items) old.entries key naming → NotesNaming old new id naming
notes-naming old new key id naming is lesser e = λ q.
    value-after old new key id naming is e q
    ∙ lesser-at (λ (n : Naming). n.number) (at_id old) naming q id (bytes_eq q id) refl lesser

pub notes-placing : (old new : BTreeMap (Vec ℕ) Placing) (key : Vec ℕ) (id : List ℕ) (placing : Placing) (before : List ℕ) → key.items ≡ id → placing.before.items ≡ before → is_lesser placing.number (option_map (λ (p : ℕ × List ℕ). p.0) (placing_at old id)) ≡ true
    → new.entries ≡ insert_entry (λ (a b : Vec ℕ). slice_cmp nat_cmp a.items b.items) old.entries key placing → NotesPlacing old new id (placing.number, before)
notes-placing old new key id placing before is own lesser e = λ q.
    ap (option_map placing_value) (value-after old new key id placing is e q)
    ∙ map-if placing_value (bytes_eq q id) (Some placing) (at_id old q)
    ∙ ap (λ (b : List ℕ). if bytes_eq q id then Some (placing.number, b) else placing_at old q) own
    ∙ lesser-at (λ (p : ℕ × List ℕ). p.0) (placing_at old) (placing.number, before) q id (bytes_eq q id) refl lesser

-- One step of the search for the last reference.
pub last-step : (refs : List (List ℕ)) (id : List ℕ) (i : ℕ) (d found : List ℕ) → 0 < i → i ≤ length refs → found ≡ get_or refs (i - 1) d → last_other refs id ≡ last_other (take i refs) id
    → last_other refs id ≡ or_else (if bytes_eq found id then None else Some found) (last_other (take (i - 1) refs) id)
last-step refs id i d found some within at left =
    let back : i ≡ i - 1 + 1 = before-one i some in
    left
    ∙ ap (λ n. last_other (take n refs) id) back
    ∙ ap (λ (xs : List (List ℕ)). last_other xs id) (take_more refs (i - 1) d (inside i (length refs) some within))
    ∙ last-push (take (i - 1) refs) (get_or refs (i - 1) d) id
    ∙ ap (λ (r : List ℕ). or_else (if bytes_eq r id then None else Some r) (last_other (take (i - 1) refs) id)) (sym at)
  where
    before-one : (i : ℕ) → 0 < i → i ≡ i - 1 + 1
    before-one i some = omega arith

    inside : (i n : ℕ) → 0 < i → i ≤ n → i - 1 < n
    inside i n some within = omega arith

-- One flag more.
filter-one : (p : ℕ → Bool) (i : ℕ) (t : Bool) → p i ≡ t → filter p (i ∷ []) ≡ (if t then i ∷ [] else [])
filter-one p i true e = ap (λ (b : Bool). cond b (i ∷ []) []) e
filter-one p i false e = ap (λ (b : Bool). cond b (i ∷ []) []) e

pub roots-more : (flags : List Bool) (old new : List ℕ) (i : ℕ) → i < length flags → old ≡ filter (flag_at flags) (count_up i) → new ≡ old ++ (if get_or flags i false then i ∷ [] else []) → new ≡ filter (flag_at flags) (count_up (i + 1))
roots-more flags old new i low is pushed =
    pushed
    ∙ ap (λ (ns : List ℕ). ns ++ (if get_or flags i false then i ∷ [] else [])) is
    ∙ ap (λ (ns : List ℕ). filter (flag_at flags) (count_up i) ++ ns) (ap (λ (b : Bool). if b then i ∷ [] else []) (flag-is flags i low) ∙ sym (filter-one (flag_at flags) i (flag_at flags i) refl))
    ∙ sym (filter-append (flag_at flags) (count_up i) (i ∷ []))
    ∙ ap (λ n. filter (flag_at flags) (count_up n)) (one-more i)
  where
    one-more : (i : ℕ) → suc i ≡ i + 1
    one-more i = omega arith

-- The node at an index is that of the code.
pub node-in : (nodes : List (ℕ × ℕ × Vec ℕ)) (i : ℕ) (d : ℕ × ℕ × Vec ℕ) → i < length nodes → node_at (nodes_in nodes) i ≡ node_in (get_or nodes i d)
node-in [] i d low = absurd (none-below i low)
  where
    none-below : (i : ℕ) → i < 0 → ⊥
    none-below i low = omega arith
node-in (n ∷ nodes) zero d low = refl
node-in (n ∷ nodes) (suc i) d low = node-in nodes i d (lower i (length nodes) low)
  where
    lower : (i n : ℕ) → suc i < suc n → i < n
    lower i n low = omega arith

-- Ids of messages.
pub own-push : (ts : List Twig) (t : Twig) → HaveOwnIds ts → ((u : Twig) → Among ts u → u.id ≡ t.id → ⊥) → HaveOwnIds (ts ++ t ∷ [])
own-push [] t own new = ((λ u none. absurd none), tt)
own-push (x ∷ xs) t own new = (
  λ u h e. elim (among-push xs t u h) [
    | inl a ↦ own.0 u a e
    | inr is ↦ new x (inl refl) (sym e ∙ ap (λ (y : Twig). y.id) is)
  ],
  own-push xs t own.1 (λ u h. new u (inr h)),
)

contains-by : (A B : Type 0) (b : Bool) → (b ≡ true → A) → (b ≡ false → B) → MatchBool b A B
contains-by A B true f g = f refl
contains-by A B false f g = g refl

pub contains-id : (ts : List Twig) (id : List ℕ) (b : Bool) → b ≡ names_id ts id → MatchBool b ((t : Twig) × Among ts t × (t.id ≡ id)) ((t : Twig) → Among ts t → t.id ≡ id → ⊥)
contains-id ts id b is =
    contains-by ((t : Twig) × Among ts t × (t.id ≡ id)) ((t : Twig) → Among ts t → t.id ≡ id → ⊥) b
    (λ t.
    let r = any-among (λ (u : Twig). bytes_eq u.id id) ts (sym is ∙ t) in
    (r.0, r.1, (bytes_eq-Decides r.0.id id).0 r.2))
    (λ f t h e. false≢true (sym f ∙ is ∙ among-any (λ (u : Twig). bytes_eq u.id id) ts t h ((bytes_eq-Decides t.id id).1 e)))

-- The ids of messages, of one more.
named-one : (b c : Bool) → b ≡ c → (b || false) ≡ (if c then true else false)
named-one true true same = refl
named-one true false same = absurd (false≢true (sym same))
named-one false true same = absurd (false≢true same)
named-one false false same = refl

named-later : (b c later found : Bool) → later ≡ (if c then true else found) → (b || later) ≡ (if c then true else b || found)
named-later true true later found ih = refl
named-later true false later found ih = refl
named-later false c later found ih = ih

named-push : (ts : List Twig) (t : Twig) (q : List ℕ) → names_id (ts ++ t ∷ []) q ≡ (if bytes_eq q t.id then true else names_id ts q)
named-push [] t q = named-one (bytes_eq t.id q) (bytes_eq q t.id) (eq-swap t.id q)
named-push (u ∷ us) t q = named-later (bytes_eq u.id q) (bytes_eq q t.id) (names_id (us ++ t ∷ []) q) (names_id us q) (named-push us t q)

some-if : {X : Type 0} (c : Bool) (v : X) (o : Option X) → is_some (if c then Some v else o) ≡ (if c then true else is_some o)
some-if true v o = refl
some-if false v o = refl

ids-push : {X : Type 0} (ts : List Twig) (t : Twig) (old new : BTreeMap (Vec ℕ) X) (v : X) → AreIdsOf ts old → ((q : List ℕ) → at_id new q ≡ (if bytes_eq q t.id then Some v else at_id old q)) → AreIdsOf (ts ++ t ∷ []) new
ids-push ts t old new v are put = λ q.
    ap is_some (put q)
    ∙ some-if (bytes_eq q t.id) v (at_id old q)
    ∙ ap (λ (b : Bool). if bytes_eq q t.id then true else b) (are q)
    ∙ sym (named-push ts t q)

-- Messages and the index of their ids, of one message more.
pub added-kept : (ts room new : List Twig) (t : Twig) (id : List ℕ) (old index : BTreeMap (Vec ℕ) ℕ) (v : ℕ) → new ≡ room ++ t ∷ [] → room ≡ ts → HaveOwnIds ts × AreIdsOf ts old → ((u : Twig) → Among ts u → u.id ≡ id → ⊥) → t.id ≡ id → ((q : List ℕ) → at_id index q ≡ (if bytes_eq q id then Some v else at_id old q))
    → HaveOwnIds new × AreIdsOf new index
added-kept ts room new t id old index v pushed same kept fresh own put =
    subst (λ (us : List Twig). HaveOwnIds us × AreIdsOf us index) (sym (pushed ∙ ap (λ (us : List Twig). us ++ t ∷ []) same)) (
      own-push ts t kept.0 (λ u h e. fresh u h (e ∙ own)),
      ids-push ts t old index v kept.1 (λ q. put q ∙ ap (λ (b : List ℕ). if bytes_eq q b then Some v else at_id old q) (sym own)),
    )

-- A list without length.
pub none-by-length : {X : Type 0} (xs : List X) → length xs ≡ 0 → xs ≡ []
none-by-length [] e = refl
none-by-length (x ∷ xs) e = absurd (no-length (length xs) e)
  where
    no-length : (n : ℕ) → suc n ≡ 0 → ⊥
    no-length n e = omega arith
