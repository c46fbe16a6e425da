-- The law that the parts of a text are a tree.
use Rattle.std.proofs.Common.{◌≡◌, ◌⊎◌, inl, inr, ℕ, zero, suc, ◌+◌, ◌-◌, ◌≤◌, Bool, true, false, cond, eqb, leb, map, ◌==◌, List, [], ◌∷◌, ◌++◌, length, refl, sym, ap, ◌∙◌, subst, append_assoc, arith, length-append, lit≤}
use Rattle.std.specs.List.{All, filter}
use Rattle.std.proofs.lemmas.Bool.{eqb-true, eq-eqb, ne_eqb, or_cases, or_parts, true≢false}
use Rattle.std.proofs.lemmas.List.{append-nil, nil_from_length}
use Rattle.std.proofs.lemmas.List.Elements.{All-nil, All-cons, All-head, All-tail, All-append, All-weaker}
use Rattle.mime_parts.specs.declared.part.Span.{Span}
use Rattle.mime_parts.specs.declared.part.Part.{Part}
use Rattle.mime_parts.specs.declared.part.Shape.{Shape}
use Rattle.mime_parts.specs.declared.part.Shape.TheVariants.{Leaf, Message, Multipart}
use Rattle.mime_parts.specs.declared.heading.Heading.{Heading}
use Rattle.mime_parts.specs.Headings.{shape_of, is_digest, opaque_heading}
use Rattle.mime_parts.specs.Delimiters.{span_of}
use Rattle.mime_parts.specs.Dividing.{at_most}
use Rattle.mime_parts.specs.Trees.{IsIn, bytes_at, header_span, body_span, max_count, direct_parts, heading_at, visited_parts, part_with, part_by, part_at, is_opaque, Visit, visit_all, visit_of, tree_of}
use Rattle.mime_parts.specs.Laws.{PartStands, IsPartBelow, IsAfter, StartsBelow, StartsBeside, whole_span, spans_at, IsFollowed, AllFollowed, TreesAreTrees}
use Rattle.mime_parts.proofs.Spanning.{InOrder, order_le, cuts_order, AllIn, parts_len, length-bytes_at, body-in, direct_in, at_most_in, at_most_len}

-- A part lies between two offsets, from a depth on.
pub record Lies (least from to : ℕ) (p : Part) : Type 0 where
  pub deep : least ≤ p.depth
  pub low : from ≤ p.header.start
  pub high : p.body.end ≤ to

-- The first of the parts, if there is one, is at a depth.
abbrev pub StartsAt : ℕ → List Part → Type 0
StartsAt depth [] = Unit {0}
StartsAt depth (p ∷ ps) = p.depth ≡ depth

-- The parts of visits of these spans, one after another.
pub record Row (text : List ℕ) (depth low high : ℕ) (ss : List Span) (ps : List Part) : Type 0 where
  pub ordered : low ≤ high
  pub tops : spans_at depth ps ≡ ss
  pub starts : StartsAt depth ps
  pub stand : All (PartStands text) ps
  pub lie : All (Lies depth low high) ps
  pub followed : AllFollowed text ps

row_none : (text : List ℕ) (depth low high : ℕ) → low ≤ high → Row text depth low high [] []
row_none text depth low high h =
    record { ordered = h; tops = refl; starts = tt; stand = All-nil _; lie = All-nil _; followed = tt }

-- The first of two rows of parts.
first_of : (depth : ℕ) (xs ys : List Part) → StartsAt depth xs → StartsAt depth ys → StartsAt depth (xs ++ ys)
first_of depth [] ys p q = q
first_of depth (x ∷ xs) ys p q = p

beside : (depth : ℕ) (x : Part) (later ys : List Part) → StartsBeside x later → StartsAt depth ys → depth ≤ x.depth → StartsBeside x (later ++ ys)
beside depth x [] [] b s h = tt
beside depth x [] (y ∷ ys) b s h = omega arith
beside depth x (l ∷ ls) ys b s h = b

-- A part that others follow, and then a row of parts beside it.
followed_one : (text : List ℕ) (depth mid : ℕ) (x : Part) (xs ys : List Part) → IsFollowed text x xs → depth ≤ x.depth → x.body.end ≤ mid
    → All (λ (y : Part). mid ≤ y.header.start) ys → StartsAt depth ys → IsFollowed text x (xs ++ ys)
followed_one text depth mid x xs ys f d e a s = record {
  below = f.below;
  later = f.later ++ ys;
  split = ap (λ ps. ps ++ ys) f.split ∙ append_assoc f.below f.later ys;
  first = f.first;
  next = beside depth x f.later ys f.next s d;
  are_below = f.are_below;
  are_after = All-append (IsAfter x) f.later ys f.are_after
      (All-weaker (λ (y : Part). mid ≤ y.header.start) (IsAfter x) (λ y h. omega arith) ys a);
  direct = f.direct;
}

followed_append : (text : List ℕ) (depth low mid : ℕ) (xs ys : List Part) → AllFollowed text xs → All (Lies depth low mid) xs → AllFollowed text ys
    → All (λ (y : Part). mid ≤ y.header.start) ys → StartsAt depth ys → AllFollowed text (xs ++ ys)
followed_append text depth low mid [] ys f l g a s = g
followed_append text depth low mid (x ∷ xs) ys f l g a s =
    let here = All-head (Lies depth low mid) x xs l in (
      followed_one text depth mid x xs ys f.0 here.deep here.high a s,
      followed_append text depth low mid xs ys f.1 (All-tail (Lies depth low mid) x xs l) g a s,
    )

tops_append : (depth : ℕ) (xs ys : List Part) → spans_at depth (xs ++ ys) ≡ spans_at depth xs ++ spans_at depth ys
tops_append depth [] ys = refl
tops_append depth (x ∷ xs) ys = step (eqb x.depth depth) _ _ (filter (λ (p : Part). p.depth == depth) (xs ++ ys)) (filter (λ (p : Part). p.depth == depth) xs) (tops_append depth xs ys)
  where
    step : (t : Bool) (more : List Span) (p : Part) (all some : List Part) → map whole_span all ≡ map whole_span some ++ more
        → map whole_span (cond t (p ∷ all) all) ≡ map whole_span (cond t (p ∷ some) some) ++ more
    step true more p all some e = ap (λ ss. whole_span p ∷ ss) e
    step false more p all some e = e

row_append : (text : List ℕ) (depth low mid high : ℕ) (ss ts : List Span) (xs ys : List Part) → Row text depth low mid ss xs → Row text depth mid high ts ys
    → Row text depth low high (ss ++ ts) (xs ++ ys)
row_append text depth low mid high ss ts xs ys p q =
    let first = p.ordered in
    let second = q.ordered in
    record {
      ordered = omega arith;
      tops = tops_append depth xs ys ∙ ap (λ all. all ++ spans_at depth ys) p.tops ∙ ap (λ all. ss ++ all) q.tops;
      starts = first_of depth xs ys p.starts q.starts;
      stand = All-append (PartStands text) xs ys p.stand q.stand;
      lie = All-append (Lies depth low high) xs ys
          (All-weaker (Lies depth low mid) (Lies depth low high) (λ x h. record { deep = h.deep; low = h.low; high = omega (arith, h.high) }) xs p.lie)
          (All-weaker (Lies depth mid high) (Lies depth low high) (λ x h. record { deep = h.deep; low = omega (arith, h.low); high = h.high }) ys q.lie);
      followed = followed_append text depth low mid xs ys p.followed p.lie q.followed
          (All-weaker (Lies depth mid high) (λ (y : Part). mid ≤ y.header.start) (λ y h. h.low) ys q.lie) q.starts;
    }

row_low : (text : List ℕ) (depth low from high : ℕ) (ss : List Span) (ps : List Part) → low ≤ from → Row text depth from high ss ps
    → Row text depth low high ss ps
row_low text depth low from high ss ps h r =
    let rest = r.ordered in
    record {
      ordered = omega arith;
      tops = r.tops;
      starts = r.starts;
      stand = r.stand;
      lie = All-weaker (Lies depth from high) (Lies depth low high) (λ x i. record { deep = i.deep; low = omega (arith, i.low); high = i.high }) ps r.lie;
      followed = r.followed;
    }

-- An entity as a part: it is where its span says.
pub record IsAt (text : List ℕ) (depth : ℕ) (s : Span) (p : Part) : Type 0 where
  pub depth_is : p.depth ≡ depth
  pub start : p.header.start ≡ s.start
  pub end : p.body.end ≡ s.end
  pub body_is : p.body ≡ body_span text s
  pub stands : PartStands text p

is_with : (h : Heading) (shape : Shape) (text : List ℕ) (s : Span) (depth : ℕ) → IsIn text s → 1 ≤ depth → depth ≤ 20
    → IsAt text depth s (part_with h shape (header_span text s) (body_span text s) depth)
is_with h shape text s depth i low high =
    let less = parts_len (bytes_at text s) in
    let len = length-bytes_at text s i in
    let ordered = i.ordered in
    record {
      depth_is = refl;
      start = refl;
      end = refl;
      body_is = refl;
      stands = record {
        depth = low;
        depth_most = high;
        header = omega arith;
        crash_between = omega arith;
        body = omega arith;
        within = i.within;
      };
    }

is_at : (opaque : Bool) (text : List ℕ) (h : Heading) (s : Span) (depth : ℕ) → IsIn text s → 1 ≤ depth → depth ≤ 20
    → IsAt text depth s (part_by opaque h (header_span text s) (body_span text s) depth)
is_at true text h s depth i low high = is_with (opaque_heading h) Leaf text s depth i low high
is_at false text h s depth i low high = is_with h (shape_of h) text s depth i low high

starts_below : (depth : ℕ) (p : Part) (below : List Part) → p.depth ≡ depth → StartsAt (depth + 1) below → StartsBelow p below
starts_below depth p [] e s = tt
starts_below depth p (q ∷ qs) e s = omega arith

-- No part that is deeper is at a depth.
tops_none : (depth low high : ℕ) (ps : List Part) → All (Lies (depth + 1) low high) ps → filter (λ (p : Part). p.depth == depth) ps ≡ []
tops_none depth low high [] l = refl
tops_none depth low high (p ∷ ps) l =
    let here = All-head (Lies (depth + 1) low high) p ps l in
    let deeper = here.deep in
    let other : eqb p.depth depth ≡ false = ne_eqb p.depth depth (λ e. omega arith) in
    rw other (tops_none depth low high ps (All-tail (Lies (depth + 1) low high) p ps l))

-- An entity, and then the parts below it.
row_node : (text : List ℕ) (depth : ℕ) (s : Span) (ss : List Span) (p : Part) (below : List Part) → IsAt text depth s p
    → ss ≡ direct_parts p.shape p.params text p.body → Row text (depth + 1) p.body.start p.body.end ss below
    → Row text depth s.start s.end (s ∷ []) (p ∷ below)
row_node text depth s ss p below a d r =
    let stands = a.stands in
    record {
      ordered = omega (arith, a.start, a.end, stands.header, stands.crash_between, stands.body);
      tops =
          let here : eqb p.depth depth ≡ true = eq-eqb p.depth depth a.depth_is in
          let one : filter (λ (q : Part). q.depth == depth) (p ∷ below) ≡ p ∷ [] = rw here (ap (λ ps. p ∷ ps) (tops_none depth p.body.start p.body.end below r.lie)) in
          ap (map whole_span) one ∙ ap (λ t. t ∷ []) (λ i. span_of (a.start i) (a.end i));
      starts = a.depth_is;
      stand = All-cons (PartStands text) p below stands r.stand;
      lie = All-cons (Lies depth s.start s.end) p below
          (record { deep = omega (arith, a.depth_is); low = omega (arith, a.start); high = omega (arith, a.end) })
          (All-weaker (Lies (depth + 1) p.body.start p.body.end) (Lies depth s.start s.end)
          (λ q l. record {
            deep = omega (arith, l.deep);
            low = omega (arith, l.low, a.start, stands.header, stands.crash_between);
            high = omega (arith, l.high, a.end);
          }) below r.lie);
      followed = (
        record {
          below = below;
          later = [];
          split = sym (append-nil below);
          first = starts_below depth p below a.depth_is r.starts;
          next = tt;
          are_below = All-weaker (Lies (depth + 1) p.body.start p.body.end) (IsPartBelow p)
              (λ q l. record { deeper = omega (arith, l.deep, a.depth_is); starts = l.low; ends = l.high }) below r.lie;
          are_after = All-nil _;
          direct = ap (λ n. spans_at (n + 1) below) a.depth_is ∙ r.tops ∙ d;
        },
        r.followed,
      );
    }

-- Entities one after another, where each visit is a row.
row_all : (text : List ℕ) (depth : ℕ) (each : ℕ → Span → Visit) → ((count : ℕ) (s : Span) → IsIn text s → Row text depth s.start s.end (s ∷ []) (each count s).parts)
    → (count : ℕ) (ss : List Span) (low high : ℕ) → InOrder low high ss → AllIn text ss → Row text depth low high ss (visit_all each count ss).parts
row_all text depth each rows count [] low high o a = row_none text depth low high o
row_all text depth each rows count (s ∷ ss) low high o a =
    let first = each count s in
    row_append text depth low s.end high (s ∷ []) ss first.parts (visit_all each first.count ss).parts
    (row_low text depth low s.start s.end (s ∷ []) first.parts o.0 (rows count s a.0))
    (row_all text depth each rows first.count ss s.end high o.1.1 a.1)

-- The direct parts of an entity are in order in its body.
if_order : (t : Bool) (low high : ℕ) (ss : List Span) → InOrder low high ss → InOrder low high (cond t ss [])
if_order true low high ss o = o
if_order false low high ss o = order_le low high ss o

direct_order : (shape : Shape) (params : List (List ℕ)) (text : List ℕ) (body : Span) → IsIn text body → InOrder body.start body.end (direct_parts shape params text body)
direct_order Leaf params text body i = i.ordered
direct_order Message params text body i = (omega arith, (i.ordered, omega arith))
direct_order Multipart params text body i = if_order _ body.start body.end _ (cuts_order _ text body i)

visited_order : (text : List ℕ) (digest : Bool) (count : ℕ) (s : Span) → IsIn text s
    → InOrder (body_span text s).start (body_span text s).end (visited_parts text digest count s)
visited_order text digest count s i =
    let h = heading_at text digest s in
    let body = body_span text s in
    let parts = direct_parts (shape_of h) h.content_type.params text body in
    if_order (leb (length parts) (max_count - count)) body.start body.end parts (direct_order (shape_of h) h.content_type.params text body (body-in text s i))

visited_in : (text : List ℕ) (digest : Bool) (count : ℕ) (s : Span) → IsIn text s → AllIn text (visited_parts text digest count s)
visited_in text digest count s i =
    let h = heading_at text digest s in
    let body = body_span text s in
    at_most_in (max_count - count) text (direct_parts (shape_of h) h.content_type.params text body) (direct_in (shape_of h) h.content_type.params text body (body-in text s i))

-- The parts of an entity that are visited are its direct parts as it is told: of an opaque one none.
if_none : (t : Bool) → ◌≡◌ {A = List Span} (cond t [] []) []
if_none true = refl
if_none false = refl

at_most_some : (room : ℕ) (ss : List Span) → eqb (length (at_most room ss)) 0 ≡ false → at_most room ss ≡ ss
at_most_some room ss h = step (leb (length ss) room) h
  where
    step : (t : Bool) → eqb (length (cond t ss [])) 0 ≡ false → cond t ss [] ≡ ss
    step true e = refl
    step false e = cc

none_or : (levels : ℕ) (ss : List Span) → (eqb (suc levels) 0 ≡ true) ⊎ (eqb (length ss) 0 ≡ true) → ss ≡ []
none_or levels ss (inl e) = let zero : suc levels ≡ 0 = eqb-true (suc levels) 0 e in absurd (omega arith)
none_or levels ss (inr e) = nil_from_length ss (eqb-true (length ss) 0 e)

none_if : (levels : ℕ) (shape : Shape) (room : ℕ) (params : List (List ℕ)) (text : List ℕ) (body : Span)
    → is_opaque (suc levels) shape (eqb (length (at_most room (direct_parts shape params text body))) 0) ≡ true → at_most room (direct_parts shape params text body) ≡ []
none_if levels Leaf room params text body e = if_none (leb 0 room)
none_if levels Message room params text body e = none_or levels _ (or_cases (eqb (suc levels) 0) _ e)
none_if levels Multipart room params text body e = none_or levels _ (or_cases (eqb (suc levels) 0) _ e)

all_if : (levels : ℕ) (shape : Shape) (room : ℕ) (params : List (List ℕ)) (text : List ℕ) (body : Span)
    → is_opaque levels shape (eqb (length (at_most room (direct_parts shape params text body))) 0) ≡ false
    → at_most room (direct_parts shape params text body) ≡ direct_parts shape params text body
all_if levels Leaf room params text body e = if_none (leb 0 room)
all_if levels Message room params text body e = at_most_some room _ (or_parts (eqb levels 0) _ e).1
all_if levels Multipart room params text body e = at_most_some room _ (or_parts (eqb levels 0) _ e).1

-- At the last level each entity is opaque.
opaque_last : (shape : Shape) (is_empty : Bool) → is_opaque 0 shape is_empty ≡ true
opaque_last Leaf is_empty = refl
opaque_last Message is_empty = refl
opaque_last Multipart is_empty = refl

direct_by : (opaque : Bool) (text : List ℕ) (h : Heading) (header body : Span) (depth : ℕ) (ss : List Span) → (opaque ≡ true → ss ≡ [])
    → (opaque ≡ false → ss ≡ direct_parts (shape_of h) h.content_type.params text body)
    → ss ≡ direct_parts (part_by opaque h header body depth).shape (part_by opaque h header body depth).params text (part_by opaque h header body depth).body
direct_by true text h header body depth ss p q = p refl
direct_by false text h header body depth ss p q = q refl

-- Each visit is a row.
visit_row : (text : List ℕ) (levels : ℕ) (digest : Bool) (count : ℕ) (s : Span) → levels ≤ 19 → IsIn text s
    → Row text (20 - levels) s.start s.end (s ∷ []) (visit_of text levels digest count s).parts
unfolding visit_of
visit_row text zero digest count s h i =
    let head = heading_at text digest s in
    let opaque = is_opaque zero (shape_of head) (eqb 0 0) in
    let a = is_at opaque text head s (20 - zero) i (omega arith) (omega arith) in
    row_node text (20 - zero) s [] (part_at text zero digest [] s) [] a
    (direct_by opaque text head (header_span text s) (body_span text s) (20 - zero) [] (λ e. refl)
    (λ e. absurd (true≢false (sym (opaque_last (shape_of head) (eqb 0 0)) ∙ e))))
    (row_none text _ _ _ a.stands.body)
visit_row text (suc levels) digest count s h i =
    let parts = visited_parts text digest count s in
    let inner = is_digest (heading_at text digest s) in
    let part = part_at text (suc levels) digest parts s in
    let a : IsAt text (20 - suc levels) s part =
    is_at (is_opaque (suc levels) (shape_of (heading_at text digest s)) (eqb (length parts) 0)) text (heading_at text digest s) s (20 - suc levels) i (omega arith) (omega arith) in
    let deeper : 20 - levels ≡ (20 - suc levels) + 1 = omega arith in
    let below = row_all text (20 - levels) (visit_of text levels inner)
    (λ n t j. visit_row text levels inner n t (omega arith) j) (count + length parts) parts (body_span text s).start (body_span text s).end
    (visited_order text digest count s i) (visited_in text digest count s i) in
    let told = (visit_all (visit_of text levels inner) (count + length parts) parts).parts in
    let head = heading_at text digest s in
    let room = max_count - count in
    let params = head.content_type.params in
    row_node text (20 - suc levels) s parts part told a
    (direct_by (is_opaque (suc levels) (shape_of head) (eqb (length parts) 0)) text head (header_span text s) (body_span text s) (20 - suc levels) parts
    (none_if levels (shape_of head) room params text (body_span text s)) (all_if (suc levels) (shape_of head) room params text (body_span text s)))
    (subst (λ (b : Span). Row text ((20 - suc levels) + 1) b.start b.end parts told) (sym a.body_is)
    (subst (λ (d : ℕ). Row text d (body_span text s).start (body_span text s).end parts told) deeper below))

-- How many entities are known after a visit of `many`.
pub record Counts (count many : ℕ) (v : Visit) : Type 0 where
  pub sum : v.count + many ≡ count + length v.parts
  pub most : v.count ≤ 1000

count_all : (each : ℕ → Span → Visit) → ((count : ℕ) (s : Span) → count ≤ 1000 → Counts count 1 (each count s))
    → (count : ℕ) (ss : List Span) → count ≤ 1000 → Counts count (length ss) (visit_all each count ss)
count_all each counts count [] h = record { sum = refl; most = h }
count_all each counts count (s ∷ ss) h =
    let first = counts count s h in
    let later = count_all each counts (each count s).count ss first.most in
    record {
      sum = omega (arith, first.sum, later.sum, length-append (each count s).parts (visit_all each (each count s).count ss).parts);
      most = later.most;
    }

visit_count : (text : List ℕ) (levels : ℕ) (digest : Bool) (count : ℕ) (s : Span) → count ≤ 1000 → Counts count 1 (visit_of text levels digest count s)
unfolding visit_of
visit_count text zero digest count s h = record { sum = refl; most = h }
visit_count text (suc levels) digest count s h =
    let parts = visited_parts text digest count s in
    let inner = is_digest (heading_at text digest s) in
    let head = heading_at text digest s in
    let few : length parts ≤ 1000 - count = at_most_len (1000 - count) (direct_parts (shape_of head) head.content_type.params text (body_span text s)) in
    let below = count_all (visit_of text levels inner) (λ n t j. visit_count text levels inner n t j) (count + length parts) parts (omega arith) in
    record { sum = omega (arith, below.sum); most = below.most }

-- The first of a visit is the entity itself.
record StartsNode (text : List ℕ) (depth : ℕ) (s : Span) (ps : List Part) : Type 0 where
  part : Part
  below : List Part
  split : ps ≡ part ∷ below
  is : IsAt text depth s part

starts_node : (text : List ℕ) (levels : ℕ) (digest : Bool) (count : ℕ) (s : Span) → levels ≤ 19 → IsIn text s
    → StartsNode text (20 - levels) s (visit_of text levels digest count s).parts
unfolding visit_of
starts_node text zero digest count s h i = record {
  part = _;
  below = _;
  split = refl;
  is = is_at _ text (heading_at text digest s) s (20 - zero) i (omega arith) (omega arith);
}
starts_node text (suc levels) digest count s h i = record {
  part = _;
  below = _;
  split = refl;
  is = is_at _ text (heading_at text digest s) s (20 - suc levels) i (omega arith) (omega arith);
}

pub trees : TreesAreTrees
unfolding tree_of
trees text =
    let s = span_of 0 (length text) in
    let i : IsIn text s = record { ordered = omega arith; within = omega arith } in
    let few = visit_count text 19 false 1 s (lit≤ tt) in
    let row = visit_row text 19 false 1 s (lit≤ tt) i in
    let first = starts_node text 19 false 1 s (lit≤ tt) i in
    record {
      count = omega (arith, few.sum, few.most);
      whole = record {
        whole = first.part;
        others = first.below;
        split = first.split;
        depth = first.is.depth_is;
        start = first.is.start;
        end = first.is.end;
      };
      stand = row.stand;
      followed = row.followed;
    }
