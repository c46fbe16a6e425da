-- The visits that are still to be made, one after another.
use Rattle.std.proofs.Common.{◌≡◌, ℕ, zero, suc, ◌+◌, ◌-◌, ◌<◌, ◌≤◌, Bool, true, false, eqb, List, [], ◌∷◌, ◌++◌, map, reverse, length, refl, sym, ap, ◌∙◌, subst, append_assoc, arith, length-append, add-zero, lit<, lit≤}
use Rattle.std.specs.List.{All}
use Rattle.std.proofs.lemmas.List.{reverse-append, reverse-reverse, length-reverse, length-map, append-nil}
use Rattle.std.proofs.lemmas.List.Elements.{All-push}
use Rattle.mime_parts.specs.declared.part.Span.{Span}
use Rattle.mime_parts.specs.declared.part.Part.{Part}
use Rattle.mime_parts.specs.declared.visiting.Entity.{Entity}
use Rattle.mime_parts.specs.declared.heading.Heading.{Heading}
use Rattle.mime_parts.specs.Headings.{shape_of, is_digest}
use Rattle.mime_parts.specs.Delimiters.{span_of}
use Rattle.mime_parts.specs.Trees.{IsIn, IsPartOf, header_span, body_span, direct_parts, heading_at, visited_parts, part_by, part_at, is_opaque, visit_all, visit_of, tree_of}
use Rattle.mime_parts.specs.Visiting.{entity_at, parts_below, found_below, below, known, Visits}
use Rattle.mime_parts.proofs.Spanning.{AllIn, header-in, body-in, direct_in, at_most_in, at_most_len}

-- What is told of these entities and of all below them, where so many entities are known.
abbrev pub run : List ℕ → List Entity → ℕ → List Part
run text [] count = []
run text (e ∷ es) count =
    let first = visit_of text e.levels e.digest count e.span in first.parts ++ run text es first.count

-- The parts of one entity, and then others.
run_all : (text : List ℕ) (levels : ℕ) (digest : Bool) (ss : List Span) (es : List Entity) (count : ℕ)
    → run text (map (entity_at levels digest) ss ++ es) count
    ≡ (visit_all (visit_of text levels digest) count ss).parts ++ run text es (visit_all (visit_of text levels digest) count ss).count
run_all text levels digest [] es count = refl
run_all text levels digest (s ∷ ss) es count =
    let first = visit_of text levels digest count s in
    let later = visit_all (visit_of text levels digest) first.count ss in
    ap (λ ps. first.parts ++ ps) (run_all text levels digest ss es first.count) ∙ sym (append_assoc first.parts later.parts (run text es later.count))

-- An entity is told, and its parts are visited before the others.
pub run_visit : (text : List ℕ) (levels : ℕ) (digest : Bool) (s : Span) (es : List Entity) (count : ℕ)
    → run text (entity_at levels digest s ∷ es) count
    ≡ part_at text levels digest (parts_below text levels digest count s) s
    ∷ run text (below text levels digest count s ++ es) (count + length (parts_below text levels digest count s))
unfolding visit_of
run_visit text zero digest s es count = rw (add-zero count) refl
run_visit text (suc levels) digest s es count =
    let parts = visited_parts text digest count s in
    let one_less : suc levels - 1 ≡ levels = omega arith in
    ap (λ ps. part_at text (suc levels) digest parts s ∷ ps)
    (sym (run_all text levels (is_digest (heading_at text digest s)) parts es (count + length parts))
    ∙ ap (λ n. run text (map (entity_at n (is_digest (heading_at text digest s))) parts ++ es) (count + length parts)) (sym one_less))

-- An entity that can be visited.
pub record IsReady (text : List ℕ) (e : Entity) : Type 0 where
  pub within : IsIn text e.span
  pub levels : e.levels < 20

abbrev pub AllReady : List ℕ → List Entity → Type 0
AllReady text [] = Unit {0}
AllReady text (e ∷ es) = IsReady text e × AllReady text es

AllReady-append : (text : List ℕ) (xs ys : List Entity) → AllReady text xs → AllReady text ys → AllReady text (xs ++ ys)
AllReady-append text [] ys p q = q
AllReady-append text (x ∷ xs) ys p q = (p.0, AllReady-append text xs ys p.1 q)

-- What is told and what will be told is the tree, and each entity that waits can be visited.
pub record Going (text : List ℕ) (parts : List Part) (pending : List Entity) : Type 0 where
  pub told : parts ++ run text (reverse pending) (length parts + length pending) ≡ tree_of text
  pub ready : AllReady text (reverse pending)
  pub placed : All (IsPartOf text) parts
  pub count : length parts + length pending ≤ 1000

below_in : (text : List ℕ) (levels : ℕ) (digest : Bool) (count : ℕ) (s : Span) → IsIn text s → AllIn text (parts_below text levels digest count s)
below_in text zero digest count s i = tt
below_in text (suc levels) digest count s i =
    let h = heading_at text digest s in
    let body = body_span text s in
    at_most_in (1000 - count) text (direct_parts (shape_of h) h.content_type.params text body) (direct_in (shape_of h) h.content_type.params text body (body-in text s i))

below_len : (text : List ℕ) (levels : ℕ) (digest : Bool) (count : ℕ) (s : Span) → length (parts_below text levels digest count s) ≤ 1000 - count
below_len text zero digest count s = omega arith
below_len text (suc levels) digest count s =
    let h = heading_at text digest s in
    at_most_len (1000 - count) (direct_parts (shape_of h) h.content_type.params text (body_span text s))

-- The parts that are found by the heading of an entity are those that are visited.
pub found_is : (text : List ℕ) (levels : ℕ) (digest : Bool) (count : ℕ) (s : Span)
    → found_below text levels (heading_at text digest s) (1000 - count) s ≡ parts_below text levels digest count s
found_is text zero digest count s = refl
found_is text (suc levels) digest count s = refl

ready_all : (text : List ℕ) (levels : ℕ) (digest : Bool) (ss : List Span) → levels < 20 → AllIn text ss → AllReady text (map (entity_at levels digest) ss)
ready_all text levels digest [] h a = tt
ready_all text levels digest (s ∷ ss) h a = (record { within = a.0; levels = h }, ready_all text levels digest ss h a.1)

part_placed : (opaque : Bool) (text : List ℕ) (h : Heading) (header body : Span) (depth : ℕ) → IsIn text header → IsIn text body → IsPartOf text (part_by opaque h header body depth)
part_placed true text h header body depth p q = record { header = p; body = q }
part_placed false text h header body depth p q = record { header = p; body = q }

-- The text is the first to be visited.
pub going_start : (text : List ℕ) → Going text [] (entity_at 19 false (span_of 0 (length text)) ∷ [])
unfolding tree_of
going_start text = record {
  told = append-nil _;
  ready = (record { within = record { ordered = omega arith; within = omega arith }; levels = lit< tt }, tt);
  placed = λ k d h. absurd (omega arith);
  count = lit≤ tt;
}

pub going_from : (text : List ℕ) (parts : List Part) (pending : List Entity) → parts ≡ [] → pending ≡ entity_at 19 false (span_of 0 (length text)) ∷ []
    → Going text parts pending
going_from text parts pending p q =
    subst (λ (ps : List Part). Going text ps pending) (sym p)
    (subst (Going text []) (sym q) (going_start text))

-- What is read and found of an entity makes its visit.
pub visited : (text : List ℕ) (e : Entity) (parts parts' : List Part) (pending pending' : List Entity) (h : Heading) (found : List Span) (part : Part)
    (is_empty digest : Bool) (levels room : ℕ) → h ≡ heading_at text e.digest e.span → room ≡ 1000 - known parts pending
    → found ≡ found_below text e.levels h room e.span → is_empty ≡ eqb (length found) 0 → digest ≡ is_digest h → levels ≡ e.levels - 1
    → part ≡ part_by (is_opaque e.levels (shape_of h) is_empty) h (header_span text e.span) (body_span text e.span) (20 - e.levels)
    → parts' ≡ parts ++ part ∷ [] → pending' ≡ pending ++ reverse (map (entity_at levels digest) found) → Visits text e parts pending parts' pending'
visited text e parts parts' pending pending' h found part is_empty digest levels room head space all empty dig less told ps qs =
    let n = known parts pending in
    let spans = parts_below text e.levels e.digest n e.span in
    let are : found ≡ spans =
    all ∙ ap (λ x. found_below text e.levels x room e.span) head ∙ ap (λ r. found_below text e.levels (heading_at text e.digest e.span) r e.span) space
    ∙ found_is text e.levels e.digest n e.span in
    let is : part ≡ part_at text e.levels e.digest spans e.span =
    told
    ∙ ap (λ b. part_by (is_opaque e.levels (shape_of h) b) h (header_span text e.span) (body_span text e.span) (20 - e.levels)) (empty ∙ ap (λ ss. eqb (length ss) 0) are)
    ∙ ap (λ x. part_by (is_opaque e.levels (shape_of x) (eqb (length spans) 0)) x (header_span text e.span) (body_span text e.span) (20 - e.levels)) head in
    record {
      parts_are = ps ∙ ap (λ p. parts ++ p ∷ []) is;
      pending_are =
          qs ∙ ap (λ ss. pending ++ reverse (map (entity_at levels digest) ss)) are
          ∙ ap (λ k. pending ++ reverse (map (entity_at k digest) spans)) less
          ∙ ap (λ d. pending ++ reverse (map (entity_at (e.levels - 1) d) spans)) (dig ∙ ap is_digest head);
    }

-- One visit.
pub going_on : (text : List ℕ) (parts parts' : List Part) (pending pending' : List Entity) (e : Entity)
    → Going text parts (pending ++ e ∷ []) → Visits text e parts pending parts' pending' → Going text parts' pending'
going_on text parts parts' pending pending' e g v =
    let n = known parts pending in
    let spans = parts_below text e.levels e.digest n e.span in
    let news = below text e.levels e.digest n e.span in
    let part = part_at text e.levels e.digest spans e.span in
    let order : reverse (pending ++ e ∷ []) ≡ e ∷ reverse pending = reverse-append pending (e ∷ []) in
    let ready = subst (AllReady text) order g.ready in
    let total : length parts + length (pending ++ e ∷ []) ≡ n = omega (arith, length-append pending (e ∷ [])) in
    let rest : reverse pending' ≡ news ++ reverse pending =
    ap reverse v.pending_are ∙ reverse-append pending (reverse news) ∙ ap (λ xs. xs ++ reverse pending) (reverse-reverse news) in
    let some : length spans ≤ 1000 - n = below_len text e.levels e.digest n e.span in
    let made : length news ≡ length spans = length-map spans (entity_at (e.levels - 1) (is_digest (heading_at text e.digest e.span))) in
    let size : length pending' ≡ length pending + length news =
    ap length v.pending_are ∙ length-append pending (reverse news) ∙ ap (λ k. length pending + k) (length-reverse news) in
    let told_len : length parts' ≡ length parts + 1 = ap length v.parts_are ∙ length-append parts (part ∷ []) in
    let count : length parts' + length pending' ≡ n + length spans = omega arith in
    let old : parts ++ run text (e ∷ reverse pending) n ≡ tree_of text =
    ap (λ es. parts ++ run text es n) (sym order) ∙ ap (λ k. parts ++ run text (reverse (pending ++ e ∷ [])) k) (sym total) ∙ g.told in
    let bound = g.count in
    let head = heading_at text e.digest e.span in
    record {
      told =
          ap (λ ps. ps ++ run text (reverse pending') (length parts' + length pending')) v.parts_are
          ∙ ap (λ es. (parts ++ part ∷ []) ++ run text es (length parts' + length pending')) rest
          ∙ ap (λ k. (parts ++ part ∷ []) ++ run text (news ++ reverse pending) k) count
          ∙ append_assoc parts (part ∷ []) (run text (news ++ reverse pending) (n + length spans))
          ∙ sym (ap (λ ps. parts ++ ps) (run_visit text e.levels e.digest e.span (reverse pending) n))
          ∙ old;
      ready = subst (AllReady text) (sym rest)
          (AllReady-append text news (reverse pending)
          (ready_all text (e.levels - 1) (is_digest (heading_at text e.digest e.span)) spans (omega (arith, ready.0.levels)) (below_in text e.levels e.digest n e.span ready.0.within))
          ready.1);
      placed = subst (All (IsPartOf text)) (sym v.parts_are)
          (All-push (IsPartOf text) parts part g.placed
          (part_placed (is_opaque e.levels (shape_of head) (eqb (length spans) 0)) text head (header_span text e.span) (body_span text e.span) (20 - e.levels) (header-in text e.span ready.0.within) (body-in text e.span ready.0.within)));
      count = omega arith;
    }
