-- Laws of the tree of parts.
use Rattle.std.specs.Prelude.{◌≡◌, ◌⊎◌, ℕ, ◌<◌, ◌≤◌, ◌+◌, ◌==◌, map, List, [], ◌∷◌, ◌++◌, length, slice_range, All}
use Rattle.std.specs.List.{filter}
use Rattle.mail_reader.specs.Lines.{lines_of}
use Rattle.mime_parts.specs.declared.part.Span.{Span}
use Rattle.mime_parts.specs.declared.part.Part.{Part}
use Rattle.mime_parts.specs.declared.delimiters.LineKind.{LineKind}
use Rattle.mime_parts.specs.declared.delimiters.LineKind.TheVariants.{Plain, Delimiter, Closing}
use Rattle.mime_parts.specs.Delimiters.{span_of, kind_of, cuts_from}
use Rattle.mime_parts.specs.Trees.{IsIn, bytes_at, direct_parts, tree_of}

-- The header of a part is before its body, with at most one byte between them. Both are in the
-- text, at a depth from 1 to 20.
pub record PartStands (text : List ℕ) (p : Part) : Type 0 where
  pub depth : 1 ≤ p.depth
  pub depth_most : p.depth ≤ 20
  pub header : p.header.start ≤ p.header.end
  pub crash_between : p.header.end ≤ p.body.start
  pub body : p.body.start ≤ p.body.end
  pub within : p.body.end ≤ length text

-- The second part is in the body of the first, and deeper.
pub record IsPartBelow (p q : Part) : Type 0 where
  pub deeper : p.depth < q.depth
  pub starts : p.body.start ≤ q.header.start
  pub ends : q.body.end ≤ p.body.end

-- The second part starts after the end of the first.
abbrev pub IsAfter : Part → Part → Type 0
IsAfter p q = p.body.end ≤ q.header.start

-- The first of the parts, if there is one, is one level below.
abbrev pub StartsBelow : Part → List Part → Type 0
StartsBelow p [] = Unit {0}
StartsBelow p (q ∷ qs) = q.depth ≡ p.depth + 1

-- The first of the parts, if there is one, is not deeper.
abbrev pub StartsBeside : Part → List Part → Type 0
StartsBeside p [] = Unit {0}
StartsBeside p (q ∷ qs) = q.depth ≤ p.depth

-- The span of a part: its header and its body, with the empty line between them.
abbrev pub whole_span : Part → Span
whole_span p = span_of p.header.start p.body.end

-- The spans of the parts at a depth.
abbrev pub spans_at : ℕ → List Part → List Span
spans_at depth parts = map whole_span (filter (λ (p : Part). p.depth == depth) parts)

-- The parts that follow one: first those below it, from one that is one level deeper up to one that
-- isn't deeper. That one and all after it start after its end. Those one level deeper are its
-- direct parts, all of them in order.
pub record IsFollowed (text : List ℕ) (p : Part) (others : List Part) : Type 0 where
  pub below : List Part
  pub later : List Part
  pub split : others ≡ below ++ later
  pub first : StartsBelow p below
  pub next : StartsBeside p later
  pub are_below : All (IsPartBelow p) below
  pub are_after : All (IsAfter p) later
  pub direct : spans_at (p.depth + 1) below ≡ direct_parts p.shape p.params text p.body

-- Each of these parts is followed so by those after it.
abbrev pub AllFollowed : List ℕ → List Part → Type 0
AllFollowed text [] = Unit {0}
AllFollowed text (p ∷ ps) = IsFollowed text p ps × AllFollowed text ps

-- The first of the parts is the whole text, at depth 1, and all others are below it.
pub record StartsWhole (text : List ℕ) (parts : List Part) : Type 0 where
  pub whole : Part
  pub others : List Part
  pub split : parts ≡ whole ∷ others
  pub depth : whole.depth ≡ 1
  pub start : whole.header.start ≡ 0
  pub end : whole.body.end ≡ length text

-- The tree of a text: at most 1,000 parts, the first of which is the text. By their order and their
-- depths it is known which are below which: those below a part are in its body, and any two of
-- which neither is below the other are apart, in order. The direct parts of each are those that its
-- shape, its boundary and its body say.
pub record IsTree (text : List ℕ) : Type 0 where
  pub count : length (tree_of text) ≤ 1000
  pub whole : StartsWhole text (tree_of text)
  pub stand : All (PartStands text) (tree_of text)
  pub followed : AllFollowed text (tree_of text)

-- The law of trees: each text has one.
abbrev pub TreesAreTrees : Type 0
TreesAreTrees = (text : List ℕ) → IsTree text

-- A line of a kind, with the line feed before it, if there is one.
pub record IsDelimiterLine (boundary : List ℕ) (kind : LineKind) (bytes : List ℕ) : Type 0 where
  pub lead : List ℕ
  pub line : List ℕ
  pub joined : bytes ≡ lead ++ line
  pub is : kind_of boundary line ≡ kind
  pub feed : (lead ≡ []) ⊎ (lead ≡ 10 ∷ [])

-- A closing line starts at an offset, and any bytes follow it up to the end.
pub record HasClosingLine (boundary text : List ℕ) (at end : ℕ) : Type 0 where
  pub close : ℕ
  pub ordered : at ≤ close
  pub within : close ≤ end
  pub gap : IsDelimiterLine boundary Closing (slice_range text at close)

-- No line of the bytes is a delimiter line or a closing line.
abbrev pub HasNoDelimiter : List ℕ → List ℕ → Type 0
HasNoDelimiter boundary bytes = All (λ (line : List ℕ). kind_of boundary line ≡ Plain) (lines_of bytes)

-- From an offset on: each part follows a delimiter line, and nothing or a closing line follows the
-- last part. No line of a part is a delimiter line.
abbrev pub AreCut : List ℕ → List ℕ → ℕ → ℕ → List Span → Type 0
AreCut boundary text at end [] = (at ≡ end) ⊎ HasClosingLine boundary text at end
AreCut boundary text at end (s ∷ ss) =
    (at ≤ s.start) × (IsDelimiterLine boundary Delimiter (slice_range text at s.start)
    × ((s.start ≤ s.end) × (HasNoDelimiter boundary (bytes_at text s)
    × AreCut boundary text s.end end ss)))

-- The bytes of a body up to an offset are before its first delimiter line, and from there on it is
-- its parts with their delimiter lines. If it has no delimiter line, the offset is its end.
pub record IsDivided (boundary text : List ℕ) (body : Span) : Type 0 where
  pub from : ℕ
  pub ordered : body.start ≤ from
  pub within : from ≤ body.end
  pub before : HasNoDelimiter boundary (slice_range text body.start from)
  pub parts : AreCut boundary text from body.end
      (cuts_from boundary body.start (lines_of (bytes_at text body))).parts

-- The law of bodies: each is divided so by its delimiter lines.
abbrev pub BodiesAreDivided : Type 0
BodiesAreDivided = (boundary text : List ℕ) (body : Span) → IsIn text body
    → IsDivided boundary text body
