-- The text that is written piece by piece is that of the joined pieces.
use Rattle.std.proofs.Common.{◌≡◌, ◌∙◌, ℕ, Bool, true, false, cond, List, [], ◌∷◌, ◌++◌, Option, Some, None, refl, ap, sym, append_assoc, append-nil}
use Rattle.std.specs.List.{flat_map}
use Rattle.std.proofs.lemmas.Str.{utf8_lossy_empty}
use Rattle.mime_words.specs.declared.charset.Charset.{Charset}
use Rattle.mime_words.specs.declared.charset.Charset.TheVariants.{Utf8, UsAscii, Latin1}
use Rattle.mime_words.specs.Words.{WordPiece, plain}
use Rattle.mime_words.specs.Decoding.{same_charset, before, joined, read_as, text_of}
use Rattle.mime_words.specs.Writing.{Written, empty, finished, with_held, with_piece, with_text}

-- A piece with its parts.
abbrev pub piece : Option Charset → List ℕ → WordPiece
piece charset bytes = record { charset = charset; bytes = bytes }

-- The text written so far, and then the pieces.
abbrev pub all_text : Written → List WordPiece → List ℕ
all_text w ps = w.text ++ flat_map text_of (before (piece w.charset w.held) (joined ps))

same-refl : (a : Option Charset) → same_charset a a ≡ true
same-refl None = refl
same-refl (Some Utf8) = refl
same-refl (Some UsAscii) = refl
same-refl (Some Latin1) = refl

-- Charsets that the test finds the same are the same.
pub same-true : (a b : Option Charset) → same_charset a b ≡ true → a ≡ b
same-true None None e = refl
same-true None (Some b) e = cc
same-true (Some Utf8) None e = cc
same-true (Some UsAscii) None e = cc
same-true (Some Latin1) None e = cc
same-true (Some Utf8) (Some Utf8) e = refl
same-true (Some Utf8) (Some UsAscii) e = cc
same-true (Some Utf8) (Some Latin1) e = cc
same-true (Some UsAscii) (Some Utf8) e = cc
same-true (Some UsAscii) (Some UsAscii) e = refl
same-true (Some UsAscii) (Some Latin1) e = cc
same-true (Some Latin1) (Some Utf8) e = cc
same-true (Some Latin1) (Some UsAscii) e = cc
same-true (Some Latin1) (Some Latin1) e = refl

-- Two pieces of one charset before others, by whether the first of those has it too.
before_by : (k : Option Charset) (a b : List ℕ) (q : WordPiece) (qs : List WordPiece) (t : Bool)
    → before (piece k a) (cond t (piece k (b ++ q.bytes) ∷ qs) (piece k b ∷ q ∷ qs)) ≡ cond t (piece k (a ++ b ++ q.bytes) ∷ qs) (piece k (a ++ b) ∷ q ∷ qs)
before_by k a b q qs true = rw (same-refl k) (ap (λ bytes. piece k bytes ∷ qs) (sym (append_assoc a b q.bytes)))
before_by k a b q qs false = rw (same-refl k) refl

pub before_same : (k : Option Charset) (a b : List ℕ) (ps : List WordPiece) → before (piece k a) (before (piece k b) ps) ≡ before (piece k (a ++ b)) ps
before_same k a b [] = rw (same-refl k) refl
before_same k a b (q ∷ qs) = before_by k a b q qs (same_charset k q.charset)

-- A piece before one of another charset.
other_by : (p : WordPiece) (k : Option Charset) (b : List ℕ) (q : WordPiece) (qs : List WordPiece) → same_charset p.charset k ≡ false → (t : Bool)
    → before p (cond t (piece k (b ++ q.bytes) ∷ qs) (piece k b ∷ q ∷ qs)) ≡ p ∷ cond t (piece k (b ++ q.bytes) ∷ qs) (piece k b ∷ q ∷ qs)
other_by p k b q qs e true = rw e refl
other_by p k b q qs e false = rw e refl

before_other : (p : WordPiece) (k : Option Charset) (b : List ℕ) (ps : List WordPiece) → same_charset p.charset k ≡ false
    → before p (before (piece k b) ps) ≡ p ∷ before (piece k b) ps
before_other p k b [] e = rw e refl
before_other p k b (q ∷ qs) e = other_by p k b q qs e (same_charset k q.charset)

-- One piece is written, by whether it has the charset of the bytes that wait.
written_by : (w : Written) (p : WordPiece) (ps : List WordPiece) (t : Bool) → same_charset w.charset p.charset ≡ t
    → all_text (with_held (cond t w (record { text = finished w; charset = p.charset; held = [] })) p.bytes) ps ≡ all_text w (p ∷ ps)
written_by w p ps true e =
    let same : w.charset ≡ p.charset = same-true w.charset p.charset e in
    ap (λ qs. w.text ++ flat_map text_of qs)
    (sym (before_same w.charset w.held p.bytes (joined ps)) ∙ ap (λ k. before (piece w.charset w.held) (before (piece k p.bytes) (joined ps))) same)
written_by w p ps false e =
    append_assoc w.text (read_as w.charset w.held) (flat_map text_of (before p (joined ps)))
    ∙ ap (λ qs. w.text ++ flat_map text_of qs) (sym (before_other (piece w.charset w.held) p.charset p.bytes (joined ps) e))

pub all_text-with_piece : (w : Written) (p : WordPiece) (ps : List WordPiece) → all_text (with_piece w p) ps ≡ all_text w (p ∷ ps)
all_text-with_piece w p ps = written_by w p ps (same_charset w.charset p.charset) refl

-- A piece that is written waits.
charset_by : (w : Written) (p : WordPiece) (t : Bool) → same_charset w.charset p.charset ≡ t
    → (with_held (cond t w (record { text = finished w; charset = p.charset; held = [] })) p.bytes).charset ≡ p.charset
charset_by w p true e = same-true w.charset p.charset e
charset_by w p false e = refl

pub with_piece-charset : (w : Written) (p : WordPiece) → (with_piece w p).charset ≡ p.charset
with_piece-charset w p = charset_by w p (same_charset w.charset p.charset) refl

-- Text, byte by byte, is one piece.
pub joined_plain : (b : ℕ) (bs : List ℕ) (ps : List WordPiece) → joined (plain (b ∷ bs) ++ ps) ≡ before (piece None (b ∷ bs)) (joined ps)
joined_plain b [] ps = refl
joined_plain b (c ∷ cs) ps = ap (before (piece None (b ∷ []))) (joined_plain c cs ps) ∙ before_same None (b ∷ []) (c ∷ cs) (joined ps)

pub all_text-with_text : (w : Written) (text : List ℕ) (ps : List WordPiece) → all_text (with_text w text) ps ≡ all_text w (plain text ++ ps)
all_text-with_text w [] ps = refl
all_text-with_text w (b ∷ bs) ps =
    all_text-with_piece w (piece None (b ∷ bs)) ps
    ∙ ap (λ qs. w.text ++ flat_map text_of (before (piece w.charset w.held) qs)) (sym (joined_plain b bs ps))

-- Nothing is written before the first piece.
empty_by : (q : WordPiece) (qs : List WordPiece) (t : Bool) → same_charset None q.charset ≡ t
    → flat_map text_of (cond t (piece None q.bytes ∷ qs) (piece None [] ∷ q ∷ qs)) ≡ flat_map text_of (q ∷ qs)
empty_by q qs true e = ap (λ k. read_as k q.bytes ++ flat_map text_of qs) (same-true None q.charset e)
empty_by q qs false e = ap (λ text. text ++ flat_map text_of (q ∷ qs)) (utf8_lossy_empty [] refl)

empty_before : (ps : List WordPiece) → flat_map text_of (before (piece None []) ps) ≡ flat_map text_of ps
empty_before [] = ap (λ text. text ++ []) (utf8_lossy_empty [] refl)
empty_before (q ∷ qs) = empty_by q qs (same_charset None q.charset) refl

pub all_text-empty : (ps : List WordPiece) → all_text empty ps ≡ flat_map text_of (joined ps)
all_text-empty ps = empty_before (joined ps)

-- No piece is left.
pub all_text-finished : (w : Written) → all_text w [] ≡ finished w
all_text-finished w = ap (λ text. w.text ++ text) (append-nil (read_as w.charset w.held))
