-- A value that is spelled from words and text is decoded as they say.
use Rattle.std.proofs.Common.{◌≡◌, inl, inr, ◌<◌, ◌+◌, ◌∙◌, ℕ, zero, suc, Bool, true, false, cond, ◌&&◌, codes, List, [], ◌∷◌, ◌++◌, length, map, drop, get_or, replicate, Some, None, refl, ap, sym, append_assoc, append-nil, length-append, arith}
use Rattle.std.specs.List.{flat_map, list_all}
use Rattle.std.specs.Str.Lossy.{utf8_lossy}
use Rattle.std.proofs.lemmas.Bool.{false_from_ne_true}
use Rattle.std.proofs.lemmas.List.{drop_at, length-map}
use Rattle.std.specs.Char.{to_ascii_lowercase}
use Rattle.std.specs.Str.{str_to_ascii_lowercase}
use Rattle.mime_words.specs.declared.charset.Charset.{Charset}
use Rattle.mime_words.specs.declared.charset.Charset.TheVariants.{Utf8, UsAscii, Latin1}
use Rattle.mime_words.specs.declared.encoding.Encoding.{Encoding}
use Rattle.mime_words.specs.declared.encoding.Encoding.TheVariants.{Base64, Quoted}
use Rattle.mime_words.specs.Words.{EncodedText, charset_of, is_charset_byte, is_text_byte, encoding_of, word_at, word_len, bytes_of, WordPiece, plain, pieces}
use Rattle.mime_words.specs.Decoding.{is_blank, same_charset, before, joined, without_gaps, text_of, decoded}
use Rattle.mime_words.specs.Spelled.{Coded, InQ, InBase64, IsCoded, coded_bytes, coded_said, IsLetter, NamesCharset, WrittenWord, IsEncodedWord, word_bytes, spaced_word, word_said, outer_text, Run, Plain, Words, run_bytes, run_said, read_in, Before, Start, AfterText, AfterWords, AreRuns, AllWords, MayBeWords, IsNoGap, SpelledIsSaid}
use Rattle.mime_words.proofs.Cutting.{pieces-read_word}
use Rattle.mime_words.proofs.Joining.{piece, same-true, before_same, joined_plain}
use Rattle.mime_words.proofs.Gaps.{text_by, without_gaps-end}
use Rattle.mime_words.proofs.Padded.{loose}
use Rattle.mime_words.proofs.Spelling.{spelled}
use Rattle.mime_words.proofs.Quoting.{quoted_is, quoted_text}
use Rattle.mime_words.proofs.Outer.{small_bytes, small_charset, text_passes, pieces_outer}

-- A word, as it is found.
abbrev encoding : Coded → Encoding
encoding (InQ parts) = Quoted
encoding (InBase64 bytes text) = Base64

letter_is : (coded : Coded) (letter : ℕ) → IsLetter coded letter → encoding_of letter ≡ Some (encoding coded)
letter_is (InQ parts) letter (inl e) = ap encoding_of e
letter_is (InQ parts) letter (inr e) = ap encoding_of e
letter_is (InBase64 bytes text) letter (inl e) = ap encoding_of e
letter_is (InBase64 bytes text) letter (inr e) = ap encoding_of e

text_is : (coded : Coded) → IsCoded coded → list_all is_text_byte (coded_bytes coded) ≡ true
text_is (InQ parts) q = quoted_text parts q
text_is (InBase64 bytes text) q = text_passes text q.1

said_is : (coded : Coded) → IsCoded coded → bytes_of (encoding coded) (coded_bytes coded) ≡ coded_said coded
said_is (InQ parts) q = quoted_is parts q
said_is (InBase64 bytes text) q = loose bytes text q.0

-- Properties of a charset's name.
record IsCharsetName (charset : Charset) (name : List ℕ) : Type 0 where
  some : 0 < length name
  bytes : list_all is_charset_byte name ≡ true
  is : charset_of name ≡ Some charset

named_by : (charset : Charset) (name small : List ℕ) → str_to_ascii_lowercase name ≡ small → 0 < length small
    → list_all is_charset_byte small ≡ true → small_charset small ≡ Some charset → IsCharsetName charset name
named_by charset name small e some bytes is = record {
  some = let same : length (str_to_ascii_lowercase name) ≡ length small = ap length e in omega (arith, length-map name to_ascii_lowercase);
  bytes = small_bytes name (ap (list_all is_charset_byte) e ∙ bytes);
  is = ap small_charset e ∙ is;
}

named : (charset : Charset) (name : List ℕ) → NamesCharset charset name → IsCharsetName charset name
named Utf8 name e = named_by Utf8 name (codes "utf-8") e (omega arith) refl refl
named UsAscii name e = named_by UsAscii name (codes "us-ascii") e (omega arith) refl refl
named Latin1 name e = named_by Latin1 name (codes "iso-8859-1") e (omega arith) refl refl

abbrev shown : WrittenWord → EncodedText
shown word = record { charset = word.name; encoding = encoding word.coded; text = coded_bytes word.coded }

word_is : (charset : Charset) (word : WrittenWord) → IsEncodedWord charset word → (ys : List ℕ) → word_at (word_bytes word ++ ys) ≡ Some (shown word)
word_is charset word w ys =
    let name = named charset word.name w.name in
    let all : word_bytes word ++ ys ≡ 61 ∷ 63 ∷ (word.name ++ (63 ∷ word.letter ∷ 63 ∷ (coded_bytes word.coded ++ (63 ∷ 61 ∷ ys)))) = simp append_assoc in
    spelled (word_bytes word ++ ys) (shown word)
    (record {
      letter = word.letter;
      after = ys;
      spelling = all;
      named = name.some;
      name = name.bytes;
      encoding = letter_is word.coded word.letter w.letter;
      text = text_is word.coded w.coded;
    })

word_len_is : (word : WrittenWord) → length (word_bytes word) ≡ word_len (shown word)
word_len_is word =
    let text = coded_bytes word.coded ++ 63 ∷ 61 ∷ [] in
    let inner : length text ≡ length (coded_bytes word.coded) + 2 = length-append (coded_bytes word.coded) (63 ∷ 61 ∷ []) in
    let outer : length (word.name ++ 63 ∷ word.letter ∷ 63 ∷ text) ≡ length word.name + length (63 ∷ word.letter ∷ 63 ∷ text) = length-append word.name (63 ∷ word.letter ∷ 63 ∷ text) in
    omega arith

abbrev word_piece : Charset → WrittenWord → WordPiece
word_piece charset word = piece (Some charset) (word_said word)

pieces_word : (charset : Charset) (word : WrittenWord) → IsEncodedWord charset word → (ys : List ℕ) → pieces (word_bytes word ++ ys) ≡ word_piece charset word ∷ pieces ys
pieces_word charset word w ys =
    let name = named charset word.name w.name in
    let after : drop (word_len (shown word)) (word_bytes word ++ ys) ≡ ys = drop_at (word_bytes word) ys (word_len (shown word)) (word_len_is word) in
    pieces-read_word (word_bytes word ++ ys) (shown word) charset (omega arith) (word_is charset word w ys) name.is
    ∙ (λ i. piece (Some charset) (said_is word.coded w.coded i) ∷ pieces (after i))

-- Spaces before other bytes.
pieces_spaces : (n : ℕ) (ys : List ℕ) → pieces (replicate n 32 ++ ys) ≡ plain (replicate n 32) ++ pieces ys
pieces_spaces zero ys = refl
pieces_spaces (suc n) ys = ap (λ ps. piece None (32 ∷ []) ∷ ps) (pieces_spaces n ys)

blank_spaces : (n : ℕ) → is_blank (replicate n 32) ≡ true
blank_spaces zero = refl
blank_spaces (suc n) = blank_spaces n

pieces_spaced : (charset : Charset) (word : WrittenWord) → IsEncodedWord charset word → (ys : List ℕ)
    → pieces (spaced_word word ++ ys) ≡ plain (replicate word.gap 32) ++ word_piece charset word ∷ pieces ys
pieces_spaced charset word w ys =
    ap pieces (append_assoc (replicate word.gap 32) (word_bytes word) ys) ∙ pieces_spaces word.gap (word_bytes word ++ ys)
    ∙ ap (λ ps. plain (replicate word.gap 32) ++ ps) (pieces_word charset word w ys)

-- The spaces before a word that comes after another one.
gap_goes : (charset : Charset) (word : WrittenWord) → IsEncodedWord charset word → (ys : List ℕ)
    → without_gaps true (pieces (spaced_word word ++ ys)) ≡ word_piece charset word ∷ without_gaps true (pieces ys)
gap_goes charset word w ys =
    ap (without_gaps true) (pieces_spaced charset word w ys)
    ∙ text_by true (replicate word.gap 32) charset (word_said word) (pieces ys)
    ∙ ap (λ t. cond t (word_piece charset word ∷ without_gaps true (pieces ys)) (plain (replicate word.gap 32) ++ word_piece charset word ∷ without_gaps true (pieces ys))) (blank_spaces word.gap)

gaps_go : (charset : Charset) (words : List WrittenWord) → AllWords charset words → (ys : List ℕ)
    → without_gaps true (pieces (flat_map spaced_word words ++ ys)) ≡ map (word_piece charset) words ++ without_gaps true (pieces ys)
gaps_go charset [] all ys = refl
gaps_go charset (word ∷ words) all ys =
    ap (λ xs. without_gaps true (pieces xs)) (append_assoc (spaced_word word) (flat_map spaced_word words) ys)
    ∙ gap_goes charset word all.0 (flat_map spaced_word words ++ ys)
    ∙ ap (λ ps. word_piece charset word ∷ ps) (gaps_go charset words all.1 ys)

-- Words of one charset are joined.
join_words : (charset : Charset) (bytes : List ℕ) (words : List WrittenWord) (ps : List WordPiece)
    → joined (piece (Some charset) bytes ∷ (map (word_piece charset) words ++ ps)) ≡ before (piece (Some charset) (bytes ++ flat_map word_said words)) (joined ps)
join_words charset bytes [] ps = ap (λ xs. before (piece (Some charset) xs) (joined ps)) (sym (append-nil bytes))
join_words charset bytes (word ∷ words) ps =
    ap (before (piece (Some charset) bytes)) (join_words charset (word_said word) words ps)
    ∙ before_same (Some charset) bytes (word_said word ++ flat_map word_said words) (joined ps)

-- The piece that a part is.
abbrev run_piece : Run → WordPiece
run_piece (Plain outer) = piece None (outer_text outer)
run_piece (Words charset first more) = piece (Some charset) (word_said first ++ flat_map word_said more)

abbrev is_after : Before → Bool
is_after Start = false
is_after AfterText = false
is_after (AfterWords charset) = true

-- Words are apart from what follows them.
apart : (charset : Charset) (bytes : List ℕ) (runs : List Run) → AreRuns (AfterWords charset) runs
    → before (piece (Some charset) bytes) (map run_piece runs) ≡ piece (Some charset) bytes ∷ map run_piece runs
apart charset bytes [] all = refl
apart charset bytes (Plain outer ∷ runs) all = refl
apart charset bytes (Words other first more ∷ runs) all =
    let differ : same_charset (Some charset) (Some other) ≡ false = false_from_ne_true (same_charset (Some charset) (Some other)) (λ e. all.0 (inside (same-true (Some charset) (Some other) e))) in
    rw differ refl
  where
    inside : Some charset ≡ Some other → charset ≡ other
    inside e = cc

-- Text is apart from what follows it.
text_piece : (text : List ℕ) (ps : List WordPiece) → 0 < length text → joined (plain text ++ ps) ≡ before (piece None text) (joined ps)
text_piece [] ps l = absurd (omega arith)
text_piece (b ∷ bs) ps l = joined_plain b bs ps

no_gap : (after : Before) (text : List ℕ) (next : Run) (later : List Run) → IsNoGap after text (next ∷ later) → (is_after after && is_blank text) ≡ false
no_gap Start text next later h = refl
no_gap AfterText text next later h = refl
no_gap (AfterWords charset) text next later h = h

-- The first word of a part.
first_goes : (after : Before) (charset : Charset) (word : WrittenWord) → MayBeWords after charset word.gap → IsEncodedWord charset word → (ys : List ℕ)
    → without_gaps (is_after after) (pieces (spaced_word word ++ ys)) ≡ word_piece charset word ∷ without_gaps true (pieces ys)
first_goes Start charset word none w ys =
    ap (λ n. without_gaps false (pieces ((replicate n 32 ++ word_bytes word) ++ ys))) none ∙ ap (without_gaps false) (pieces_word charset word w ys)
first_goes AfterText charset word none w ys =
    ap (λ n. without_gaps false (pieces ((replicate n 32 ++ word_bytes word) ++ ys))) none ∙ ap (without_gaps false) (pieces_word charset word w ys)
first_goes (AfterWords other) charset word differ w ys = gap_goes charset word w ys

begins_word : (word : WrittenWord) (ys : List ℕ) → word.gap ≡ 0 → get_or (spaced_word word ++ ys) 0 0 ≡ 61
begins_word word ys none = ap (λ n. get_or ((replicate n 32 ++ word_bytes word) ++ ys) 0 0) none

-- Part by part.
parts : (after : Before) (runs : List Run) → AreRuns after runs
    → joined (without_gaps (is_after after) (pieces (flat_map run_bytes runs))) ≡ map run_piece runs
parts after [] all = refl
parts after (Plain outer ∷ []) all =
    let text = outer_text outer in
    ap (λ ps. joined (without_gaps (is_after after) ps)) (pieces_outer outer [] all.2 (λ e. let no_byte : 0 ≡ 63 = e in omega arith) ∙ append-nil (plain text))
    ∙ ap joined (without_gaps-end (is_after after) text ∙ sym (append-nil (plain text)))
    ∙ text_piece text [] all.1
parts after (Plain outer ∷ Plain other ∷ later) all = absurd all.4.0
parts after (Plain outer ∷ Words charset first more ∷ later) all =
    let text = outer_text outer in
    let rest = flat_map run_bytes (Words charset first more ∷ later) in
    let tail = flat_map spaced_word more ++ flat_map run_bytes later in
    let split : rest ≡ spaced_word first ++ tail = append_assoc (spaced_word first) (flat_map spaced_word more) (flat_map run_bytes later) in
    let begins : get_or rest 0 0 ≡ 61 = ap (λ xs. get_or xs 0 0) split ∙ begins_word first tail all.4.0 in
    let cut : pieces rest ≡ word_piece charset first ∷ pieces tail =
    ap pieces split ∙ pieces_spaced charset first all.4.1 tail ∙ ap (λ n. plain (replicate n 32) ++ word_piece charset first ∷ pieces tail) all.4.0 in
    let stays : without_gaps (is_after after) (pieces (text ++ rest)) ≡ plain text ++ without_gaps false (pieces rest) =
    ap (without_gaps (is_after after)) (pieces_outer outer rest all.2 (λ e. omega arith) ∙ ap (λ ps. plain text ++ ps) cut)
    ∙ text_by (is_after after) text charset (word_said first) (pieces tail)
    ∙ ap (λ t. cond t (word_piece charset first ∷ without_gaps true (pieces tail)) (plain text ++ word_piece charset first ∷ without_gaps true (pieces tail))) (no_gap after text (Words charset first more) later all.3)
    ∙ ap (λ ps. plain text ++ without_gaps false ps) (sym cut) in
    ap joined stays ∙ text_piece text (without_gaps false (pieces rest)) all.1
    ∙ ap (before (piece None text)) (parts AfterText (Words charset first more ∷ later) all.4)
parts after (Words charset first more ∷ later) all =
    let end = flat_map run_bytes later in
    let tail = flat_map spaced_word more ++ end in
    let split : flat_map run_bytes (Words charset first more ∷ later) ≡ spaced_word first ++ tail = append_assoc (spaced_word first) (flat_map spaced_word more) end in
    ap (λ xs. joined (without_gaps (is_after after) (pieces xs))) split
    ∙ ap joined (first_goes after charset first all.0 all.1 tail ∙ ap (λ ps. word_piece charset first ∷ ps) (gaps_go charset more all.2 end))
    ∙ join_words charset (word_said first) more (without_gaps true (pieces end))
    ∙ ap (before (run_piece (Words charset first more))) (parts (AfterWords charset) later all.3)
    ∙ apart charset (word_said first ++ flat_map word_said more) later all.3

-- Each part is read.
read_is : (charset : Charset) (bytes : List ℕ) → text_of (piece (Some charset) bytes) ≡ read_in charset bytes
read_is Utf8 bytes = refl
read_is UsAscii bytes = refl
read_is Latin1 bytes = refl

texts : (runs : List Run) → flat_map text_of (map run_piece runs) ≡ flat_map run_said runs
texts [] = refl
texts (Plain outer ∷ runs) = ap (λ xs. utf8_lossy (outer_text outer) ++ xs) (texts runs)
texts (Words charset first more ∷ runs) =
    (λ i. read_is charset (word_said first ++ flat_map word_said more) i ++ texts runs i)

pub said : SpelledIsSaid
unfolding decoded
said runs all = ap (flat_map text_of) (parts Start runs all) ∙ texts runs
