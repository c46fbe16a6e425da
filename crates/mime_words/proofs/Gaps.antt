-- The spaces between words, before the next word and at the end.
use Rattle.std.proofs.Common.{◌≡◌, ◌∙◌, ℕ, Bool, true, false, cond, ◌&&◌, List, [], ◌∷◌, ◌++◌, Some, None, refl, ap, sym, append-nil, is_some}
use Rattle.mime_words.specs.declared.charset.Charset.{Charset}
use Rattle.mime_words.specs.Words.{WordPiece, plain, pieces}
use Rattle.mime_words.specs.Decoding.{is_space, is_blank, reaches_word, without_gaps, decoded}
use Rattle.mime_words.specs.Writing.{Written, empty, finished, with_text, with_text_before, with_piece}
use Rattle.mime_words.proofs.Joining.{piece, all_text, all_text-with_piece, all_text-with_text, all_text-empty, all_text-finished, with_piece-charset}

-- A space, and what follows it.
space_and : (t r s : Bool) → r ≡ s → ((t && true) && r) ≡ (t && s)
space_and true r s e = e
space_and false r s e = refl

-- The next word is reached exactly over text that is only spaces.
reaches_word-plain : (text : List ℕ) (k : Charset) (bytes : List ℕ) (ps : List WordPiece) → reaches_word (plain text ++ piece (Some k) bytes ∷ ps) ≡ is_blank text
reaches_word-plain [] k bytes ps = refl
reaches_word-plain (b ∷ bs) k bytes ps = space_and (is_space b) (reaches_word (plain bs ++ piece (Some k) bytes ∷ ps)) (is_blank bs) (reaches_word-plain bs k bytes ps)

-- At the end there is no next word.
none_and : (t r : Bool) → r ≡ false → (t && r) ≡ false
none_and true r e = e
none_and false r e = refl

reaches_word-end : (text : List ℕ) → reaches_word (plain text) ≡ false
reaches_word-end [] = refl
reaches_word-end (b ∷ bs) = none_and (is_space b && true) (reaches_word (plain bs)) (reaches_word-end bs)

-- Text that isn't after a word stays.
text_stays : (text : List ℕ) (k : Charset) (bytes : List ℕ) (ps : List WordPiece)
    → without_gaps false (plain text ++ piece (Some k) bytes ∷ ps) ≡ plain text ++ piece (Some k) bytes ∷ without_gaps true ps
text_stays [] k bytes ps = refl
text_stays (b ∷ bs) k bytes ps = ap (λ qs. piece None (b ∷ []) ∷ qs) (text_stays bs k bytes ps)

-- The choice between two lists by tests, if the tests agree and the lists do.
choose : (t r s : Bool) (A B C D : List WordPiece) → r ≡ s → (s ≡ true → A ≡ C) → B ≡ D → cond ((t && true) && r) A B ≡ cond (t && s) C D
choose true true true A B C D e a b = a refl
choose true true false A B C D e a b = cc
choose true false true A B C D e a b = cc
choose true false false A B C D e a b = b
choose false r s A B C D e a b = b

-- Text after a word is dropped if it is only spaces.
text_goes : (text : List ℕ) (k : Charset) (bytes : List ℕ) (ps : List WordPiece)
    → without_gaps true (plain text ++ piece (Some k) bytes ∷ ps)
    ≡ cond (is_blank text) (piece (Some k) bytes ∷ without_gaps true ps) (plain text ++ piece (Some k) bytes ∷ without_gaps true ps)
text_goes [] k bytes ps = refl
text_goes (b ∷ bs) k bytes ps =
    let word = piece (Some k) bytes ∷ without_gaps true ps in
    choose (is_space b) (reaches_word (plain bs ++ piece (Some k) bytes ∷ ps)) (is_blank bs) _ _ word (plain (b ∷ bs) ++ word)
    (reaches_word-plain bs k bytes ps)
    (λ blank. text_goes bs k bytes ps ∙ ap (λ s. cond s word (plain bs ++ word)) blank)
    (ap (λ qs. piece None (b ∷ []) ∷ qs) (text_stays bs k bytes ps))

-- The text before a word.
pub text_by : (after_word : Bool) (text : List ℕ) (k : Charset) (bytes : List ℕ) (ps : List WordPiece)
    → without_gaps after_word (plain text ++ piece (Some k) bytes ∷ ps)
    ≡ cond (after_word && is_blank text) (piece (Some k) bytes ∷ without_gaps true ps) (plain text ++ piece (Some k) bytes ∷ without_gaps true ps)
text_by true text k bytes ps = text_goes text k bytes ps
text_by false text k bytes ps = text_stays text k bytes ps

-- Text at the end stays.
end_by : (t r : Bool) (A B : List WordPiece) → r ≡ false → cond (t && r) A B ≡ B
end_by true true A B e = cc
end_by true false A B e = refl
end_by false r A B e = refl

pub without_gaps-end : (after_word : Bool) (text : List ℕ) → without_gaps after_word (plain text) ≡ plain text
without_gaps-end after_word [] = refl
without_gaps-end after_word (b ∷ bs) =
    end_by (after_word && (is_space b && true)) (reaches_word (plain bs)) _ _ (reaches_word-end bs)
    ∙ ap (λ qs. piece None (b ∷ []) ∷ qs) (without_gaps-end false bs)

-- The text before a word is written or not.
before_by : (w : Written) (text : List ℕ) (ps : List WordPiece) (t : Bool)
    → all_text (cond t w (with_text w text)) ps ≡ all_text w (cond t ps (plain text ++ ps))
before_by w text ps true = refl
before_by w text ps false = all_text-with_text w text ps

-- One more word, with the text before it.
pub word_more : (w : Written) (text : List ℕ) (k : Charset) (bytes rest : List ℕ) (all : List ℕ) (ps : List WordPiece)
    → all_text w (without_gaps (is_some w.charset) ps) ≡ all → ps ≡ plain text ++ piece (Some k) bytes ∷ pieces rest
    → all_text (with_piece (with_text_before w text) (piece (Some k) bytes))
    (without_gaps (is_some (with_piece (with_text_before w text) (piece (Some k) bytes)).charset) (pieces rest)) ≡ all
word_more w text k bytes rest all ps h cut =
    let p = piece (Some k) bytes in
    let later = without_gaps true (pieces rest) in
    ap (λ charset. all_text (with_piece (with_text_before w text) p) (without_gaps (is_some charset) (pieces rest))) (with_piece-charset (with_text_before w text) p)
    ∙ all_text-with_piece (with_text_before w text) p later
    ∙ before_by w text (p ∷ later) (is_some w.charset && is_blank text)
    ∙ ap (all_text w) (sym (text_by (is_some w.charset) text k bytes (pieces rest)))
    ∙ ap (λ qs. all_text w (without_gaps (is_some w.charset) qs)) (sym cut)
    ∙ h

-- The text after the last word.
pub text_last : (w : Written) (text all : List ℕ) (ps : List WordPiece) → all_text w (without_gaps (is_some w.charset) ps) ≡ all
    → ps ≡ plain text → finished (with_text w text) ≡ all
text_last w text all ps h cut =
    sym (all_text-finished (with_text w text)) ∙ all_text-with_text w text [] ∙ ap (all_text w) (append-nil (plain text))
    ∙ ap (all_text w) (sym (without_gaps-end (is_some w.charset) text))
    ∙ ap (λ qs. all_text w (without_gaps (is_some w.charset) qs)) (sym cut) ∙ h

-- The state before anything is written.
pub text_first : (value : List ℕ) → all_text empty (without_gaps false (pieces value)) ≡ decoded value
unfolding decoded
text_first value = all_text-empty (without_gaps false (pieces value))
