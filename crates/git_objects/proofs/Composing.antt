-- Pieces one after the other.
use Rattle.std.proofs.Common.{◌≡◌, ◌≢◌, ℕ, List, ◌++◌, cond, Option, Some, None, MatchOption, Result, Ok, Err, OnOk, is_ok, sym, ap, ◌∙◌}
use Rattle.std.proofs.lemmas.List.{append_cancel_left, append_assoc}
use Rattle.git_objects.specs.Fronts.{Lacks, Begins, Both, in_turn, led, AppendsPiece}

-- Bytes that lack the first piece lack both.
pub lacks-first : {A B : Type 0} (va : A → Type 0) (vb : B → Type 0) (sa : A → List ℕ → List ℕ) (sb : B → List ℕ → List ℕ) (bytes : List ℕ)
    → Lacks va sa bytes → Lacks (Both va vb) (in_turn sa sb) bytes
lacks-first va vb sa sb bytes none = λ pair rest valid is. none pair.0 (sb pair.1 rest) valid.0 is

-- Bytes that lack the second piece lack both.
pub lacks-second : {A B : Type 0} (va : A → Type 0) (vb : B → Type 0) (sa : A → List ℕ → List ℕ) (sb : B → List ℕ → List ℕ) (bytes : List ℕ) (a : A) (after : List ℕ)
    → Begins va sa bytes a after → Lacks vb sb after → Lacks (Both va vb) (in_turn sa sb) bytes
lacks-second va vb sa sb bytes a after first none = λ pair rest valid is.
    none pair.1 rest valid.1 (first.only pair.0 (sb pair.1 rest) valid.0 is).1

-- Pairs of equal parts are equal.
pair-once : {A B : Type 0} (a c : A) (b d : B) → a ≡ c → b ≡ d → (let p : A × B = (a, b) in let q : A × B = (c, d) in p ≡ q)
pair-once a c b d e f = cc

-- Bytes with one piece and then the other have both.
pub begins-both : {A B : Type 0} (va : A → Type 0) (vb : B → Type 0) (sa : A → List ℕ → List ℕ) (sb : B → List ℕ → List ℕ) (bytes : List ℕ) (a : A) (after : List ℕ) (b : B) (rest : List ℕ)
    → Begins va sa bytes a after → Begins vb sb after b rest → Begins (Both va vb) (in_turn sa sb) bytes (a, b) rest
begins-both va vb sa sb bytes a after b rest first second = record {
  valid_one = (first.valid_one, second.valid_one);
  spelled = first.spelled ∙ ap (sa a) second.spelled;
  only = λ pair more valid is.
      let one = first.only pair.0 (sb pair.1 more) valid.0 is in
      let two = second.only pair.1 more valid.1 one.1 in
      (pair-once a pair.0 b pair.1 one.0 two.0, two.1);
}

-- Bytes that lack the word lack the piece after it.
pub lacks-word : {V : Type 0} (valid : V → Type 0) (spell : V → List ℕ → List ℕ) (bytes word : List ℕ)
    → ((rest : List ℕ) → bytes ≢ word ++ rest) → Lacks valid (led word spell) bytes
lacks-word valid spell bytes word none = λ v rest ok is. none (spell v rest) is

-- Bytes that lack the piece after a word lack both.
pub lacks-led : {V : Type 0} (valid : V → Type 0) (spell : V → List ℕ → List ℕ) (bytes word after : List ℕ)
    → bytes ≡ word ++ after → Lacks valid spell after → Lacks valid (led word spell) bytes
lacks-led valid spell bytes word after e none = λ v rest ok is.
    none v rest ok (append_cancel_left word after (spell v rest) (sym e ∙ is))

-- A word and then a piece.
pub begins-led : {V : Type 0} (valid : V → Type 0) (spell : V → List ℕ → List ℕ) (bytes word after : List ℕ) (v : V) (rest : List ℕ)
    → bytes ≡ word ++ after → Begins valid spell after v rest → Begins valid (led word spell) bytes v rest
begins-led valid spell bytes word after v rest e one = record {
  valid_one = one.valid_one;
  spelled = e ∙ ap (λ l. word ++ l) one.spelled;
  only = λ w more ok is. one.only w more ok (append_cancel_left word after (spell w more) (sym e ∙ is));
}

-- A word and then a piece or none, by what a reader found after the word.
pub led-either : {V F : Type 0} (valid : V → Type 0) (spell : V → List ℕ → List ℕ) (bytes word after : List ℕ) (found : Option F) (value : F → V) (rest : F → List ℕ)
    → bytes ≡ word ++ after → MatchOption found (Lacks valid spell after) (λ f. Begins valid spell after (value f) (rest f))
    → MatchOption found (Lacks valid (led word spell) bytes) (λ f. Begins valid (led word spell) bytes (value f) (rest f))
led-either valid spell bytes word after None value rest e none = lacks-led valid spell bytes word after e none
led-either valid spell bytes word after (Some f) value rest e one = begins-led valid spell bytes word after (value f) (rest f) e one

-- Two pieces appended, one after the other.
pub appends-both : (old crash_between new : List ℕ) (first second : List ℕ → List ℕ) → AppendsPiece old crash_between first → AppendsPiece crash_between new second → AppendsPiece old new (λ rest. first (second rest))
appends-both old crash_between new first second f s = λ rest. s rest ∙ f (second rest)

-- Bytes appended.
pub appends-bytes : (old new bytes : List ℕ) → new ≡ old ++ bytes → AppendsPiece old new (λ rest. bytes ++ rest)
appends-bytes old new bytes e = λ rest. ap (λ l. l ++ rest) e ∙ append_assoc old bytes rest

-- The bytes that are appended last, if that succeeds.
pub appends-last : {T E : Type 0} (result : Result T E) (old new bytes : List ℕ) → new ≡ cond (is_ok result) (old ++ bytes) old
    → OnOk result (AppendsPiece old new (λ rest. bytes ++ rest))
appends-last (Ok t) old new bytes e = appends-bytes old new bytes e
appends-last (Err r) old new bytes e = tt

-- A consequence of what holds if a result is `Ok`.
pub OnOk-then : {T E : Type 0} (result : Result T E) (P Q : Type 0) → OnOk result P → (P → Q) → OnOk result Q
OnOk-then (Ok t) P Q h f = f h
OnOk-then (Err e) P Q h f = tt
