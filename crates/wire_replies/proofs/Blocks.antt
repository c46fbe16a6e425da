-- The wire form of bytes, piece by piece.
use Rattle.std.proofs.Common.{◌≡◌, ℕ, suc, ◌+◌, Bool, true, false, cond, eqb, not, List, [], ◌∷◌, ◌++◌, take, drop, refl, sym, ap, ◌∙◌, arith}
use Rattle.std.specs.Prelude.{◌||◌}
use Rattle.std.specs.List.{flat_map, prefix_len}
use Rattle.mail_reader.specs.Lines.{lines_of}
use Rattle.mail_forms.specs.WireForms.{sent, wire_of}
use Rattle.wire_replies.specs.Blocks.{block_line, block_lines}
use Rattle.wire_replies.specs.Changed.{is_unchanged, first_sent, dot_before}

one-more : (n : ℕ) → 1 + n ≡ suc n
one-more n = omega arith

-- The wire form of a byte and others.
wire-cons : (b : ℕ) (bs : List ℕ) → wire_of (b ∷ bs) ≡ sent b ++ wire_of bs
unfolding wire_of
wire-cons b bs = refl

pub wire-nil : wire_of [] ≡ []
unfolding wire_of
wire-nil = refl

-- A byte that is sent unchanged.
sent-unchanged : (b : ℕ) → is_unchanged b ≡ true → sent b ≡ b ∷ []
sent-unchanged b is = by (eqb b 10) refl (eqb b 13) refl (eqb b 0) refl is
  where
    by : (f : Bool) → eqb b 10 ≡ f → (r : Bool) → eqb b 13 ≡ r → (z : Bool) → eqb b 0 ≡ z → not (f || r || z) ≡ true → cond f (13 ∷ 10 ∷ []) (cond (r || z) (32 ∷ []) (b ∷ [])) ≡ b ∷ []
    by true e r h z k is = absurd (cc is)
    by false e true h z k is = absurd (cc is)
    by false e false h true k is = absurd (cc is)
    by false e false h false k is = refl

-- The bytes at the front that are sent unchanged, what is sent for the next, and the wire form of the
-- others.
pub wire-front : (bs : List ℕ) → wire_of bs ≡ (take (prefix_len is_unchanged bs) bs ++ first_sent (drop (prefix_len is_unchanged bs) bs)) ++ wire_of (drop 1 (drop (prefix_len is_unchanged bs) bs))
wire-front [] = wire-nil ∙ sym wire-nil
wire-front (b ∷ bs) = wire-cons b bs ∙ by (is_unchanged b) refl (wire-front bs)
  where
    by : (u : Bool) → is_unchanged b ≡ u → wire_of bs ≡ (take (prefix_len is_unchanged bs) bs ++ first_sent (drop (prefix_len is_unchanged bs) bs)) ++ wire_of (drop 1 (drop (prefix_len is_unchanged bs) bs))
        → sent b ++ wire_of bs ≡ (take (cond u (1 + prefix_len is_unchanged bs) 0) (b ∷ bs) ++ first_sent (drop (cond u (1 + prefix_len is_unchanged bs) 0) (b ∷ bs))) ++ wire_of (drop 1 (drop (cond u (1 + prefix_len is_unchanged bs) 0) (b ∷ bs)))
    by true e more = rw (one-more (prefix_len is_unchanged bs)) (ap (λ (x : List ℕ). x ++ wire_of bs) (sent-unchanged b e) ∙ ap (λ (x : List ℕ). b ∷ x) more)
    by false e more = refl

-- The first line of a text, and the others.
pub block-front : (text line after : List ℕ) → lines_of text ≡ line ∷ lines_of after → block_lines text ≡ block_line line ++ block_lines after
unfolding block_lines
block-front text line after is = ap (flat_map block_line) is

pub block-nil : block_lines [] ≡ []
unfolding block_lines
block-nil = refl

-- A line that starts with a dot has one more before its wire form.
pub line-dotted : (line : List ℕ) → block_line line ≡ dot_before line ++ wire_of line
line-dotted [] = refl
line-dotted (b ∷ bs) = by (eqb b 46)
  where
    by : (t : Bool) → wire_of (cond t (46 ∷ b ∷ bs) (b ∷ bs)) ≡ cond t (46 ∷ []) [] ++ wire_of (b ∷ bs)
    by true = wire-cons 46 (b ∷ bs)
    by false = refl
