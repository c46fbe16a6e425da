-- Bare texts: what is spelled is read, and what is read is spelled.
use Rattle.std.proofs.Common.{◌≡◌, ◌<◌, ◌+◌, ℕ, suc, Bool, true, false, cond, ◌&&◌, ◌==◌, List, [], ◌∷◌, ◌++◌, length, take, drop, Option, Some, None, if◌then◌else◌, refl, sym, ap, subst, ◌∙◌, arith, one-add, ne_eqb}
use Rattle.std.specs.List.{list_all, prefix_len}
use Rattle.std.proofs.Math.Seq.{take-append_seam, drop-append_seam}
use Rattle.std.proofs.lemmas.Bool.{eqb-false}
use Rattle.std.proofs.lemmas.List.{take-append-drop}
use Rattle.imap_words.specs.Reading.{run_at}
use Rattle.imap_laws.specs.Spelling.{StopsKind, SpellsBare}

-- The first octets and those after them, unless there are none of the first.
abbrev pub cut_by : Bool → ℕ → List ℕ → Option (List ℕ × List ℕ)
cut_by none n octets = if none then None else Some (take n octets, drop n octets)

module _ (kind : ℕ → Bool) where
  -- No octet of the kind comes first.
  none-first : (rest : List ℕ) → StopsKind kind rest → prefix_len kind rest ≡ 0
  none-first [] s = refl
  none-first (b ∷ bs) s = rw s refl

  len-by : (t : Bool) (bs rest : List ℕ) → t && list_all kind bs ≡ true
      → (list_all kind bs ≡ true → prefix_len kind (bs ++ rest) ≡ length bs)
      → cond t (1 + prefix_len kind (bs ++ rest)) 0 ≡ suc (length bs)
  len-by true bs rest h ih = one-add (prefix_len kind (bs ++ rest)) ∙ ap suc (ih h)
  len-by false bs rest h ih = cc

  -- The run is the text.
  run-len : (text rest : List ℕ) → list_all kind text ≡ true → StopsKind kind rest
      → prefix_len kind (text ++ rest) ≡ length text
  run-len [] rest ok s = none-first rest s
  run-len (b ∷ bs) rest ok s = len-by (kind b) bs rest ok (λ h. run-len bs rest h s)

  read-by : (n : ℕ) (text rest : List ℕ) → n ≡ length text → 0 < length text
      → cut_by (n == 0) n (text ++ rest) ≡ Some (text, rest)
  read-by n text rest is some =
      let t : take n (text ++ rest) ≡ text = ap (λ k. take k (text ++ rest)) is ∙ take-append_seam text rest in
      let d : drop n (text ++ rest) ≡ rest = ap (λ k. drop k (text ++ rest)) is ∙ drop-append_seam text rest in
      ap (λ none. cut_by none n (text ++ rest)) (ne_eqb n 0 (omega arith)) ∙ rw t (rw d refl)

  pub bare_read : (octets text rest : List ℕ) → SpellsBare kind octets text rest → run_at kind octets ≡ Some (text, rest)
  bare_read octets text rest s =
      subst (λ o. run_at kind o ≡ Some (text, rest)) (sym s.first)
      (read-by (prefix_len kind (text ++ rest)) text rest (run-len text rest s.of_kind s.stops) s.some)

  -- What a run is, and what follows it.
  pub record IsRun (octets : List ℕ) (n : ℕ) : Type 0 where
    pub of_kind : list_all kind (take n octets) ≡ true
    pub long : length (take n octets) ≡ n
    pub stops : StopsKind kind (drop n octets)

  run-by : (t : Bool) (b : ℕ) (bs : List ℕ) → kind b ≡ t → IsRun bs (prefix_len kind bs)
      → IsRun (b ∷ bs) (cond t (1 + prefix_len kind bs) 0)
  run-by true b bs t r = subst (λ n. IsRun (b ∷ bs) n) (sym (one-add (prefix_len kind bs)))
      (record { of_kind = rw t r.of_kind; long = ap suc r.long; stops = r.stops })
  run-by false b bs t r = record { of_kind = refl; long = refl; stops = t }

  pub is_run : (octets : List ℕ) → IsRun octets (prefix_len kind octets)
  is_run [] = record { of_kind = refl; long = refl; stops = tt }
  is_run (b ∷ bs) = run-by (kind b) b bs refl (is_run bs)

  spelled-by : (none : Bool) (n : ℕ) (octets text rest : List ℕ) → (n == 0) ≡ none → IsRun octets n
      → cut_by none n octets ≡ Some (text, rest) → SpellsBare kind octets text rest
  spelled-by true n octets text rest z r h = cc
  spelled-by false n octets text rest z r h =
      let e : (take n octets, drop n octets) ≡ (text, rest) = cc in
      let t : take n octets ≡ text = ap (λ (p : List ℕ × List ℕ). p.0) e in
      let d : drop n octets ≡ rest = ap (λ (p : List ℕ × List ℕ). p.1) e in
      let some : n ≡ 0 → ⊥ = eqb-false n 0 z in
      let long : 0 < length (take n octets) = omega (arith, r.long, some) in
      record {
        of_kind = subst (λ l. list_all kind l ≡ true) t r.of_kind;
        some = subst (λ l. 0 < length l) t long;
        first = sym (take-append-drop n octets) ∙ (ap (λ l. l ++ drop n octets) t ∙ ap (λ l. text ++ l) d);
        stops = subst (λ l. StopsKind kind l) d r.stops;
      }

  pub bare_spelled : (octets text rest : List ℕ) → run_at kind octets ≡ Some (text, rest) → SpellsBare kind octets text rest
  bare_spelled octets text rest h =
      spelled-by (prefix_len kind octets == 0) (prefix_len kind octets) octets text rest refl (is_run octets) h
