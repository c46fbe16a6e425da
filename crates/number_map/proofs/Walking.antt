-- A piece that was read is the next one of the map.
use Rattle.std.specs.Prelude.{◌≡◌, ◌+◌, ◌*◌, ◌-◌, ℕ, Result, Option, Some, None, List, ◌++◌, length, take, drop, min}
use Rattle.std.proofs.Common.{◌∙◌, sym, ap, subst, inl, inr, arith, length-take, length-drop}
use Rattle.std.proofs.lemmas.Bool.{cases_lt}
use Rattle.std.proofs.lemmas.List.{take-append-drop, drop_all}
use Rattle.arch_base.specs.declared.ids.Form.{Form}
use Rattle.disk_model.specs.declared.name.FileName.{FileName}
use Rattle.disk_model.specs.declared.refusal.WalkRefusal.{WalkRefusal}
use Rattle.disk_model.specs.Disk.{Content, WhereTold, HasRead, bytes_of}
use Rattle.disk_model.specs.BigEndian.{front_is}
use Rattle.disk_model.specs.Sizes.{record_size}
use Rattle.number_map.specs.declared.line.Record.{Record}
use Rattle.number_map.specs.Walks.{BeginsWithRecords}
use Rattle.number_map.specs.Pieces.{RecordsStand, IsEnough, ReadsRecords}
use Rattle.number_map.proofs.Standing.{stands_of}

module _ (form : Form) where
  -- A piece that was read follows the records before it.
  record PieceStands (wanted : ℕ) (lines : List Record) (piece rest map : List ℕ) : Type 0 where
    stands : RecordsStand form lines (piece ++ rest) map
    enough : IsEnough form wanted piece rest

  piece_stands : (lines : List Record) (map before after : List ℕ) (offset n wanted : ℕ) → BeginsWithRecords form lines map → length before ≡ record_size form * wanted → offset ≡ record_size form * length lines → n ≡ min (length before) (length map - offset)
      → after ≡ take n (drop offset map) ++ drop n before → PieceStands wanted lines (take n after) (drop n (drop offset map)) map
  piece_stands lines map before after offset n wanted begins room at count is =
      let rest = drop offset map in
      let size : length (take n rest) ≡ n = omega (arith, count, length-take n rest, length-drop offset map) in
      let piece : take n after ≡ take n rest = front_is n after (take n rest) (drop n before) size is in
      let whole : take n after ++ drop n rest ≡ drop (record_size form * length lines) map = ap (λ (l : List ℕ). l ++ drop n rest) piece ∙ (take-append-drop n rest ∙ ap (λ (k : ℕ). drop k map) at) in
      let long : length (take n after) ≡ n = ap (λ (l : List ℕ). length l) piece ∙ size in
      record {
        stands = subst (λ (l : List ℕ). RecordsStand form lines l map) (sym whole) (stands_of form lines map begins);
        enough = elim (cases_lt n (record_size form * wanted)) [ inl short ↦ inr (drop_all n rest (omega (arith, short, count, room, length-drop offset map))) | inr fits ↦ inl (omega (arith, fits, long)) ];
      }

  -- One more piece.
  pub piece_read : {T : Type 0} (result : Result T WalkRefusal) (content : Option Content) (file : FileName) (offset n wanted : ℕ) (before after : List ℕ) (lines new : List Record) → length before ≡ record_size form * wanted → offset ≡ record_size form * length lines
      → WhereTold (HasRead file offset n before after) content
      → ((map rest : List ℕ) → RecordsStand form lines (take n after ++ rest) map → IsEnough form wanted (take n after) rest → ReadsRecords form result (length lines + wanted) map new)
      → WhereTold (λ k. BeginsWithRecords form lines (bytes_of (k file).seen) → ReadsRecords form result (length lines + wanted) (bytes_of (k file).seen) new) content
  piece_read result None file offset n wanted before after lines new room at has read = tt
  piece_read result (Some k) file offset n wanted before after lines new room at has read = λ begins.
      let map = bytes_of (k file).seen in
      let both = piece_stands lines map before after offset n wanted begins room at has.count has.bytes in
      read map (drop n (drop offset map)) both.stands both.enough
