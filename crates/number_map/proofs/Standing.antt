-- The records that a map starts with, and one more.
use Rattle.std.specs.Prelude.{◌≡◌, ◌+◌, ◌-◌, ◌*◌, ◌<◌, ℕ, Err, List, [], ◌∷◌, ◌++◌, length, take, drop, suc}
use Rattle.std.specs.List.{flat_map}
use Rattle.std.proofs.Common.{◌∙◌, sym, ap, subst, inl, inr, arith, append_assoc}
use Rattle.std.proofs.lemmas.List.{take-append-drop, take-append-le, append-nil, flat_map_more}
use Rattle.arch_base.specs.declared.ids.Form.{Form}
use Rattle.disk_model.specs.BigEndian.{front_is, rest_is}
use Rattle.disk_model.specs.declared.refusal.WalkRefusal.{WalkRefusal}
use Rattle.disk_model.specs.declared.refusal.WalkRefusal.TheVariants.{DiskFault, Damaged, NoMemory}
use Rattle.disk_model.specs.Sizes.{record_size}
use Rattle.number_map.specs.declared.line.Record.{Record}
use Rattle.number_map.specs.Records.{record_bytes, IsRecord, AreRecordsFrom}
use Rattle.number_map.specs.Sizes.{records_length, sizes_one, sizes_sum}
use Rattle.number_map.specs.Walks.{BeginsWithRecords, LacksRecord}
use Rattle.number_map.specs.Pieces.{RecordsStand, IsEnough, IsNextRecord, IsLast, ReadsNext, ReadsRecords}

module _ (form : Form) where
  -- A map that starts with records has a rest.
  pub stands_of : (lines : List Record) (map : List ℕ) → BeginsWithRecords form lines map → RecordsStand form lines (drop (record_size form * length lines) map) map
  stands_of lines map begins = record {
    valid = begins.valid;
    spelled = sym (take-append-drop (record_size form * length lines) map) ∙ ap (λ (l : List ℕ). l ++ drop (record_size form * length lines) map) begins.spelled;
  }

  -- A map of records and a rest starts with the records.
  pub begins_of : (lines : List Record) (rest map : List ℕ) → RecordsStand form lines rest map → BeginsWithRecords form lines map
  begins_of lines rest map stands = record { valid = stands.valid; spelled = front_is (record_size form * length lines) map (flat_map record_bytes lines) rest (records_length form 1 lines stands.valid) stands.spelled }

  -- A valid record appended to valid ones.
  valid_more : (n : ℕ) (lines : List Record) (line : Record) → AreRecordsFrom form n lines → IsRecord form (n + length lines) line → AreRecordsFrom form n (lines ++ line ∷ [])
  valid_more n [] line valid last = let number : n + 0 ≡ n = omega arith in (subst (λ (k : ℕ). IsRecord form k line) number last, tt)
  valid_more n (x ∷ xs) line valid last =
      let number : n + suc (length xs) ≡ n + 1 + length xs = omega arith in
      (valid.0, valid_more (n + 1) xs line valid.1 (subst (λ (k : ℕ). IsRecord form k line) number last))

  -- One more record.
  pub one_more : (old new : List Record) (bytes after map : List ℕ) → RecordsStand form old (bytes ++ after) map → IsNextRecord form bytes old new → RecordsStand form new (drop (record_size form) bytes ++ after) map
  one_more old new bytes after map stands next =
      let line = next.line in
      let number : length old + 1 ≡ 1 + length old = omega arith in
      let valid : AreRecordsFrom form 1 (old ++ line ∷ []) = valid_more 1 old line stands.valid (subst (λ (k : ℕ). IsRecord form k line) number next.valid) in
      let front = flat_map record_bytes old in
      let rest = drop (record_size form) bytes ++ after in
      let piece : bytes ++ after ≡ record_bytes line ++ rest =
      ap (λ (l : List ℕ). l ++ after) (sym (take-append-drop (record_size form) bytes) ∙ ap (λ (l : List ℕ). l ++ drop (record_size form) bytes) next.spelled) ∙ append_assoc (record_bytes line) (drop (record_size form) bytes) after in
      let more : front ++ record_bytes line ≡ flat_map record_bytes (old ++ line ∷ []) = flat_map_more record_bytes [] old line in
      let is : map ≡ flat_map record_bytes (old ++ line ∷ []) ++ rest =
      stands.spelled ∙ (ap (λ (l : List ℕ). front ++ l) piece ∙ (sym (append_assoc front (record_bytes line) rest) ∙ ap (λ (l : List ℕ). l ++ rest) more)) in
      subst (λ (l : List Record). RecordsStand form l rest map) (sym next.lines) (record { valid = valid; spelled = is })

  -- So it is whatever follows.
  pub next_valid : (old new : List Record) (bytes : List ℕ) → IsNextRecord form bytes old new → AreRecordsFrom form 1 old → AreRecordsFrom form 1 new
  next_valid old new bytes next valid =
      let number : length old + 1 ≡ 1 + length old = omega arith in
      subst (AreRecordsFrom form 1) (sym next.lines) (valid_more 1 old next.line valid (subst (λ (k : ℕ). IsRecord form k next.line) number next.valid))

  -- The first bytes of a piece are those of the rest of the map.
  front_of : (bytes after : List ℕ) → IsEnough form 1 bytes after → take (record_size form) (bytes ++ after) ≡ take (record_size form) bytes
  front_of bytes after enough = elim enough [
    | inl fits ↦ take-append-le (record_size form) bytes after (omega (arith, fits, sizes_one form))
    | inr none ↦ ap (λ (l : List ℕ). take (record_size form) (bytes ++ l)) none ∙ ap (λ (l : List ℕ). take (record_size form) l) (append-nil bytes)
  ]

  -- No more record.
  pub none_more : (count at : ℕ) (old new : List Record) (bytes after map : List ℕ) → length old < count → IsEnough form 1 bytes after → RecordsStand form old (bytes ++ after) map → IsLast form at bytes old new → LacksRecord form count at map
  none_more count at old new bytes after map fewer enough stands last =
      let offset : drop at map ≡ bytes ++ after =
      ap (λ (k : ℕ). drop k map) last.offset ∙ rest_is (record_size form * length old) map (flat_map record_bytes old) (bytes ++ after) (records_length form 1 old stands.valid) stands.spelled in
      let front : take (record_size form) (drop at map) ≡ take (record_size form) bytes = ap (λ (l : List ℕ). take (record_size form) l) offset ∙ front_of bytes after enough in
      record { before = old; begins = begins_of old (bytes ++ after) map stands; fewer = fewer; offset = last.offset; none = λ line valid is. last.none line valid (sym front ∙ is) }

  -- The rest of a piece has room for the remaining records.
  pub enough_left : (wanted done : ℕ) (bytes rest after : List ℕ) → done < wanted → length rest + record_size form * done ≡ length bytes → IsEnough form wanted bytes after → IsEnough form 1 rest after
  enough_left wanted done bytes rest after below left enough = elim enough [ inl fits ↦ inl (omega (arith, left, fits, sizes_sum form done (wanted - done) wanted (omega (arith, below)), sizes_sum form 1 (wanted - done - 1) (wanted - done) (omega (arith, below)))) | inr none ↦ inr none ]

  -- A piece is damaged where the map is.
  pub piece_refused : (refusal : WalkRefusal) (wanted done : ℕ) (start old new : List Record) (bytes rest map after : List ℕ) → done < wanted → length old ≡ length start + done → length rest + record_size form * done ≡ length bytes → RecordsStand form old (rest ++ after) map
      → IsEnough form wanted bytes after → ReadsNext form {T = Unit {0}} (Err refusal) rest old new → ReadsRecords form {T = Unit {0}} (Err refusal) (length start + wanted) map new
  piece_refused DiskFault wanted done start old new bytes rest map after below count left stands enough next = absurd next
  piece_refused NoMemory wanted done start old new bytes rest map after below count left stands enough next = tt
  piece_refused (Damaged at) wanted done start old new bytes rest map after below count left stands enough next =
      none_more (length start + wanted) at old new rest after map (omega (arith, below, count)) (enough_left wanted done bytes rest after below left enough) stands next
