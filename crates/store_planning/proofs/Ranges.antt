-- Ranges of plans that lie in the bytes that count of their parts.
use Rattle.std.specs.Prelude.{◌≡◌, ◌+◌, ◌*◌, ◌≤◌, ℕ, List, [], length, get_or, refl}
use Rattle.std.specs.List.{flat_map}
use Rattle.std.proofs.Common.{◌∙◌, sym, ap, subst, inl, inr, arith}
use Rattle.std.proofs.lemmas.Bool.{cases_lt}
use Rattle.std.proofs.lemmas.List.{take_all}
use Rattle.arch_base.specs.declared.ids.Form.{Form}
use Rattle.disk_model.specs.declared.name.FileKind.{FileKind}
use Rattle.disk_model.specs.declared.name.FileKind.TheVariants as kind
use Rattle.disk_model.specs.declared.name.FileName.{FileName}
use Rattle.disk_model.specs.Sizes.{record_size}
use Rattle.root_slots.specs.declared.root.Root.{Root}
use Rattle.root_slots.specs.Valid.{no_place}
use Rattle.root_change.specs.declared.sources.Source.{Source}
use Rattle.root_change.specs.declared.sources.Source.TheVariants.{Bytes, Range}
use Rattle.root_change.specs.Names.{map_name, named_end, named_some, place_of}
use Rattle.root_change.specs.Rewriting.{Plan, IsPartToPlan, IsPlanWhole, IsSourceFrom, IsWholeIn, SourceIsWithin, file_by}
use Rattle.root_change.proofs.Grown.{epoch_is_named, map_is_named}
use Rattle.root_change.proofs.Sizes.{end_at_most}
use Rattle.number_map.specs.declared.line.Record.{Record}
use Rattle.number_map.specs.Records.{AreRecordsFrom, record_bytes}
use Rattle.number_map.specs.Rewriting.{PlansMap}
use Rattle.number_map.specs.Sizes.{records_length}
use Rattle.number_map.specs.Walks.{BeginsWithRecords}
use Rattle.epoch_file.specs.Planning.{EndUpTo, SourceEndsBy}
use Rattle.store_finding.specs.Damage.{named_length}
use Rattle.store_finding.specs.Files.{epoch_file_of, map_file_of}
use Rattle.store_planning.specs.Planning.{IsPlanIn, IsPlanWithin}
use Rattle.store_finding.specs.Recovery.{records_from}
use Rattle.store_finding.proofs.Mapped.{records_are_valid, records_count}

-- All bytes of a part count.
counts_all : (root : Root) (k : FileKind) (n : ℕ) → IsPartToPlan k n → named_end root (file_by root k n) ≡ (place_of root k n).length
counts_all root kind.Root n part = absurd part
counts_all root kind.Cache n part = absurd part
counts_all root kind.Map n part = subst (λ (m : ℕ). named_end root (file_by root kind.Map m) ≡ (place_of root kind.Map m).length) (sym part) (named_some root (map_name root.map.generation) (map_is_named root root.map.generation refl))
counts_all root kind.Epoch n below = elim (cases_lt 0 (get_or root.epochs n no_place).length) [
  | inl some ↦ named_some root (file_by root kind.Epoch n) (epoch_is_named root n (get_or root.epochs n no_place).generation below some refl)
  | inr none ↦ (let most = end_at_most root (file_by root kind.Epoch n) in omega (arith, most, none))
]

source_within : (root : Root) (file : FileName) (s : Source) (end_ : ℕ) → IsSourceFrom file s → end_ ≡ named_end root file → SourceEndsBy end_ s → SourceIsWithin root s
source_within root file (Bytes offset count) end_ own is up = tt
source_within root file (Range range) end_ own is up = subst (λ (f : FileName). range.offset + range.count ≤ named_end root f) (sym own) (omega (arith, is, up))

-- A plan of an epoch whose ranges end up to its length, and one of the map.
pub epoch_within : (root : Root) (plan : Plan) → IsPlanIn root plan → EndUpTo (named_length root plan.number) plan → IsPlanWithin root plan
epoch_within root plan in_ up = λ j s found.
    let low = in_.small in
    source_within root (epoch_file_of root plan.number) s (named_length root plan.number) (in_.of.from j s found) (sym (counts_all root kind.Epoch plan.number (omega (arith, low)))) (up j s found)

-- The plan of a map takes ranges of its records: so it is where these have no message.
map_up : (form : Form) (map : FileName) (count : ℕ) (gone : List ℕ) (plan : Plan) → PlansMap form map count gone plan → EndUpTo (record_size form * count) plan
map_up form map count gone plan of = λ j s found. by s (whole j s found) where
  lines : List Record
  lines = records_from form [] 1 count

  bytes : List ℕ
  bytes = flat_map record_bytes lines

  valid : AreRecordsFrom form 1 lines
  valid = records_are_valid form [] 1 count tt

  size : length bytes ≡ record_size form * count
  size = records_length form 1 lines valid ∙ ap (λ (n : ℕ). record_size form * n) (records_count form [] 1 count)

  begins : BeginsWithRecords form lines bytes
  begins = record { valid = valid; spelled = take_all (record_size form * length lines) bytes (let long = records_length form 1 lines valid in omega (arith, long)) }

  whole : IsPlanWhole (λ (name : FileName). bytes) plan
  whole = (of.written (λ (name : FileName). bytes) lines (records_count form [] 1 count) begins).0

  by : (s : Source) → IsWholeIn plan.bytes (λ (name : FileName). bytes) s → SourceEndsBy (record_size form * count) s
  by (Bytes offset long) is = tt
  by (Range range) is = (let is_ : range.offset + range.count ≤ length bytes = is in omega (arith, is_, size))

pub map_within : (form : Form) (root : Root) (map : FileName) (count : ℕ) (gone : List ℕ) (plan : Plan) → map ≡ map_file_of root → root.map.length ≡ record_size form * count → PlansMap form map count gone plan → IsPlanWithin root plan
map_within form root map count gone plan map_is long of = λ j s found.
    source_within root (map_file_of root) s root.map.length (subst (λ (f : FileName). IsSourceFrom f s) map_is (of.from j s found)) (sym (counts_all root kind.Map 0 refl))
    (subst (λ (n : ℕ). SourceEndsBy n s) (sym long) (map_up form map count gone plan of j s found))
