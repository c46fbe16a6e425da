-- Records that are added to a plan as pieces, one after the other.
use Rattle.std.specs.Prelude.{◌≡◌, ◌+◌, ◌*◌, ℕ, List, [], ◌++◌, length, None, Some, refl}
use Rattle.std.specs.List.{flat_map}
use Rattle.std.proofs.Common.{◌∙◌, sym, ap, subst}
use Rattle.std.proofs.lemmas.Grind.{flat_map-append}
use Rattle.arch_base.specs.declared.ids.Form.{Form}
use Rattle.disk_model.specs.declared.name.FileKind.{FileKind}
use Rattle.disk_model.specs.Sizes.{record_size}
use Rattle.root_change.specs.declared.plan.Target.{Target}
use Rattle.root_change.specs.Rewriting.{Plan, IsPlan, IsPlanWhole, PushesBytes, no_plan, plan_count, written_by}
use Rattle.root_change.specs.Texts.{Texts}
use Rattle.root_change.proofs.Plans.{written_with_bytes}
use Rattle.root_change.proofs.Pushes.{count_with_bytes, whole_with_bytes}
use Rattle.number_map.specs.declared.line.Record.{Record}
use Rattle.number_map.specs.Records.{record_bytes, AreRecordsFrom}
use Rattle.number_map.specs.Sizes.{records_length}

-- A plan is whole and writes these records, whatever the old files have.
pub record WritesRecords (lines : List Record) (plan : Plan) : Type 0 where
  pub whole : (texts : Texts) → IsPlanWhole texts plan
  pub written : (texts : Texts) → written_by texts plan ≡ flat_map record_bytes lines

-- A plan that writes nothing writes no records.
pub writes_none : (kind : FileKind) (number : ℕ) (target : Target) → WritesRecords [] (no_plan kind number target)
writes_none kind number target = record {
  whole = λ texts i source wrong. absurd (let none : None ≡ Some source = wrong in cc);
  written = λ texts. refl;
}

-- A plan that writes records writes a piece of more records after them.
pub writes_more : (before lines : List Record) (old new : Plan) → IsPlan old → PushesBytes old (flat_map record_bytes lines) new → WritesRecords before old → WritesRecords (before ++ lines) new
writes_more before lines old new valid pushed writes =
    let piece = flat_map record_bytes lines in
    subst (WritesRecords (before ++ lines)) (sym pushed) (record {
      whole = λ texts. whole_with_bytes texts old piece (writes.whole texts);
      written = λ texts. written_with_bytes texts old piece valid ∙ (ap (λ (l : List ℕ). l ++ piece) (writes.written texts) ∙ sym (flat_map-append record_bytes before lines));
    })

-- A piece of valid records of a form adds their size.
pub counts_more : (form : Form) (n : ℕ) (lines : List Record) (old new : Plan) → AreRecordsFrom form n lines → PushesBytes old (flat_map record_bytes lines) new → plan_count new ≡ plan_count old + record_size form * length lines
counts_more form n lines old new valid pushed =
    ap plan_count pushed ∙ (count_with_bytes old (flat_map record_bytes lines) ∙ ap (λ (k : ℕ). plan_count old + k) (records_length form n lines valid))
