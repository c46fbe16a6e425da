-- A plan with one more entry.
use Rattle.std.specs.Prelude.{◌≡◌, ◌+◌, ◌≤◌, ◌==◌, ℕ, Bool, true, false, if◌then◌else◌, List, [], ◌++◌, length}
use Rattle.std.proofs.Common.{◌∙◌, sym, ap, subst, arith, append_assoc}
use Rattle.std.proofs.lemmas.List.{append-nil}
use Rattle.arch_base.specs.declared.ids.Form.{Form}
use Rattle.disk_model.specs.declared.name.FileKind.TheVariants as kind
use Rattle.disk_model.specs.declared.name.FileName.{FileName}
use Rattle.root_slots.specs.declared.root.Root.{Root}
use Rattle.root_change.specs.declared.plan.Target.TheVariants.{Anew}
use Rattle.root_change.specs.declared.sources.Source.TheVariants.{Bytes, Range}
use Rattle.root_change.specs.Copying.{range_of}
use Rattle.root_change.specs.Rewriting.{IsPlan, IsPlanFrom, IsPlanWhole, Plan, plan_count, with_bytes, with_range, written_by}
use Rattle.root_change.specs.Texts.{Texts}
use Rattle.root_change.proofs.Plans.{written_long, written_with_bytes, written_with_range}
use Rattle.root_change.proofs.Pushes.{count_with_bytes, count_with_range, each_more, from_with_bytes, from_with_range, whole_with_bytes, whole_with_range}
use Rattle.mail_commits.specs.Entries.{magic}
use Rattle.epoch_file.specs.Appending.{front_at}
use Rattle.epoch_file.specs.Planning.{EndUpTo, SourceEndsBy}
use Rattle.epoch_file.specs.declared.entry.Seen.{Seen}
use Rattle.store_finding.specs.Damage.{named_length}
use Rattle.store_finding.specs.Files.{epoch_file_of}
use Rattle.convert_planning.specs.ConvertSteps.{Extends, IsEpochPlan, begun}

-- What holds of a plan, and of it with the magic, holds of the one that was begun.
begun_keeps : (P : Plan → Type 0) (form : Form) (plan : Plan) → P plan → P (with_bytes plan (magic form)) → P (begun form plan)
begun_keeps P form plan own more = by (plan_count plan == 0) where
  by : (t : Bool) → P (if t then with_bytes plan (magic form) else plan)
  by true = more
  by false = own

regroup : (a b c d : List ℕ) → ((a ++ b) ++ c) ++ d ≡ a ++ (b ++ (c ++ d))
regroup a b c d = append_assoc (a ++ b) c d ∙ append_assoc a b (c ++ d)

-- What a plan writes that was begun.
pub begun_written : (texts : Texts) (form : Form) (plan : Plan) (before : List ℕ) → IsPlan plan → IsPlanWhole texts plan → written_by texts plan ≡ before → IsPlanWhole texts (begun form plan) × (written_by texts (begun form plan) ≡ before ++ front_at form (length before))
begun_written texts form plan before valid whole is = (begun_keeps (IsPlanWhole texts) form plan whole (whole_with_bytes texts plan (magic form) whole), by (plan_count plan == 0) (length before == 0) (ap (λ (n : ℕ). n == 0) long)) where
  long : plan_count plan ≡ length before
  long = sym (written_long texts plan whole) ∙ ap length is

  by : (t u : Bool) → t ≡ u → written_by texts (if t then with_bytes plan (magic form) else plan) ≡ before ++ (if u then magic form else [])
  by true true same = written_with_bytes texts plan (magic form) valid ∙ ap (λ (b : List ℕ). b ++ magic form) is
  by false false same = is ∙ sym (append-nil before)
  by true false same = absurd (let wrong : true ≡ false = same in cc)
  by false true same = absurd (let wrong : false ≡ true = same in cc)

module _ (form : Form) (file : FileName) (seen : Seen) (objects : List ℕ) (old new : Plan) (at : ℕ) (ext : Extends form file seen objects old new at) where
  abbrev first : Plan
  first = begun form old

  abbrev second : Plan
  second = with_range first file seen.at ext.count

  pub count_after : plan_count new ≡ at + ext.count + length objects
  count_after = ap plan_count ext.is ∙ (let one = count_with_bytes second objects in let two = count_with_range first file seen.at ext.count in let start = ext.start in omega (arith, one, two, start))

  pub starts_after : plan_count old ≤ at
  starts_after =
      let start = ext.start in
      let more = begun_keeps (λ (p : Plan). plan_count old ≤ plan_count p) form old (omega arith) (let one = count_with_bytes old (magic form) in omega (arith, one)) in
      omega (arith, start, more)

  -- It is still a plan of its epoch.
  module _ (root : Root) (x : ℕ) (of : IsEpochPlan root x old) (file_is : file ≡ epoch_file_of root x) (inside : seen.text_at + seen.size ≤ named_length root x) where
    own_from : IsPlanFrom file old
    own_from = subst (λ (f : FileName). IsPlanFrom f old) (sym file_is) of.from

    first_from : IsPlanFrom file first
    first_from = begun_keeps (IsPlanFrom file) form old own_from (from_with_bytes file old (magic form) own_from)

    abbrev most : ℕ
    most = named_length root x

    first_ends : EndUpTo most first
    first_ends = begun_keeps (EndUpTo most) form old of.ends (each_more (SourceEndsBy most) old.sources (Bytes (length old.bytes) (length (magic form))) of.ends tt)

    second_ends : EndUpTo most second
    second_ends = each_more (SourceEndsBy most) first.sources (Range (record { file = file; offset = seen.at; count = ext.count })) first_ends (let sum = ext.sum in omega (arith, sum, inside))

    pub extended : IsEpochPlan root x new
    extended = subst (IsEpochPlan root x) (sym ext.is) (record {
      kind_is = begun_keeps (λ (p : Plan). p.kind ≡ kind.Epoch) form old of.kind_is of.kind_is;
      number = begun_keeps (λ (p : Plan). p.number ≡ x) form old of.number of.number;
      target = begun_keeps (λ (p : Plan). p.target ≡ Anew) form old of.target of.target;
      valid = subst IsPlan ext.is ext.valid;
      from = subst (λ (f : FileName). IsPlanFrom f (with_bytes second objects)) file_is (from_with_bytes file second objects (from_with_range file first seen.at ext.count first_from));
      ends = each_more (SourceEndsBy most) second.sources (Bytes (length second.bytes) (length objects)) second_ends tt;
    })

  -- What it writes, where the file has the range.
  module _ (texts : Texts) (before : List ℕ) (valid : IsPlan old) (whole : IsPlanWhole texts old) (is : written_by texts old ≡ before) (long : seen.at + ext.count ≤ length (texts file)) where
    begins : IsPlanWhole texts first × (written_by texts first ≡ before ++ front_at form (length before))
    begins = begun_written texts form old before valid whole is

    abbrev copied : List ℕ
    copied = range_of (texts file) seen.at ext.count

    writes : written_by texts (with_bytes second objects) ≡ ((before ++ front_at form (length before)) ++ copied) ++ objects
    writes =
        written_with_bytes texts second objects ext.second
        ∙ (ap (λ (b : List ℕ). b ++ objects) (written_with_range texts first file seen.at ext.count) ∙ ap (λ (b : List ℕ). (b ++ copied) ++ objects) begins.1)

    pub written_after : IsPlanWhole texts new × (written_by texts new ≡ before ++ (front_at form (length before) ++ (copied ++ objects)))
    written_after = (
      subst (IsPlanWhole texts) (sym ext.is) (whole_with_bytes texts second objects (whole_with_range texts first file seen.at ext.count begins.0 long)),
      ap (written_by texts) ext.is ∙ (writes ∙ regroup before (front_at form (length before)) copied objects),
    )

    -- The offset of the entry.
    pub at_is : at ≡ length (before ++ front_at form (length before))
    at_is = ext.start ∙ (sym (written_long texts first begins.0) ∙ ap length begins.1)
