-- The bytes of a part that gets more after what is planned of it.
use Rattle.std.specs.Prelude.{◌≡◌, ◌++◌, ℕ, List, Option, Some, None, unwrap_or, refl}
use Rattle.std.proofs.Common.{◌∙◌, sym, ap, arith, append_assoc}
use Rattle.disk_model.specs.declared.name.FileKind.{FileKind}
use Rattle.disk_model.specs.declared.name.FileKind.TheVariants as kind
use Rattle.root_change.specs.declared.plan.Target.{Target}
use Rattle.root_change.specs.declared.plan.Target.TheVariants.{Anew, Behind}
use Rattle.root_change.specs.Rewriting.{Plan, IsPlan, IsPlanWhole, bytes_by, no_plan, plan_of, planned, with_bytes, written_by}
use Rattle.root_change.specs.Texts.{Texts}
use Rattle.root_change.proofs.PlanParts.{found}
use Rattle.root_change.proofs.Plans.{written_with_bytes}
use Rattle.store_planning.specs.Planning.{AreValid}

-- More bytes than a plan writes follow those of the part.
by_more : (t : Target) (before written more : List ℕ) → bytes_by t before (written ++ more) ≡ bytes_by t before written ++ more
by_more Anew before written more = refl
by_more Behind before written more = sym (append_assoc before written more)

pub none_whole : (t : Texts) (e : ℕ) → IsPlanWhole t (no_plan kind.Epoch e Behind)
none_whole t e = λ i s here. absurd (let wrong : None ≡ Some s = here in cc)

none_valid : (e : ℕ) → IsPlan (no_plan kind.Epoch e Behind)
none_valid e = record { sources = λ i s here. absurd (let wrong : None ≡ Some s = here in cc); short = omega arith }

-- The part of a plan with more bytes.
module _ (texts : Texts) (plans : List Plan) (valid : AreValid plans) where
  pub plan_more : (k : FileKind) (n : ℕ) (p : Plan) (before more : List ℕ) → plan_of plans k n ≡ Some p → planned texts (Some (with_bytes p more)) before ≡ planned texts (Some p) before ++ more
  plan_more k n p before more is =
      let there = found plans k n p is in
      ap (bytes_by p.target before) (written_with_bytes texts p more (valid there.index p there.here)) ∙ by_more p.target before (written_by texts p) more

  pub option_more : (n : ℕ) (o : Option Plan) (before more : List ℕ) → plan_of plans kind.Epoch n ≡ o → planned texts (Some (with_bytes (unwrap_or o (no_plan kind.Epoch n Behind)) more)) before ≡ planned texts o before ++ more
  option_more n None before more is = ap (λ (w : List ℕ). before ++ w) (written_with_bytes texts (no_plan kind.Epoch n Behind) more (none_valid n))
  option_more n (Some p) before more is = plan_more kind.Epoch n p before more is
