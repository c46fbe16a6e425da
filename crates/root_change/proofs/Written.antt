-- A plan that is written to a file, and several to the files of their parts.
use Rattle.std.specs.Prelude.{◌≡◌, ◌≢◌, ℕ, ◌+◌, ◌≤◌, List, [], ◌∷◌, ◌++◌, length, take, drop, slice_get, Option, Some, None, Result, Ok, Err, refl}
use Rattle.std.specs.List.{sum_by}
use Rattle.std.specs.Result.{IsErrAnd}
use Rattle.std.proofs.Common.{◌∙◌, sym, ap, subst, inl, inr, arith}
use Rattle.std.proofs.lemmas.List.{append-nil}
use Rattle.std.proofs.lemmas.List.Sums.{sum_by-cons}
use Rattle.disk_model.specs.declared.name.FileKind.{FileKind}
use Rattle.disk_model.specs.declared.name.FileKind.TheVariants as kind
use Rattle.disk_model.specs.declared.name.FileName.{FileName}
use Rattle.disk_model.specs.Disk.{File, Content, BothTold, WhereTold, IsAtMostLength, bytes_of}
use Rattle.disk_model.specs.Images.{same_or_other}
use Rattle.disk_model.specs.Name.{kind_index}
use Rattle.disk_model.specs.Tells.{told_weaker, told_then, told_where}
use Rattle.root_slots.specs.declared.root.Place.{Place}
use Rattle.root_slots.specs.declared.root.Root.{Root}
use Rattle.root_slots.specs.RootName.{root_name}
use Rattle.root_change.specs.declared.rewriting.RewriteRefusal.{RewriteRefusal}
use Rattle.root_change.specs.declared.rewriting.RewriteRefusal.TheVariants.{DiskFault, Short}
use Rattle.root_change.specs.declared.sources.Source.{Source}
use Rattle.root_change.specs.declared.sources.Source.TheVariants.{Bytes, Range}
use Rattle.root_change.specs.Gathering.{source_count, source_bytes, gathered, HasSource, PutSources}
use Rattle.root_change.specs.Names.{named_end, place_of}
use Rattle.root_change.specs.Rewriting.{Plan, IfShort, IsPartOfPlan, IsPartToPlan, IsPlanFrom, IsShort, IsSourceFrom, SourceIsWithin, MayBeSource, MayCarry, MayCarryAll, file_by, plan_count}
use Rattle.root_change.specs.Texts.{HasPartSizes}
use Rattle.root_change.specs.Writing.{HasPlan, WritesSources, WritesAlone, WritesPlans}
use Rattle.root_change.proofs.Drops.{not_both}
use Rattle.root_change.proofs.Gathers.{one_more}
use Rattle.root_change.proofs.Grown.{epoch_isnt_root}
use Rattle.root_change.proofs.PlanParts.{is_of, is_of_own, last_there, none_before, none_found, still_there}
use Rattle.root_change.proofs.Plans.{gathered_own}
use Rattle.root_change.proofs.Pushes.{each_more}

-- The file of a part whose kind and number were asked.
pub file_of_part : (root : Root) (k j : FileKind) (n m : ℕ) (file : FileName) → file ≡ file_by root j m → j ≡ k → m ≡ n → file ≡ file_by root k n
file_of_part root k j n m file is kind_is number_is = is ∙ (ap (λ (i : FileKind). file_by root i m) kind_is ∙ ap (λ (i : ℕ). file_by root k i) number_is)

-- The file of a plan's part, and its bytes that count, where kind and number were asked.
pub part_asked : (root : Root) (plan : Plan) (k : FileKind) (n : ℕ) (file : FileName) (place : Place) → k ≡ plan.kind → n ≡ plan.number → file ≡ file_by root k n → place ≡ place_of root k n → IsPartOfPlan root plan file place.length
part_asked root plan k n file place kind_is number_is file_is place_is = record {
  file_is = file_of_part root plan.kind k plan.number n file file_is kind_is number_is;
  at_is = ap (λ (p : Place). p.length) (place_is ∙ (ap (λ (j : FileKind). place_of root j n) kind_is ∙ ap (λ (m : ℕ). place_of root plan.kind m) number_is));
}

-- Sources without a byte give none.
none_taken : (n : ℕ) (bytes : List ℕ) → n ≡ 0 → take n bytes ≡ []
none_taken n bytes none = ap (λ (m : ℕ). take m bytes) none

source_none : (bytes : List ℕ) (k : Content) (source : Source) → source_count source ≡ 0 → source_bytes bytes k source ≡ []
source_none bytes k (Bytes offset count) none = none_taken count (drop offset bytes) none
source_none bytes k (Range range) none = none_taken range.count (drop range.offset (bytes_of (k range.file).seen)) none

gathered_none : (bytes : List ℕ) (k : Content) (sources : List Source) → sum_by source_count sources ≡ 0 → gathered bytes k sources ≡ []
gathered_none bytes k [] none = refl
gathered_none bytes k (s ∷ ss) none =
    let sum = sum_by-cons source_count s ss in
    ap (λ (l : List ℕ). l ++ gathered bytes k ss) (source_none bytes k s (omega (arith, none, sum))) ∙ gathered_none bytes k ss (omega (arith, none, sum))

-- The end of a file's bytes is within the file, if it isn't a cache.
pub part_inside : (root : Root) (name : FileName) (k : Option Content) → name ≢ root_name → name.kind ≢ kind.Cache → WhereTold (HasPartSizes root) k → WhereTold (IsAtMostLength name (named_end root name)) k
part_inside root name None other no_cache sizes = tt
part_inside root name (Some k) other no_cache sizes = sizes.lengths name other no_cache

module _ (root : Root) (plan : Plan) (to : FileName) (other : to ≢ root_name) (no_cache : to.kind ≢ kind.Cache) where
  -- A plan without a byte.
  none_written_now : (k : Content) → plan_count plan ≡ 0 → HasPartSizes root k → WritesAlone root plan to k k
  none_written_now k none sizes = record {
    writes = record {
      there = λ ends. sym (append-nil (bytes_of (k to).seen)) ∙ ap (λ (l : List ℕ). bytes_of (k to).seen ++ l) (sym nothing);
      reaches = (let inside = sizes.lengths to other no_cache in omega (arith, none, inside));
      alone = λ empty. refl;
      full = ap length nothing ∙ sym none;
    };
    others = λ name apart. refl;
  } where
    nothing : gathered plan.bytes k plan.sources ≡ []
    nothing = gathered_none plan.bytes k plan.sources none

  pub none_written : (k : Option Content) → plan_count plan ≡ 0 → WhereTold (HasPartSizes root) k → BothTold (WritesAlone root plan to) k k
  none_written None none sizes = tt
  none_written (Some k) none sizes = none_written_now k none sizes

  -- A plan whose sources were put there.
  put_written_now : (k m : Content) → PutSources plan.bytes plan.sources to (named_end root to) k m → WritesAlone root plan to k m
  put_written_now k m put = record {
    writes = record {
      there = put.added.there;
      reaches = (let reached = put.added.reaches in let full = put.full in omega (arith, reached, full));
      alone = put.added.alone;
      full = put.full;
    };
    others = put.added.others;
  }

  pub put_written : (end_ : ℕ) (k m : Option Content) → end_ ≡ named_end root to → BothTold (PutSources plan.bytes plan.sources to end_) k m → BothTold (WritesAlone root plan to) k m
  put_written end_ k m is put =
      told_weaker (PutSources plan.bytes plan.sources to (named_end root to)) (WritesAlone root plan to) k m (λ a b was now one. put_written_now a b one)
      (subst (λ (n : ℕ). BothTold (PutSources plan.bytes plan.sources to n) k m) is put)

  -- The files are as long as the root says still.
  still_long : (k m : Content) → WritesAlone root plan to k m → HasPartSizes root k → HasPartSizes root m
  still_long k m one sizes = record {
    root_file = ap (λ (f : File). length (bytes_of f)) (one.others root_name (λ same. other (sym same))) ∙ sizes.root_file;
    lengths = λ name apart isnt. elim (same_or_other to name) [
      | inl same ↦ subst (λ (n : FileName). named_end root n ≤ length (bytes_of (m n).seen)) (sym same) (let reached = one.writes.reaches in omega (arith, reached))
      | inr else_ ↦ subst (λ (f : File). named_end root name ≤ length (bytes_of f)) (sym (one.others name else_)) (sizes.lengths name apart isnt)
    ];
  }

  pub sizes_still : (k m : Option Content) → BothTold (WritesAlone root plan to) k m → WhereTold (HasPartSizes root) k → WhereTold (HasPartSizes root) m
  sizes_still k m one sizes = told_where (WritesAlone root plan to) (HasPartSizes root) (HasPartSizes root) k m (λ a b was now. still_long a b) one sizes

-- The file of a part that may be planned is neither the root file nor a cache.
pub part_isnt_root : (root : Root) (k : FileKind) (n : ℕ) → IsPartToPlan k n → file_by root k n ≢ root_name
part_isnt_root root kind.Root n part = absurd part
part_isnt_root root kind.Map n part = λ is. let wrong : kind_index kind.Map ≡ kind_index root_name.kind = ap (λ (f : FileName). kind_index f.kind) is in absurd (omega (arith, wrong))
part_isnt_root root kind.Epoch n part = epoch_isnt_root n (place_of root kind.Epoch n).generation
part_isnt_root root kind.Cache n part = absurd part

pub part_no_cache : (k : FileKind) (n : ℕ) → IsPartToPlan k n → k ≢ kind.Cache
part_no_cache k n part is = subst (λ (j : FileKind). IsPartToPlan j n) is part

-- A file that reads as before has what a plan wrote there.
writes_still : (root : Root) (plan : Plan) (to : FileName) (k m o : Content) → WritesSources root plan to k m → (o to).seen ≡ (m to).seen → WritesSources root plan to k o
writes_still root plan to k m o one same = record {
  there = λ ends. ap bytes_of same ∙ one.there ends;
  reaches = subst (λ (f : File). named_end root to + plan_count plan ≤ length (bytes_of f)) (sym same) one.reaches;
  alone = λ empty. same ∙ one.alone empty;
  full = one.full;
}

-- A plan wrote what its sources had before, if they and the file are as they were.
writes_from : (root : Root) (plan : Plan) (to : FileName) (k m o : Content) → WritesSources root plan to m o → (m to).seen ≡ (k to).seen → gathered plan.bytes m plan.sources ≡ gathered plan.bytes k plan.sources → WritesSources root plan to k o
writes_from root plan to k m o one same had = record {
  there = λ ends. one.there (ap (λ (f : File). length (bytes_of f)) same ∙ ends) ∙ (ap (λ (f : File). bytes_of f ++ gathered plan.bytes m plan.sources) same ∙ ap (λ (l : List ℕ). bytes_of (k to).seen ++ l) had);
  reaches = one.reaches;
  alone = λ empty. one.alone (had ∙ empty) ∙ same;
  full = ap length (sym had) ∙ one.full;
}

-- Sources of one file give the same while that reads as before.
same_gathered : (file : FileName) (plan : Plan) (k m : Content) → (m file).seen ≡ (k file).seen → IsPlanFrom file plan → gathered plan.bytes m plan.sources ≡ gathered plan.bytes k plan.sources
same_gathered file plan k m same from =
    gathered_own file plan.bytes m (λ (name : FileName). bytes_of (k name).seen) plan.sources (ap bytes_of same) from
    ∙ sym (gathered_own file plan.bytes k (λ (name : FileName). bytes_of (k name).seen) plan.sources refl from)

-- Each source of a plan is whole where files are as long as the root says.
source_there : (root : Root) (k : FileKind) (n : ℕ) (bytes : List ℕ) (m : Content) (source : Source) → IsPartToPlan k n → HasPartSizes root m → MayBeSource bytes source → IsSourceFrom (file_by root k n) source → SourceIsWithin root source → HasSource bytes (Some m) source
source_there root k n bytes m (Bytes offset count) part sizes may from within = may
source_there root k n bytes m (Range range) part sizes may from within =
    let long = subst (λ (f : FileName). named_end root f ≤ length (bytes_of (m f).seen)) (sym from) (sizes.lengths (file_by root k n) (part_isnt_root root k n part) (part_no_cache k n part)) in
    omega (arith, long, within)

sources_there : (root : Root) (plan : Plan) (m : Content) → MayCarry root plan → HasPartSizes root m → HasPlan (Some m) plan
sources_there root plan m may sizes = λ i s is. source_there root plan.kind plan.number plan.bytes m s may.part sizes (may.valid.sources i s is) (may.comes i s is) (may.within i s is)

module _ (old new : Root) (plans : List Plan) (may : MayCarryAll old plans) where
  -- Before the first plan.
  pub first_written : (k : Option Content) → BothTold (WritesPlans old new (take 0 plans)) k k
  first_written None = tt
  first_written (Some k) = record {
    each = λ i plan here. absurd (let wrong : None ≡ Some plan = here in cc);
    others = λ name apart. refl;
  }

  module _ (i : ℕ) (plan : Plan) (here : slice_get plans i ≡ Some plan) where
    abbrev to : FileName
    to = file_by new plan.kind plan.number

    -- No plan before has its part, nor then a file with these parts in its name.
    apart_before : (j : ℕ) (p : Plan) → slice_get (take i plans) j ≡ Some p → (name : FileName) → name.kind ≡ plan.kind → name.number ≡ plan.number → name ≢ file_by new p.kind p.number
    apart_before j p there name kind_is number_is same =
        not_both (is_of p plan.kind plan.number) (is_of_own p plan.kind plan.number (sym (ap (λ (f : FileName). f.kind) same) ∙ kind_is) (sym (ap (λ (f : FileName). f.number) same) ∙ number_is))
        (none_found (take i plans) plan.kind plan.number j p (none_before plans i plan may.apart here) there)

    -- One more plan.
    next_written_now : (k m o : Content) → WritesPlans old new (take i plans) k m → WritesAlone old plan to m o → WritesPlans old new (take (i + 1) plans) k o
    next_written_now k m o before one = subst (λ (ps : List Plan). WritesPlans old new ps k o) (sym (one_more plans i plan here)) (record {
      each = each_more (λ (p : Plan). WritesSources old p (file_by new p.kind p.number) k o) (take i plans) plan
          (λ j p there. writes_still old p (file_by new p.kind p.number) k m o (before.each j p there) (one.others (file_by new p.kind p.number) (λ same. apart_before j p there to refl refl (sym same))))
          (writes_from old plan to k m o one.writes (before.others to (λ j p there. apart_before j p there to refl refl))
          (same_gathered source plan k m (before.others source (λ j p there. apart_before j p there source refl refl)) (may.each i plan here).comes));
      others = λ name apart.
          one.others name (apart (length (take i plans)) plan (last_there (take i plans) plan))
          ∙ before.others name (λ j p there. apart j p (still_there (take i plans) plan j p there));
    }) where
      source : FileName
      source = file_by old plan.kind plan.number

    pub next_written : (k m o : Option Content) → BothTold (WritesPlans old new (take i plans)) k m → BothTold (WritesAlone old plan to) m o → BothTold (WritesPlans old new (take (i + 1) plans)) k o
    next_written k m o before one =
        told_then (WritesPlans old new (take i plans)) (WritesAlone old plan to) (WritesPlans old new (take (i + 1) plans)) k m o (λ a b d is told first second. next_written_now a b d first second) before one

    -- No source of the next plan is short.
    pub never_short : (k m : Option Content) (IsSo : Type 0) → BothTold (WritesPlans old new (take i plans)) k m → WhereTold (HasPartSizes old) m → (HasPlan m plan → IsSo → ⊥) → WhereTold (λ (c : Content). IsSo → ⊥) k
    never_short None m IsSo before sizes whole = tt
    never_short (Some k) None IsSo before sizes whole = absurd before
    never_short (Some k) (Some m) IsSo before sizes whole = whole (sources_there old plan m (may.each i plan here) sizes)

-- A refusal that is handed on is the same.
pub same_refusal : {T : Type 0} (result : Result T RewriteRefusal) (refusal : RewriteRefusal) → IsErrAnd result (λ r. r ≡ refusal) → IsShort result → IsShort {T = Unit {0}} (Err refusal)
same_refusal (Ok v) refusal is short = absurd short
same_refusal (Err r) refusal is short = subst (λ (x : RewriteRefusal). IsShort {T = Unit {0}} (Err x)) is short

-- And what is told of a short file still holds.
pub short_handed : {T : Type 0} (P Q : FileName → ℕ → Type 0) (result : Result T RewriteRefusal) (refusal : RewriteRefusal) → ((file : FileName) (at : ℕ) → P file at → Q file at) → IsErrAnd result (λ r. r ≡ refusal) → IfShort {T = Unit {0}} (Err refusal) P → IfShort result Q
short_handed P Q (Ok v) refusal weaken is short = absurd is
short_handed {T} P Q (Err r) refusal weaken is short = subst (λ (x : RewriteRefusal). IfShort {T = T} (Err x) Q) (sym is) (by refusal short) where
  by : (x : RewriteRefusal) → IfShort {T = Unit {0}} (Err x) P → IfShort {T = T} (Err x) Q
  by DiskFault told = tt
  by (Short file at) told = weaken file at told
