-- Plans with one more source.
use Rattle.std.specs.Prelude.{◌≡◌, ◌≢◌, ℕ, zero, suc, ◌+◌, ◌<◌, ◌≤◌, ◌^◌, List, [], ◌∷◌, ◌++◌, length, slice_get, Some, None, refl}
use Rattle.std.specs.List.{sum_by}
use Rattle.std.proofs.Common.{◌∙◌, sym, ap, subst, arith, length-append}
use Rattle.std.proofs.lemmas.List.Sums.{sum_by-append, sum_by-cons}
use Rattle.std.proofs.lemmas.Option.{same_Some}
use Rattle.disk_model.specs.declared.name.FileName.{FileName}
use Rattle.disk_model.specs.Disk.{Content, bytes_of}
use Rattle.root_change.specs.declared.sources.Source.{Source}
use Rattle.root_change.specs.declared.sources.Source.TheVariants.{Bytes, Range}
use Rattle.root_change.specs.Gathering.{source_count, source_bytes, gathered, IsSourceFor, AreSources, HasSource, HasSources, PutSources}
use Rattle.root_change.specs.Rewriting.{Plan, IsPlan, IsPlanFrom, IsPlanWhole, IsWholeIn, MayBeSource, IsSourceFrom, source_text, gathered_text, plan_count, with_bytes, with_range, written_by}
use Rattle.root_change.specs.Texts.{Texts}

-- What holds of each element, and of one more.
pub each_more : {A : Type 0} (P : A → Type 0) (items : List A) (last : A) → ((i : ℕ) (s : A) → slice_get items i ≡ Some s → P s) → P last → (i : ℕ) (s : A) → slice_get (items ++ last ∷ []) i ≡ Some s → P s
each_more P [] last each one zero s is = subst P (same_Some last s is) one
each_more P [] last each one (suc i) s is = absurd (let wrong : None ≡ Some s = is in cc)
each_more P (x ∷ xs) last each one zero s is = each zero s is
each_more P (x ∷ xs) last each one (suc i) s is = each_more P xs last (λ j t here. each (suc j) t here) one i s is

-- The number of bytes of one more source.
count_more : (sources : List Source) (last : Source) → sum_by source_count (sources ++ last ∷ []) ≡ sum_by source_count sources + source_count last
count_more sources last = sum_by-append source_count sources (last ∷ []) ∙ (let one = sum_by-cons source_count last [] in omega (arith, one))

pub count_with_bytes : (plan : Plan) (bytes : List ℕ) → plan_count (with_bytes plan bytes) ≡ plan_count plan + length bytes
count_with_bytes plan bytes = count_more plan.sources (Bytes (length plan.bytes) (length bytes))

pub count_with_range : (plan : Plan) (file : FileName) (offset count : ℕ) → plan_count (with_range plan file offset count) ≡ plan_count plan + count
count_with_range plan file offset count = count_more plan.sources (Range (record { file = file; offset = offset; count = count }))

-- A source lies within bytes that go on, too.
may_longer : (bytes more : List ℕ) (source : Source) → MayBeSource bytes source → MayBeSource (bytes ++ more) source
may_longer bytes more (Bytes offset count) may = omega (arith, may, length-append bytes more)
may_longer bytes more (Range range) may = may

whole_longer : (bytes more : List ℕ) (texts : Texts) (source : Source) → IsWholeIn bytes texts source → IsWholeIn (bytes ++ more) texts source
whole_longer bytes more texts (Bytes offset count) whole = omega (arith, whole, length-append bytes more)
whole_longer bytes more texts (Range range) whole = whole

-- A plan with more bytes is one, if they aren't too many.
pub bytes_is_plan : (plan : Plan) (bytes : List ℕ) → IsPlan plan → plan_count plan + length bytes < 2 ^ 62 → IsPlan (with_bytes plan bytes)
bytes_is_plan plan bytes valid few = record {
  sources = each_more (MayBeSource (plan.bytes ++ bytes)) plan.sources (Bytes (length plan.bytes) (length bytes)) (λ i s is. may_longer plan.bytes bytes s (valid.sources i s is)) (omega (arith, length-append plan.bytes bytes));
  short = omega (arith, few, count_with_bytes plan bytes);
}

-- So is one with a range more.
pub range_is_plan : (plan : Plan) (file : FileName) (offset count : ℕ) → IsPlan plan → offset + count < 2 ^ 62 → plan_count plan + count < 2 ^ 62 → IsPlan (with_range plan file offset count)
range_is_plan plan file offset count valid ends few = record {
  sources = each_more (MayBeSource plan.bytes) plan.sources (Range (record { file = file; offset = offset; count = count })) valid.sources ends;
  short = omega (arith, few, count_with_range plan file offset count);
}

-- Bytes are whole in a plan.
pub whole_with_bytes : (texts : Texts) (plan : Plan) (bytes : List ℕ) → IsPlanWhole texts plan → IsPlanWhole texts (with_bytes plan bytes)
whole_with_bytes texts plan bytes whole =
    each_more (IsWholeIn (plan.bytes ++ bytes) texts) plan.sources (Bytes (length plan.bytes) (length bytes)) (λ i s is. whole_longer plan.bytes bytes texts s (whole i s is)) (omega (arith, length-append plan.bytes bytes))

-- A range is, where its file is long enough.
pub whole_with_range : (texts : Texts) (plan : Plan) (file : FileName) (offset count : ℕ) → IsPlanWhole texts plan → offset + count ≤ length (texts file) → IsPlanWhole texts (with_range plan file offset count)
whole_with_range texts plan file offset count whole long = each_more (IsWholeIn plan.bytes texts) plan.sources (Range (record { file = file; offset = offset; count = count })) whole long

-- A plan of ranges of one file, with more bytes, or a range more.
pub from_with_bytes : (from : FileName) (plan : Plan) (bytes : List ℕ) → IsPlanFrom from plan → IsPlanFrom from (with_bytes plan bytes)
from_with_bytes from plan bytes own = each_more (IsSourceFrom from) plan.sources (Bytes (length plan.bytes) (length bytes)) own tt

pub from_with_range : (from : FileName) (plan : Plan) (offset count : ℕ) → IsPlanFrom from plan → IsPlanFrom from (with_range plan from offset count)
from_with_range from plan offset count own = each_more (IsSourceFrom from) plan.sources (Range (record { file = from; offset = offset; count = count })) own refl

-- The sources of such a plan may go to another file.
source_to : (from to : FileName) (bytes : List ℕ) (source : Source) → from ≢ to → IsSourceFrom from source → MayBeSource bytes source → IsSourceFor to source
source_to from to bytes (Bytes offset count) apart own may = tt
source_to from to bytes (Range range) apart own may = (λ is. apart (sym own ∙ is), omega (arith, may))

pub sources_to : (from to : FileName) (plan : Plan) → from ≢ to → IsPlanFrom from plan → IsPlan plan → AreSources to plan.sources
sources_to from to plan apart own valid = λ i s is. source_to from to plan.bytes s apart (own i s is) (valid.sources i s is)

-- Sources that are whole where files read as these texts are whole on the disk.
source_there : (bytes : List ℕ) (k : Content) (source : Source) → IsWholeIn bytes (λ (name : FileName). bytes_of (k name).seen) source → HasSource bytes (Some k) source
source_there bytes k (Bytes offset count) whole = whole
source_there bytes k (Range range) whole = whole

pub sources_there : (plan : Plan) (k : Content) → IsPlanWhole (λ (name : FileName). bytes_of (k name).seen) plan → HasSources plan.bytes (Some k) plan.sources
sources_there plan k whole = λ i s is. source_there plan.bytes k s (whole i s is)

-- What is gathered from files is what they read.
source_read : (bytes : List ℕ) (k : Content) (source : Source) → source_bytes bytes k source ≡ source_text bytes (λ (name : FileName). bytes_of (k name).seen) source
source_read bytes k (Bytes offset count) = refl
source_read bytes k (Range range) = refl

gathered_read : (bytes : List ℕ) (k : Content) (sources : List Source) → gathered bytes k sources ≡ gathered_text bytes (λ (name : FileName). bytes_of (k name).seen) sources
gathered_read bytes k [] = refl
gathered_read bytes k (s ∷ ss) = λ i. source_read bytes k s i ++ gathered_read bytes k ss i

-- A plan that was carried out in a file that had no bytes.
pub plan_put : (plan : Plan) (to : FileName) (k m : Content) → PutSources plan.bytes plan.sources to 0 k m → bytes_of (k to).seen ≡ [] → bytes_of (m to).seen ≡ written_by (λ (name : FileName). bytes_of (k name).seen) plan
plan_put plan to k m put none =
    put.added.there (ap (λ (l : List ℕ). length l) none)
    ∙ (ap (λ (l : List ℕ). l ++ gathered plan.bytes k plan.sources) none ∙ gathered_read plan.bytes k plan.sources)
