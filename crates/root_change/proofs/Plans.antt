-- The bytes that plans write, where files have texts.
use Rattle.std.specs.Prelude.{◌≡◌, ℕ, zero, suc, ◌+◌, ◌≤◌, List, [], ◌∷◌, ◌++◌, length, take, drop, slice_get, Some, refl}
use Rattle.std.specs.List.{sum_by}
use Rattle.std.proofs.Common.{◌∙◌, sym, ap, subst, arith, append-nil, length-append, length-drop}
use Rattle.std.proofs.Math.Seq.{drop-append_seam, take-length}
use Rattle.std.proofs.lemmas.Grind.{flat_map-append}
use Rattle.std.proofs.lemmas.List.{take-append-le, drop-append-le, length-take-le}
use Rattle.std.proofs.lemmas.List.Sums.{sum_by-cons}
use Rattle.disk_model.specs.declared.name.FileName.{FileName}
use Rattle.disk_model.specs.Disk.{Content, bytes_of}
use Rattle.root_change.specs.declared.sources.Source.{Source}
use Rattle.root_change.specs.declared.sources.Source.TheVariants.{Bytes, Range}
use Rattle.root_change.specs.Copying.{range_of}
use Rattle.root_change.specs.Gathering.{source_count, source_bytes, gathered}
use Rattle.root_change.specs.Rewriting.{Plan, IsPlan, IsSourceFrom, MayBeSource, IsWholeIn, IsPlanWhole, source_text, gathered_text, written_by, plan_count, with_bytes, with_range}
use Rattle.root_change.specs.Texts.{Texts}

-- A range within bytes is the same where more follow.
pub range_front : (bytes more : List ℕ) (offset count : ℕ) → offset + count ≤ length bytes → range_of (bytes ++ more) offset count ≡ range_of bytes offset count
range_front bytes more offset count within =
    ap (take count) (drop-append-le offset bytes more (omega (arith, within)))
    ∙ take-append-le count (drop offset bytes) more (let left = length-drop offset bytes in omega (arith, within, left))

-- A whole range is as long as it says.
pub range_length : (bytes : List ℕ) (offset count : ℕ) → offset + count ≤ length bytes → length (range_of bytes offset count) ≡ count
range_length bytes offset count within = length-take-le count (drop offset bytes) (let left = length-drop offset bytes in omega (arith, within, left))

-- A source is the same where more bytes follow those that it is a range of.
source_front : (bytes more : List ℕ) (texts : Texts) (source : Source) → MayBeSource bytes source → source_text (bytes ++ more) texts source ≡ source_text bytes texts source
source_front bytes more texts (Bytes offset count) may = range_front bytes more offset count may
source_front bytes more texts (Range range) may = refl

both : (a b c d : List ℕ) → a ≡ b → c ≡ d → a ++ c ≡ b ++ d
both a b c d one two = ap (λ (l : List ℕ). l ++ c) one ∙ ap (λ (l : List ℕ). b ++ l) two

gathered_front : (bytes more : List ℕ) (texts : Texts) (sources : List Source) → ((i : ℕ) (source : Source) → slice_get sources i ≡ Some source → MayBeSource bytes source) → gathered_text (bytes ++ more) texts sources ≡ gathered_text bytes texts sources
gathered_front bytes more texts [] may = refl
gathered_front bytes more texts (s ∷ ss) may =
    both (source_text (bytes ++ more) texts s) (source_text bytes texts s) (gathered_text (bytes ++ more) texts ss) (gathered_text bytes texts ss)
    (source_front bytes more texts s (may zero s refl)) (gathered_front bytes more texts ss (λ i source is. may (suc i) source is))

-- Bytes that are added to a plan are written after its own.
pub written_with_bytes : (texts : Texts) (plan : Plan) (bytes : List ℕ) → IsPlan plan → written_by texts (with_bytes plan bytes) ≡ written_by texts plan ++ bytes
written_with_bytes texts plan bytes valid =
    let own = plan.bytes in
    let last : source_text (own ++ bytes) texts (Bytes (length own) (length bytes)) ≡ bytes = ap (take (length bytes)) (drop-append_seam own bytes) ∙ take-length bytes in
    flat_map-append (source_text (own ++ bytes) texts) plan.sources (Bytes (length own) (length bytes) ∷ [])
    ∙ both (gathered_text (own ++ bytes) texts plan.sources) (written_by texts plan) (source_text (own ++ bytes) texts (Bytes (length own) (length bytes)) ++ []) bytes
    (gathered_front own bytes texts plan.sources valid.sources) (append-nil (source_text (own ++ bytes) texts (Bytes (length own) (length bytes))) ∙ last)

-- So is a range.
pub written_with_range : (texts : Texts) (plan : Plan) (file : FileName) (offset count : ℕ) → written_by texts (with_range plan file offset count) ≡ written_by texts plan ++ range_of (texts file) offset count
written_with_range texts plan file offset count =
    flat_map-append (source_text plan.bytes texts) plan.sources (Range (record { file = file; offset = offset; count = count }) ∷ [])
    ∙ ap (λ (l : List ℕ). written_by texts plan ++ l) (append-nil (range_of (texts file) offset count))

source_long : (bytes : List ℕ) (texts : Texts) (source : Source) → IsWholeIn bytes texts source → length (source_text bytes texts source) ≡ source_count source
source_long bytes texts (Bytes offset count) whole = range_length bytes offset count whole
source_long bytes texts (Range range) whole = range_length (texts range.file) range.offset range.count whole

gathered_long : (bytes : List ℕ) (texts : Texts) (sources : List Source) → ((i : ℕ) (source : Source) → slice_get sources i ≡ Some source → IsWholeIn bytes texts source) → length (gathered_text bytes texts sources) ≡ sum_by source_count sources
gathered_long bytes texts [] whole = refl
gathered_long bytes texts (s ∷ ss) whole =
    let one = source_long bytes texts s (whole zero s refl) in
    let rest = gathered_long bytes texts ss (λ i source is. whole (suc i) source is) in
    let all = length-append (source_text bytes texts s) (gathered_text bytes texts ss) in
    let sum = sum_by-cons source_count s ss in
    omega (arith, one, rest, all, sum)

-- A plan whose sources are whole writes as many bytes as they have.
pub written_long : (texts : Texts) (plan : Plan) → IsPlanWhole texts plan → length (written_by texts plan) ≡ plan_count plan
written_long texts plan whole = gathered_long plan.bytes texts plan.sources whole

-- What is gathered from files is what texts say, where they read as these.
source_own : (file : FileName) (bytes : List ℕ) (k : Content) (texts : Texts) (source : Source) → bytes_of (k file).seen ≡ texts file → IsSourceFrom file source → source_bytes bytes k source ≡ source_text bytes texts source
source_own file bytes k texts (Bytes offset count) reads from = refl
source_own file bytes k texts (Range range) reads from =
    ap (λ (b : List ℕ). range_of b range.offset range.count) (subst (λ (f : FileName). bytes_of (k f).seen ≡ texts f) (sym from) reads)

pub gathered_own : (file : FileName) (bytes : List ℕ) (k : Content) (texts : Texts) (sources : List Source) → bytes_of (k file).seen ≡ texts file → ((i : ℕ) (source : Source) → slice_get sources i ≡ Some source → IsSourceFrom file source) → gathered bytes k sources ≡ gathered_text bytes texts sources
gathered_own file bytes k texts [] reads from = refl
gathered_own file bytes k texts (s ∷ ss) reads from =
    both (source_bytes bytes k s) (source_text bytes texts s) (gathered bytes k ss) (gathered_text bytes texts ss)
    (source_own file bytes k texts s reads (from zero s refl)) (gathered_own file bytes k texts ss reads (λ i source is. from (suc i) source is))
