-- Sources that are put into a file, one after the other.
use Rattle.std.specs.Prelude.{◌≡◌, ◌≢◌, ℕ, zero, suc, ◌+◌, ◌<◌, ◌≤◌, List, [], ◌∷◌, ◌++◌, length, take, get_or, slice_get, Option, Some, None, refl}
use Rattle.std.specs.List.{sum_by}
use Rattle.std.proofs.Common.{◌∙◌, sym, ap, subst, arith}
use Rattle.std.proofs.lemmas.List.{take_more, flat_map_more}
use Rattle.std.proofs.lemmas.List.Sums.{sum_by_more, sum_by_more_le}
use Rattle.std.proofs.lemmas.Option.{same_Some, slice_get_within, get_or_from_slice_get}
use Rattle.disk_model.specs.declared.name.FileName.{FileName}
use Rattle.disk_model.specs.Disk.{File, Content, BothTold, WhereTold, OneFile, Wrote, IsAtMostLength, bytes_of}
use Rattle.disk_model.specs.Tells.{told_then}
use Rattle.root_change.specs.declared.sources.Source.{Source}
use Rattle.root_change.specs.declared.sources.Source.TheVariants.{Bytes, Range}
use Rattle.root_change.specs.Copying.{range_of, Put}
use Rattle.root_change.specs.Gathering.{source_count, source_bytes, gathered, IsSourceFor, AreSources, HasSource, PutSource, PutSources}
use Rattle.root_change.proofs.Copies.{wrote_added, none_added, put_then}

-- A part of bytes that was written.
pub wrote_put : (bytes : List ℕ) (count : ℕ) (to : FileName) (end_ : ℕ) (k m : Option Content) → length bytes ≡ count → 0 < count → WhereTold (IsAtMostLength to end_) k → BothTold (OneFile to (Wrote end_ bytes)) k m → BothTold (Put bytes count to end_) k m
wrote_put bytes count to end_ None None size some inside one = tt
wrote_put bytes count to end_ None (Some m) size some inside one = absurd one
wrote_put bytes count to end_ (Some k) None size some inside one = absurd one
wrote_put bytes count to end_ (Some k) (Some m) size some inside one = record { added = wrote_added bytes to end_ k m (omega (arith, size, some)) inside one; full = size }

-- No bytes.
pub none_put : (bytes : List ℕ) (offset count : ℕ) (to : FileName) (end_ : ℕ) (k : Option Content) → count ≡ 0 → WhereTold (IsAtMostLength to end_) k → BothTold (Put (range_of bytes offset count) count to end_) k k
none_put bytes offset count to end_ None none inside = tt
none_put bytes offset count to end_ (Some k) none inside = subst (λ (n : ℕ). Put (range_of bytes offset n) n to end_ k k) (sym none) (record { added = none_added to end_ k inside; full = refl })

-- A source reads the same while another file is written.
same_source : (bytes : List ℕ) (source : Source) (to : FileName) (k m : Content) → IsSourceFor to source → ((name : FileName) → name ≢ to → (m name).seen ≡ (k name).seen) → source_bytes bytes m source ≡ source_bytes bytes k source
same_source bytes (Bytes offset count) to k m is others = refl
same_source bytes (Range range) to k m is others = ap (λ (f : File). range_of (bytes_of f) range.offset range.count) (others range.file is.0)

-- One more element of a list.
pub one_more : {A : Type 0} (items : List A) (i : ℕ) (item : A) → slice_get items i ≡ Some item → take (i + 1) items ≡ take i items ++ item ∷ []
one_more {A} items i item here = take_more items i item (slice_get_within items i item here) ∙ ap (λ (x : A). take i items ++ x ∷ []) (get_or_from_slice_get items i item item here)

-- The bytes of one more source.
gathered_more : (bytes : List ℕ) (k : Content) (sources : List Source) (i : ℕ) (source : Source) → slice_get sources i ≡ Some source → gathered bytes k (take i sources) ++ source_bytes bytes k source ≡ gathered bytes k (take (i + 1) sources)
gathered_more bytes k sources i source here = flat_map_more (source_bytes bytes k) [] (take i sources) source ∙ ap (gathered bytes k) (sym (one_more sources i source here))

-- Their number.
count_more : (sources : List Source) (i : ℕ) (source : Source) → slice_get sources i ≡ Some source → sum_by source_count (take (i + 1) sources) ≡ sum_by source_count (take i sources) + source_count source
count_more sources i source here =
    sum_by_more source_count sources i source (slice_get_within sources i source here)
    ∙ ap (λ (s : Source). sum_by source_count (take i sources) + source_count s) (get_or_from_slice_get sources i source source here)

-- The offset after one more source.
pub next_after : (sources : List Source) (i : ℕ) (source : Source) (end_ next count : ℕ) → slice_get sources i ≡ Some source → next ≡ end_ + sum_by source_count (take i sources) → count ≡ source_count source → next + count ≡ end_ + sum_by source_count (take (i + 1) sources)
next_after sources i source end_ next count here next_is count_is = omega (arith, next_is, count_is, count_more sources i source here)

-- It is no greater than that after all.
pub next_below : (sources : List Source) (i : ℕ) (source : Source) (end_ next n : ℕ) → slice_get sources i ≡ Some source → next ≡ end_ + sum_by source_count (take i sources) → end_ + sum_by source_count sources < n → next + source_count source < n
next_below sources i source end_ next n here next_is below =
    let most : sum_by source_count (take i sources) + source_count (get_or sources i source) ≤ sum_by source_count sources = sum_by_more_le source_count sources i source (slice_get_within sources i source here) in
    let same : source_count (get_or sources i source) ≡ source_count source = ap source_count (get_or_from_slice_get sources i source source here) in
    omega (arith, next_is, below, most, same)

-- One more source was put.
more_put_now : (bytes : List ℕ) (sources : List Source) (i : ℕ) (source : Source) (to : FileName) (end_ next : ℕ) (k m o : Content) → slice_get sources i ≡ Some source → IsSourceFor to source → next ≡ end_ + sum_by source_count (take i sources) → PutSources bytes (take i sources) to end_ k m → PutSource bytes source to next m o
    → PutSources bytes (take (i + 1) sources) to end_ k o
more_put_now bytes sources i source to end_ next k m o here is next_is first second =
    let second_old = subst (λ (b : List ℕ). Put b (source_count source) to next m o) (same_source bytes source to k m is first.added.others) second in
    let both = put_then (gathered bytes k (take i sources)) (source_bytes bytes k source) (sum_by source_count (take i sources)) (source_count source) to end_ next k m o next_is first second_old in
    subst (λ (b : List ℕ). Put b (sum_by source_count (take (i + 1) sources)) to end_ k o) (gathered_more bytes k sources i source here)
    (subst (λ (n : ℕ). Put (gathered bytes k (take i sources) ++ source_bytes bytes k source) n to end_ k o) (sym (count_more sources i source here)) both)

pub more_put : (bytes : List ℕ) (sources : List Source) (i : ℕ) (source : Source) (to : FileName) (end_ next : ℕ) (k m o : Option Content) → slice_get sources i ≡ Some source → IsSourceFor to source → next ≡ end_ + sum_by source_count (take i sources) → BothTold (PutSources bytes (take i sources) to end_) k m
    → BothTold (PutSource bytes source to next) m o → BothTold (PutSources bytes (take (i + 1) sources) to end_) k o
more_put bytes sources i source to end_ next k m o here is next_is first second =
    told_then (PutSources bytes (take i sources) to end_) (PutSource bytes source to next) (PutSources bytes (take (i + 1) sources) to end_) k m o (λ a b e told_a told_b one two. more_put_now bytes sources i source to end_ next a b e here is next_is one two) first second

-- Nothing was put yet.
pub first_put : (bytes : List ℕ) (sources : List Source) (to : FileName) (end_ : ℕ) (k : Option Content) → WhereTold (IsAtMostLength to end_) k → BothTold (PutSources bytes (take 0 sources) to end_) k k
first_put bytes sources to end_ None inside = tt
first_put bytes sources to end_ (Some k) inside = record { added = none_added to end_ k inside; full = refl }

-- The offset after the bytes is within the file.
pub put_inside : (bytes : List ℕ) (sources : List Source) (to : FileName) (end_ next : ℕ) (k m : Option Content) → next ≡ end_ + sum_by source_count sources → BothTold (PutSources bytes sources to end_) k m → WhereTold (IsAtMostLength to next) m
put_inside bytes sources to end_ next None None next_is told = tt
put_inside bytes sources to end_ next None (Some m) next_is told = absurd told
put_inside bytes sources to end_ next (Some k) None next_is told = absurd told
put_inside bytes sources to end_ next (Some k) (Some m) next_is told = (let reached = told.added.reaches in let full = told.full in omega (arith, reached, full, next_is))

-- A source that was whole is whole while another file is written.
pub source_left : (bytes : List ℕ) (sources : List Source) (source : Source) (to : FileName) (end_ : ℕ) (k m : Option Content) → IsSourceFor to source → BothTold (PutSources bytes sources to end_) k m → HasSource bytes k source → HasSource bytes m source
source_left bytes sources (Bytes offset count) to end_ k m is told has = has
source_left bytes sources (Range range) to end_ None m is told has = absurd has
source_left bytes sources (Range range) to end_ (Some k) None is told has = absurd told
source_left bytes sources (Range range) to end_ (Some k) (Some m) is told has =
    subst (λ (f : File). range.offset + range.count ≤ length (bytes_of f)) (sym (told.added.others range.file is.0)) has

-- Three sources for a file.
pub three_sources : (to : FileName) (a b c : Source) → IsSourceFor to a → IsSourceFor to b → IsSourceFor to c → AreSources to (a ∷ b ∷ c ∷ [])
three_sources to a b c x y z zero s is = subst (IsSourceFor to) (same_Some a s is) x
three_sources to a b c x y z (suc zero) s is = subst (IsSourceFor to) (same_Some b s is) y
three_sources to a b c x y z (suc (suc zero)) s is = subst (IsSourceFor to) (same_Some c s is) z
three_sources to a b c x y z (suc (suc (suc i))) s is = absurd (let wrong : None ≡ Some s = is in cc)
