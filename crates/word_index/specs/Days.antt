-- The numbers of rows by their days.
use Rattle.std.specs.Prelude.{ℕ, Bool, nat_le, List, map, take_while}
use Rattle.std.specs.Ordering.{nat_cmp, ordering_then}
use Rattle.std.specs.declared.cmp.Ordering.{Ordering}
use Rattle.std.specs.declared.ops.Bound.TheVariants.{Included, Unbounded}
use Rattle.std.specs.BTreeSet.{BTreeSet, contains, keys_between}
use Rattle.query_lang.specs.Matching.{is_between}
use Rattle.word_index.specs.declared.rows.Dated.{Dated}
use Rattle.word_index.specs.declared.rows.KeptRow.{KeptRow}

-- By day, and then by number.
abbrev pub dated_cmp : Dated → Dated → Ordering
dated_cmp a b = ordering_then (nat_cmp a.day b.day) (nat_cmp a.number b.number)

-- The number is one of a day's.
abbrev pub dated : BTreeSet Dated → ℕ → ℕ → Bool
dated days day n = contains dated_cmp days (record { day = day; number = n })

-- The row is of a day of the range.
abbrev pub is_within : ℕ → ℕ → KeptRow → Bool
is_within first last row = is_between row.day first last

-- The numbers of the days of a range, by their days.
abbrev pub numbers_between : BTreeSet Dated → ℕ → ℕ → List ℕ
numbers_between days first last =
    map (λ (d : Dated). d.number)
    (take_while (λ (d : Dated). nat_le d.day last)
    (keys_between dated_cmp (Included (record { day = first; number = 0 })) Unbounded days))
