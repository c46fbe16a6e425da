-- How many live messages the archive in memory has.
use Rattle.std.specs.Prelude.{◌≡◌, ◌+◌, ◌<◌, ◌≤◌, ◌&&◌, ℕ, Bool, true, false, nat_le, List, [], ◌∷◌, Option, length, min, if◌then◌else◌, refl}
use Rattle.std.specs.List.{AllByRecursion, filter}
use Rattle.std.proofs.Common.{subst, arith}
use Rattle.std.proofs.lemmas.Bool.Decides.{nat_tests}
use Rattle.arch_base.specs.declared.config.Config.{Config}
use Rattle.arch_model.specs.Archives.{Entry, Archive, live}
use Rattle.arch_model.specs.Shelves.{is_between, live_between}
use Rattle.arch_model.proofs.LiveEntries.{live-all}
use Rattle.arch_model.proofs.ValidArchives.{all_weaker}
use Rattle.arch_judge.proofs.Endings.{Ascend, live-ascend}
use Rattle.arch_judge.specs.declared.index.Index.{Index}
use Rattle.mem_archive.specs.Memory.{archive_of, entries_of, IsKept, IsNumberUpTo}
use Rattle.mem_archive.specs.declared.kept.End.{End}
use Rattle.mem_archive.specs.declared.kept.Kept.{Kept}
use Rattle.mem_archive.specs.declared.kept.KeptPlace.{KeptPlace}

-- Entries whose numbers rise from one on and stay below another are at most as many as are between.
few : (number next : ℕ) (es : List Entry) → number ≤ next → Ascend number es → AllByRecursion (λ (e : Entry). e.number < next) es → number + length es ≤ next
few number next [] low rise below = omega (arith, low)
few number next (e ∷ es) low rise below =
    let first : number ≤ e.number = rise.0 in
    let less : e.number < next = below.0 in
    let rest = few (e.number + 1) next es (omega (arith, less)) rise.1 below.1 in
    omega (arith, first, rest)

keep_step : (t : Bool) (e : Entry) (xs es : List Entry) → t ≡ true → length xs ≡ length es → length (if t then e ∷ xs else xs) ≡ length (e ∷ es)
keep_step true e xs es hit same = omega (arith, same)
keep_step false e xs es miss same = absurd (cc)

-- All of them lie between 0 and the greatest number of 32 bits.
all_between : (es : List Entry) (next : ℕ) → next ≤ 2147483648 → AllByRecursion (λ (e : Entry). e.number < next) es → live_between es 0 4294967295 ≡ length es
all_between [] next most below = refl
all_between (e ∷ es) next most below =
    let less : e.number < next = below.0 in
    let hit : (nat_le 0 e.number && nat_le e.number 4294967295) ≡ true = grind (arith, nat_tests, less, most) in
    keep_step (nat_le 0 e.number && nat_le e.number 4294967295) e (filter (is_between 0 4294967295) es) es hit (all_between es next most below.1)

-- So they are counted with 32 bits.
pub counted : (config : Config) (ks : List Kept) (places : List (Option KeptPlace)) (index : Index) (end_ : End) (a : Archive) → archive_of config ks places ≡ a → IsKept config ks places index end_ → min (live_between (live a.entries) 0 4294967295) 4294967295 ≡ length (live a.entries)
counted config ks places index end_ a is kept =
    subst (λ (b : Archive). min (live_between (live b.entries) 0 4294967295) 4294967295 ≡ length (live b.entries)) is
    (let all = all_between (live (entries_of ks)) (length places + 1) small shown in let bound = few 1 (length places + 1) (live (entries_of ks)) (omega arith) (live-ascend 1 0 (entries_of ks) kept.order) shown in omega (arith, all, bound, small))
  where
    shown : AllByRecursion (λ (e : Entry). e.number < length places + 1) (live (entries_of ks))
    shown = live-all (λ (e : Entry). e.number < length places + 1) (entries_of ks) (all_weaker (IsNumberUpTo (length places)) (λ (e : Entry). e.number < length places + 1) (entries_of ks) (λ e up. up.1) kept.numbered)

    small : length places + 1 ≤ 2147483648
    small = (let most : config.max ≤ 2147483647 = kept.settings.max_high in let fewer = kept.numbers in omega (arith, most, fewer))
