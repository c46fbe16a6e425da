-- What a client is told, and the list after it.
use Rattle.std.proofs.Common.{◌≡◌, ◌≢◌, ◌+◌, ◌-◌, ◌≤◌, ◌==◌, ◌||◌, ℕ, suc, Bool, true, false, not, List, [], ◌∷◌, ◌++◌, length, take, drop, Option, refl, sym, ap, subst, ◌∙◌, arith, append-nil, length-append, if◌then◌else◌}
use Rattle.std.specs.List.{filter, fold, range_with_len}
use Rattle.std.specs.Bool.{MatchBool}
use Rattle.std.proofs.lemmas.List.Elements.{filter-append}
use Rattle.arch_model.specs.Archives.{Archive}
use Rattle.known_uids.specs.declared.changes.Changes.{Changes}
use Rattle.known_uids.specs.Told.{Known, known, Suits, is_live, passing, live_in, changes_of, RisesBelow, after_last, has, gone_from, new_of, count_if, NoneBack, expunged}
use Rattle.known_uids.specs.Laws.{ToldTwice, ToldIsFollowed}
use Rattle.known_uids.specs.Gone.{AllLive, gone_by, struck, is_there}
use Rattle.known_uids.proofs.Rising.{same, rising-le, rising-append, rising-after}
use Rattle.known_uids.proofs.Passing.{filter-no, has-passing, passing-now, new-is}
use Rattle.known_uids.proofs.Leaving.{gone-append, gone-none, live-all, passing-live, gone-same, strike-gone, expunge_at, expunge-gone, there-marked, there-all, marks-same, marks-struck, rising-marks}

either : (a b : Bool) → b ≡ true → (a || b) ≡ true
either true b found = refl
either false b found = found

-- A list is told nothing of a part of it.
told-part : (now xs : List ℕ) (sequence : ℕ) → ((n : ℕ) → has xs n ≡ true → has now n ≡ true) → (gone_from now sequence xs ≡ []) × (new_of now xs ≡ [])
told-part now [] sequence all = (refl, refl)
told-part now (x ∷ xs) sequence all =
    let here : has now x ≡ true = all x (ap (λ t. t || has xs x) (same x)) in
    let rest = told-part now xs (sequence + 1) (λ n found. all n (either (x == n) (has xs n) found)) in (
      ap (λ ks. ks ++ (if has now x then [] else sequence ∷ [])) rest.0 ∙ ap (λ t. if t then [] else sequence ∷ []) here,
      filter-no (λ (n : ℕ). not (has now n)) x xs (ap not here) ∙ rest.1,
    )

pub told_again : ToldTwice
told_again now =
    let part = told-part now now 1 (λ n found. found) in
    (part.0, ap (λ ns. count_if ns (length now)) part.1)

-- The UIDs that were told and are gone, by the test itself.
pub gone-is : (test : ℕ → Bool) (first last : ℕ) (told : List ℕ) → RisesBelow first told (last + 1) → gone_from (passing test first last) 1 told ≡ gone_by test 1 told
unfolding passing
gone-is test first last told rises =
    gone-same (passing test first last) test 1 first told (last + 1) rises
    (λ n low high. let le : first ≤ last + 1 = rising-le first told (last + 1) rises in has-passing test first (last + 1 - first) n low (omega (arith, high, le)))

same_steps : (uids gone : List ℕ) → fold expunged uids gone ≡ fold (expunge_at 1) uids gone
same_steps uids [] = refl
same_steps uids (k ∷ ks) =
    let at : k ≡ k + 1 - 1 = omega arith in
    ap (λ i. fold expunged (take (k - 1) uids ++ drop i uids) ks) at ∙ same_steps (expunge_at 1 uids k) ks

pub followed : ToldIsFollowed
followed test first last told rises none_back =
    ap (λ ks. fold expunged told ks ++ new_of told (passing test first last)) (gone-is test first last told rises)
    ∙ ap (λ ns. ns ++ new_of told (passing test first last)) (same_steps told (gone_by test 1 told) ∙ expunge-gone test 1 told)
    ∙ ap (λ ns. filter test told ++ ns) (new-is test first last told rises none_back)
    ∙ sym (passing-now test first last told rises none_back)

-- The new ones are live.
pub new-live : (test : ℕ → Bool) (next last : ℕ) → AllLive test (passing test next last)
unfolding passing
new-live test next last = passing-live test (range_with_len next (last + 1 - next))

-- The list after the told ones that are gone are struck out, with the new ones behind them, is that of now.
pub taken-now : (test : ℕ → Bool) (first last : ℕ) (told new : List ℕ) → 1 ≤ first → RisesBelow first told (last + 1) → NoneBack test first told → RisesBelow first (told ++ new) (last + 1)
    → new ≡ passing test (after_last first told) last → filter is_there (struck (told ++ new) (gone_by test 1 told)) ≡ passing test first last
taken-now test first last told new least rises none_back all is =
    let live_new : AllLive test new = subst (AllLive test) (sym is) (new-live test (after_last first told) last) in
    let gone : gone_by test 1 told ≡ gone_by test 1 (told ++ new) =
    sym (gone-append test 1 told new ∙ ap (λ ks. ks ++ gone_by test 1 told) (gone-none test (1 + length told) new live_new)) in
    ap (λ ks. filter is_there (struck (told ++ new) ks)) gone ∙ ap (filter is_there) (strike-gone test 1 (told ++ new))
    ∙ there-marked test first (told ++ new) (last + 1) least all
    ∙ filter-append test told new ∙ ap (λ ns. filter test told ++ ns) (live-all test new live_new ∙ is)
    ∙ sym (passing-now test first last told rises none_back)

-- The list is that of now just if all are live and none is new.
some_new : (xs ys : List ℕ) → xs ≡ xs ++ ys → ys ≡ []
some_new xs [] e = refl
some_new xs (y ∷ ys) e = absurd (let sizes : length xs ≡ length xs + suc (length ys) = ap length e ∙ length-append xs (y ∷ ys) in omega (arith, sizes))

pub unchanged : (test : ℕ → Bool) (first last : ℕ) (told : List ℕ) → RisesBelow first told (last + 1) → NoneBack test first told → AllLive test told → passing test (after_last first told) last ≡ [] → told ≡ passing test first last
unchanged test first last told rises none_back all none =
    sym (passing-now test first last told rises none_back ∙ ap (λ ns. ns ++ passing test (after_last first told) last) (live-all test told all) ∙ ap (λ ns. told ++ ns) none ∙ append-nil told)

pub unchanged-new : (test : ℕ → Bool) (first last : ℕ) (told : List ℕ) → RisesBelow first told (last + 1) → NoneBack test first told → AllLive test told → told ≡ passing test first last → passing test (after_last first told) last ≡ []
unchanged-new test first last told rises none_back all is =
    some_new told (passing test (after_last first told) last)
    (is ∙ passing-now test first last told rises none_back ∙ ap (λ ns. ns ++ passing test (after_last first told) last) (live-all test told all))

pub unchanged-live : (test : ℕ → Bool) (first last : ℕ) (told : List ℕ) → told ≡ passing test first last → AllLive test told
unchanged-live test first last told is = subst (AllLive test) (sym is) (new-live test first last)

pub current-then : (a : Archive) (first last : ℕ) (told : List ℕ) (t : Bool) → RisesBelow first told (last + 1) → NoneBack (is_live a) first told → AllLive (is_live a) told
    → MatchBool t (live_in a (after_last first told) last ≡ []) (live_in a (after_last first told) last ≢ []) → MatchBool t (told ≡ live_in a first last) (told ≢ live_in a first last)
current-then a first last told true rises none_back all none = unchanged (is_live a) first last told rises none_back all none
current-then a first last told false rises none_back all some = λ is. some (unchanged-new (is_live a) first last told rises none_back all is)

pub current-else : (a : Archive) (first last : ℕ) (told : List ℕ) (t : Bool) → t ≡ false → (AllLive (is_live a) told → ⊥) → MatchBool t (told ≡ live_in a first last) (told ≢ live_in a first last)
current-else a first last told true miss gone = absurd (cc)
current-else a first last told false miss gone = λ is. gone (unchanged-live (is_live a) first last told is)

-- The told ones, with the new ones behind them and without those that were struck out, rise.
pub put-rises : (first last : ℕ) (told new gone : List ℕ) → RisesBelow first told (last + 1) → RisesBelow (after_last first told) new (last + 1) → RisesBelow first (filter is_there (struck (told ++ new) gone)) (last + 1)
put-rises first last told new gone rises more =
    let all = rising-append first told new (after_last first told) (last + 1) (rising-after first told (last + 1) rises) more in
    rising-marks first (told ++ new) (struck (told ++ new) gone) (last + 1) all (marks-struck (told ++ new) (told ++ new) gone (marks-same (told ++ new)))

-- None of them is 0.
pub put-there : (first last : ℕ) (told new all : List ℕ) → 1 ≤ first → RisesBelow first told (last + 1) → RisesBelow (after_last first told) new (last + 1) → all ≡ told ++ new → filter is_there all ≡ all
put-there first last told new all least rises more is =
    let up = rising-append first told new (after_last first told) (last + 1) (rising-after first told (last + 1) rises) more in
    subst (λ ks. filter is_there ks ≡ ks) (sym is) (there-all first (told ++ new) (last + 1) least up)

-- What is known then are the live numbers.
pub put-now : (a : Archive) (old now : Known) (next : ℕ) (new gone : List ℕ) → 1 ≤ old.first → RisesBelow old.first old.uids (old.last + 1) → Suits a old → next ≡ after_last old.first old.uids → RisesBelow next new (old.last + 1)
    → new ≡ live_in a next old.last → gone ≡ gone_by (is_live a) 1 old.uids → now ≡ known old.first old.last (filter is_there (struck (old.uids ++ new) gone)) → now ≡ known old.first old.last (live_in a old.first old.last)
put-now a old now next new gone least rises suits next_is more new_is gone_is is =
    let told = old.uids in
    let all = rising-append old.first told new (after_last old.first told) (old.last + 1) (rising-after old.first told (old.last + 1) rises) (subst (λ n. RisesBelow n new (old.last + 1)) next_is more) in
    let made : filter is_there (struck (told ++ new) gone) ≡ live_in a old.first old.last =
    ap (λ ks. filter is_there (struck (told ++ new) ks)) gone_is
    ∙ taken-now (is_live a) old.first old.last told new least rises suits.none_back all (new_is ∙ ap (λ n. live_in a n old.last) next_is) in
    is ∙ ap (known old.first old.last) made

abbrev changes_with : List ℕ → Option ℕ → Changes
changes_with gone exists = record { gone = gone; exists = exists }

-- What is told are the changes.
pub told-changes : (a : Archive) (old now : Known) (next : ℕ) (new gone : List ℕ) (exists : Option ℕ) → RisesBelow old.first old.uids (old.last + 1) → Suits a old → next ≡ after_last old.first old.uids
    → new ≡ live_in a next old.last → gone ≡ gone_by (is_live a) 1 old.uids → now ≡ known old.first old.last (live_in a old.first old.last) → exists ≡ count_if new (length now.uids)
    → record { gone = gone; exists = exists } ≡ changes_of old.uids (live_in a old.first old.last)
told-changes a old now next new gone exists rises suits next_is new_is gone_is now_is exists_is =
    let live = live_in a old.first old.last in
    let same_gone : gone ≡ gone_from live 1 old.uids = gone_is ∙ sym (gone-is (is_live a) old.first old.last old.uids rises) in
    let fresh : new ≡ new_of old.uids live = new_is ∙ ap (λ n. live_in a n old.last) next_is ∙ sym (new-is (is_live a) old.first old.last old.uids rises suits.none_back) in
    let same_exists : exists ≡ count_if (new_of old.uids live) (length live) =
    exists_is ∙ ap (λ ks. count_if ks (length now.uids)) fresh ∙ ap (λ (k : Known). count_if (new_of old.uids live) (length k.uids)) now_is in
    ap (λ ks. changes_with ks exists) same_gone ∙ ap (changes_with (gone_from live 1 old.uids)) same_exists
