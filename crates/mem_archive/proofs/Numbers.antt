-- Live places, one number at a time, and the live entries by their numbers.
use Rattle.std.proofs.Common.{◌≡◌, ◌≢◌, ◌+◌, ◌-◌, ◌<◌, ◌≤◌, ◌==◌, ℕ, zero, suc, Bool, true, false, ◌&&◌, nat_le, List, [], ◌∷◌, length, drop, get_or, slice_get, add-one, zero-add, drop-cons, Option, Some, None, is_some, option_map, max, min, refl, sym, ap, subst, ◌∙◌, arith, if◌then◌else◌}
use Rattle.std.specs.List.{filter}
use Rattle.std.proofs.lemmas.Bool.Decides.{nat_tests}
use Rattle.std.proofs.lemmas.Option.{slice_get_past, slice_get_read}
use Rattle.arch_base.specs.declared.config.Config.{Config}
use Rattle.arch_model.specs.Archives.{Archive, Entry, live, text_of}
use Rattle.arch_model.specs.Shelves.{IsGreatestLive, is_between, live_between}
use Rattle.arch_model.specs.Standing.{IsLeastLive}
use Rattle.arch_judge.proofs.Endings.{Ascend, ascend-low, live-ascend}
use Rattle.arch_judge.specs.declared.index.Index.{Index}
use Rattle.mem_archive.specs.Memory.{archive_of, entries_of, joined, place_in, text_in, shown_in, is_live_place, live_at, IsLeastAt, IsGreatestAt, count_from, IsKept}
use Rattle.mem_archive.specs.declared.kept.End.{End}
use Rattle.mem_archive.specs.declared.kept.Kept.{Kept}
use Rattle.mem_archive.specs.declared.kept.KeptPlace.{KeptPlace}
use Rattle.mem_archive.proofs.Places.{shown_is}

-- The place of a number as it is read.
pub place-zero : (places : List (Option KeptPlace)) (n : ℕ) → n ≡ 0 → None ≡ place_in places n
place-zero places zero is = refl
place-zero places (suc i) is = absurd (omega (arith, is))

pub place-none : (places : List (Option KeptPlace)) (n : ℕ) → n ≢ 0 → length places ≤ n - 1 → None ≡ place_in places n
place-none places zero some past = refl
place-none places (suc i) some past = sym (ap joined (slice_get_past places i (omega (arith, past))))

pub place-some : (places : List (Option KeptPlace)) (n : ℕ) (p : Option KeptPlace) → n ≢ 0 → n - 1 < length places → p ≡ get_or places (n - 1) p → p ≡ place_in places n
place-some places zero p some less is = absurd (some refl)
place-some places (suc i) p some less is =
    let at : suc i - 1 ≡ i = omega arith in
    let here : p ≡ get_or places i p = is ∙ ap (λ (j : ℕ). get_or places j p) at in
    sym (ap joined (slice_get_read places (length places) i p refl (omega (arith, less)) here))

-- The text of a kept entry as it is read.
pub text-none : (ks : List Kept) (i : ℕ) → length ks ≤ i → None ≡ text_in ks i
text-none ks i past = sym (ap (option_map (λ (k : Kept). k.text)) (slice_get_past ks i past))

pub text-some : (ks : List Kept) (i : ℕ) (k : Kept) → i < length ks → k ≡ get_or ks i k → Some k.text ≡ text_in ks i
text-some ks i k less is = sym (ap (option_map (λ (x : Kept). x.text)) (slice_get_read ks (length ks) i k refl less is))

-- A number after the last has no place.
pub none-after : (places : List (Option KeptPlace)) (m : ℕ) → length places < m → live_at places m ≡ false
none-after places zero past = absurd (omega (arith, past))
none-after places (suc i) past = ap (λ (f : Option (Option KeptPlace)). is_live_place (joined f)) (slice_get_past places i (omega (arith, past)))

-- The numbers from one on that were tried are not live.
pub record TriedUp (places : List (Option KeptPlace)) (number least : ℕ) : Type 0 where
  pub low : number ≤ least
  pub tried : (m : ℕ) → number ≤ m → m < least → live_at places m ≡ false

pub up-start : (places : List (Option KeptPlace)) (number first : ℕ) → first ≡ max number 1 → TriedUp places number first
up-start places number first is = record { low = omega (arith, is); tried = λ m at_least below. by m at_least below } where
  by : (m : ℕ) → number ≤ m → m < first → live_at places m ≡ false
  by zero at_least below = refl
  by (suc m) at_least below = absurd (omega (arith, is, at_least, below))

pub up-more : (places : List (Option KeptPlace)) (number least : ℕ) → TriedUp places number least → live_at places least ≡ false → TriedUp places number (least + 1)
up-more places number least up none = let low : number ≤ least = up.low in record { low = omega (arith, low); tried = λ m at_least below. by m (m == least) refl at_least below } where
  by : (m : ℕ) (t : Bool) → (m == least) ≡ t → number ≤ m → m < least + 1 → live_at places m ≡ false
  by m true test at_least below = let same : m ≡ least = grind (arith, nat_tests, test) in ap (live_at places) same ∙ none
  by m false test at_least below = let less : m < least = grind (arith, nat_tests, test, below) in up.tried m at_least less

pub up-found : (places : List (Option KeptPlace)) (number least : ℕ) → TriedUp places number least → live_at places least ≡ true → IsLeastAt places number (Some least)
up-found places number least up is = (up.low, is, up.tried)

pub up-none : (places : List (Option KeptPlace)) (number least : ℕ) → TriedUp places number least → length places + 1 ≤ least → IsLeastAt places number None
up-none places number least up whole = λ m at_least. by m (nat_le least m) refl at_least where
  by : (m : ℕ) (t : Bool) → nat_le least m ≡ t → number ≤ m → live_at places m ≡ false
  by m true test at_least = let past : least ≤ m = grind (arith, nat_tests, test) in none-after places m (omega (arith, past, whole))
  by m false test at_least = let less : m < least = grind (arith, nat_tests, test) in up.tried m at_least less

-- The numbers down to one that were tried are not live.
abbrev pub TriedDown : List (Option KeptPlace) → ℕ → ℕ → Type 0
TriedDown places number greatest = (m : ℕ) → greatest < m → m ≤ number → live_at places m ≡ false

pub down-start : (places : List (Option KeptPlace)) (number most : ℕ) → most ≡ min number (length places) → TriedDown places number (most - 0)
down-start places number most is = λ m above at_most. none-after places m (omega (arith, is, above, at_most))

pub down-more : (places : List (Option KeptPlace)) (number most below : ℕ) → below < most → TriedDown places number (most - below) → live_at places (most - below) ≡ false → TriedDown places number (most - (below + 1))
down-more places number most below less down none = λ m above at_most. by m (m == (most - below)) refl above at_most where
  by : (m : ℕ) (t : Bool) → (m == (most - below)) ≡ t → most - (below + 1) < m → m ≤ number → live_at places m ≡ false
  by m true test above at_most = let same : m ≡ most - below = grind (arith, nat_tests, test) in ap (live_at places) same ∙ none
  by m false test above at_most = let more : most - below < m = grind (arith, nat_tests, test, above, less) in down m more at_most

pub down-found : (places : List (Option KeptPlace)) (number most greatest : ℕ) → most ≡ min number (length places) → greatest ≤ most → TriedDown places number greatest → live_at places greatest ≡ true → IsGreatestAt places number (Some greatest)
down-found places number most greatest is low down found = (omega (arith, is, low), found, down)

pub down-none : (places : List (Option KeptPlace)) (number most below : ℕ) → most ≤ below → TriedDown places number (most - below) → IsGreatestAt places number None
down-none places number most below whole down = λ m at_most. by m at_most where
  by : (m : ℕ) → m ≤ number → live_at places m ≡ false
  by zero at_most = refl
  by (suc m) at_most = down (suc m) (omega (arith, whole)) at_most

-- So many live places were counted.
pub record Counted (places : List (Option KeptPlace)) (low high index number count : ℕ) : Type 0 where
  pub number_is : number ≡ index + 1
  pub few : count ≤ index
  pub all : count + count_from number low high (drop index places) ≡ count_from 1 low high places

drop-one : (places : List (Option KeptPlace)) (i : ℕ) (d : Option KeptPlace) → i < length places → drop i places ≡ get_or places i d ∷ drop (i + 1) places
drop-one places i d less = rw (add-one, drop-cons places i d) refl

if_count : (t : Bool) (count rest all : ℕ) → count + (if t then suc rest else rest) ≡ all → (count + (if t then 1 else 0)) + rest ≡ all
if_count true count rest all is = omega (arith, is)
if_count false count rest all is = omega (arith, is)

few_if : (t : Bool) (count index : ℕ) → count ≤ index → count + (if t then 1 else 0) ≤ index + 1
few_if true count index few = omega (arith, few)
few_if false count index few = omega (arith, few)

pub count-start : (places : List (Option KeptPlace)) (low high : ℕ) → Counted places low high 0 1 0
count-start places low high = record { number_is = refl; few = omega arith; all = zero-add (count_from 1 low high places) }

pub count-more : (places : List (Option KeptPlace)) (low high index number count : ℕ) (d : Option KeptPlace) (one : ℕ) → index < length places → one ≡ (if is_live_place (get_or places index d) && (nat_le low number && nat_le number high) then 1 else 0) → Counted places low high index number count
    → Counted places low high (index + 1) (number + 1) (count + one)
count-more places low high index number count d one less one_is counted =
    let t : Bool = is_live_place (get_or places index d) && (nat_le low number && nat_le number high) in
    let rest : ℕ = count_from (number + 1) low high (drop (index + 1) places) in
    let before : count + (if t then suc rest else rest) ≡ count_from 1 low high places =
    sym (ap (λ (ps : List (Option KeptPlace)). count + count_from number low high ps) (drop-one places index d less)) ∙ counted.all in
    let at : number ≡ index + 1 = counted.number_is in
    record {
      number_is = omega (arith, at);
      few = subst (λ (n : ℕ). count + n ≤ index + 1) (sym one_is) (few_if t count index counted.few);
      all = ap (λ (n : ℕ). count + n + rest) one_is ∙ if_count t count rest (count_from 1 low high places) before;
    }

drop-all : (places : List (Option KeptPlace)) (i : ℕ) → length places ≤ i → drop i places ≡ []
drop-all [] zero whole = refl
drop-all [] (suc i) whole = refl
drop-all (p ∷ places) zero whole = absurd (omega (arith, whole))
drop-all (p ∷ places) (suc i) whole = drop-all places i (omega (arith, whole))

pub count-end : (places : List (Option KeptPlace)) (low high index number count : ℕ) → length places ≤ index → Counted places low high index number count → count ≡ count_from 1 low high places
count-end places low high index number count whole counted =
    let none : count_from number low high (drop index places) ≡ 0 = ap (count_from number low high) (drop-all places index whole) in
    let all : count + count_from number low high (drop index places) ≡ count_from 1 low high places = counted.all in
    omega (arith, none, all)

-- Entries with rising numbers, by places that tell which numbers there are.
ascend-out : (es : List Entry) (n number : ℕ) → Ascend number es → n < number → text_of es n ≡ None
ascend-out [] n number ascend less = refl
ascend-out (e ∷ es) n number ascend less =
    let above : number ≤ e.number = ascend.0 in
    let other : (e.number == n) ≡ false = grind (arith, nat_tests, above, less) in
    ap (λ (t : Bool). if t then Some e.text else text_of es n) other ∙ ascend-out es n (e.number + 1) ascend.1 (omega (arith, above, less))

own-some : (e : Entry) (es : List Entry) (n : ℕ) → e.number ≡ n → is_some (text_of (e ∷ es) n) ≡ true
own-some e es n same = let hit : (e.number == n) ≡ true = grind (arith, nat_tests, same) in ap (λ (t : Bool). is_some (if t then Some e.text else text_of es n)) hit

filter-step : (t : Bool) (e : Entry) (es : List Entry) → length (if t then e ∷ es else es) ≡ (if t then suc (length es) else length es)
filter-step true e es = refl
filter-step false e es = refl

skip_count : (t u : Bool) (found rest : ℕ) → false ≡ t → found ≡ rest → found ≡ (if t && u then suc rest else rest)
skip_count true u found rest never is = absurd (cc)
skip_count false u found rest never is = is

hit_count : (t u : Bool) (found rest : ℕ) → true ≡ t → found ≡ rest → (if u then suc found else found) ≡ (if t && u then suc rest else rest)
hit_count true true found rest shown is = ap suc is
hit_count true false found rest shown is = is
hit_count false u found rest shown is = absurd (cc)

-- The places from a number on tell which of these entries there are.
abbrev Tells : ℕ → List (Option KeptPlace) → List Entry → Type 0
Tells n ps xs = (i : ℕ) → is_some (text_of xs (n + i)) ≡ is_live_place (joined (slice_get ps i))

tells-next : (n : ℕ) (p : Option KeptPlace) (ps : List (Option KeptPlace)) (xs : List Entry) → Tells n (p ∷ ps) xs → Tells (n + 1) ps xs
tells-next n p ps xs tells i = let at : n + 1 + i ≡ n + suc i = omega arith in ap (λ (m : ℕ). is_some (text_of xs m)) at ∙ tells (suc i)

tells-rest : (n : ℕ) (p : Option KeptPlace) (ps : List (Option KeptPlace)) (e : Entry) (xs : List Entry) → e.number ≡ n → Tells n (p ∷ ps) (e ∷ xs) → Tells (n + 1) ps xs
tells-rest n p ps e xs same tells i =
    let other : (e.number == (n + 1 + i)) ≡ false = grind (arith, nat_tests, same) in
    sym (ap (λ (t : Bool). is_some (if t then Some e.text else text_of xs (n + 1 + i))) other) ∙ tells-next n p ps (e ∷ xs) tells i

-- So the places count them.
abbrev Counts : ℕ → List (Option KeptPlace) → ℕ → ℕ → List Entry → Type 0
Counts n ps low high es = Ascend n es → Tells n ps es → live_between es low high ≡ count_from n low high ps

counted-places : (n : ℕ) (ps : List (Option KeptPlace)) (xs : List Entry) (low high : ℕ) → Ascend n xs → Tells n ps xs → live_between xs low high ≡ count_from n low high ps
counted-places n [] [] low high ascend tells = refl
counted-places n [] (e ∷ xs) low high ascend tells =
    let least : n ≤ e.number = ascend.0 in
    let at : n + (e.number - n) ≡ e.number = omega (arith, least) in
    let no : is_some (text_of (e ∷ xs) e.number) ≡ false = sym (ap (λ (m : ℕ). is_some (text_of (e ∷ xs) m)) at) ∙ tells (e.number - n) in
    let wrong : true ≡ false = sym (own-some e xs e.number refl) ∙ no in
    absurd (cc)
counted-places n (p ∷ ps) [] low high ascend tells = skip_count (is_live_place p) (nat_le low n && nat_le n high) 0 (count_from (n + 1) low high ps) (tells 0) (counted-places (n + 1) ps [] low high tt (tells-next n p ps [] tells))
counted-places n (p ∷ ps) (e ∷ xs) low high ascend tells = by (e.number == n) refl (λ rise tell. counted-places (n + 1) ps xs low high rise tell) (λ rise tell. counted-places (n + 1) ps (e ∷ xs) low high rise tell) where
  here : n + 0 ≡ n
  here = omega arith

  by : (t : Bool) → (e.number == n) ≡ t → Counts (n + 1) ps low high xs → Counts (n + 1) ps low high (e ∷ xs) → live_between (e ∷ xs) low high ≡ count_from n low high (p ∷ ps)
  by true test fewer same_entries =
      let same : e.number ≡ n = grind (arith, nat_tests, test) in
      let yes : true ≡ is_live_place p = sym (own-some e xs n same) ∙ sym (ap (λ (m : ℕ). is_some (text_of (e ∷ xs) m)) here) ∙ tells 0 in
      let rest : live_between xs low high ≡ count_from (n + 1) low high ps = fewer (ascend-low (n + 1) (e.number + 1) xs (omega (arith, same)) ascend.1) (tells-rest n p ps e xs same tells) in
      filter-step (is_between low high e) e (filter (is_between low high) xs)
      ∙ ap (λ (m : ℕ). if nat_le low m && nat_le m high then suc (live_between xs low high) else live_between xs low high) same
      ∙ hit_count (is_live_place p) (nat_le low n && nat_le n high) (live_between xs low high) (count_from (n + 1) low high ps) yes rest
  by false test fewer same_entries =
      let least : n ≤ e.number = ascend.0 in
      let above : n + 1 ≤ e.number = grind (arith, nat_tests, test, least) in
      let ascends : Ascend (n + 1) (e ∷ xs) = (above, ascend.1) in
      let none : text_of (e ∷ xs) n ≡ None = ascend-out (e ∷ xs) n (n + 1) ascends (omega arith) in
      let no : false ≡ is_live_place p = sym (ap is_some none) ∙ sym (ap (λ (m : ℕ). is_some (text_of (e ∷ xs) m)) here) ∙ tells 0 in
      skip_count (is_live_place p) (nat_le low n && nat_le n high) (live_between (e ∷ xs) low high) (count_from (n + 1) low high ps) no (same_entries ascends (tells-next n p ps (e ∷ xs) tells))

-- What places tell is what the live entries of their archive tell.
module _ (config : Config) (ks : List Kept) (places : List (Option KeptPlace)) (index : Index) (end_ : End) (a : Archive) (is : archive_of config ks places ≡ a) (kept : IsKept config ks places index end_) where
  live_some : (t : Bool) (text : Option (List ℕ)) → is_some text ≡ true → is_some (if t then text else None) ≡ t
  live_some true text some = some
  live_some false text some = refl

  place_is : (i : ℕ) (found : Option (Option KeptPlace)) → slice_get places i ≡ found → is_some (shown_in ks (joined found)) ≡ is_live_place (joined found)
  place_is i None there = refl
  place_is i (Some None) there = refl
  place_is i (Some (Some p)) there = let old = kept.placed i (Some p) there in live_some p.live (text_in ks p.entry) (ap is_some old.is_there)

  -- The place of a number is live just if the number is shown.
  pub live-is : (n : ℕ) → is_some (text_of (live a.entries) n) ≡ live_at places n
  live-is n = ap is_some (sym (shown_is config ks places index end_ a is kept ks places n (place_in places n) refl refl refl)) ∙ by n where
    by : (m : ℕ) → is_some (shown_in ks (place_in places m)) ≡ live_at places m
    by zero = refl
    by (suc i) = place_is i (slice_get places i) refl

  no_text : (found : Option (List ℕ)) → is_some found ≡ false → found ≡ None
  no_text None none = refl
  no_text (Some text) none = absurd (cc)

  none-is : (n : ℕ) → live_at places n ≡ false → text_of (live a.entries) n ≡ None
  none-is n hidden = no_text (text_of (live a.entries) n) (live-is n ∙ hidden)

  pub least-is : (held : List (Option KeptPlace)) (n : ℕ) (found : Option ℕ) → held ≡ places → IsLeastAt held n found → IsLeastLive (live a.entries) n found
  least-is held n found held_is least = by found (subst (λ (l : List (Option KeptPlace)). IsLeastAt l n found) held_is least) where
    by : (f : Option ℕ) → IsLeastAt places n f → IsLeastLive (live a.entries) n f
    by None none = λ m at_least. none-is m (none m at_least)
    by (Some m) least = (least.0, live-is m ∙ least.1, λ k at_least below. none-is k (least.2 k at_least below))

  pub greatest-is : (held : List (Option KeptPlace)) (n : ℕ) (found : Option ℕ) → held ≡ places → IsGreatestAt held n found → IsGreatestLive (live a.entries) n found
  greatest-is held n found held_is greatest = by found (subst (λ (l : List (Option KeptPlace)). IsGreatestAt l n found) held_is greatest) where
    by : (f : Option ℕ) → IsGreatestAt places n f → IsGreatestLive (live a.entries) n f
    by None none = λ m at_most. none-is m (none m at_most)
    by (Some m) greatest = (greatest.0, live-is m ∙ greatest.1, λ k above at_most. none-is k (greatest.2 k above at_most))

  pub count-is : (held : List (Option KeptPlace)) (low high count : ℕ) → held ≡ places → count ≡ count_from 1 low high held → count ≡ live_between (live a.entries) low high
  count-is held low high count held_is count_is =
      count_is
      ∙ ap (count_from 1 low high) held_is
      ∙ sym (counted-places 1 places (live a.entries) low high (subst (λ (b : Archive). Ascend 1 (live b.entries)) is (live-ascend 1 0 (entries_of ks) kept.order)) (λ i. live-is (1 + i) ∙ next i))
    where
      next : (i : ℕ) → live_at places (1 + i) ≡ is_live_place (joined (slice_get places i))
      next i = let same : 1 + i ≡ suc i = omega arith in ap (live_at places) same
