-- The places of messages: how they follow from entries, and what they tell of them.
use Rattle.std.proofs.Common.{◌≡◌, ◌+◌, ◌<◌, ◌≤◌, ◌==◌, ◌&&◌, ◌||◌, ℕ, zero, suc, Bool, true, false, not, List, [], ◌∷◌, ◌++◌, length, drop, reverse, slice_get, Option, Some, refl, ap, subst, ◌∙◌, arith, if◌then◌else◌}
use Rattle.std.specs.List.{AllAdjacentBelow, Contains}
use Rattle.std.specs.List.Sorted.{IsNonDecreasingBy}
use Rattle.std.specs.BTreeSet.{BTreeSet}
use Rattle.std.proofs.lemmas.Bool.Decides.{nat_tests}
use Rattle.std.proofs.lemmas.List.Sorted.{IsNonDecreasingBy-from_all_adjacent}
use Rattle.std.proofs.lemmas.Option.{same_Some}
use Rattle.git_objects.specs.declared.entry_kind.EntryKind.{EntryKind}
use Rattle.git_objects.specs.declared.entry_kind.EntryKind.TheVariants.{Message, Deletion}
use Rattle.arch_model.specs.Archives.{Entry, is_message, messages, text_of}
use Rattle.arch_model.specs.Validity.{NumberIsFrom, number_after, Rise}
use Rattle.store_finding.specs.declared.entries.StoredEntry.{StoredEntry}
use Rattle.epoch_store.specs.Commands.{is_ended_in, live_kept}
use Rattle.arch_base.specs.declared.ids.Form.{Form}
use Rattle.store_finding.specs.Kept.{stored_after}
use Rattle.archive_core.specs.Numbers.{has_number, has_live}
use Rattle.archive_core.specs.Placing.{message_places, has_ended, PlacesFrom, PlacesRise, live_place}
use Rattle.archive_core.specs.declared.placing.MessagePlace.{MessagePlace}

-- The place of a message at an index.
abbrev pub place_of : ℕ → ℕ → Bool → MessagePlace
place_of number index live = record { number = number; entry = index; live = live }

-- The places, from the last to the first, of the entries from an index on, and the numbers that these
-- end.
pub record FrontOf (entries : List StoredEntry) (index : ℕ) (places : List MessagePlace) (ended : BTreeSet ℕ) : Type 0 where
  pub places_are : places ≡ reverse (message_places index (drop index entries))
  pub ended_are : (q : ℕ) → has_ended ended q ≡ is_ended_in (drop index entries) q

-- The live places have the numbers of the live entries.
live_step : (m ended : Bool) (n number index : ℕ) (e : StoredEntry) (ps : List MessagePlace) (es : List StoredEntry) → number ≡ e.number → live_place ps n ≡ has_number es n
    → live_place (if m then place_of number index (not ended) ∷ ps else ps) n ≡ has_number (if m && not ended then e ∷ es else es) n
live_step true true n number index e ps es same is = is
live_step true false n number index e ps es same is = ap (λ (b : Bool). number == n || b) is ∙ ap (λ (m : ℕ). m == n || has_number es n) same
live_step false ended n number index e ps es same is = is

pub live-places : (index : ℕ) (es : List StoredEntry) (n : ℕ) → live_place (message_places index es) n ≡ has_live es n
live-places index [] n = refl
live-places index (e ∷ es) n = live_step (is_message e.seen.kind) (is_ended_in es e.number) n e.number index e (message_places (index + 1) es) (live_kept es) refl (live-places (index + 1) es n)

-- Numbers rise in the places of entries whose numbers rise.
rise_step : (k : EntryKind) (number own index : ℕ) (live : Bool) (ps : List MessagePlace) → NumberIsFrom k number own → PlacesFrom (number_after k number own) ps → PlacesFrom number (if is_message k then place_of own index live ∷ ps else ps)
rise_step Message number own index live ps low rest = (low, rest)
rise_step Deletion number own index live ps low rest = rest

pub places-rise : (form : Form) (before es : List Entry) (index number epoch : ℕ) → Rise number epoch es → PlacesFrom number (message_places index (stored_after form before es))
places-rise form before [] index number epoch rise = tt
places-rise form before (e ∷ es) index number epoch rise =
    rise_step e.kind number e.number index (not (is_ended_in (stored_after form (before ++ e ∷ []) es) e.number)) (message_places (index + 1) (stored_after form (before ++ e ∷ []) es)) rise.0
    (places-rise form (before ++ e ∷ []) es (index + 1) (number_after e.kind number e.number) e.epoch rise.2)

pub places-low : (low number : ℕ) (ps : List MessagePlace) → low ≤ number → PlacesFrom number ps → PlacesFrom low ps
places-low low number [] less from = tt
places-low low number (p ∷ ps) less from = (let above : number ≤ p.number = from.0 in omega (arith, less, above), from.1)

adjacent : (number : ℕ) (ps : List MessagePlace) → PlacesFrom number ps → AllAdjacentBelow (λ (x y : MessagePlace). x.number ≤ y.number) ps (length ps)
adjacent number [] from k d inside = absurd (omega (arith, inside))
adjacent number (p ∷ []) from k d inside = absurd (omega (arith, inside))
adjacent number (p ∷ (q ∷ ps)) from zero d inside = let next : p.number + 1 ≤ q.number = from.1.0 in omega (arith, next)
adjacent number (p ∷ (q ∷ ps)) from (suc k) d inside =
    let on : suc k + 1 ≡ suc (k + 1) = omega arith in
    rw on (adjacent (p.number + 1) (q ∷ ps) from.1 k d (omega (arith, inside)))

pub places-sorted : (ps : List MessagePlace) → PlacesRise ps → IsNonDecreasingBy (λ (p : MessagePlace). p.number) ps
places-sorted ps rise = IsNonDecreasingBy-from_all_adjacent (λ (p : MessagePlace). p.number) ps (adjacent 0 ps rise)

-- No place has a number below the first.
miss_step : (live t rest : Bool) → t ≡ false → rest ≡ false → (live && t || rest) ≡ false
miss_step live true rest never none = absurd (cc)
miss_step true false rest never none = none
miss_step false false rest never none = none

places-above : (n number : ℕ) (ps : List MessagePlace) → PlacesFrom number ps → n < number → live_place ps n ≡ false
places-above n number [] from less = refl
places-above n number (p ∷ ps) from less =
    let above : number ≤ p.number = from.0 in
    let other : (p.number == n) ≡ false = grind (arith, nat_tests, above, less) in
    miss_step p.live (p.number == n) (live_place ps n) other (places-above n (p.number + 1) ps from.1 (omega (arith, above, less)))

hit_step : (live t rest : Bool) → t ≡ true → rest ≡ false → (live && t || rest) ≡ live
hit_step live false rest hit none = absurd (cc)
hit_step true true rest hit none = refl
hit_step false true rest hit none = none

pass_step : (live t rest all : Bool) → t ≡ false → rest ≡ all → (live && t || rest) ≡ all
pass_step live true rest all never is = absurd (cc)
pass_step true false rest all never is = is
pass_step false false rest all never is = is

-- Where numbers rise, the place of a number tells whether it is live.
pub places-one : (number : ℕ) (ps : List MessagePlace) (i : ℕ) (p : MessagePlace) → PlacesFrom number ps → slice_get ps i ≡ Some p → (number ≤ p.number) × (live_place ps p.number ≡ p.live)
places-one number [] i p from there = absurd (cc)
places-one number (q ∷ ps) zero p from there =
    let same : q ≡ p = same_Some q p there in
    let itself : (q.number == q.number) ≡ true = grind (arith, nat_tests) in
    subst (λ (r : MessagePlace). (number ≤ r.number) × (live_place (q ∷ ps) r.number ≡ r.live)) same
    (from.0, hit_step q.live (q.number == q.number) (live_place ps q.number) itself (places-above q.number (q.number + 1) ps from.1 (omega arith)))
places-one number (q ∷ ps) (suc i) p from there =
    let rest = places-one (q.number + 1) ps i p from.1 there in
    let low : number ≤ q.number = from.0 in
    let above : q.number + 1 ≤ p.number = rest.0 in
    let other : (q.number == p.number) ≡ false = grind (arith, nat_tests, above) in
    (omega (arith, low, above), pass_step q.live (q.number == p.number) (live_place ps p.number) p.live other rest.1)

-- What the place of a message tells of its entry, which follows others.
pub record PlaceTells (index : ℕ) (es : List StoredEntry) (p : MessagePlace) : Type 0 where
  pub at : ℕ
  pub entry_is : p.entry ≡ index + at
  pub entry : StoredEntry
  pub there : slice_get es at ≡ Some entry
  pub number_is : entry.number ≡ p.number
  pub is_one : is_message entry.seen.kind ≡ true
  pub is_live : p.live ≡ true → Contains (live_kept es) entry

kept_later : (t : Bool) (e x : StoredEntry) (es : List StoredEntry) → Contains es x → Contains (if t then e ∷ es else es) x
kept_later true e x es has = (suc has.0, (let less : has.0 < length es = has.1 in omega (arith, less)), has.2)
kept_later false e x es has = has

kept_here : (m ended live : Bool) (e : StoredEntry) (es : List StoredEntry) → m ≡ true → not ended ≡ true → Contains (if m && not ended then e ∷ es else es) e
kept_here true false live e es one lives = (0, omega arith, refl)
kept_here true true live e es one lives = absurd (cc)
kept_here false ended live e es one lives = absurd (cc)

tells_later : (index : ℕ) (e : StoredEntry) (es : List StoredEntry) (p : MessagePlace) → PlaceTells (index + 1) es p → PlaceTells index (e ∷ es) p
tells_later index e es p told = record {
  at = suc told.at;
  entry_is = (let is : p.entry ≡ index + 1 + told.at = told.entry_is in omega (arith, is));
  entry = told.entry;
  there = told.there;
  number_is = told.number_is;
  is_one = told.is_one;
  is_live = λ live. kept_later (is_message e.seen.kind && not (is_ended_in es e.number)) e told.entry (live_kept es) (told.is_live live);
}

tells_here : (index : ℕ) (e : StoredEntry) (es : List StoredEntry) (p : MessagePlace) → is_message e.seen.kind ≡ true → place_of e.number index (not (is_ended_in es e.number)) ≡ p → PlaceTells index (e ∷ es) p
tells_here index e es p one is = subst (λ (r : MessagePlace). PlaceTells index (e ∷ es) r) is (record {
  at = 0;
  entry_is = omega arith;
  entry = e;
  there = refl;
  number_is = refl;
  is_one = one;
  is_live = λ live. kept_here (is_message e.seen.kind) (is_ended_in es e.number) true e (live_kept es) one live;
})

tells_step : (m : Bool) (index : ℕ) (e : StoredEntry) (es : List StoredEntry) (i : ℕ) (p : MessagePlace) → is_message e.seen.kind ≡ m → ((j : ℕ) → slice_get (message_places (index + 1) es) j ≡ Some p → PlaceTells (index + 1) es p)
    → slice_get (if m then place_of e.number index (not (is_ended_in es e.number)) ∷ message_places (index + 1) es else message_places (index + 1) es) i ≡ Some p → PlaceTells index (e ∷ es) p
tells_step true index e es zero p one rest there = tells_here index e es p one (same_Some (place_of e.number index (not (is_ended_in es e.number))) p there)
tells_step true index e es (suc i) p one rest there = tells_later index e es p (rest i there)
tells_step false index e es i p one rest there = tells_later index e es p (rest i there)

pub places-tell : (index : ℕ) (es : List StoredEntry) (i : ℕ) (p : MessagePlace) → slice_get (message_places index es) i ≡ Some p → PlaceTells index es p
places-tell index [] i p there = absurd (cc)
places-tell index (e ∷ es) i p there = tells_step (is_message e.seen.kind) index e es i p refl (λ j more. places-tell (index + 1) es j p more) there

-- A number that was delivered has a place.
pub record NumberPlace (ps : List MessagePlace) (n : ℕ) : Type 0 where
  pub index : ℕ
  pub place : MessagePlace
  pub there : slice_get ps index ≡ Some place
  pub number_is : place.number ≡ n

later_place : (p : MessagePlace) (ps : List MessagePlace) (n : ℕ) → NumberPlace ps n → NumberPlace (p ∷ ps) n
later_place p ps n at = record { index = suc at.index; place = at.place; there = at.there; number_is = at.number_is }

first_or : (t : Bool) (p : MessagePlace) (ps : List MessagePlace) (n : ℕ) (own text : List ℕ) (found : Option (List ℕ)) → (p.number == n) ≡ t → (found ≡ Some text → NumberPlace ps n) → (if t then Some own else found) ≡ Some text → NumberPlace (p ∷ ps) n
first_or true p ps n own text found test rest is = let same : p.number ≡ n = grind (arith, nat_tests, test) in record { index = 0; place = p; there = refl; number_is = same }
first_or false p ps n own text found test rest is = later_place p ps n (rest is)

place_step : (k : EntryKind) (e : Entry) (es : List Entry) (index n : ℕ) (live : Bool) (ps : List MessagePlace) (text : List ℕ) → (text_of (messages es) n ≡ Some text → NumberPlace ps n) → text_of (if is_message k then e ∷ messages es else messages es) n ≡ Some text
    → NumberPlace (if is_message k then place_of e.number index live ∷ ps else ps) n
place_step Message e es index n live ps text rest is = first_or (e.number == n) (place_of e.number index live) ps n e.text text (text_of (messages es) n) refl rest is
place_step Deletion e es index n live ps text rest is = rest is

pub message-place : (form : Form) (before es : List Entry) (index n : ℕ) (text : List ℕ) → text_of (messages es) n ≡ Some text → NumberPlace (message_places index (stored_after form before es)) n
message-place form before [] index n text is = absurd (cc)
message-place form before (e ∷ es) index n text is =
    place_step e.kind e es index n (not (is_ended_in (stored_after form (before ++ e ∷ []) es) e.number)) (message_places (index + 1) (stored_after form (before ++ e ∷ []) es)) text
    (λ more. message-place form (before ++ e ∷ []) es (index + 1) n text more) is
