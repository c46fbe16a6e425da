-- The messages of a store by their numbers: the places that are found, and their texts.
use Rattle.std.specs.Prelude.{◌≡◌, ◌≢◌, ◌⊎◌, ◌+◌, ◌<◌, ◌≤◌, ◌==◌, ◌&&◌, ◌||◌, ℕ, zero, suc, Bool, true, false, List, [], ◌∷◌, length, get_or, slice_get, Option, Some, None, Result, Ok, Err, is_some, refl}
use Rattle.std.specs.List.Sorted.{IsPartitionPoint}
use Rattle.std.proofs.Common.{◌∙◌, sym, ap, subst, inl, inr, arith, ltb, ltb-true, ltb-false}
use Rattle.std.proofs.lemmas.Bool.Decides.{nat_tests}
use Rattle.std.proofs.lemmas.Option.{slice_get_within, slice_get-get_or, same_Some}
use Rattle.disk_model.specs.Disk.{Content, WhereTold}
use Rattle.arch_model.specs.Archives.{Entry, Archive, is_message, live, messages, text_of}
use Rattle.arch_model.specs.Shelves.{AppendsTo}
use Rattle.arch_model.specs.Standing.{GivesTextIn, KeepsUnlessFound}
use Rattle.arch_model.proofs.Shelving.{appends-none}
use Rattle.arch_model.specs.declared.text_refusal.TextRefusal.{TextRefusal}
use Rattle.arch_model.specs.declared.text_refusal.TextRefusal.TheVariants.{DiskFault, Damaged, NoMemory}
use Rattle.store_finding.specs.declared.entries.StoredEntry.{StoredEntry}
use Rattle.epoch_store.specs.Reads.{GivesText, FindsText, GivesTextOf, text_if, IsEpochFound}
use Rattle.store_finding.specs.Kept.{StoreState, KeepsArchive, stored_after}
use Rattle.epoch_store.specs.Commands.{live_kept}
use Rattle.archive_core.specs.Numbers.{has_live, IsMessageAt, IsLiveAt, GivesKept, GivesTextKept, TellsOther}
use Rattle.archive_core.specs.Placing.{message_places, PlacesFrom, PlacesRise, live_place, IsPlaceOfNumber}
use Rattle.archive_core.specs.declared.placing.MessagePlace.{MessagePlace}
use Rattle.archive_core.proofs.Places.{places-rise, places-low, places-one, places-tell, live-places, message-place}
use Rattle.archive_core.proofs.ByBlob.{message-of}
use Rattle.archive_core.proofs.Stored.{has_live-is, kept-at, shown-at, contains-number}

not_true : (t : Bool) → (t ≡ true → ⊥) → t ≡ false
not_true true never = absurd (never refl)
not_true false never = refl

-- The item at an index.
got : (xs : List MessagePlace) (i : ℕ) (d p : MessagePlace) → slice_get xs i ≡ Some p → get_or xs i d ≡ p
got xs i d p is = same_Some (get_or xs i d) p (sym (slice_get-get_or xs i d (slice_get_within xs i p is)) ∙ is)

-- The place that is read at an index is the one that was found there.
pub place-is : (items seen : List MessagePlace) (i : ℕ) (p r : MessagePlace) → seen ≡ items → slice_get seen i ≡ Some p → r ≡ get_or items i r → r ≡ p
place-is items seen i p r same there read = read ∙ ap (λ (l : List MessagePlace). get_or l i r) (sym same) ∙ got seen i r p there

-- An index is before another or not.
before_or_not : (j i : ℕ) → (j < i) ⊎ (i ≤ j)
before_or_not j zero = inr (omega arith)
before_or_not zero (suc i) = inl (omega arith)
before_or_not (suc j) (suc i) = elim (before_or_not j i) [ inl less ↦ inl (omega (arith, less)) | inr most ↦ inr (omega (arith, most)) ]

-- A later place has a greater number.
rise_at : (number : ℕ) (xs : List MessagePlace) (i j : ℕ) (p q : MessagePlace) → PlacesFrom number xs → i < j → slice_get xs i ≡ Some p → slice_get xs j ≡ Some q → p.number < q.number
rise_at number [] i j p q from less here there = absurd (cc)
rise_at number (x ∷ xs) i zero p q from less here there = absurd (omega (arith, less))
rise_at number (x ∷ xs) zero (suc j) p q from less here there =
    let same : x.number ≡ p.number = ap (λ (r : MessagePlace). r.number) (same_Some x p here) in
    let above : x.number + 1 ≤ q.number = (places-one (x.number + 1) xs j q from.1 there).0 in
    omega (arith, same, above)
rise_at number (x ∷ xs) (suc i) (suc j) p q from less here there = rise_at (x.number + 1) xs i j p q from.1 (omega (arith, less)) here there

-- Before an index the numbers are below n, and from it on they are not.
abbrev pub IsCountBelow : List MessagePlace → ℕ → ℕ → Type 0
IsCountBelow xs n count = (index : ℕ) (p : MessagePlace) → slice_get xs index ≡ Some p → (index < count → p.number < n) × (count ≤ index → n ≤ p.number)

pub count-is : (xs : List MessagePlace) (n i : ℕ) → IsPartitionPoint (λ (p : MessagePlace). ltb p.number n ≡ true) (λ (p : MessagePlace). ltb p.number n ≡ false) xs i → IsCountBelow xs n i
count-is xs n i point place p is =
    let at = ap (λ (q : MessagePlace). q.number) (got xs place p p is) in
    let inside = slice_get_within xs place p is in (
      λ less. (let low = ltb-true (get_or xs place p).number n (point.0 place p (omega arith) less) in omega (arith, low, at)),
      λ most. (let high = ltb-false (get_or xs place p).number n (point.1 place p most inside) in omega (arith, high, at)),
    )

-- Where a live place has a number.
pub record LiveAt (xs : List MessagePlace) (n : ℕ) : Type 0 where
  pub index : ℕ
  pub place : MessagePlace
  pub there : slice_get xs index ≡ Some place
  pub live_is : place.live ≡ true
  pub number_is : place.number ≡ n

live_or : (live t rest : Bool) (p : MessagePlace) (ps : List MessagePlace) (n : ℕ) → p.live ≡ live → (p.number == n) ≡ t → (rest ≡ true → LiveAt ps n) → (live && t || rest) ≡ true → LiveAt (p ∷ ps) n
live_or true true rest p ps n live_is test more has = let same : p.number ≡ n = grind (arith, nat_tests, test) in record { index = 0; place = p; there = refl; live_is = live_is; number_is = same }
live_or true false rest p ps n live_is test more has = let at = more has in record { index = suc at.index; place = at.place; there = at.there; live_is = at.live_is; number_is = at.number_is }
live_or false t rest p ps n live_is test more has = let at = more has in record { index = suc at.index; place = at.place; there = at.there; live_is = at.live_is; number_is = at.number_is }

pub live-at : (xs : List MessagePlace) (n : ℕ) → live_place xs n ≡ true → LiveAt xs n
live-at [] n has = absurd (cc)
live-at (p ∷ ps) n has = live_or p.live (p.number == n) (live_place ps n) p ps n refl refl (λ more. live-at ps n more) has

or_true : (t rest : Bool) → rest ≡ true → (t || rest) ≡ true
or_true true rest is = refl
or_true false rest is = is

here_true : (live t rest : Bool) → live ≡ true → t ≡ true → (live && t || rest) ≡ true
here_true true true rest one two = refl
here_true true false rest one two = absurd (cc)
here_true false t rest one two = absurd (cc)

-- The number of a live place is live.
pub place-live : (xs : List MessagePlace) (i : ℕ) (p : MessagePlace) → slice_get xs i ≡ Some p → p.live ≡ true → live_place xs p.number ≡ true
place-live [] i p there live = absurd (cc)
place-live (x ∷ xs) zero p there live =
    let same : x ≡ p = same_Some x p there in
    let itself : (p.number == p.number) ≡ true = grind (arith, nat_tests) in
    here_true x.live (x.number == p.number) (live_place xs p.number) (ap (λ (r : MessagePlace). r.live) same ∙ live) (ap (λ (r : MessagePlace). r.number == p.number) same ∙ itself)
place-live (x ∷ xs) (suc i) p there live = or_true (x.live && x.number == p.number) (live_place xs p.number) (place-live xs i p there live)

-- A number that isn't found by a search has no place.
pub none-past : (xs : List MessagePlace) (n i : ℕ) → (PlacesRise xs → IsCountBelow xs n i) → length xs ≤ i → PlacesRise xs → (k : ℕ) (q : MessagePlace) → slice_get xs k ≡ Some q → q.number ≢ n
none-past xs n i count whole rise k q there same =
    let inside : k < length xs = slice_get_within xs k q there in
    let low : q.number < n = (count rise k q there).0 (omega (arith, inside, whole)) in
    omega (arith, low, same)

pub none-other : (xs : List MessagePlace) (n i : ℕ) (p : MessagePlace) → (PlacesRise xs → IsCountBelow xs n i) → slice_get xs i ≡ Some p → p.number ≢ n → PlacesRise xs → (k : ℕ) (q : MessagePlace) → slice_get xs k ≡ Some q → q.number ≢ n
none-other xs n i p count here other rise k q there same = elim (before_or_not k i) [
  | inl less ↦ (let low : q.number < n = (count rise k q there).0 less in omega (arith, low, same))
  | inr most ↦ after most
]
  where
    after : i ≤ k → ⊥
    after most = elim (before_or_not i k) [
      | inl less ↦ (let high : n ≤ p.number = (count rise i p here).1 (omega arith) in let up : p.number < q.number = rise_at 0 xs i k p q rise less here there in omega (arith, high, up, same))
      | inr again ↦ (let at_is : k ≡ i = omega (arith, most, again) in other (ap (λ (r : MessagePlace). r.number) (same_Some p q (sym here ∙ ap (slice_get xs) (sym at_is) ∙ there)) ∙ same))
    ]

-- What places tell of the archive that a store keeps.
module _ (v : StoreState) (places : List MessagePlace) (placed : places ≡ message_places 0 v.entries) where
  pub live-known : (n : ℕ) → live_place places n ≡ has_live v.entries n
  live-known n = ap (λ (ps : List MessagePlace). live_place ps n) placed ∙ live-places 0 v.entries n

  pub message-found : (at n : ℕ) (p : MessagePlace) → slice_get places at ≡ Some p → p.number ≡ n → IsMessageAt v.entries n p.entry
  message-found at n p there same =
      let told = places-tell 0 v.entries at p (ap (λ (ps : List MessagePlace). slice_get ps at) (sym placed) ∙ there) in
      let index_is : p.entry ≡ told.at = (let is : p.entry ≡ 0 + told.at = told.entry_is in omega (arith, is)) in
      record { entry = told.entry; there = ap (slice_get v.entries) index_is ∙ told.there; number_is = told.number_is ∙ same; is_one = told.is_one }

  pub live-found : (at n : ℕ) (p : MessagePlace) → slice_get places at ≡ Some p → p.number ≡ n → p.live ≡ true → IsLiveAt v.entries n p.entry
  unfolding message-found
  live-found at n p there same live =
      let told = places-tell 0 v.entries at p (ap (λ (ps : List MessagePlace). slice_get ps at) (sym placed) ∙ there) in
      record { message = message-found at n p there same; is_live = told.is_live live }

  -- A number with a live place is live, and where numbers rise one without isn't.
  pub found-kept : (at n : ℕ) (p : MessagePlace) → slice_get places at ≡ Some p → p.number ≡ n → p.live ≡ true → has_live v.entries n ≡ true
  found-kept at n p there same live = sym (live-known n) ∙ subst (λ (m : ℕ). live_place places m ≡ true) same (place-live places at p there live)

  module _ (rise : PlacesRise places) where
    pub unfound-kept : (n : ℕ) → IsPlaceOfNumber places n None → has_live v.entries n ≡ false
    unfound-kept n none = sym (live-known n) ∙ not_true (live_place places n) (λ has. let at = live-at places n has in none rise at.index at.place at.there at.number_is)

    pub unlive-kept : (at n : ℕ) (p : MessagePlace) → slice_get places at ≡ Some p → p.number ≡ n → p.live ≡ false → has_live v.entries n ≡ false
    unlive-kept at n p there same dead = sym (live-known n) ∙ subst (λ (m : ℕ). live_place places m ≡ false) same ((places-one 0 places at p rise there).1 ∙ dead)

  module _ (a : Archive) (keeps : KeepsArchive v a) where
    pub rises : PlacesRise places
    rises = subst PlacesRise (sym (placed ∙ ap (message_places 0) keeps.kept)) (places-low 0 1 (message_places 0 (stored_after a.config.form [] a.entries)) (omega arith) (places-rise a.config.form [] a.entries 0 1 0 keeps.valid.order))

    -- A number has a live place just if it is shown.
    pub live-shown : (n : ℕ) → live_place places n ≡ is_some (text_of (live a.entries) n)
    live-shown n = live-known n ∙ ap (λ (es : List StoredEntry). has_live es n) keeps.kept ∙ has_live-is a.config.form a.entries n

    no_text : (found : Option (List ℕ)) → is_some found ≡ false → found ≡ None
    no_text None lacks = refl
    no_text (Some text) lacks = absurd (cc)

    -- The number that isn't found, or whose place isn't live, isn't shown.
    pub unfound : (n : ℕ) → IsPlaceOfNumber places n None → is_some (text_of (live a.entries) n) ≡ false
    unfound n none = sym (live-shown n) ∙ not_true (live_place places n) (λ has. let at = live-at places n has in none rises at.index at.place at.there at.number_is)

    -- Nor is it that of a message.
    pub unsaid : (n : ℕ) → IsPlaceOfNumber places n None → is_some (text_of (messages a.entries) n) ≡ false
    unsaid n none = by (text_of (messages a.entries) n) refl where
      by : (o : Option (List ℕ)) → text_of (messages a.entries) n ≡ o → is_some o ≡ false
      by None is = refl
      by (Some text) is =
          let at = message-place a.config.form [] a.entries 0 n text is in
          absurd (none rises at.index at.place (ap (λ (ps : List MessagePlace). slice_get ps at.index) (placed ∙ ap (message_places 0) keeps.kept) ∙ at.there) at.number_is)

    -- The number of a message is that of an entry that was delivered.
    pub said : (n i : ℕ) → IsMessageAt v.entries n i → is_some (text_of (messages a.entries) n) ≡ true
    said n i at = ap is_some (message-of v a n i keeps at).once

    pub unlive : (at n : ℕ) (p : MessagePlace) → slice_get places at ≡ Some p → p.number ≡ n → p.live ≡ false → is_some (text_of (live a.entries) n) ≡ false
    unlive at n p there same dead = sym (live-shown n) ∙ subst (λ (m : ℕ). live_place places m ≡ false) same ((places-one 0 places at p rises there).1 ∙ dead)

    pub shown-live : (at n : ℕ) (p : MessagePlace) → slice_get places at ≡ Some p → p.number ≡ n → p.live ≡ true → is_some (text_of (live a.entries) n) ≡ true
    shown-live at n p there same live = sym (live-shown n) ∙ subst (λ (m : ℕ). live_place places m ≡ true) same (place-live places at p there live)

-- The index of a message is that of an entry.
pub inside-message : (v w : StoreState) (n i : ℕ) → w ≡ v → IsMessageAt v.entries n i → i < length w.entries
inside-message v w n i same at = subst (λ (u : StoreState). i < length u.entries) (sym same) (entry_within v.entries i at.entry at.there) where
  entry_within : (xs : List StoredEntry) (k : ℕ) (x : StoredEntry) → slice_get xs k ≡ Some x → k < length xs
  entry_within xs k x there = slice_get_within xs k x there

-- The text of the entry that is a live message is the text of its number.
module _ (v : StoreState) (a : Archive) (keeps : KeepsArchive v a) (n i : ℕ) (at : IsLiveAt v.entries n i) where
  pub entry-text : (text : List ℕ) → text_if (slice_get a.entries i) ≡ Some text → text_of (live a.entries) n ≡ Some text
  entry-text text read =
      let found = kept-at a.config.form [] a.entries i at.message.entry (ap (λ (es : List StoredEntry). slice_get es i) (sym keeps.kept) ∙ at.message.there) in
      let e : Entry = found.entry in
      let number_is : e.number ≡ n = ap (λ (s : StoredEntry). s.number) (sym found.kept.1) ∙ at.message.number_is in
      let is_one : is_message e.kind ≡ true = ap (λ (s : StoredEntry). is_message s.seen.kind) (sym found.kept.1) ∙ at.message.is_one in
      let has : has_live v.entries n ≡ true = subst (λ (m : ℕ). has_live v.entries m ≡ true) at.message.number_is (contains-number (live_kept v.entries) at.message.entry at.is_live) in
      let some : is_some (text_of (live a.entries) n) ≡ true = sym (ap (λ (es : List StoredEntry). has_live es n) keeps.kept ∙ has_live-is a.config.form a.entries n) ∙ has in
      let shown = shown-at a.entries 0 i e keeps.valid.order found.there is_one (subst (λ (m : ℕ). is_some (text_of (live a.entries) m) ≡ true) (sym number_is) some) in
      subst (λ (m : ℕ). text_of (live a.entries) m ≡ Some e.text) number_is shown ∙ sym (ap text_if found.there) ∙ read

  pub text-gives : (old new : List ℕ) (r : Result Unit TextRefusal) → GivesTextOf a i old new r → GivesTextIn (live a.entries) n old new r
  text-gives old new (Ok done) given = (given.0, entry-text given.0 given.1, given.2)
  text-gives old new (Err (Damaged named found)) given = given
  text-gives old new (Err DiskFault) given = tt
  text-gives old new (Err NoMemory) given = tt

-- The result by what is kept of the number's entry.
pub text-kept : (v : StoreState) (k : Option Content) (n i : ℕ) (old new : List ℕ) (r : Result Unit TextRefusal) → IsMessageAt v.entries n i → ((s : StoredEntry) → slice_get v.entries i ≡ Some s → GivesText s old new r)
    → ((s : StoredEntry) → slice_get v.entries i ≡ Some s → WhereTold (FindsText v.root s old new r) k) → GivesTextKept v k n old new r
text-kept v k n i old new r at given found = record { index = i; entry = at.entry; at = at.there; met = at.number_is; gives = given at.entry at.there; finds = found at.entry at.there }

-- If bytes with another id were found, the two ids differ.
pub tells-other : (meets : StoredEntry → Type 0) (v : StoreState) (k : Option Content) (old new : List ℕ) (r : Result Unit TextRefusal) → GivesKept meets v k old new r → TellsOther r
tells-other meets v k old new (Ok done) kept = tt
tells-other meets v k old new (Err (Damaged named found)) kept = kept.gives.2
tells-other meets v k old new (Err DiskFault) kept = tt
tells-other meets v k old new (Err NoMemory) kept = tt

-- A text was appended, or nothing was.
pub kept-appends : (meets : StoredEntry → Type 0) (v : StoreState) (k : Option Content) (old new : List ℕ) (r : Result Unit TextRefusal) → GivesKept meets v k old new r → AppendsTo old new
kept-appends meets v k old new (Ok done) given = (given.gives.0, given.gives.2)
kept-appends meets v k old new (Err DiskFault) given = appends-none old new given.gives
kept-appends meets v k old new (Err (Damaged named found)) given = appends-none old new given.gives.0
kept-appends meets v k old new (Err NoMemory) given = appends-none old new given.gives

-- The bytes of an epoch were appended, or nothing was.
pub epoch_appends : (v : StoreState) (e : ℕ) (old new : List ℕ) (r : Result Bool TextRefusal) → IsEpochFound v.root e old new r → KeepsUnlessFound old new r → AppendsTo old new
epoch_appends v e old new (Ok true) found kept = (found.0, found.3)
epoch_appends v e old new (Ok false) found kept = appends-none old new kept
epoch_appends v e old new (Err refused) found kept = appends-none old new kept
