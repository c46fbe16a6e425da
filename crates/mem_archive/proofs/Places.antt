-- Places of numbers, and the texts that they tell.
use Rattle.std.proofs.Common.{◌⊎◌, inl, inr, ◌≡◌, ◌≢◌, ◌+◌, ◌-◌, ◌<◌, ◌≤◌, ◌==◌, ℕ, zero, suc, Bool, true, false, List, [], ◌∷◌, ◌++◌, length, get_or, slice_get, Option, Some, None, refl, sym, ap, subst, ◌∙◌, arith, if◌then◌else◌}
use Rattle.std.specs.List.{AllByRecursion}
use Rattle.std.proofs.lemmas.Bool.Decides.{nat_tests}
use Rattle.std.proofs.lemmas.Option.{slice_get-get_or, slice_get_within, same_Some}
use Rattle.arch_base.specs.declared.config.Config.{Config}
use Rattle.arch_model.specs.Archives.{Archive, Entry, message, deletion, live, messages, text_of}
use Rattle.arch_model.specs.Validity.{Rise}
use Rattle.arch_model.proofs.LiveEntries.{without, live-message, live-deletion, messages-message, messages-deletion, live-all, messages-all, text-without-own, text-without-other, live-one}
use Rattle.arch_judge.specs.declared.index.Index.{Index}
use Rattle.mem_archive.specs.Memory.{archive_of, entry_of, entries_of, joined, place_in, text_in, shown_in, once_in, IsPlace, IsKeptPlace, ArePlaces, Hides, hidden_place, IsNumberUpTo, IsKept}
use Rattle.mem_archive.specs.declared.kept.End.{End}
use Rattle.mem_archive.specs.declared.kept.Kept.{Kept}
use Rattle.mem_archive.specs.declared.kept.KeptPlace.{KeptPlace}
use Rattle.mem_archive.proofs.Lines.{entries_of-push}

skip_step : (t : Bool) (text : List ℕ) (found : Option (List ℕ)) → t ≡ false → found ≡ None → (if t then Some text else found) ≡ None
skip_step true text found never none = absurd (cc)
skip_step false text found never none = none

-- A number before the first or after the last one has no text.
pub text-out : (es : List Entry) (most n : ℕ) → AllByRecursion (IsNumberUpTo most) es → (n ≡ 0) ⊎ (most < n) → text_of es n ≡ None
text-out [] most n all out = refl
text-out (e ∷ es) most n all (inl zero_is) =
    let least : 1 ≤ e.number = all.0.0 in
    let other : (e.number == n) ≡ false = grind (arith, nat_tests, least, zero_is) in
    skip_step (e.number == n) e.text (text_of es n) other (text-out es most n all.1 (inl zero_is))
text-out (e ∷ es) most n all (inr past) =
    let high : e.number < most + 1 = all.0.1 in
    let other : (e.number == n) ≡ false = grind (arith, nat_tests, high, past) in
    skip_step (e.number == n) e.text (text_of es n) other (text-out es most n all.1 (inr past))

-- A number that has a text is one of them.
in_step : (t : Bool) (most n : ℕ) (e : Entry) (es : List Entry) (text : List ℕ) → (e.number == n) ≡ t → IsNumberUpTo most e → (text_of es n ≡ Some text → (1 ≤ n) × (n < most + 1)) → (if t then Some e.text else text_of es n) ≡ Some text → (1 ≤ n) × (n < most + 1)
in_step true most n e es text test one rest is = let same : e.number ≡ n = grind (arith, nat_tests, test) in (let least : 1 ≤ e.number = one.0 in omega (arith, same, least), let high : e.number < most + 1 = one.1 in omega (arith, same, high))
in_step false most n e es text test one rest is = rest is

pub text-in : (es : List Entry) (most n : ℕ) (text : List ℕ) → AllByRecursion (IsNumberUpTo most) es → text_of es n ≡ Some text → (1 ≤ n) × (n < most + 1)
text-in [] most n text all is = absurd (cc)
text-in (e ∷ es) most n text all is = in_step (e.number == n) most n e es text refl all.0 (λ more. text-in es most n text all.1 more) is

-- The text of another number, and of the own one, with one more entry.
last_other : (e : Entry) (n : ℕ) (t : Bool) → t ≡ false → (if t then Some e.text else None) ≡ None
last_other e n true never = absurd (cc)
last_other e n false never = refl

pub text-push-other : (es : List Entry) (e : Entry) (n : ℕ) → (e.number == n) ≡ false → text_of (es ++ e ∷ []) n ≡ text_of es n
text-push-other [] e n other = last_other e n (e.number == n) other
text-push-other (x ∷ es) e n other = ap (λ (f : Option (List ℕ)). if x.number == n then Some x.text else f) (text-push-other es e n other)

new_step : (t : Bool) (text own : List ℕ) (found all : Option (List ℕ)) → (if t then Some own else found) ≡ None → (found ≡ None → all ≡ Some text) → (if t then Some own else all) ≡ Some text
new_step true text own found all none rest = absurd (cc)
new_step false text own found all none rest = rest none

pub text-push-new : (es : List Entry) (e : Entry) (n : ℕ) → (e.number == n) ≡ true → text_of es n ≡ None → text_of (es ++ e ∷ []) n ≡ Some e.text
text-push-new [] e n same none = ap (λ (t : Bool). if t then Some e.text else None) same
text-push-new (x ∷ es) e n same none = new_step (x.number == n) e.text x.text (text_of es n) (text_of (es ++ e ∷ []) n) none (λ more. text-push-new es e n same more)

-- The text at an index stays with one more entry.
pub text_in-push : (ks : List Kept) (k : Kept) (i : ℕ) (text : List ℕ) → text_in ks i ≡ Some text → text_in (ks ++ k ∷ []) i ≡ Some text
text_in-push [] k i text is = absurd (cc)
text_in-push (x ∷ ks) k zero text is = is
text_in-push (x ∷ ks) k (suc i) text is = text_in-push ks k i text is

pub text_in-last : (ks : List Kept) (k : Kept) → text_in (ks ++ k ∷ []) (length ks) ≡ Some k.text
text_in-last [] k = refl
text_in-last (x ∷ ks) k = text_in-last ks k

-- The item at an index, with one more item: an older one, or the last.
more_step : {X : Type 0} (xs : List X) (y x q : X) (i : ℕ) → (slice_get xs i ≡ Some q) ⊎ ((i ≡ length xs) × (q ≡ x)) → (slice_get (y ∷ xs) (suc i) ≡ Some q) ⊎ ((suc i ≡ length (y ∷ xs)) × (q ≡ x))
more_step xs y x q i (inl is) = inl is
more_step xs y x q i (inr last) = inr (let at : i ≡ length xs = last.0 in omega (arith, at), last.1)

pub slice_get-push : {X : Type 0} (xs : List X) (x : X) (i : ℕ) (q : X) → slice_get (xs ++ x ∷ []) i ≡ Some q → (slice_get xs i ≡ Some q) ⊎ ((i ≡ length xs) × (q ≡ x))
slice_get-push [] x zero q is = inr (refl, cc)
slice_get-push [] x (suc i) q is = absurd (cc)
slice_get-push (y ∷ xs) x zero q is = inl is
slice_get-push (y ∷ xs) x (suc i) q is = more_step xs y x q i (slice_get-push xs x i q is)

-- A number without a message is not live.
none_live : (es : List Entry) (n : ℕ) (found : Option (List ℕ)) → Rise 1 0 es → text_of (messages es) n ≡ None → text_of (live es) n ≡ found → text_of (live es) n ≡ None
none_live es n None rise none is = is
none_live es n (Some text) rise none is = absurd (let one : text_of (messages es) n ≡ Some text = (live-one 1 0 es n text rise is).is in let wrong : None ≡ Some text = sym none ∙ one in cc)

-- With one more message.
module _ (ks : List Kept) (places : List (Option KeptPlace)) (k : Kept) (epoch moment : ℕ) (text : List ℕ) (placed : ArePlaces ks places) (numbered : AllByRecursion (IsNumberUpTo (length places)) (entries_of ks)) (is_new : entry_of k ≡ message (length places + 1) epoch text moment) where
  abbrev new : Entry
  new = message (length places + 1) epoch text moment

  more_entries : entries_of (ks ++ k ∷ []) ≡ entries_of ks ++ new ∷ []
  more_entries = entries_of-push ks k ∙ ap (λ (e : Entry). entries_of ks ++ e ∷ []) is_new

  more_live : live (entries_of (ks ++ k ∷ [])) ≡ live (entries_of ks) ++ new ∷ []
  more_live = ap live more_entries ∙ live-message (entries_of ks) (length places + 1) epoch text moment

  more_messages : messages (entries_of (ks ++ k ∷ [])) ≡ messages (entries_of ks) ++ new ∷ []
  more_messages = ap messages more_entries ∙ messages-message (entries_of ks) (length places + 1) epoch text moment

  -- The place of an older number is still right.
  older_place : (i : ℕ) (found : Option KeptPlace) → slice_get places i ≡ Some found → IsKeptPlace (ks ++ k ∷ []) (i + 1) found
  older_place i found there = by found (placed i found there) where
    other : ((length places + 1) == (i + 1)) ≡ false
    other = let within : i < length places = slice_get_within places i found there in grind (arith, nat_tests, within)

    same_once : text_of (messages (entries_of (ks ++ k ∷ []))) (i + 1) ≡ text_of (messages (entries_of ks)) (i + 1)
    same_once = ap (λ (es : List Entry). text_of es (i + 1)) more_messages ∙ text-push-other (messages (entries_of ks)) new (i + 1) other

    by : (f : Option KeptPlace) → IsKeptPlace ks (i + 1) f → IsKeptPlace (ks ++ k ∷ []) (i + 1) f
    by None none = same_once ∙ none
    by (Some q) old = record {
      text = old.text;
      is_there = text_in-push ks k q.entry old.text old.is_there;
      once = same_once ∙ old.once;
      shown = ap (λ (es : List Entry). text_of es (i + 1)) more_live ∙ text-push-other (live (entries_of ks)) new (i + 1) other ∙ old.shown;
    }

  -- The new number has its place.
  abbrev last : KeptPlace
  last = record { entry = length ks; live = true }

  new_place : IsPlace (ks ++ k ∷ []) (length places + 1) last
  new_place =
      let same : ((length places + 1) == (length places + 1)) ≡ true = grind (arith, nat_tests) in
      let past : length places < length places + 1 = omega arith in
      record {
        text = text;
        is_there = text_in-last ks k ∙ ap (λ (e : Entry). Some e.text) is_new;
        once = ap (λ (es : List Entry). text_of es (length places + 1)) more_messages
            ∙ text-push-new (messages (entries_of ks)) new (length places + 1) same (text-out (messages (entries_of ks)) (length places) (length places + 1) (messages-all (IsNumberUpTo (length places)) (entries_of ks) numbered) (inr past));
        shown = ap (λ (es : List Entry). text_of es (length places + 1)) more_live
            ∙ text-push-new (live (entries_of ks)) new (length places + 1) same (text-out (live (entries_of ks)) (length places) (length places + 1) (live-all (IsNumberUpTo (length places)) (entries_of ks) numbered) (inr past));
      }

  pub placed-message : ArePlaces (ks ++ k ∷ []) (places ++ Some last ∷ [])
  placed-message i found there = by (slice_get-push places (Some last) i found there) where
    by : (slice_get places i ≡ Some found) ⊎ ((i ≡ length places) × (found ≡ Some last)) → IsKeptPlace (ks ++ k ∷ []) (i + 1) found
    by (inl old) = older_place i found old
    by (inr at) = subst (λ (f : Option KeptPlace). IsKeptPlace (ks ++ k ∷ []) (i + 1) f) (sym at.1) (subst (λ (n : ℕ). IsPlace (ks ++ k ∷ []) (n + 1) last) (sym at.0) new_place)

-- With one more number, which has no message.
pub placed-none : (ks : List Kept) (places : List (Option KeptPlace)) → ArePlaces ks places → AllByRecursion (IsNumberUpTo (length places)) (entries_of ks) → ArePlaces ks (places ++ None ∷ [])
placed-none ks places placed numbered i found there = by (slice_get-push places None i found there) where
  by : (slice_get places i ≡ Some found) ⊎ ((i ≡ length places) × (found ≡ None)) → IsKeptPlace ks (i + 1) found
  by (inl old) = placed i found old
  by (inr at) = subst (λ (f : Option KeptPlace). IsKeptPlace ks (i + 1) f) (sym at.1) (let past : length places < i + 1 = omega (arith, at.0) in text-out (messages (entries_of ks)) (length places) (i + 1) (messages-all (IsNumberUpTo (length places)) (entries_of ks) numbered) (inr past))

-- With one more deletion.
module _ (ks : List Kept) (old_places new_places : List (Option KeptPlace)) (k : Kept) (n epoch moment : ℕ) (text : List ℕ) (placed : ArePlaces ks old_places) (least : 1 ≤ n) (hides : Hides old_places new_places (n - 1)) (is_new : entry_of k ≡ deletion n epoch text moment) where
  fewer_entries : entries_of (ks ++ k ∷ []) ≡ entries_of ks ++ deletion n epoch text moment ∷ []
  fewer_entries = entries_of-push ks k ∙ ap (λ (e : Entry). entries_of ks ++ e ∷ []) is_new

  fewer_live : live (entries_of (ks ++ k ∷ [])) ≡ without n (live (entries_of ks))
  fewer_live = ap live fewer_entries ∙ live-deletion (entries_of ks) n epoch text moment

  same_messages : messages (entries_of (ks ++ k ∷ [])) ≡ messages (entries_of ks)
  same_messages = ap messages fewer_entries ∙ messages-deletion (entries_of ks) n epoch text moment

  same_once : (i : ℕ) → text_of (messages (entries_of (ks ++ k ∷ []))) (i + 1) ≡ text_of (messages (entries_of ks)) (i + 1)
  same_once i = ap (λ (es : List Entry). text_of es (i + 1)) same_messages

  -- The place of another number is still right.
  other_place : (i : ℕ) (found : Option KeptPlace) → IsKeptPlace ks (i + 1) found → i + 1 ≢ n → IsKeptPlace (ks ++ k ∷ []) (i + 1) found
  other_place i None none apart = same_once i ∙ none
  other_place i (Some q) old apart = record {
    text = old.text;
    is_there = text_in-push ks k q.entry old.text old.is_there;
    once = same_once i ∙ old.once;
    shown = ap (λ (es : List Entry). text_of es (i + 1)) fewer_live ∙ text-without-other (live (entries_of ks)) n (i + 1) apart ∙ old.shown;
  }

  -- That of the number itself is no longer live.
  own_place : (i : ℕ) (found : Option KeptPlace) → IsKeptPlace ks (i + 1) found → i + 1 ≡ n → IsKeptPlace (ks ++ k ∷ []) (i + 1) (hidden_place found)
  own_place i None none same = same_once i ∙ none
  own_place i (Some p) old same = record {
    text = old.text;
    is_there = text_in-push ks k p.entry old.text old.is_there;
    once = same_once i ∙ old.once;
    shown = ap (λ (es : List Entry). text_of es (i + 1)) fewer_live ∙ ap (λ (m : ℕ). text_of (without n (live (entries_of ks))) m) same ∙ text-without-own (live (entries_of ks)) n;
  }

  pub placed-deletion : ArePlaces (ks ++ k ∷ []) new_places
  placed-deletion i q there = by ((i + 1) == n) refl where
    within : i < length old_places
    within = let low : i < length new_places = slice_get_within new_places i q there in let size = hides.size in omega (arith, low, size)

    by : (t : Bool) → ((i + 1) == n) ≡ t → IsKeptPlace (ks ++ k ∷ []) (i + 1) q
    by true test =
        let same : i + 1 ≡ n = grind (arith, nat_tests, test) in
        let at : i ≡ n - 1 = omega (arith, same) in
        let p : Option KeptPlace = get_or old_places i q in
        let old : slice_get old_places i ≡ Some p = slice_get-get_or old_places i q within in
        let hidden : slice_get new_places i ≡ Some (hidden_place p) = ap (slice_get new_places) at ∙ hides.here p (ap (slice_get old_places) (sym at) ∙ old) in
        subst (λ (r : Option KeptPlace). IsKeptPlace (ks ++ k ∷ []) (i + 1) r) (same_Some (hidden_place p) q (sym hidden ∙ there)) (own_place i p (placed i p old) same)
    by false test =
        let apart : i + 1 ≢ n = (λ same. (let yes : ((i + 1) == n) ≡ true = grind (arith, nat_tests, same) in let wrong : true ≡ false = sym yes ∙ test in cc)) in
        let elsewhere : i ≢ n - 1 = (λ at. apart (omega (arith, at, least))) in
        other_place i q (placed i q (sym (hides.kept i elsewhere) ∙ there)) apart

-- What a number's place tells.
module _ (config : Config) (ks : List Kept) (places : List (Option KeptPlace)) (index : Index) (end_ : End) (a : Archive) (is : archive_of config ks places ≡ a) (kept : IsKept config ks places index end_) where
  live-out : (n : ℕ) → (n ≡ 0) ⊎ (length places < n) → text_of (live (entries_of ks)) n ≡ None
  live-out n out = text-out (live (entries_of ks)) (length places) n (live-all (IsNumberUpTo (length places)) (entries_of ks) kept.numbered) out

  once-out : (n : ℕ) → (n ≡ 0) ⊎ (length places < n) → text_of (messages (entries_of ks)) n ≡ None
  once-out n out = text-out (messages (entries_of ks)) (length places) n (messages-all (IsNumberUpTo (length places)) (entries_of ks) kept.numbered) out

  live_choice : (t : Bool) (found : Option (List ℕ)) (text : List ℕ) → found ≡ Some text → (if t then found else None) ≡ (if t then Some text else None)
  live_choice true found text is = is
  live_choice false found text is = refl

  past : (ps : List (Option KeptPlace)) (j : ℕ) → slice_get ps j ≡ None → length ps ≤ j
  past [] j is = omega arith
  past (p ∷ ps) zero is = absurd (cc)
  past (p ∷ ps) (suc j) is = let rest = past ps j is in omega (arith, rest)

  shown_found : (i : ℕ) (found : Option (Option KeptPlace)) → slice_get places i ≡ found → shown_in ks (joined found) ≡ text_of (live (entries_of ks)) (i + 1)
  shown_found i None none = sym (live-out (i + 1) (inr (let high : length places ≤ i = past places i none in omega (arith, high))))
  shown_found i (Some None) there = sym (none_live (entries_of ks) (i + 1) (text_of (live (entries_of ks)) (i + 1)) kept.order (kept.placed i None there) refl)
  shown_found i (Some (Some p)) there = let old = kept.placed i (Some p) there in live_choice p.live (text_in ks p.entry) old.text old.is_there ∙ sym old.shown

  once_found : (i : ℕ) (found : Option (Option KeptPlace)) → slice_get places i ≡ found → once_in ks (joined found) ≡ text_of (messages (entries_of ks)) (i + 1)
  once_found i None none = sym (once-out (i + 1) (inr (let high : length places ≤ i = past places i none in omega (arith, high))))
  once_found i (Some None) there = sym (kept.placed i None there)
  once_found i (Some (Some p)) there = let old = kept.placed i (Some p) there in old.is_there ∙ sym old.once

  shown_at : (n : ℕ) → shown_in ks (place_in places n) ≡ text_of (live (entries_of ks)) n
  shown_at zero = sym (live-out 0 (inl refl))
  shown_at (suc i) = let same : i + 1 ≡ suc i = omega arith in shown_found i (slice_get places i) refl ∙ ap (λ (m : ℕ). text_of (live (entries_of ks)) m) same

  once_at : (n : ℕ) → once_in ks (place_in places n) ≡ text_of (messages (entries_of ks)) n
  once_at zero = sym (once-out 0 (inl refl))
  once_at (suc i) = let same : i + 1 ≡ suc i = omega arith in once_found i (slice_get places i) refl ∙ ap (λ (m : ℕ). text_of (messages (entries_of ks)) m) same

  -- The text at the place of a number is the one that is shown.
  pub shown_is : (items : List Kept) (held : List (Option KeptPlace)) (n : ℕ) (found : Option KeptPlace) → items ≡ ks → held ≡ places → found ≡ place_in held n → shown_in items found ≡ text_of (live a.entries) n
  shown_is items held n found items_are held_are found_is =
      ap (λ (l : List Kept). shown_in l found) items_are
      ∙ ap (shown_in ks) (found_is ∙ ap (λ (l : List (Option KeptPlace)). place_in l n) held_are)
      ∙ shown_at n
      ∙ ap (λ (b : Archive). text_of (live b.entries) n) is

  -- Or the one that was delivered.
  pub once_is : (items : List Kept) (held : List (Option KeptPlace)) (n : ℕ) (found : Option KeptPlace) → items ≡ ks → held ≡ places → found ≡ place_in held n → once_in items found ≡ text_of (messages a.entries) n
  once_is items held n found items_are held_are found_is =
      ap (λ (l : List Kept). once_in l found) items_are
      ∙ ap (once_in ks) (found_is ∙ ap (λ (l : List (Option KeptPlace)). place_in l n) held_are)
      ∙ once_at n
      ∙ ap (λ (b : Archive). text_of (messages b.entries) n) is
