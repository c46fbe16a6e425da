-- What is kept of entries: which of it is live, and which entry an index and a number mean.
use Rattle.std.proofs.Common.{◌≡◌, ◌<◌, ◌≤◌, ◌==◌, ◌&&◌, ◌||◌, ℕ, zero, suc, Bool, true, false, not, List, [], ◌∷◌, ◌++◌, length, slice_get, slice_index_or, Option, Some, None, is_some, refl, sym, ap, subst, ◌∙◌, arith, if◌then◌else◌}
use Rattle.std.specs.List.{Contains}
use Rattle.std.proofs.lemmas.Bool.Decides.{nat_tests}
use Rattle.std.proofs.lemmas.Option.{same_Some}
use Rattle.arch_base.specs.declared.ids.Form.{Form}
use Rattle.git_objects.specs.declared.entry_kind.EntryKind.{EntryKind}
use Rattle.git_objects.specs.declared.entry_kind.EntryKind.TheVariants.{Message, Deletion}
use Rattle.arch_model.specs.Archives.{Entry, is_message, is_ended, live, messages, text_of}
use Rattle.arch_model.specs.Validity.{NumberIsFrom, number_after, Rise}
use Rattle.arch_model.proofs.LiveEntries.{live-one}
use Rattle.store_finding.specs.declared.entries.StoredEntry.{StoredEntry}
use Rattle.epoch_store.specs.Commands.{is_ended_in, live_kept}
use Rattle.store_finding.specs.Kept.{stored_at, stored_after}
use Rattle.archive_core.specs.Numbers.{has_number, has_live}

-- What is kept of an entry, after some others, with ids of a form.
abbrev pub IsKeptOf : Form → StoredEntry → Entry → Type 0
IsKeptOf form s e = (before : List Entry) × (s ≡ stored_at form before e)

-- The same of entries, one by one.
abbrev pub AreKeptOf : Form → List StoredEntry → List Entry → Type 0
AreKeptOf form [] [] = Unit {0}
AreKeptOf form [] (e ∷ es) = ⊥
AreKeptOf form (s ∷ ss) [] = ⊥
AreKeptOf form (s ∷ ss) (e ∷ es) = IsKeptOf form s e × AreKeptOf form ss es

ended-same : (form : Form) (before es : List Entry) (n : ℕ) → is_ended_in (stored_after form before es) n ≡ is_ended es n
ended-same form before [] n = refl
ended-same form before (e ∷ es) n = ap (λ (b : Bool). (not (is_message e.kind) && e.number == n) || b) (ended-same form (before ++ e ∷ []) es n)

kept_step : (form : Form) (t u : Bool) (s : StoredEntry) (e : Entry) (ss : List StoredEntry) (es : List Entry) → t ≡ u → IsKeptOf form s e → AreKeptOf form ss es → AreKeptOf form (if t then s ∷ ss else ss) (if u then e ∷ es else es)
kept_step form true true s e ss es same one rest = (one, rest)
kept_step form true false s e ss es same one rest = absurd (cc)
kept_step form false true s e ss es same one rest = absurd (cc)
kept_step form false false s e ss es same one rest = rest

-- What is live of what is kept is what is kept of the live entries.
pub live-kept : (form : Form) (before es : List Entry) → AreKeptOf form (live_kept (stored_after form before es)) (live es)
live-kept form before [] = tt
live-kept form before (e ∷ es) =
    kept_step form (is_message e.kind && not (is_ended_in (stored_after form (before ++ e ∷ []) es) e.number)) (is_message e.kind && not (is_ended es e.number)) (stored_at form before e) e (live_kept (stored_after form (before ++ e ∷ []) es)) (live es)
    (ap (λ (b : Bool). is_message e.kind && not b) (ended-same form (before ++ e ∷ []) es e.number)) (before, refl) (live-kept form (before ++ e ∷ []) es)

-- It has the numbers of the entries.
number_step : (t : Bool) (text : List ℕ) (rest : Bool) (found : Option (List ℕ)) → rest ≡ is_some found → (t || rest) ≡ is_some (if t then Some text else found)
number_step true text rest found is = refl
number_step false text rest found is = is

pub numbers-kept : (form : Form) (ss : List StoredEntry) (es : List Entry) (n : ℕ) → AreKeptOf form ss es → has_number ss n ≡ is_some (text_of es n)
numbers-kept form [] [] n kept = refl
numbers-kept form [] (e ∷ es) n kept = absurd kept
numbers-kept form (s ∷ ss) [] n kept = absurd kept
numbers-kept form (s ∷ ss) (e ∷ es) n kept =
    ap (λ (x : StoredEntry). x.number == n || has_number ss n) kept.0.1
    ∙ number_step (e.number == n) e.text (has_number ss n) (text_of es n) (numbers-kept form ss es n kept.1)

-- A number is live in what is kept just if it is shown.
pub has_live-is : (form : Form) (es : List Entry) (n : ℕ) → has_live (stored_after form [] es) n ≡ is_some (text_of (live es) n)
has_live-is form es n = numbers-kept form (live_kept (stored_after form [] es)) (live es) n (live-kept form [] es)

-- As many are kept as there are.
pub stored-length : (form : Form) (before es : List Entry) → length (stored_after form before es) ≡ length es
stored-length form before [] = refl
stored-length form before (e ∷ es) = let rest = stored-length form (before ++ e ∷ []) es in omega (arith, rest)

-- The entry of which something is kept at an index.
pub record KeptAt (form : Form) (es : List Entry) (i : ℕ) (s : StoredEntry) : Type 0 where
  pub entry : Entry
  pub there : slice_get es i ≡ Some entry
  pub kept : IsKeptOf form s entry

pub kept-at : (form : Form) (before es : List Entry) (i : ℕ) (s : StoredEntry) → slice_get (stored_after form before es) i ≡ Some s → KeptAt form es i s
kept-at form before [] i s there = absurd (cc)
kept-at form before (e ∷ es) zero s there = record { entry = e; there = refl; kept = (before, sym (same_Some (stored_at form before e) s there)) }
kept-at form before (e ∷ es) (suc i) s there = let rest = kept-at form (before ++ e ∷ []) es i s there in record { entry = rest.entry; there = rest.there; kept = rest.kept }

-- The number of a message is that of its text.
message_here : (k : EntryKind) (e : Entry) (es : List Entry) → is_message k ≡ true → text_of (if is_message k then e ∷ messages es else messages es) e.number ≡ Some e.text
message_here Message e es one = let itself : (e.number == e.number) ≡ true = grind (arith, nat_tests) in ap (λ (t : Bool). if t then Some e.text else text_of (messages es) e.number) itself
message_here Deletion e es one = absurd (cc)

message_low : (k : EntryKind) (number own : ℕ) → is_message k ≡ true → NumberIsFrom k number own → number ≤ own
message_low Message number own one low = low
message_low Deletion number own one low = absurd (cc)

message_past : (k : EntryKind) (number n : ℕ) (e : Entry) (es : List Entry) (text : List ℕ) → NumberIsFrom k number e.number → number_after k number e.number ≤ n → text_of (messages es) n ≡ Some text
    → (number ≤ n) × (text_of (if is_message k then e ∷ messages es else messages es) n ≡ Some text)
message_past Message number n e es text low above is =
    let other : (e.number == n) ≡ false = grind (arith, nat_tests, above) in
    (omega (arith, low, above), ap (λ (t : Bool). if t then Some e.text else text_of (messages es) n) other ∙ is)
message_past Deletion number n e es text low above is = (above, is)

pub message-at : (number epoch : ℕ) (es : List Entry) (i : ℕ) (e : Entry) → Rise number epoch es → slice_get es i ≡ Some e → is_message e.kind ≡ true → (number ≤ e.number) × (text_of (messages es) e.number ≡ Some e.text)
message-at number epoch [] i e rise there one = absurd (cc)
message-at number epoch (x ∷ es) zero e rise there one =
    let same : x ≡ e = same_Some x e there in
    let is_one : is_message x.kind ≡ true = ap (λ (f : Entry). is_message f.kind) same ∙ one in
    subst (λ (f : Entry). (number ≤ f.number) × (text_of (messages (x ∷ es)) f.number ≡ Some f.text)) same (message_low x.kind number x.number is_one rise.0, message_here x.kind x es is_one)
message-at number epoch (x ∷ es) (suc i) e rise there one =
    let rest = message-at (number_after x.kind number x.number) x.epoch es i e rise.2 there one in
    message_past x.kind number e.number x es e.text rise.0 rest.0 rest.1

-- The text that is shown is that of the message with the number.
shown_step : (es : List Entry) (epoch : ℕ) (n : ℕ) (text : List ℕ) (found : Option (List ℕ)) → Rise 1 epoch es → text_of (messages es) n ≡ Some text → text_of (live es) n ≡ found → is_some found ≡ true → found ≡ Some text
shown_step es epoch n text None rise once shown some = absurd (cc)
shown_step es epoch n text (Some other) rise once shown some = sym (live-one 1 epoch es n other rise shown).is ∙ once

pub shown-at : (es : List Entry) (epoch i : ℕ) (e : Entry) → Rise 1 epoch es → slice_get es i ≡ Some e → is_message e.kind ≡ true → is_some (text_of (live es) e.number) ≡ true → text_of (live es) e.number ≡ Some e.text
shown-at es epoch i e rise there one some = shown_step es epoch e.number e.text (text_of (live es) e.number) rise (message-at 1 epoch es i e rise there one).1 refl some

-- What is among the entries that are kept has its number there.
pub contains-number : (ss : List StoredEntry) (s : StoredEntry) → Contains ss s → has_number ss s.number ≡ true
contains-number ss s has = at ss has.0 has.1 has.2 where
  or_true : (t b : Bool) → b ≡ true → (t || b) ≡ true
  or_true true b is = refl
  or_true false b is = is

  at : (l : List StoredEntry) (k : ℕ) → k < length l → slice_index_or l k s ≡ s → has_number l s.number ≡ true
  at [] k less is = absurd (omega (arith, less))
  at (x ∷ l) zero less is = let hit : (x.number == s.number) ≡ true = ap (λ (y : StoredEntry). y.number == s.number) is ∙ (let itself : (s.number == s.number) ≡ true = grind (arith, nat_tests) in itself) in ap (λ (t : Bool). t || has_number l s.number) hit
  at (x ∷ l) (suc k) less is = or_true (x.number == s.number) (has_number l s.number) (at l k (omega (arith, less)) is)

-- A number that is live is that of an entry at an index.
pub record NumberAt (ss : List StoredEntry) (n : ℕ) : Type 0 where
  pub index : ℕ
  pub entry : StoredEntry
  pub there : slice_get ss index ≡ Some entry
  pub number_is : entry.number ≡ n

later : (s : StoredEntry) (ss : List StoredEntry) (n : ℕ) → NumberAt ss n → NumberAt (s ∷ ss) n
later s ss n at = record { index = suc at.index; entry = at.entry; there = at.there; number_is = at.number_is }

here_or : (t : Bool) (s : StoredEntry) (ss : List StoredEntry) (n : ℕ) (rest : Bool) → (s.number == n) ≡ t → (rest ≡ true → NumberAt ss n) → (t || rest) ≡ true → NumberAt (s ∷ ss) n
here_or true s ss n rest test more has = let same : s.number ≡ n = grind (arith, nat_tests, test) in record { index = 0; entry = s; there = refl; number_is = same }
here_or false s ss n rest test more has = later s ss n (more has)

kept_or : (t : Bool) (s : StoredEntry) (ss ls : List StoredEntry) (n : ℕ) → (has_number ls n ≡ true → NumberAt ss n) → has_number (if t then s ∷ ls else ls) n ≡ true → NumberAt (s ∷ ss) n
kept_or true s ss ls n more has = here_or (s.number == n) s ss n (has_number ls n) refl more has
kept_or false s ss ls n more has = later s ss n (more has)

pub live-number : (ss : List StoredEntry) (n : ℕ) → has_live ss n ≡ true → NumberAt ss n
live-number [] n has = absurd (cc)
live-number (s ∷ ss) n has = kept_or (is_message s.seen.kind && not (is_ended_in ss s.number)) s ss (live_kept ss) n (λ more. live-number ss n more) has
