-- How many entries a valid archive has.
use Rattle.std.proofs.Common.{◌≡◌, ◌+◌, ◌*◌, ◌<◌, ◌≤◌, ◌^◌, ◌==◌, ℕ, Bool, true, false, if◌then◌else◌, List, [], ◌∷◌, ◌++◌, length, Option, Some, None, is_some, slice_get, get_or, ◌⊎◌, inl, inr, sym, ap, ◌∙◌, subst, arith, length-append, append-nil, append_assoc}
use Rattle.std.specs.List.{AllByRecursion}
use Rattle.git_objects.specs.declared.entry_kind.EntryKind.{EntryKind}
use Rattle.git_objects.specs.declared.entry_kind.EntryKind.TheVariants.{Message, Deletion}
use Rattle.arch_base.specs.declared.ids.Form.{Form}
use Rattle.arch_model.specs.Archives.{Entry, Archive, message, deletion, live, messages, text_of}
use Rattle.arch_model.specs.Validity.{AtEachPlace, EndsLive, IsArchive}
use Rattle.arch_model.proofs.LiveEntries.{live-message, live-deletion, messages-message, messages-deletion, messages-all, without}
use Rattle.arch_model.proofs.Shelving.{length-lines_after}
use Rattle.arch_model.specs.Shelves.{lines_after, line_at}
use Rattle.arch_model.specs.declared.line.EntryLine.{EntryLine}
use Rattle.std.proofs.lemmas.Option.{slice_get_within, slice_get_cases}
use Rattle.arch_model.proofs.Purging.{Climbs, messages_climb}

-- No more entries are left without a number.
fewer_step : (t : Bool) (e : Entry) (xs ys : List Entry) → length ys ≤ length xs → length (if t then ys else e ∷ ys) ≤ length xs + 1
fewer_step true e xs ys few = omega (arith, few)
fewer_step false e xs ys few = omega (arith, few)

without_few : (n : ℕ) (es : List Entry) → length (without n es) ≤ length es
without_few n [] = omega arith
without_few n (e ∷ es) = let few = fewer_step (e.number == n) e es (without n es) (without_few n es) in omega (arith, few)

-- Without a number that is there, at least one is gone.
drop_step : (t : Bool) (n : ℕ) (text : List ℕ) (e : Entry) (es ys : List Entry) → length ys ≤ length es → (text_of es n ≡ Some text → length ys + 1 ≤ length es)
    → (if t then Some e.text else text_of es n) ≡ Some text → length (if t then ys else e ∷ ys) + 1 ≤ length es + 1
drop_step true n text e es ys few rest is = omega (arith, few)
drop_step false n text e es ys few rest is = let more = rest is in omega (arith, more)

without_drops : (n : ℕ) (es : List Entry) (text : List ℕ) → text_of es n ≡ Some text → length (without n es) + 1 ≤ length es
without_drops n [] text is = absurd (cc)
without_drops n (e ∷ es) text is = let less = drop_step (e.number == n) n text e es (without n es) (without_few n es) (without_drops n es text) is in omega (arith, less)

-- Entries and live entries are no more than twice the messages.
abbrev AreFew : List Entry → Type 0
AreFew es = length es + length (live es) ≤ 2 * length (messages es)

few_step : (k : EntryKind) (number epoch : ℕ) (text : List ℕ) (moment : ℕ) (es : List Entry)
    → EndsLive k es (record { kind = k; number = number; epoch = epoch; text = text; moment = moment }) → AreFew es
    → AreFew (es ++ record { kind = k; number = number; epoch = epoch; text = text; moment = moment } ∷ [])
few_step Message number epoch text moment es ends few =
    let new : Entry = message number epoch text moment in
    rw (live-message es number epoch text moment) (rw (messages-message es number epoch text moment)
    (let a = length-append es (new ∷ []) in let b = length-append (live es) (new ∷ []) in let c = length-append (messages es) (new ∷ []) in omega (arith, few, a, b, c)))
few_step Deletion number epoch text moment es ends few =
    let new : Entry = deletion number epoch text moment in
    let less = without_drops number (live es) text ends in
    rw (live-deletion es number epoch text moment) (rw (messages-deletion es number epoch text moment)
    (let a = length-append es (new ∷ []) in omega (arith, few, a, less)))

few_from : (before es : List Entry) → AtEachPlace (λ (past : List Entry) (e : Entry). EndsLive e.kind past e) before es → AreFew before → AreFew (before ++ es)
few_from before [] all few = subst AreFew (sym (append-nil before)) few
few_from before (e ∷ es) all few =
    subst AreFew (append_assoc before (e ∷ []) es) (few_from (before ++ e ∷ []) es all.1 (few_step e.kind e.number e.epoch e.text e.moment before all.0 few))

-- Entries whose numbers rise are no more than the range has.
climb_count : (low high : ℕ) (es : List Entry) → low ≤ high → Climbs low es → AllByRecursion (λ (e : Entry). e.number < high) es → low + length es ≤ high
climb_count low high [] least climbs below = omega (arith, least)
climb_count low high (e ∷ es) least climbs below =
    let from : low ≤ e.number = climbs.0 in
    let at : e.number < high = below.0 in
    let rest = climb_count (e.number + 1) high es (omega (arith, at)) climbs.1 below.1 in omega (arith, from, rest)

-- A valid archive has few entries.
pub few_entries : (a : Archive) → IsArchive a → length a.entries < 2 ^ 64
few_entries a valid =
    let all = few_from [] a.entries valid.ends (omega arith) in
    let count = climb_count 1 a.next (messages a.entries) valid.next_least (messages_climb 1 0 a.entries valid.order) (messages-all (λ (e : Entry). e.number < a.next) a.entries valid.below) in
    let most = valid.next_most in
    omega (arith, all, count, most)

-- There is a line for each entry, and none after them.
pub line_some : (form : Form) (es : List Entry) (i : ℕ) (found : Option EntryLine) → found ≡ line_at form es i → is_some found ≡ true → i + 1 ≤ length es
line_some form es i None is some = absurd (cc)
line_some form es i (Some line) is some =
    let within = slice_get_within (lines_after form [] es) i line (sym is) in
    let same = length-lines_after form [] es in
    omega (arith, within, same)

pub line_none : (form : Form) (es : List Entry) (i : ℕ) (found : Option EntryLine) → found ≡ line_at form es i → is_some found ≡ false → length es ≤ i
line_none form es i found is none = by (slice_get_cases (lines_after form [] es) i).1 where
  by : ((x : EntryLine) × (i < length (lines_after form [] es)) × (slice_get (lines_after form [] es) i ≡ Some x) × (get_or (lines_after form [] es) i x ≡ x))
      ⊎ ((length (lines_after form [] es) ≤ i) × (slice_get (lines_after form [] es) i ≡ None)) → length es ≤ i
  by (inl more) = absurd (let yes : is_some found ≡ true = ap (λ (o : Option EntryLine). is_some o) (is ∙ more.2) in let wrong : true ≡ false = sym yes ∙ none in cc)
  by (inr past) = let same = length-lines_after form [] es in let low = past.0 in omega (arith, low, same)
