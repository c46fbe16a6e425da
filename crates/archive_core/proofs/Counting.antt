-- How many live messages an archive has.
use Rattle.std.specs.Prelude.{◌≡◌, ◌+◌, ◌<◌, ◌≤◌, ◌&&◌, ℕ, Bool, true, false, not, nat_le, List, [], ◌∷◌, length, min, count_by, if◌then◌else◌, refl}
use Rattle.std.specs.List.{AllByRecursion, filter}
use Rattle.std.proofs.Common.{◌∙◌, sym, ap, cond, arith}
use Rattle.std.proofs.lemmas.Bool.Decides.{nat_tests}
use Rattle.std.proofs.lemmas.List.Recursion.{is_count_by}
use Rattle.arch_model.specs.Archives.{Entry, Archive, is_message, live}
use Rattle.arch_model.specs.Shelves.{is_between, live_between}
use Rattle.arch_model.specs.Validity.{IsArchive}
use Rattle.arch_model.proofs.LiveEntries.{live-all}
use Rattle.arch_judge.proofs.Endings.{Ascend, live-ascend}
use Rattle.store_finding.specs.declared.entries.StoredEntry.{StoredEntry}
use Rattle.arch_base.specs.declared.ids.Form.{Form}
use Rattle.store_finding.specs.Kept.{StoreState, KeepsArchive, stored_after}
use Rattle.epoch_store.specs.Commands.{live_kept, is_ended_in}
use Rattle.archive_core.specs.Placing.{message_places}
use Rattle.archive_core.specs.declared.placing.MessagePlace.{MessagePlace}
use Rattle.archive_core.proofs.Places.{place_of}
use Rattle.archive_core.proofs.Stored.{AreKeptOf, live-kept}

-- Entries whose numbers rise from one on and stay below another are at most as many as are between.
few : (number next : ℕ) (es : List Entry) → number ≤ next → Ascend number es → AllByRecursion (λ (e : Entry). e.number < next) es → number + length es ≤ next
few number next [] low rise below = omega (arith, low)
few number next (e ∷ es) low rise below =
    let first : number ≤ e.number = rise.0 in
    let less : e.number < next = below.0 in
    let rest = few (e.number + 1) next es (omega (arith, less)) rise.1 below.1 in
    omega (arith, first, rest)

keep_step : (t : Bool) (e : Entry) (xs es : List Entry) → t ≡ true → length xs ≡ length es → length (if t then e ∷ xs else xs) ≡ length (e ∷ es)
keep_step true e xs es hit same = omega (arith, same)
keep_step false e xs es miss same = absurd (cc)

-- All of them lie between 0 and the greatest number of 32 bits.
all_between : (es : List Entry) (next : ℕ) → next ≤ 2147483648 → AllByRecursion (λ (e : Entry). e.number < next) es → live_between es 0 4294967295 ≡ length es
all_between [] next most below = refl
all_between (e ∷ es) next most below =
    let less : e.number < next = below.0 in
    let hit : (nat_le 0 e.number && nat_le e.number 4294967295) ≡ true = grind (arith, nat_tests, less, most) in
    keep_step (nat_le 0 e.number && nat_le e.number 4294967295) e (filter (is_between 0 4294967295) es) es hit (all_between es next most below.1)

-- There are fewer of them than numbers.
few_live : (a : Archive) → IsArchive a → 1 + length (live a.entries) ≤ a.next
few_live a valid = few 1 a.next (live a.entries) valid.next_least (live-ascend 1 0 a.entries valid.order) (live-all (λ (e : Entry). e.number < a.next) a.entries valid.below)

-- So they are counted with 32 bits.
pub counted : (a : Archive) → IsArchive a → min (live_between (live a.entries) 0 4294967295) 4294967295 ≡ length (live a.entries)
counted a valid =
    let below = live-all (λ (e : Entry). e.number < a.next) a.entries valid.below in
    let same : live_between (live a.entries) 0 4294967295 ≡ length (live a.entries) = all_between (live a.entries) a.next valid.next_most below in
    let bound : 1 + length (live a.entries) ≤ a.next = few_live a valid in
    let most : a.next ≤ 2147483648 = valid.next_most in
    omega (arith, same, bound, most)

-- How many places are those of live messages.
abbrev places_live : List MessagePlace → ℕ
places_live [] = 0
places_live (p ∷ ps) = cond p.live (1 + places_live ps) (places_live ps)

place_step : (m ended : Bool) (number index : ℕ) (e : StoredEntry) (ps : List MessagePlace) (es : List StoredEntry) → places_live ps ≡ length es → places_live (if m then place_of number index (not ended) ∷ ps else ps) ≡ length (if m && not ended then e ∷ es else es)
place_step true true number index e ps es is = is
place_step true false number index e ps es is = omega (arith, is)
place_step false ended number index e ps es is = is

-- Of the places of messages as many are live as messages are.
all_live : (index : ℕ) (es : List StoredEntry) → places_live (message_places index es) ≡ length (live_kept es)
all_live index [] = refl
all_live index (e ∷ es) = place_step (is_message e.seen.kind) (is_ended_in es e.number) e.number index e (message_places (index + 1) es) (live_kept es) (all_live (index + 1) es)

pub live-places-counted : (es : List StoredEntry) (ps : List MessagePlace) → ps ≡ message_places 0 es → count_by (λ (p : MessagePlace). p.live) ps ≡ length (live_kept es)
live-places-counted es ps is = sym (is_count_by places_live (λ (p : MessagePlace). p.live) refl (λ p rest. refl) ps) ∙ ap places_live is ∙ all_live 0 es

kept_length : (form : Form) (ss : List StoredEntry) (es : List Entry) → AreKeptOf form ss es → length ss ≡ length es
kept_length form [] [] kept = refl
kept_length form [] (e ∷ es) kept = absurd kept
kept_length form (s ∷ ss) [] kept = absurd kept
kept_length form (s ∷ ss) (e ∷ es) kept = (let rest = kept_length form ss es kept.1 in omega (arith, rest))

-- As many live entries are kept as the archive has live messages, so 32 bits count them.
pub kept-counted : (v : StoreState) (a : Archive) (count : ℕ) → KeepsArchive v a → count ≡ length (live_kept v.entries) → min count 4294967295 ≡ length (live a.entries)
kept-counted v a count keeps is =
    let same : count ≡ length (live a.entries) = is ∙ ap (λ (ss : List StoredEntry). length (live_kept ss)) keeps.kept ∙ kept_length a.config.form (live_kept (stored_after a.config.form [] a.entries)) (live a.entries) (live-kept a.config.form [] a.entries) in
    let bound : 1 + length (live a.entries) ≤ a.next = few_live a keeps.valid in
    let most : a.next ≤ 2147483648 = keeps.valid.next_most in
    omega (arith, same, bound, most)
