-- A command leaves a valid archive valid, and the archive after it follows.
use Rattle.std.specs.Prelude.{◌≡◌, ◌≢◌, ◌+◌, ◌^◌, ◌<◌, ◌≤◌, ◌==◌, ◌||◌, ℕ, Bool, true, false, not, ◌&&◌, nat_lt, List, [], ◌∷◌, length, Option, Some, None, refl, if◌then◌else◌}
use Rattle.std.specs.List.{AllByRecursion}
use Rattle.std.specs.Str.{bytes_eq}
use Rattle.std.proofs.Common.{◌∙◌, sym, ap, arith}
use Rattle.std.proofs.lemmas.Bool.Decides.{nat_tests}
use Rattle.std.proofs.lemmas.Slice.Eq.{bytes_eq-Decides}
use Rattle.arch_base.specs.Ids.{id_eq}
use Rattle.arch_base.proofs.IdOrder.{id_eq-Decides}
use Rattle.git_objects.specs.Objects.{blob_id_of}
use Rattle.mail_reader.specs.Ids.{own_id}
use Rattle.arch_model.specs.Archives.{Entry, Archive, without_entries, owner, is_id, is_message, is_ended, live, in_epoch}
use Rattle.arch_model.specs.Delivery.{Done, last_epoch, new_epoch, collision, delivered, removed, purged, edited}
use Rattle.arch_model.specs.Epochs.{epoch_bytes}
use Rattle.arch_model.specs.Following.{Follows}
use Rattle.arch_model.specs.Laws.{TakenAreStorage, KeepsValid, CommandFollows}
use Rattle.arch_model.specs.Validity.{IsEntry, NumberIsFrom, number_after, Rise, IsArchive}
use Rattle.git_objects.specs.declared.entry_kind.EntryKind.{EntryKind}
use Rattle.git_objects.specs.declared.entry_kind.EntryKind.TheVariants.{Message, Deletion}
use Rattle.mail_reader.specs.StorageTexts.{IsStorageText}
use Rattle.arch_base.specs.Moments.{last_moment}
use Rattle.arch_base.specs.declared.ids.Form.{Form}
use Rattle.arch_model.specs.declared.command.Command.TheVariants.{Deliver, Remove, Purge, Edit}
use Rattle.arch_model.proofs.Deliveries.{Comes, Refused, Accepted, comes, Ends, Still, Ended, ends}
use Rattle.arch_model.proofs.ValidArchives.{all_weaker, not_before, Agrees, archive_grows, archive_ends}
use Rattle.arch_model.proofs.Following.{follows_itself, follows_through, follows_with_entry, follows_with_deletion, follows_without_text, number_below}
use Rattle.arch_model.proofs.Purging.{valid_without}
use Rattle.arch_model.proofs.Rewrites.{Purges, Spared, Dropped, purges, Edits, Unedited, Redelivered, edits}
use Rattle.arch_model.proofs.LiveEntries.{live-all, found-has, live-has, all-text}
use Rattle.arch_model.proofs.Owners.{bytes_eq-refl, front_free}
use Rattle.arch_model.proofs.TakenTexts.{taken}

count_step : (k : EntryKind) (ended : Bool) (low high : ℕ) (e : Entry) (es : List Entry) → low ≤ high → NumberIsFrom k low e.number → e.number < high → (number_after k low e.number ≤ high → number_after k low e.number + length (live es) ≤ high) → low + length (if is_message k && not ended then e ∷ live es else live es) ≤ high
count_step Deletion ended low high e es least first less rest = rest least
count_step Message true low high e es least first less rest = let more = rest (omega (arith, less)) in omega (arith, first, more)
count_step Message false low high e es least first less rest = let more = rest (omega (arith, less)) in omega (arith, first, more)

-- Numbers that rise are no more than the range has.
rise_count : (es : List Entry) (low epoch high : ℕ) → low ≤ high → Rise low epoch es → AllByRecursion (λ (e : Entry). e.number < high) es → low + length (live es) ≤ high
rise_count [] low epoch high least rise below = omega (arith, least)
rise_count (e ∷ es) low epoch high least rise below =
    count_step e.kind (is_ended es e.number) low high e es least rise.0 below.0 (λ within. rise_count es (number_after e.kind low e.number) e.epoch high within rise.2 below.1)

-- A valid archive has few live entries.
pub few_entries : (a : Archive) → IsArchive a → length (live a.entries) < 2 ^ 63
few_entries a valid = let count = rise_count a.entries 1 0 a.next valid.next_least valid.order valid.below in let most = valid.next_most in omega (arith, count, most)

-- An own id without an owner differs from all own ids.
pub apart_ids : (es : List Entry) (text id : List ℕ) → own_id text ≡ Some id → owner es id ≡ None → AllByRecursion (λ (e : Entry). own_id text ≢ own_id e.text) es
apart_ids [] text id own free = tt
apart_ids (e ∷ es) text id own free =
    let both = front_free e (owner es id) (is_id id (own_id e.text)) free in
    (λ same. (let yes : is_id id (own_id e.text) ≡ true = ap (is_id id) (sym same ∙ own) ∙ bytes_eq-refl id id refl in let bad : true ≡ false = sym yes ∙ both.0 in cc), apart_ids es text id own both.1)

-- A text without a collision is that of each entry with its blob id.
number_free : (n : ℕ) (rest : Option ℕ) (t : Bool) → (if t then Some n else rest) ≡ None → (t ≡ false) × (rest ≡ None)
number_free n rest true is = absurd (cc)
number_free n rest false is = (refl, is)

same_test : (b t : Bool) → (b && not t) ≡ false → b ≡ true → t ≡ true
same_test true true clash is = refl
same_test true false clash is = absurd (cc)
same_test false t clash is = absurd (cc)

pub agrees-alone : (form : Form) (es : List Entry) (text : List ℕ) → collision form es text ≡ None → Agrees form text es
agrees-alone form [] text none = tt
agrees-alone form (e ∷ es) text none =
    let blob = blob_id_of form text in
    let other = blob_id_of form e.text in
    let both = number_free e.number (collision form es text) (id_eq blob other && not (bytes_eq text e.text)) none in
    (λ same. (bytes_eq-Decides text e.text).0 (same_test (id_eq blob other) (bytes_eq text e.text) both.0 ((id_eq-Decides blob other).1 same)), agrees-alone form es text both.1)

-- The last epoch is one of the 64.
last_small : (es : List Entry) → AllByRecursion IsEntry es → last_epoch es ≤ 63
last_small [] all = omega arith
last_small (e ∷ es) all = let one : e.epoch ≤ 63 = all.0.epoch in let rest = last_small es all.1 in grind (arith, nat_tests, one, rest)

new_small : (a : Archive) → AllByRecursion IsEntry a.entries → new_epoch a ≤ 63
new_small a all = by (last_epoch a.entries) (nat_lt (length (epoch_bytes a.config.form (in_epoch a.entries (last_epoch a.entries)))) a.config.limit) (last_small a.entries all) where
  by : (last : ℕ) (t : Bool) → last ≤ 63 → (if last == 63 || t then last else last + 1) ≤ 63
  by last true small = grind (arith, nat_tests, small)
  by last false small = grind (arith, nat_tests, small)

purged_by : (a : Archive) (number : ℕ) (d : Done) → IsArchive a → Purges a number d → IsArchive d.archive
purged_by a number d valid (Spared answer other) = valid
purged_by a number d valid (Dropped text is) = valid_without a text valid

module _ (law : TakenAreStorage) where
  valid_by : (a : Archive) (bytes : List ℕ) (moment : ℕ) (d : Done) → moment ≤ last_moment → IsArchive a → Comes a bytes moment d → IsArchive d.archive
  valid_by a bytes moment d in_time valid (Refused answer other) = valid
  valid_by a bytes moment d in_time valid (Accepted text kept is takes alone room) =
      let t = taken law (live a.entries) a.config.name bytes text (few_entries a valid) valid.name is kept (own_id text) refl takes in
      let id = t.free.0 in
      let left : a.next ≤ a.config.max = grind (arith, nat_tests, room) in
      let high = valid.config.max_high in
      archive_grows a (new_epoch a) kept moment valid (omega (arith, left, high))
      (record { text = t.storage; epoch = new_small a valid.entries; moment = in_time })
      (not_before a) (apart_ids (live a.entries) kept id t.free.1 t.free.2) (agrees-alone a.config.form a.entries kept alone)

  ended_by : (a : Archive) (number moment : ℕ) (d : Done) → moment ≤ last_moment → IsArchive a → Ends a number moment d → IsArchive d.archive
  ended_by a number moment d in_time valid (Still answer other) = valid
  ended_by a number moment d in_time valid (Ended text is) =
      let has = live-has a.entries text (found-has (live a.entries) number text is) in
      let storage : AllByRecursion (λ (e : Entry). IsStorageText e.text) a.entries = all_weaker IsEntry (λ (e : Entry). IsStorageText e.text) a.entries (λ e entry. entry.text) valid.entries in
      archive_ends a number (new_epoch a) text moment valid (number_below (live a.entries) a.next number text (live-all (λ (e : Entry). e.number < a.next) a.entries valid.below) is)
      (record { text = all-text IsStorageText a.entries text storage has; epoch = new_small a valid.entries; moment = in_time })
      (not_before a) is

  edited_by : (a : Archive) (number : ℕ) (bytes : List ℕ) (moment : ℕ) (d : Done) → moment ≤ last_moment → IsArchive a → Edits a number bytes moment d → IsArchive d.archive
  edited_by a number bytes moment d in_time valid (Unedited answer other) = valid
  edited_by a number bytes moment d in_time valid (Redelivered text is accepted) =
      let rest : Archive = without_entries a text in
      valid_by rest bytes moment (delivered rest bytes moment) in_time (valid_without a text valid) (comes rest bytes moment)

  -- A command leaves a valid archive valid.
  pub keeps_valid : KeepsValid
  keeps_valid a (Deliver bytes) moment in_time valid = valid_by a bytes.now moment (delivered a bytes.now moment) in_time valid (comes a bytes.now moment)
  keeps_valid a (Remove number) moment in_time valid = ended_by a number moment (removed a number moment) in_time valid (ends a number moment)
  keeps_valid a (Purge number) moment in_time valid = purged_by a number (purged a number) valid (purges a number)
  keeps_valid a (Edit number bytes) moment in_time valid = edited_by a number bytes.now moment (edited a number bytes.now moment) in_time valid (edits a number bytes.now moment)

follows_by : (a : Archive) (bytes : List ℕ) (moment : ℕ) (d : Done) → Comes a bytes moment d → Follows a d.archive
follows_by a bytes moment d (Refused answer other) = follows_itself a
follows_by a bytes moment d (Accepted text kept is takes alone room) = follows_with_entry a (new_epoch a) kept moment

follows_ended : (a : Archive) (number moment : ℕ) (d : Done) → Ends a number moment d → Follows a d.archive
follows_ended a number moment d (Still answer other) = follows_itself a
follows_ended a number moment d (Ended text is) = follows_with_deletion a number (new_epoch a) text moment

follows_purged : (a : Archive) (number : ℕ) (d : Done) → Purges a number d → Follows a d.archive
follows_purged a number d (Spared answer other) = follows_itself a
follows_purged a number d (Dropped text is) = follows_without_text a text

follows_edited : (a : Archive) (number : ℕ) (bytes : List ℕ) (moment : ℕ) (d : Done) → Edits a number bytes moment d → Follows a d.archive
follows_edited a number bytes moment d (Unedited answer other) = follows_itself a
follows_edited a number bytes moment d (Redelivered text is accepted) =
    let rest : Archive = without_entries a text in
    follows_through a rest d.archive (follows_without_text a text) (follows_by rest bytes moment (delivered rest bytes moment) (comes rest bytes moment))

-- The archive after a command follows the one before it.
pub command_follows : CommandFollows
command_follows a (Deliver bytes) moment = follows_by a bytes.now moment (delivered a bytes.now moment) (comes a bytes.now moment)
command_follows a (Remove number) moment = follows_ended a number moment (removed a number moment) (ends a number moment)
command_follows a (Purge number) moment = follows_purged a number (purged a number) (purges a number)
command_follows a (Edit number bytes) moment = follows_edited a number bytes.now moment (edited a number bytes.now moment) (edits a number bytes.now moment)
