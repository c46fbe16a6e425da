-- What a purge and an edit give, and that live numbers stay below the next one over all commands.
use Rattle.std.proofs.Common.{◌≡◌, ◌<◌, ◌≤◌, ℕ, Bool, true, false, List, Option, Some, None, refl, sym, ap, ◌∙◌, if◌then◌else◌}
use Rattle.mail_reader.specs.Stored.{stored}
use Rattle.arch_base.specs.declared.ids.ObjectId.{ObjectId}
use Rattle.git_objects.specs.Objects.{blob_id_of}
use Rattle.arch_model.specs.Archives.{Entry, Archive, live, messages, text_of, without_entries}
use Rattle.arch_model.specs.Delivery.{Done, refused, delivered, removed, purged_text, purged, is_accepted, unless_refused, is_form, edited_text, edited}
use Rattle.arch_model.specs.Laws.{NumbersInRange, StaysNumbered, EditsWhole}
use Rattle.arch_model.specs.Validity.{IsArchive}
use Rattle.arch_model.specs.declared.answer.Answer.{Answer}
use Rattle.arch_model.specs.declared.answer.Answer.TheVariants as named
use Rattle.arch_model.specs.declared.command.Command.TheVariants.{Deliver, Remove, Purge, Edit}
use Rattle.arch_model.proofs.Deliveries.{comes, ends, numbered_by, ended_numbers}
use Rattle.arch_model.proofs.Following.{number_below}
use Rattle.arch_model.proofs.LiveEntries.{live-all}
use Rattle.arch_model.proofs.Purging.{live_climbs, climbs_above, valid_without}

-- The result of a purge: a refusal that leaves the archive unchanged, or the archive without a text.
pub data Purges (a : Archive) (number : ℕ) : Done → Type 0 where
  Spared : (answer : Answer) → ((n : ℕ) (id : ObjectId) → answer ≡ named.Ok n id → ⊥) → Purges a number (refused a answer)
  Dropped : (text : List ℕ) → text_of (messages a.entries) number ≡ Some text → Purges a number (record { archive = without_entries a text; answer = named.Ok number (blob_id_of a.config.form text) })

purges_text : (a : Archive) (number : ℕ) (found : Option (List ℕ)) → text_of (messages a.entries) number ≡ found → Purges a number (purged_text a number found)
purges_text a number None is = Spared (named.NoText number) (λ n id e. cc e)
purges_text a number (Some text) is = Dropped text is

purges_mirror : (a : Archive) (number : ℕ) (mirror : Bool) → Purges a number (if mirror then refused a named.IsMirror else purged_text a number (text_of (messages a.entries) number))
purges_mirror a number true = Spared named.IsMirror (λ n id e. cc e)
purges_mirror a number false = purges_text a number (text_of (messages a.entries) number) refl

pub purges : (a : Archive) (number : ℕ) → Purges a number (purged a number)
purges a number = purges_mirror a number a.config.mirror

-- The result of an edit: a refusal that leaves the archive unchanged, or the delivery on the archive
-- without a text, which accepts.
pub data Edits (a : Archive) (number : ℕ) (bytes : List ℕ) (moment : ℕ) : Done → Type 0 where
  Unedited : (answer : Answer) → ((n : ℕ) (id : ObjectId) → answer ≡ named.Ok n id → ⊥) → Edits a number bytes moment (refused a answer)
  Redelivered : (text : List ℕ) → text_of (live a.entries) number ≡ Some text → is_accepted (delivered (without_entries a text) bytes moment).answer ≡ true → Edits a number bytes moment (delivered (without_entries a text) bytes moment)

edits_unless : (a : Archive) (number : ℕ) (bytes text : List ℕ) (moment : ℕ) (t : Bool) → is_accepted (delivered (without_entries a text) bytes moment).answer ≡ t → text_of (live a.entries) number ≡ Some text
    → Edits a number bytes moment (if t then delivered (without_entries a text) bytes moment else refused a (delivered (without_entries a text) bytes moment).answer)
edits_unless a number bytes text moment true accepted is = Redelivered text is accepted
edits_unless a number bytes text moment false accepted is =
    Unedited (delivered (without_entries a text) bytes moment).answer (λ n id e. (let wrong : true ≡ false = sym (ap is_accepted e) ∙ accepted in cc))

edits_form : (a : Archive) (number : ℕ) (bytes text : List ℕ) (moment : ℕ) (t : Bool) → text_of (live a.entries) number ≡ Some text
    → Edits a number bytes moment (if t then refused a (named.Duplicate number) else unless_refused a (delivered (without_entries a text) bytes moment))
edits_form a number bytes text moment true is = Unedited (named.Duplicate number) (λ n id e. cc e)
edits_form a number bytes text moment false is = edits_unless a number bytes text moment (is_accepted (delivered (without_entries a text) bytes moment).answer) refl is

edits_text : (a : Archive) (number : ℕ) (bytes : List ℕ) (moment : ℕ) (found : Option (List ℕ)) → text_of (live a.entries) number ≡ found → Edits a number bytes moment (edited_text a number bytes moment found)
edits_text a number bytes moment None is = Unedited (named.NotLive number) (λ n id e. cc e)
edits_text a number bytes moment (Some text) is = edits_form a number bytes text moment (is_form text (stored bytes)) is

edits_mirror : (a : Archive) (number : ℕ) (bytes : List ℕ) (moment : ℕ) (mirror : Bool) → Edits a number bytes moment (if mirror then refused a named.IsMirror else edited_text a number bytes moment (text_of (live a.entries) number))
edits_mirror a number bytes moment true = Unedited named.IsMirror (λ n id e. cc e)
edits_mirror a number bytes moment false = edits_text a number bytes moment (text_of (live a.entries) number) refl

pub edits : (a : Archive) (number : ℕ) (bytes : List ℕ) (moment : ℕ) → Edits a number bytes moment (edited a number bytes moment)
edits a number bytes moment = edits_mirror a number bytes moment a.config.mirror

-- Live numbers of a valid archive are from 1 to the one before the next.
pub valid_numbered : (a : Archive) → IsArchive a → NumbersInRange a
valid_numbered a valid n text is = (climbs_above 1 (live a.entries) n text (live_climbs 1 0 a.entries valid.order) is, number_below (live a.entries) a.next n text (live-all (λ (e : Entry). e.number < a.next) a.entries valid.below) is)

purged_numbers : (a : Archive) (number : ℕ) (d : Done) → Purges a number d → IsArchive a → (1 ≤ d.archive.next) × NumbersInRange d.archive
purged_numbers a number d (Spared answer other) valid = (valid.next_least, valid_numbered a valid)
purged_numbers a number d (Dropped text is) valid = (valid.next_least, valid_numbered (without_entries a text) (valid_without a text valid))

edited_numbers : (a : Archive) (number : ℕ) (bytes : List ℕ) (moment : ℕ) (d : Done) → Edits a number bytes moment d → IsArchive a → (1 ≤ d.archive.next) × NumbersInRange d.archive
edited_numbers a number bytes moment d (Unedited answer other) valid = (valid.next_least, valid_numbered a valid)
edited_numbers a number bytes moment d (Redelivered text is accepted) valid =
    let rest : Archive = without_entries a text in
    numbered_by rest bytes moment (delivered rest bytes moment) (comes rest bytes moment) valid.next_least (valid_numbered rest (valid_without a text valid))

pub stays-numbered : StaysNumbered
stays-numbered a (Deliver bytes) moment valid = numbered_by a bytes.now moment (delivered a bytes.now moment) (comes a bytes.now moment) valid.next_least (valid_numbered a valid)
stays-numbered a (Remove number) moment valid = ended_numbers a number moment (removed a number moment) (ends a number moment) valid.next_least (valid_numbered a valid)
stays-numbered a (Purge number) moment valid = purged_numbers a number (purged a number) (purges a number) valid
stays-numbered a (Edit number bytes) moment valid = edited_numbers a number bytes.now moment (edited a number bytes.now moment) (edits a number bytes.now moment) valid

-- A purge that is answered Ok left the archive without the text of its number.
pub purged_is : (a : Archive) (number n : ℕ) (id : ObjectId) → (purged a number).answer ≡ named.Ok n id → (text : List ℕ) × (text_of (messages a.entries) number ≡ Some text) × ((purged a number).archive ≡ without_entries a text)
purged_is a number n id is = by (purged a number) (purges a number) is where
  by : (d : Done) → Purges a number d → d.answer ≡ named.Ok n id → (text : List ℕ) × (text_of (messages a.entries) number ≡ Some text) × (d.archive ≡ without_entries a text)
  by d (Spared answer other) is = absurd (other n id is)
  by d (Dropped text found) is = (text, found, refl)

-- An edit that is answered Ok is the delivery on the archive without the text of its number.
pub edited_is : (a : Archive) (number : ℕ) (bytes : List ℕ) (moment n : ℕ) (id : ObjectId) → (edited a number bytes moment).answer ≡ named.Ok n id → (text : List ℕ) × (text_of (live a.entries) number ≡ Some text) × (edited a number bytes moment ≡ delivered (without_entries a text) bytes moment)
edited_is a number bytes moment n id is = by (edited a number bytes moment) (edits a number bytes moment) is where
  by : (d : Done) → Edits a number bytes moment d → d.answer ≡ named.Ok n id → (text : List ℕ) × (text_of (live a.entries) number ≡ Some text) × (d ≡ delivered (without_entries a text) bytes moment)
  by d (Unedited answer other) is = absurd (other n id is)
  by d (Redelivered text found accepted) is = (text, found, refl)

unedited_by : (a : Archive) (number : ℕ) (bytes : List ℕ) (moment : ℕ) (d : Done) → Edits a number bytes moment d → is_accepted d.answer ≡ false → d.archive ≡ a
unedited_by a number bytes moment d (Unedited answer other) is = refl
unedited_by a number bytes moment d (Redelivered text found accepted) is = absurd (let wrong : true ≡ false = sym accepted ∙ is in cc)

-- An edit is a delivery on the archive without a text, or it leaves the archive unchanged.
pub edits_whole : EditsWhole
edits_whole a number moment bytes = (λ n id is. edited_is a number bytes moment n id is, λ is. unedited_by a number bytes moment (edited a number bytes moment) (edits a number bytes moment) is)
