-- The views of live messages after a command.
use Rattle.std.specs.Prelude.{◌≡◌, ◌||◌, ◌<◌, ◌+◌, ℕ, Bool, true, false, not, nat_lt, List, [], ◌∷◌, Option, Some, None, Result, Ok, Err, OnOk, is_ok, unwrap_or, if◌then◌else◌, refl}
use Rattle.std.specs.List.{AllByRecursion}
use Rattle.std.proofs.Common.{◌∙◌, sym, ap}
use Rattle.arch_base.specs.declared.ids.ObjectId.{ObjectId}
use Rattle.disk_model.specs.Disk.{Content}
use Rattle.git_objects.specs.Objects.{blob_id_of}
use Rattle.mime_parts.specs.Words.{mail_words}
use Rattle.mail_reader.specs.Stored.{stored}
use Rattle.mail_reader.specs.declared.storing.StoredRefusal.{StoredRefusal}
use Rattle.mail_reader.specs.declared.storing.StoredRefusal.TheVariants as storing
use Rattle.arch_model.specs.Archives.{Entry, Archive, message, with_entry, without_entries, live, messages, text_of}
use Rattle.arch_model.specs.Candidates.{choice_of}
use Rattle.arch_model.specs.Delivery.{Done, applied, delivered, delivered_form, delivered_choice, delivered_kept, removed_text, purged, edited, purged_text, edited_text, is_accepted, is_form, unless_refused, refused, new_epoch, collision}
use Rattle.arch_model.specs.Keeping.{StaysReady}
use Rattle.arch_model.specs.Listings.{row_at}
use Rattle.arch_model.specs.Rows.{row_of}
use Rattle.arch_model.specs.Validity.{IsArchive, IsEntry}
use Rattle.arch_model.specs.declared.answer.Answer.{Answer}
use Rattle.arch_model.specs.declared.answer.Answer.TheVariants as answer
use Rattle.arch_model.specs.declared.choice.Choice.{Choice}
use Rattle.arch_model.specs.declared.choice.Choice.TheVariants as choice
use Rattle.arch_model.specs.declared.command.Command.{Command}
use Rattle.arch_model.specs.declared.command.Command.TheVariants.{Deliver, Remove, Purge, Edit}
use Rattle.arch_model.proofs.LiveEntries.{live-message, live-deletion, live-all, ids-now, without as without_number}
use Rattle.arch_model.proofs.ValidArchives.{all_weaker}
use Rattle.arch_model.proofs.Purging.{live_climbs, live_without, none_gone, text_gone, valid_without}
use Rattle.arch_model.proofs.Rewrites.{purged_is, edited_is}
use Rattle.arch_judge.proofs.Endings.{Ascend, live-ascend}
use Rattle.store_finding.specs.Kept.{StoreState}
use Rattle.view_set.specs.Viewed.{Viewed, with_mail, without_mail, views_of}
use Rattle.view_set.proofs.MailLists.{mails-added, mails-taken}
use Rattle.overview_index.proofs.Messages.{HasId, AllBelow, Ascends}
use Rattle.archive_core.specs.Commands.{DoneBy, OnRefusal, KeepsText, KeepsTextFor, is_delivery, IfDelivery, IsGone, IsLiveOf, OnDone}
use Rattle.archive_core.specs.Engines.{needs_opening, ViewsKeepUp}
use Rattle.archive_core.specs.Walks.{ViewsDone, ViewsAfter, without_gone}

-- A command that isn't accepted keeps the archive.
abbrev pub KeepsUnlessOk : Archive → Done → Type 0
KeepsUnlessOk a d = ((n : ℕ) (id : ObjectId) → d.answer ≡ answer.Ok n id → ⊥) → d.archive ≡ a

new_keeps : (t : Bool) (a : Archive) (text : List ℕ) (moment : ℕ) → KeepsUnlessOk a (if t then refused a (answer.Full a.config.max) else record { archive = with_entry a (new_epoch a) text moment; answer = answer.Ok a.next (blob_id_of a.config.form text) })
new_keeps true a text moment never = refl
new_keeps false a text moment never = absurd (never a.next (blob_id_of a.config.form text) refl)

kept_keeps : (a : Archive) (text : List ℕ) (moment : ℕ) (found : Option ℕ) → KeepsUnlessOk a (delivered_kept a text moment found)
kept_keeps a text moment (Some number) never = refl
kept_keeps a text moment None never = new_keeps (nat_lt a.config.max a.next) a text moment never

choice_keeps : (a : Archive) (moment : ℕ) (taken : Choice) → KeepsUnlessOk a (delivered_choice a moment taken)
choice_keeps a moment (choice.Repeat number) never = refl
choice_keeps a moment (choice.Take text) never = kept_keeps a text moment (collision a.config.form a.entries text) never

form_keeps : (a : Archive) (moment : ℕ) (form : Result (List ℕ) StoredRefusal) → KeepsUnlessOk a (delivered_form a moment form)
form_keeps a moment (Ok text) never = choice_keeps a moment (choice_of a text) never
form_keeps a moment (Err storing.NoFields) never = refl
form_keeps a moment (Err (storing.TooLarge len)) never = refl
form_keeps a moment (Err storing.NoMemory) never = refl

mirror_keeps : (t : Bool) (a : Archive) (bytes : List ℕ) (moment : ℕ) → KeepsUnlessOk a (if t then refused a answer.IsMirror else delivered_form a moment (stored bytes))
mirror_keeps true a bytes moment never = refl
mirror_keeps false a bytes moment never = form_keeps a moment (stored bytes) never

text_keeps : (a : Archive) (number moment : ℕ) (found : Option (List ℕ)) → KeepsUnlessOk a (removed_text a number moment found)
text_keeps a number moment None never = refl
text_keeps a number moment (Some text) never = absurd (never number (blob_id_of a.config.form text) refl)

removed_keeps : (t : Bool) (a : Archive) (number moment : ℕ) → KeepsUnlessOk a (if t then refused a answer.IsMirror else removed_text a number moment (text_of (live a.entries) number))
removed_keeps true a number moment never = refl
removed_keeps false a number moment never = text_keeps a number moment (text_of (live a.entries) number) never

found_keeps : (a : Archive) (number : ℕ) (found : Option (List ℕ)) → KeepsUnlessOk a (purged_text a number found)
found_keeps a number None never = refl
found_keeps a number (Some text) never = absurd (never number (blob_id_of a.config.form text) refl)

purged_keeps : (t : Bool) (a : Archive) (number : ℕ) → KeepsUnlessOk a (if t then refused a answer.IsMirror else purged_text a number (text_of (messages a.entries) number))
purged_keeps true a number never = refl
purged_keeps false a number never = found_keeps a number (text_of (messages a.entries) number) never

-- An answer that a command was carried out has a number and an id.
never_accepted : (reply : Answer) → ((n : ℕ) (id : ObjectId) → reply ≡ answer.Ok n id → ⊥) → is_accepted reply ≡ false
never_accepted (answer.Ok n id) never = absurd (never n id refl)
never_accepted other never = refl

unless_keeps : (a : Archive) (d : Done) (t : Bool) → is_accepted d.answer ≡ t → KeepsUnlessOk a (if t then d else refused a d.answer)
unless_keeps a d true accepted never = absurd (let none : is_accepted d.answer ≡ false = never_accepted d.answer never in let wrong : true ≡ false = sym accepted ∙ none in cc)
unless_keeps a d false accepted never = refl

form_unless : (a : Archive) (number : ℕ) (bytes text : List ℕ) (moment : ℕ) (t : Bool) → KeepsUnlessOk a (if t then refused a (answer.Duplicate number) else unless_refused a (delivered (without_entries a text) bytes moment))
form_unless a number bytes text moment true never = refl
form_unless a number bytes text moment false never =
    let d : Done = delivered (without_entries a text) bytes moment in
    unless_keeps a d (is_accepted d.answer) refl never

edit_keeps : (a : Archive) (number : ℕ) (bytes : List ℕ) (moment : ℕ) (found : Option (List ℕ)) → KeepsUnlessOk a (edited_text a number bytes moment found)
edit_keeps a number bytes moment None never = refl
edit_keeps a number bytes moment (Some text) never = form_unless a number bytes text moment (is_form text (stored bytes)) never

edited_keeps : (t : Bool) (a : Archive) (number : ℕ) (bytes : List ℕ) (moment : ℕ) → KeepsUnlessOk a (if t then refused a answer.IsMirror else edited_text a number bytes moment (text_of (live a.entries) number))
edited_keeps true a number bytes moment never = refl
edited_keeps false a number bytes moment never = edit_keeps a number bytes moment (text_of (live a.entries) number) never

pub applied-keeps : (a : Archive) (command : Command) (moment : ℕ) → KeepsUnlessOk a (applied a command moment)
applied-keeps a (Deliver bytes) moment never = mirror_keeps a.config.mirror a bytes.now moment never
applied-keeps a (Remove number) moment never = removed_keeps a.config.mirror a number moment never
applied-keeps a (Purge number) moment never = purged_keeps a.config.mirror a number never
applied-keeps a (Edit number bytes) moment never = edited_keeps a.config.mirror a number bytes.now moment never

-- An accepted delivery takes the next number.
new_next : (t : Bool) (a : Archive) (text : List ℕ) (moment n : ℕ) (id : ObjectId) → (if t then refused a (answer.Full a.config.max) else record { archive = with_entry a (new_epoch a) text moment; answer = answer.Ok a.next (blob_id_of a.config.form text) }).answer ≡ answer.Ok n id → n ≡ a.next
new_next true a text moment n id is = absurd (cc)
new_next false a text moment n id is = let same : a.next ≡ n = cc in sym same

kept_next : (a : Archive) (text : List ℕ) (moment n : ℕ) (id : ObjectId) (found : Option ℕ) → (delivered_kept a text moment found).answer ≡ answer.Ok n id → n ≡ a.next
kept_next a text moment n id (Some number) is = absurd (cc)
kept_next a text moment n id None is = new_next (nat_lt a.config.max a.next) a text moment n id is

choice_next : (a : Archive) (moment n : ℕ) (id : ObjectId) (taken : Choice) → (delivered_choice a moment taken).answer ≡ answer.Ok n id → n ≡ a.next
choice_next a moment n id (choice.Repeat number) is = absurd (cc)
choice_next a moment n id (choice.Take text) is = kept_next a text moment n id (collision a.config.form a.entries text) is

form_next : (a : Archive) (moment n : ℕ) (id : ObjectId) (form : Result (List ℕ) StoredRefusal) → (delivered_form a moment form).answer ≡ answer.Ok n id → n ≡ a.next
form_next a moment n id (Ok text) is = choice_next a moment n id (choice_of a text) is
form_next a moment n id (Err storing.NoFields) is = absurd (cc)
form_next a moment n id (Err (storing.TooLarge len)) is = absurd (cc)
form_next a moment n id (Err storing.NoMemory) is = absurd (cc)

mirror_next : (t : Bool) (a : Archive) (bytes : List ℕ) (moment n : ℕ) (id : ObjectId) → (if t then refused a answer.IsMirror else delivered_form a moment (stored bytes)).answer ≡ answer.Ok n id → n ≡ a.next
mirror_next true a bytes moment n id is = absurd (cc)
mirror_next false a bytes moment n id is = form_next a moment n id (stored bytes) is

-- The views of an archive, whose rows have ids of its form.
abbrev pub views_held : Archive → Viewed
views_held a = views_of a.config.form (live a.entries)

-- An accepted removal takes its number from the live messages.
removal_gone : (a : Archive) (number moment n : ℕ) (id : ObjectId) (found : Option (List ℕ)) → (removed_text a number moment found).answer ≡ answer.Ok n id → views_held (removed_text a number moment found).archive ≡ views_of a.config.form (without_number number (live a.entries))
removal_gone a number moment n id None is = absurd (cc)
removal_gone a number moment n id (Some text) is = ap (views_of a.config.form) (live-deletion a.entries number (new_epoch a) text moment)

removed_gone : (t : Bool) (a : Archive) (number moment n : ℕ) (id : ObjectId) → (if t then refused a answer.IsMirror else removed_text a number moment (text_of (live a.entries) number)).answer ≡ answer.Ok n id
    → views_held (if t then refused a answer.IsMirror else removed_text a number moment (text_of (live a.entries) number)).archive ≡ views_of a.config.form (without_number number (live a.entries))
removed_gone true a number moment n id is = absurd (cc)
removed_gone false a number moment n id is = removal_gone a number moment n id (text_of (live a.entries) number) is

-- What a valid archive says of its live messages.
pub live-ids : (a : Archive) → IsArchive a → AllByRecursion HasId (live a.entries)
live-ids a valid = live-all HasId a.entries (all_weaker IsEntry HasId a.entries (λ e is. is.text.id) valid.entries)

pub live-below : (a : Archive) → IsArchive a → AllBelow a.next (live a.entries)
live-below a valid = live-all (λ (e : Entry). e.number < a.next) a.entries valid.below

ascends-of : (number : ℕ) (es : List Entry) → Ascend number es → Ascends number es
ascends-of number [] rise = tt
ascends-of number (e ∷ es) rise = (rise.0, ascends-of (e.number + 1) es rise.1)

pub live-ascends : (a : Archive) → IsArchive a → Ascends 1 (live a.entries)
live-ascends a valid = ascends-of 1 (live a.entries) (live-ascend 1 0 a.entries valid.order)

-- The views after an accepted command are those of the archive after it.
with_kept : (a : Archive) (b : Archive) (text : List ℕ) (moment n : ℕ) (old new : Viewed) → IsArchive a → old ≡ views_held a → n ≡ a.next → b ≡ with_entry a (new_epoch a) text moment → new ≡ with_mail old (row_of a.config.form n text moment) (mail_words text) → new ≡ views_held b
with_kept a b text moment n old new valid old_is n_is b_is new_is =
    let one : Entry = message a.next (new_epoch a) text moment in
    new_is
    ∙ ap (λ m. with_mail old (row_of a.config.form m text moment) (mail_words text)) n_is
    ∙ ap (λ (v : Viewed). with_mail v (row_at a.config.form one) (mail_words text)) old_is
    ∙ mails-added a.config.form (live a.entries) one (live-below a valid)
    ∙ ap (views_of a.config.form) (sym (live-message a.entries a.next (new_epoch a) text moment))
    ∙ ap views_held (sym b_is)

-- The views without the live number of a text are those of the archive without the text.
pub views_gone : (a : Archive) (text : List ℕ) (gone : Option ℕ) → IsArchive a → IsLiveOf (live a.entries) text gone → without_gone (views_held a) gone ≡ views_held (without_entries a text)
views_gone a text None valid none = ap (views_of a.config.form) (sym (live_without a text valid ∙ none_gone 1 (live a.entries) text (live_climbs 1 0 a.entries valid.order) none))
views_gone a text (Some m) valid is =
    mails-taken a.config.form (live a.entries) 1 m (live-ascends a valid)
    ∙ ap (views_of a.config.form) (sym (live_without a text valid ∙ text_gone 1 (live a.entries) m text (live_climbs 1 0 a.entries valid.order) (ids-now a.entries valid.ids) is))

one_text : (found : Option (List ℕ)) (text other : List ℕ) → found ≡ Some text → found ≡ Some other → text ≡ other
one_text found text other is was = ap (λ (o : Option (List ℕ)). unwrap_or o text) (sym is ∙ was)

purge_views : (a : Archive) (number n : ℕ) (id : ObjectId) (gone : Option ℕ) (old new : Viewed) → IsArchive a → (purged a number).answer ≡ answer.Ok n id → IsGone a (Purge number) gone → old ≡ views_held a → new ≡ without_gone old gone → new ≡ views_held (purged a number).archive
purge_views a number n id gone old new valid is taken old_is new_is =
    let dropped = purged_is a number n id is in
    let same : taken.0 ≡ dropped.0 = one_text (text_of (messages a.entries) number) taken.0 dropped.0 taken.1 dropped.1 in
    new_is
    ∙ ap (λ (v : Viewed). without_gone v gone) old_is
    ∙ views_gone a taken.0 gone valid taken.2
    ∙ ap (λ (t : List ℕ). views_held (without_entries a t)) same
    ∙ ap views_held (sym dropped.2)

edit_views : (a : Archive) (number : ℕ) (bytes : List ℕ) (moment n : ℕ) (id : ObjectId) (text : List ℕ) (gone : Option ℕ) (old new : Viewed) → IsArchive a → (edited a number bytes moment).answer ≡ answer.Ok n id
    → (was : List ℕ) × (text_of (live a.entries) number ≡ Some was) × KeepsText (without_entries a was) (edited a number bytes moment) moment text → gone ≡ Some number
    → old ≡ views_held a → new ≡ with_mail (without_gone old gone) (row_of a.config.form n text moment) (mail_words text) → new ≡ views_held (edited a number bytes moment).archive
edit_views a number bytes moment n id text gone old new valid is kept gone_is old_is new_is =
    let redone = edited_is a number bytes moment n id is in
    let same : kept.0 ≡ redone.0 = one_text (text_of (live a.entries) number) kept.0 redone.0 kept.1 redone.1 in
    let rest : Archive = without_entries a kept.0 in
    let answer_is : (delivered rest bytes moment).answer ≡ answer.Ok n id = ap (λ (t : List ℕ). (delivered (without_entries a t) bytes moment).answer) same ∙ sym (ap (λ (d : Done). d.answer) redone.2) ∙ is in
    let views_are : without_gone old gone ≡ views_held rest = ap (λ (g : Option ℕ). without_gone old g) gone_is ∙ ap (λ (v : Viewed). without_gone v (Some number)) old_is ∙ views_gone a kept.0 (Some number) valid kept.1 in
    with_kept rest (edited a number bytes moment).archive text moment n (without_gone old gone) new (valid_without a kept.0 valid) views_are (mirror_next rest.config.mirror rest bytes moment n id answer_is) kept.2 new_is

pub done-views : (a : Archive) (command : Command) (moment n : ℕ) (id : ObjectId) (text : List ℕ) (lost : Option ℕ) (old new : Viewed) → IsArchive a → (applied a command moment).answer ≡ answer.Ok n id → IfDelivery (is_delivery command) (KeepsTextFor command a (applied a command moment) moment text)
    → IsGone a command lost → old ≡ views_held a → ViewsDone a.config.form command lost n text moment old new → new ≡ views_held (applied a command moment).archive
done-views a (Deliver bytes) moment n id text lost old new valid is kept taken old_is new_is = with_kept a (delivered a bytes.now moment).archive text moment n old new valid old_is (mirror_next a.config.mirror a bytes.now moment n id is) kept new_is
done-views a (Remove number) moment n id text lost old new valid is kept taken old_is new_is =
    new_is
    ∙ ap (λ (v : Viewed). without_mail v number) old_is
    ∙ mails-taken a.config.form (live a.entries) 1 number (live-ascends a valid)
    ∙ sym (removed_gone a.config.mirror a number moment n id is)
done-views a (Purge number) moment n id text lost old new valid is kept taken old_is new_is = purge_views a number n id lost old new valid is taken old_is new_is
done-views a (Edit number bytes) moment n id text lost old new valid is kept taken old_is new_is = edit_views a number bytes.now moment n id text lost old new valid is kept taken old_is new_is

-- What holds if a result is Ok.
pub on-ok : {T E : Type 0} (r : Result T E) (P : Type 0) → OnOk r P → is_ok r ≡ true → P
on-ok (Ok x) P holds ok = holds
on-ok (Err e) P holds ok = absurd (cc)

-- An engine that is ready after a command brought its views up.
pub followed-ready : (needs ok : Bool) → not (needs || not ok) ≡ true → ok ≡ true
followed-ready true ok is = absurd (cc)
followed-ready false true is = refl
followed-ready false false is = absurd (cc)

pub needs-stale : (needs ok : Bool) → needs ≡ true → (needs || not ok) ≡ true
needs-stale true ok is = refl
needs-stale false ok is = absurd (cc)

same-views : (a : Archive) (command : Command) (moment : ℕ) (old new : Viewed) → old ≡ views_held a → new ≡ old → ((n : ℕ) (id : ObjectId) → (applied a command moment).answer ≡ answer.Ok n id → ⊥) → new ≡ views_held (applied a command moment).archive
same-views a command moment old new old_is same never = same ∙ old_is ∙ ap views_held (sym (applied-keeps a command moment never))

-- The views keep up with a command, however it was answered.
pub kept-up : (a : Archive) (command : Command) (moment : ℕ) (text : List ℕ) (lost : Option ℕ) (v : StoreState) (cache left : List ℕ) (content : Option Content) (old new : Viewed) (ready ok : Bool) (reply : Answer) → IsArchive a → old ≡ views_held a
    → DoneBy v cache left a (applied a command moment) reply content → IfDelivery (is_delivery command) (OnDone reply (KeepsTextFor command a (applied a command moment) moment text)) → OnDone reply (IsGone a command lost) → (ready ≡ true → ok ≡ true) → OnRefusal reply (ok ≡ true)
    → (ok ≡ true → ViewsAfter a.config.form command lost reply text moment old new) → ViewsKeepUp reply ready new a (applied a command moment).archive
kept-up a command moment text lost v cache left content old new ready ok (answer.Ok number id) valid old_is done kept taken followed refused rows = λ now. done-views a command moment number id text lost old new valid done.answer_is kept taken old_is (rows (followed now))
kept-up a command moment text lost v cache left content old new ready ok answer.NoMemory valid old_is done kept taken followed refused rows = rows refused ∙ old_is
kept-up a command moment text lost v cache left content old new ready ok answer.DiskFault valid old_is done kept taken followed refused rows = tt
kept-up a command moment text lost v cache left content old new ready ok (answer.Damaged file at) valid old_is done kept taken followed refused rows = tt
kept-up a command moment text lost v cache left content old new ready ok (answer.Duplicate number) valid old_is done kept taken followed refused rows = same-views a command moment old new old_is (rows refused) (λ n id is. (let wrong : (answer.Duplicate number) ≡ answer.Ok n id = sym done.answer_is ∙ is in cc))
kept-up a command moment text lost v cache left content old new ready ok answer.NoFields valid old_is done kept taken followed refused rows = same-views a command moment old new old_is (rows refused) (λ n id is. (let wrong : answer.NoFields ≡ answer.Ok n id = sym done.answer_is ∙ is in cc))
kept-up a command moment text lost v cache left content old new ready ok (answer.TooLarge len) valid old_is done kept taken followed refused rows = same-views a command moment old new old_is (rows refused) (λ n id is. (let wrong : (answer.TooLarge len) ≡ answer.Ok n id = sym done.answer_is ∙ is in cc))
kept-up a command moment text lost v cache left content old new ready ok (answer.Full max) valid old_is done kept taken followed refused rows = same-views a command moment old new old_is (rows refused) (λ n id is. (let wrong : (answer.Full max) ≡ answer.Ok n id = sym done.answer_is ∙ is in cc))
kept-up a command moment text lost v cache left content old new ready ok (answer.Collision number) valid old_is done kept taken followed refused rows = same-views a command moment old new old_is (rows refused) (λ n id is. (let wrong : (answer.Collision number) ≡ answer.Ok n id = sym done.answer_is ∙ is in cc))
kept-up a command moment text lost v cache left content old new ready ok (answer.NotLive number) valid old_is done kept taken followed refused rows = same-views a command moment old new old_is (rows refused) (λ n id is. (let wrong : (answer.NotLive number) ≡ answer.Ok n id = sym done.answer_is ∙ is in cc))
kept-up a command moment text lost v cache left content old new ready ok answer.IsMirror valid old_is done kept taken followed refused rows = same-views a command moment old new old_is (rows refused) (λ n id is. (let wrong : answer.IsMirror ≡ answer.Ok n id = sym done.answer_is ∙ is in cc))
kept-up a command moment text lost v cache left content old new ready ok (answer.NoText number) valid old_is done kept taken followed refused rows = same-views a command moment old new old_is (rows refused) (λ n id is. (let wrong : (answer.NoText number) ≡ answer.Ok n id = sym done.answer_is ∙ is in cc))

-- It needn't be reopened after a refusal by the rules, and must be after a fault.
pub stays-ready : (stale ok : Bool) (reply : Answer) → stale ≡ (needs_opening reply || not ok) → OnRefusal reply (ok ≡ true) → StaysReady true reply (not stale)
stays-ready stale ok answer.NoMemory is refused = λ was. ap not (is ∙ ap not refused)
stays-ready stale ok answer.DiskFault is refused = ap not is
stays-ready stale ok (answer.Ok number id) is refused = tt
stays-ready stale ok (answer.Damaged file at) is refused = ap not is
stays-ready stale ok other is refused = ap not (is ∙ ap not refused)
