-- What a shelf gives, entry by entry, and calls that only read, one after another.
use Rattle.std.proofs.Common.{inl, inr, ◌≡◌, ◌≤◌, ◌==◌, ℕ, Bool, true, false, List, [], ◌∷◌, ◌++◌, length, Option, Some, None, Err, refl, sym, ap, ◌∙◌, append_assoc, arith, if◌then◌else◌}
use Rattle.std.proofs.lemmas.Bool.Decides.{nat_tests}
use Rattle.std.proofs.lemmas.List.{append-nil}
use Rattle.git_objects.specs.Objects.{blob_id_of}
use Rattle.arch_model.specs.Archives.{Entry, Archive, is_message, live, messages, text_of, blob_number}
use Rattle.arch_model.specs.Validity.{NumberIsFrom, number_after, Rise, AtEachPlace, EndsLive}
use Rattle.git_objects.specs.declared.entry_kind.EntryKind.{EntryKind}
use Rattle.git_objects.specs.declared.entry_kind.EntryKind.TheVariants.{Message, Deletion}
use Rattle.arch_base.specs.declared.ids.Form.{Form}
use Rattle.arch_base.specs.declared.ids.ObjectId.{ObjectId}
use Rattle.arch_base.specs.Ids.{id_eq}
use Rattle.arch_base.proofs.IdOrder.{id_eq-Decides}
use Rattle.arch_model.proofs.LiveEntries.{HasText, found-has, live-has}
use Rattle.arch_model.specs.Standing.{GivesTextIn, GivesEpochIn}
use Rattle.arch_model.specs.Shelves.{line_after, lines_after, blob_text, GivesBlobIn, AppendsTo, IsUndamaged, ReadingWhy, ShelfStays}
use Rattle.arch_model.specs.declared.line.EntryLine.{EntryLine}
use Rattle.arch_model.specs.declared.text_refusal.TextRefusal.{TextRefusal}
use Rattle.arch_model.specs.declared.text_refusal.TextRefusal.TheVariants as refusal

-- No text is damaged while an archive is held.
pub undamaged-text : (entries : List Entry) (n : ℕ) (old new : List ℕ) (why : TextRefusal) → GivesTextIn entries n old new (Err why) → IsUndamaged why
undamaged-text entries n old new refusal.DiskFault given = tt
undamaged-text entries n old new (refusal.Damaged named found) given = given
undamaged-text entries n old new refusal.NoMemory given = tt

-- Nor is one that is read by its blob id.
pub undamaged-blob : (form : Form) (entries : List Entry) (blob : ObjectId) (old new : List ℕ) (why : TextRefusal) → GivesBlobIn form entries blob old new (Err why) → IsUndamaged why
undamaged-blob form entries blob old new refusal.DiskFault given = tt
undamaged-blob form entries blob old new (refusal.Damaged named found) given = given
undamaged-blob form entries blob old new refusal.NoMemory given = tt

-- Nor is an epoch.
pub undamaged-epoch : (form : Form) (entries : List Entry) (old new : List ℕ) (why : TextRefusal) → GivesEpochIn form entries old new (Err why) → IsUndamaged why
undamaged-epoch form entries old new refusal.DiskFault given = tt
undamaged-epoch form entries old new (refusal.Damaged named found) given = given
undamaged-epoch form entries old new refusal.NoMemory given = tt

-- Nothing was appended.
pub appends-none : (old new : List ℕ) → new ≡ old → AppendsTo old new
appends-none old new same = ([], same ∙ sym (append-nil old))

-- One call that only reads, and another.
pub stays-joined : {S : Type 0} (holds : S → Archive → Type 0) (ready : S → Bool) (alike : S → S → Type 0) (faults : S → ℕ) → ((s t u : S) → alike s t → alike t u → alike s u) → (s t u : S) → ShelfStays holds ready alike faults s t → ShelfStays holds ready alike faults t u
    → ShelfStays holds ready alike faults s u
stays-joined holds ready alike faults joined s t u first second = record {
  same = joined s t u first.same second.same;
  kept = λ a held. second.kept a (first.kept a held);
  at_hand = second.at_hand;
  later = omega (arith, first.later, second.later);
}

-- No call.
pub stays-same : {S : Type 0} (holds : S → Archive → Type 0) (ready : S → Bool) (alike : S → S → Type 0) (faults : S → ℕ) → ((s : S) → alike s s) → (s : S) → ready s ≡ true → ShelfStays holds ready alike faults s s
stays-same holds ready alike faults same s at_hand = record { same = same s; kept = λ a held. held; at_hand = at_hand; later = omega arith }

-- A cause in the last of several calls is one in all of them, if the calls before it met no fault.
pub why-earlier : (before mid now : ℕ) (why : TextRefusal) → mid ≡ before → ReadingWhy mid now why → ReadingWhy before now why
why-earlier before mid now refusal.DiskFault same rose = omega (arith, same, rose)
why-earlier before mid now (refusal.Damaged named found) same cause = (cause.0, cause.1 ∙ same)
why-earlier before mid now refusal.NoMemory same kept = kept ∙ same

-- The lines of entries with one more.
pub lines_after-push : (form : Form) (before es : List Entry) (e : Entry) → lines_after form before (es ++ e ∷ []) ≡ lines_after form before es ++ line_after form (before ++ es) e ∷ []
lines_after-push form before [] e = ap (λ (xs : List Entry). line_after form xs e ∷ []) (sym (append-nil before))
lines_after-push form before (x ∷ es) e =
    ap (λ (ls : List EntryLine). line_after form before x ∷ ls) (lines_after-push form (before ++ x ∷ []) es e ∙ ap (λ (xs : List Entry). lines_after form (before ++ x ∷ []) es ++ line_after form xs e ∷ []) (append_assoc before (x ∷ []) es))

-- As many lines as entries.
pub length-lines_after : (form : Form) (before es : List Entry) → length (lines_after form before es) ≡ length es
length-lines_after form before [] = refl
length-lines_after form before (e ∷ es) = let rest = length-lines_after form (before ++ e ∷ []) es in omega (arith, rest)

-- Numbers rise from one message to the next, from this one on.
abbrev pub RisesFrom : ℕ → List Entry → Type 0
RisesFrom number [] = Unit {0}
RisesFrom number (e ∷ es) = NumberIsFrom e.kind number e.number × RisesFrom (number_after e.kind number e.number) es

-- They do in a valid archive.
pub rises-from : (number epoch : ℕ) (es : List Entry) → Rise number epoch es → RisesFrom number es
rises-from number epoch [] rise = tt
rises-from number epoch (e ∷ es) rise = (rise.0, rises-from (number_after e.kind number e.number) e.epoch es rise.2)

-- Each deletion ends a live message.
abbrev pub EndAll : List Entry → List Entry → Type 0
EndAll before es = AtEachPlace (λ (past : List Entry) (e : Entry). EndsLive e.kind past e) before es

-- A text that is there has its blob id there.
has_step : (t : Bool) (number : ℕ) (more : Option ℕ) → (if t then Some number else more) ≡ None → (t ≡ false) × (more ≡ None)
has_step true number more none = absurd (cc)
has_step false number more none = (refl, none)

pub has-blob : (form : Form) (es : List Entry) (text : List ℕ) → HasText text es → blob_number form es (blob_id_of form text) ≡ None → ⊥
has-blob form [] text has none = has
has-blob form (e ∷ es) text (inl is) none =
    let both = has_step (id_eq (blob_id_of form text) (blob_id_of form e.text)) e.number (blob_number form es (blob_id_of form text)) none in
    let hit : id_eq (blob_id_of form text) (blob_id_of form e.text) ≡ true = (id_eq-Decides (blob_id_of form text) (blob_id_of form e.text)).1 (ap (blob_id_of form) (sym is)) in
    let wrong : true ≡ false = sym hit ∙ both.0 in
    absurd (cc)
has-blob form (e ∷ es) text (inr more) none = has-blob form es text more (has_step (id_eq (blob_id_of form text) (blob_id_of form e.text)) e.number (blob_number form es (blob_id_of form text)) none).1

-- One more entry with another blob id has none either.
none-push : (form : Form) (es : List Entry) (e : Entry) (blob : ObjectId) → blob_number form es blob ≡ None → id_eq blob (blob_id_of form e.text) ≡ false → blob_number form (es ++ e ∷ []) blob ≡ None
none-push form [] e blob none other = ap (λ (t : Bool). if t then Some e.number else None) other
none-push form (x ∷ es) e blob none other =
    let both = has_step (id_eq blob (blob_id_of form x.text)) x.number (blob_number form es blob) none in
    ap (λ (t : Bool). if t then Some x.number else blob_number form (es ++ e ∷ []) blob) both.0 ∙ none-push form es e blob both.1 other

-- The number of the first entry with a blob id is that of a message, which has that entry's text.
abbrev pub FoundAt : Form → List Entry → ObjectId → ℕ → ℕ → Type 0
FoundAt form es blob number n = (number ≤ n) × ((text : List ℕ) × (text_of (messages es) n ≡ Some text) × (blob_text form es blob ≡ Some text))

-- The first entry with a blob id isn't a deletion, whose text is there before.
first_kind : (form : Form) (k : EntryKind) (before : List Entry) (e : Entry) (blob : ObjectId) → EndsLive k before e → blob ≡ blob_id_of form e.text → blob_number form before blob ≡ None → k ≡ Message
first_kind form Message before e blob ends is none = refl
first_kind form Deletion before e blob ends is none = absurd (has-blob form before e.text (live-has before e.text (found-has (live before) e.number e.text ends)) (ap (blob_number form before) (sym is) ∙ none))

hit_step : (k : EntryKind) (t : Bool) (e : Entry) (es : List Entry) (n : ℕ) → k ≡ Message → (e.number == n) ≡ t → e.number ≡ n → text_of (if is_message k then e ∷ messages es else messages es) n ≡ Some e.text
hit_step Message true e es n kind test same = ap (λ (t : Bool). if t then Some e.text else text_of (messages es) n) test
hit_step Message false e es n kind test same = absurd (let yes : (e.number == n) ≡ true = grind (arith, nat_tests, same) in let wrong : true ≡ false = sym yes ∙ test in cc)
hit_step Deletion t e es n kind test same = absurd (cc)

low_step : (k : EntryKind) (number own n : ℕ) → k ≡ Message → NumberIsFrom k number own → own ≡ n → number ≤ n
low_step Message number own n kind low same = omega (arith, low, same)
low_step Deletion number own n kind low same = absurd (cc)

past_step : (k : EntryKind) (number : ℕ) (e : Entry) (es : List Entry) (n : ℕ) (text : List ℕ) → NumberIsFrom k number e.number → number_after k number e.number ≤ n → text_of (messages es) n ≡ Some text
    → (number ≤ n) × (text_of (if is_message k then e ∷ messages es else messages es) n ≡ Some text)
past_step Message number e es n text low above is =
    let other : (e.number == n) ≡ false = grind (arith, nat_tests, above) in
    (omega (arith, low, above), ap (λ (t : Bool). if t then Some e.text else text_of (messages es) n) other ∙ is)
past_step Deletion number e es n text low above is = (above, is)

blob-step : (form : Form) (t : Bool) (number : ℕ) (before : List Entry) (e : Entry) (es : List Entry) (blob : ObjectId) (n : ℕ) → id_eq blob (blob_id_of form e.text) ≡ t → blob_number form before blob ≡ None → EndsLive e.kind before e → RisesFrom number (e ∷ es) → (if t then Some e.number else blob_number form es blob) ≡ Some n
    → (blob_number form (before ++ e ∷ []) blob ≡ None → blob_number form es blob ≡ Some n → FoundAt form es blob (number_after e.kind number e.number) n) → FoundAt form (e ∷ es) blob number n
blob-step form true number before e es blob n test none ends rise is rest =
    let same : e.number ≡ n = cc in
    let kind = first_kind form e.kind before e blob ends ((id_eq-Decides blob (blob_id_of form e.text)).0 test) none in
    (low_step e.kind number e.number n kind rise.0 same, (e.text, hit_step e.kind (e.number == n) e es n kind refl same, ap (λ (u : Bool). if u then Some e.text else blob_text form es blob) test))
blob-step form false number before e es blob n test none ends rise is rest =
    let found = rest (none-push form before e blob none test) is in
    let both = past_step e.kind number e es n found.1.0 rise.0 found.0 found.1.1 in
    (both.0, (found.1.0, both.1, ap (λ (u : Bool). if u then Some e.text else blob_text form es blob) test ∙ found.1.2))

blob-from : (form : Form) (number : ℕ) (before es : List Entry) (blob : ObjectId) (n : ℕ) → blob_number form before blob ≡ None → EndAll before es → RisesFrom number es → blob_number form es blob ≡ Some n → FoundAt form es blob number n
blob-from form number before [] blob n none ends rise is = absurd (cc)
blob-from form number before (e ∷ es) blob n none ends rise is =
    blob-step form (id_eq blob (blob_id_of form e.text)) number before e es blob n refl none ends.0 rise is (λ past more. blob-from form (number_after e.kind number e.number) (before ++ e ∷ []) es blob n past ends.1 rise.1 more)

pub blob-found : (form : Form) (number : ℕ) (es : List Entry) (blob : ObjectId) (n : ℕ) → EndAll [] es → RisesFrom number es → blob_number form es blob ≡ Some n → FoundAt form es blob number n
blob-found form number es blob n ends rise is = blob-from form number [] es blob n refl ends rise is

-- So the message of that number has the text of the blob id.
pub blob_found-text : (form : Form) (number : ℕ) (es : List Entry) (blob : ObjectId) (n : ℕ) → EndAll [] es → RisesFrom number es → blob_number form es blob ≡ Some n → text_of (messages es) n ≡ blob_text form es blob
blob_found-text form number es blob n ends rise is = let found = blob-found form number es blob n ends rise is in found.1.1 ∙ sym found.1.2

-- Where no entry has the blob id there is no such text.
blob-miss : (form : Form) (t : Bool) (e : Entry) (es : List Entry) (blob : ObjectId) → id_eq blob (blob_id_of form e.text) ≡ t → blob_number form (e ∷ es) blob ≡ None → (blob_number form es blob ≡ None → blob_text form es blob ≡ None) → blob_text form (e ∷ es) blob ≡ None
blob-miss form true e es blob test is rest = let never : Some e.number ≡ None = rw test at is in absurd (cc)
blob-miss form false e es blob test is rest = rw test (rest (rw test at is))

pub blob-none : (form : Form) (es : List Entry) (blob : ObjectId) → blob_number form es blob ≡ None → blob_text form es blob ≡ None
blob-none form [] blob is = refl
blob-none form (e ∷ es) blob is = blob-miss form (id_eq blob (blob_id_of form e.text)) e es blob refl is (λ more. blob-none form es blob more)
