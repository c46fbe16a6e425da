-- What was walked through so far, and the views of its live messages.
use Rattle.std.specs.Prelude.{◌≡◌, ◌+◌, ◌<◌, ◌≤◌, ◌&&◌, ℕ, zero, suc, Bool, true, false, not, List, [], ◌∷◌, ◌++◌, length, take, drop, slice_get, Some, None, Err, refl, if◌then◌else◌}
use Rattle.std.proofs.Common.{◌∙◌, sym, ap, subst, arith}
use Rattle.std.proofs.lemmas.Option.{same_Some}
use Rattle.git_objects.specs.declared.entry_kind.EntryKind.{EntryKind}
use Rattle.git_objects.specs.declared.entry_kind.EntryKind.TheVariants.{Message, Deletion}
use Rattle.mime_parts.specs.Words.{mail_words}
use Rattle.arch_base.specs.declared.ids.Form.{Form}
use Rattle.git_objects.specs.Objects.{blob_id_of}
use Rattle.arch_model.specs.Archives.{Entry, Archive, message, deletion, is_message, is_ended, live}
use Rattle.arch_model.specs.Rows.{row_of}
use Rattle.arch_model.specs.Shelves.{line_after, lines_after, line_at}
use Rattle.arch_model.specs.Validity.{IsArchive, NumberIsFrom, Rise, number_after}
use Rattle.arch_model.specs.Walking.{GivesLine, HasTextAt, WalksOn}
use Rattle.arch_model.specs.declared.text_refusal.TextRefusal.{TextRefusal}
use Rattle.arch_model.specs.declared.text_refusal.TextRefusal.TheVariants as refusal
use Rattle.arch_model.specs.declared.line.EntryLine.{EntryLine}
use Rattle.arch_model.proofs.LiveEntries.{live-message, live-deletion, without as without_number}
use Rattle.overview_index.proofs.Messages.{AllBelow, Ascends}
use Rattle.view_set.specs.Viewed.{Viewed, with_mail, without_mail, views_of}
use Rattle.view_set.specs.Walks.{AddsRowAt, IsDamagedTextAt, NamesBlob, message_count, reads_of}
use Rattle.view_set.proofs.MailLists.{mails-added, mails-taken}

-- The numbers of live messages rise.
ascends-low : (low number : ℕ) (es : List Entry) → low ≤ number → Ascends number es → Ascends low es
ascends-low low number [] less ascends = tt
ascends-low low number (e ∷ es) less ascends = (let above : number ≤ e.number = ascends.0 in omega (arith, less, above), ascends.1)

ascends_step : (k : EntryKind) (ended : Bool) (number : ℕ) (e : Entry) (xs : List Entry) → NumberIsFrom k number e.number → Ascends (number_after k number e.number) xs → Ascends number (if is_message k && not ended then e ∷ xs else xs)
ascends_step Message true number e xs low rest = ascends-low number (e.number + 1) xs (omega (arith, low)) rest
ascends_step Message false number e xs low rest = (low, rest)
ascends_step Deletion ended number e xs low rest = rest

pub live-ascends : (number epoch : ℕ) (es : List Entry) → Rise number epoch es → Ascends number (live es)
live-ascends number epoch [] rise = tt
live-ascends number epoch (e ∷ es) rise = ascends_step e.kind (is_ended es e.number) number e (live es) rise.0 (live-ascends (number_after e.kind number e.number) e.epoch es rise.2)

-- An index of a line is below their number.
pub line-within : (ls : List EntryLine) (i : ℕ) (line : EntryLine) → slice_get ls i ≡ Some line → i < length ls
line-within [] i line is = absurd (cc)
line-within (l ∷ ls) zero line is = omega arith
line-within (l ∷ ls) (suc i) line is = (let rest = line-within ls i line is in omega (arith, rest))

pub take-zero : (es : List Entry) → take 0 es ≡ []
take-zero [] = refl
take-zero (e ∷ es) = refl

-- The entry of a line.
pub record IsLineOf (form : Form) (es : List Entry) (i : ℕ) (line : EntryLine) : Type 0 where
  pub entry : Entry
  pub there : slice_get es i ≡ Some entry
  pub kind : entry.kind ≡ line.kind
  pub number : entry.number ≡ line.number
  pub secs : entry.moment ≡ line.secs
  pub blob : blob_id_of form entry.text ≡ line.blob

pub line-entry : (form : Form) (before es : List Entry) (i : ℕ) (line : EntryLine) → slice_get (lines_after form before es) i ≡ Some line → IsLineOf form es i line
line-entry form before [] i line is = absurd (cc)
line-entry form before (e ∷ es) zero line is =
    let same : line_after form before e ≡ line = same_Some (line_after form before e) line is in
    record { entry = e; there = refl; kind = ap (λ (l : EntryLine). l.kind) same; number = ap (λ (l : EntryLine). l.number) same; secs = ap (λ (l : EntryLine). l.secs) same; blob = ap (λ (l : EntryLine). l.blob) same }
line-entry form before (e ∷ es) (suc i) line is = let rest = line-entry form (before ++ e ∷ []) es i line is in record { entry = rest.entry; there = rest.there; kind = rest.kind; number = rest.number; secs = rest.secs; blob = rest.blob }

-- The blob id of a line is that of its entry's text.
pub line-blob : (form : Form) (es : List Entry) (i : ℕ) (line : EntryLine) (text : List ℕ) → line_at form es i ≡ Some line → HasTextAt es i text → line.blob ≡ blob_id_of form text
line-blob form es i line text is has =
    let at = line-entry form [] es i line is in
    sym at.blob ∙ ap (λ (f : Entry). blob_id_of form f.text) (same_Some at.entry has.0 (sym at.there ∙ has.1)) ∙ ap (blob_id_of form) has.2

-- One entry more.
pub take-more : (es : List Entry) (i : ℕ) (e : Entry) → slice_get es i ≡ Some e → take (i + 1) es ≡ take i es ++ e ∷ []
take-more [] i e there = absurd (cc)
take-more (x ∷ es) zero e there = ap (λ (y : Entry). y ∷ []) (same_Some x e there)
take-more (x ∷ es) (suc i) e there = let on : suc i + 1 ≡ suc (i + 1) = omega arith in rw on (ap (λ (l : List Entry). x ∷ l) (take-more es i e there))

pub take-all : (form : Form) (before es : List Entry) (i : ℕ) → slice_get (lines_after form before es) i ≡ None → take i es ≡ es
take-all form before [] zero none = refl
take-all form before [] (suc i) none = refl
take-all form before (e ∷ es) zero none = absurd (cc)
take-all form before (e ∷ es) (suc i) none = ap (λ (l : List Entry). e ∷ l) (take-all form (before ++ e ∷ []) es i none)

pub rise-take : (number epoch i : ℕ) (es : List Entry) → Rise number epoch es → Rise number epoch (take i es)
rise-take number epoch zero [] rise = tt
rise-take number epoch (suc i) [] rise = tt
rise-take number epoch zero (e ∷ es) rise = tt
rise-take number epoch (suc i) (e ∷ es) rise = (rise.0, rise.1, rise-take (number_after e.kind number e.number) e.epoch i es rise.2)

last_above : (number : ℕ) (xs : List Entry) (e : Entry) → Ascends number (xs ++ e ∷ []) → (number ≤ e.number) × AllBelow e.number xs
last_above number [] e rise = (rise.0, tt)
last_above number (x ∷ xs) e rise =
    let rest = last_above (x.number + 1) xs e rise.1 in
    let low : number ≤ x.number = rise.0 in
    let above : x.number + 1 ≤ e.number = rest.0 in
    (omega (arith, low, above), (omega (arith, above), rest.1))

as_message : (e : Entry) → e.kind ≡ Message → e ≡ message e.number e.epoch e.text e.moment
as_message e is = ap (λ (k : EntryKind). let f : Entry = record { kind = k; number = e.number; epoch = e.epoch; text = e.text; moment = e.moment } in f) is

as_deletion : (e : Entry) → e.kind ≡ Deletion → e ≡ deletion e.number e.epoch e.text e.moment
as_deletion e is = ap (λ (k : EntryKind). let f : Entry = record { kind = k; number = e.number; epoch = e.epoch; text = e.text; moment = e.moment } in f) is

-- The views with one message more.
pub views-message : (a : Archive) (i : ℕ) (line : EntryLine) (old new : Viewed) → IsArchive a → line_at a.config.form a.entries i ≡ Some line → line.kind ≡ Message → old ≡ views_of a.config.form (live (take i a.entries)) → AddsRowAt a.config.form a.entries i line.number line.secs old new
    → new ≡ views_of a.config.form (live (take (i + 1) a.entries))
views-message a i line old new valid is kind old_is adds =
    let at = line-entry a.config.form [] a.entries i line is in
    let e : Entry = at.entry in
    let more : take (i + 1) a.entries ≡ take i a.entries ++ e ∷ [] = take-more a.entries i e at.there in
    let one : e ≡ message e.number e.epoch e.text e.moment = as_message e (at.kind ∙ kind) in
    let grows : live (take i a.entries ++ e ∷ []) ≡ live (take i a.entries) ++ e ∷ [] =
    ap (λ (f : Entry). live (take i a.entries ++ f ∷ [])) one ∙ live-message (take i a.entries) e.number e.epoch e.text e.moment ∙ ap (λ (f : Entry). live (take i a.entries) ++ f ∷ []) (sym one) in
    let rise : Ascends 1 (live (take i a.entries) ++ e ∷ []) = subst (λ (l : List Entry). Ascends 1 l) (ap live more ∙ grows) (live-ascends 1 0 (take (i + 1) a.entries) (rise-take 1 0 (i + 1) a.entries valid.order)) in
    let text_is : adds.0 ≡ e.text = sym adds.1.2 ∙ ap (λ (f : Entry). f.text) (same_Some adds.1.0 e (sym adds.1.1 ∙ at.there)) in
    let before : Viewed = views_of a.config.form (live (take i a.entries)) in
    adds.2
    ∙ ap (λ (v : Viewed). with_mail v (row_of a.config.form line.number adds.0 line.secs) (mail_words adds.0)) old_is
    ∙ ap (λ n. with_mail before (row_of a.config.form n adds.0 line.secs) (mail_words adds.0)) (sym at.number)
    ∙ ap (λ t. with_mail before (row_of a.config.form e.number t line.secs) (mail_words t)) text_is
    ∙ ap (λ m. with_mail before (row_of a.config.form e.number e.text m) (mail_words e.text)) (sym at.secs)
    ∙ mails-added a.config.form (live (take i a.entries)) e (last_above 1 (live (take i a.entries)) e rise).1
    ∙ ap (views_of a.config.form) (sym (ap live more ∙ grows))

-- And with one deletion more.
pub views-deletion : (a : Archive) (i : ℕ) (line : EntryLine) (old new : Viewed) → IsArchive a → line_at a.config.form a.entries i ≡ Some line → line.kind ≡ Deletion → old ≡ views_of a.config.form (live (take i a.entries)) → new ≡ without_mail old line.number
    → new ≡ views_of a.config.form (live (take (i + 1) a.entries))
views-deletion a i line old new valid is kind old_is new_is =
    let at = line-entry a.config.form [] a.entries i line is in
    let e : Entry = at.entry in
    let more : take (i + 1) a.entries ≡ take i a.entries ++ e ∷ [] = take-more a.entries i e at.there in
    let one : e ≡ deletion e.number e.epoch e.text e.moment = as_deletion e (at.kind ∙ kind) in
    let shrinks : live (take i a.entries ++ e ∷ []) ≡ without_number e.number (live (take i a.entries)) =
    ap (λ (f : Entry). live (take i a.entries ++ f ∷ [])) one ∙ live-deletion (take i a.entries) e.number e.epoch e.text e.moment in
    let rise : Ascends 1 (live (take i a.entries)) = live-ascends 1 0 (take i a.entries) (rise-take 1 0 i a.entries valid.order) in
    new_is
    ∙ ap (λ (v : Viewed). without_mail v line.number) old_is
    ∙ ap (λ n. without_mail (views_of a.config.form (live (take i a.entries))) n) (sym at.number)
    ∙ mails-taken a.config.form (live (take i a.entries)) 1 e.number rise
    ∙ ap (views_of a.config.form) (sym (ap live more ∙ shrinks))

-- What was walked through so far.
pub record Filled {W : Type 0} (holds : W → Archive → Type 0) (sound : W → Type 0) (lines : W → List EntryLine) (alike : W → W → Type 0) (faults reads : W → ℕ) (old new : W) (index : ℕ) (views : Viewed) : Type 0 where
  pub walk : WalksOn holds sound lines alike faults old new
  pub views_are : (a : Archive) → holds old a → views ≡ views_of a.config.form (live (take index a.entries))
  pub steady : faults new ≡ faults old
  pub few : reads new + message_count (drop index (lines old)) ≤ reads old + message_count (lines old)

module _ {W : Type 0} (holds : W → Archive → Type 0) (sound : W → Type 0) (lines : W → List EntryLine) (alike : W → W → Type 0) (faults : W → ℕ) (alike_same : (w : W) → alike w w) (alike_joined : (w x y : W) → alike w x → alike x y → alike w y) where
  pub walks-same : (w : W) → WalksOn holds sound lines alike faults w w
  walks-same w = record { same = alike_same w; kept = λ a held. held; sounds = λ is. is; lines_are = refl; later = omega arith }

  pub walks-joined : (w x y : W) → WalksOn holds sound lines alike faults w x → WalksOn holds sound lines alike faults x y → WalksOn holds sound lines alike faults w y
  walks-joined w x y first second = record {
    same = alike_joined w x y first.same second.same;
    kept = λ a held. second.kept a (first.kept a held);
    sounds = λ is. second.sounds (first.sounds is);
    lines_are = second.lines_are ∙ first.lines_are;
    later = (let one : faults w ≤ faults x = first.later in let two : faults x ≤ faults y = second.later in omega (arith, one, two));
  }

-- A damaged text is that of the line that was read.
pub blob-named : (line : EntryLine) (before after : List ℕ) (why : TextRefusal) → GivesLine line before after (Err why) → NamesBlob line.blob why
blob-named line before after refusal.DiskFault gives = tt
blob-named line before after (refusal.Damaged named found) gives = (gives.1, gives.2)
blob-named line before after refusal.NoMemory gives = tt

pub damaged-at : (lines : List EntryLine) (index : ℕ) (line : EntryLine) (why : TextRefusal) → slice_get lines index ≡ Some line → line.kind ≡ Message → NamesBlob line.blob why → IsDamagedTextAt lines index why
damaged-at lines index line refusal.DiskFault here kind names = tt
damaged-at lines index line (refusal.Damaged named found) here kind names = (line, here, kind, names.0, names.1)
damaged-at lines index line refusal.NoMemory here kind names = tt

-- The messages from an index on are that of the line there and those after it.
count-more : (ls : List EntryLine) (i : ℕ) (line : EntryLine) → slice_get ls i ≡ Some line → message_count (drop i ls) ≡ reads_of line.kind + message_count (drop (i + 1) ls)
count-more [] i line is = absurd (cc)
count-more (l ∷ ls) zero line is = ap (λ (x : EntryLine). reads_of x.kind + message_count ls) (same_Some l line is)
count-more (l ∷ ls) (suc i) line is = let on : suc i + 1 ≡ suc (i + 1) = omega arith in rw on (count-more ls i line is)

pub messages-from : (ls now : List EntryLine) (i : ℕ) (line : EntryLine) → now ≡ ls → slice_get now i ≡ Some line → message_count (drop i ls) ≡ reads_of line.kind + message_count (drop (i + 1) ls)
messages-from ls now i line same is = count-more ls i line (ap (λ (l : List EntryLine). slice_get l i) (sym same) ∙ is)
