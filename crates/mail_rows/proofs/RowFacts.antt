-- The facts of a row, by what the calls below give.
use Rattle.std.proofs.Common.{◌≡◌, ℕ, List, [], Option, Some, None, arith, FitsSigned, w16, refl, sym, ap}
use Rattle.std.specs.Prelude.{ℤ, option_map, length}
use Rattle.std.proofs.lemmas.Int.{ints}
use Rattle.std.proofs.lemmas.Option.{same_Some, none-some}
use Rattle.arch_base.specs.declared.ids.ObjectId.{ObjectId}
use Rattle.arch_base.specs.declared.ids.Form.{Form}
use Rattle.git_objects.specs.Commits.{IsCommitZone}
use Rattle.git_objects.specs.Objects.{blob_id_of}
use Rattle.mail_commits.specs.Commits.{commit_of, written_at}
use Rattle.mail_commits.specs.Facts.{subject_of, from_fact, subject_fact, date_fact}
use Rattle.mail_date.specs.declared.moment.Moment.{Moment}
use Rattle.mail_forms.specs.Mailboxes.{mbox_of}
use Rattle.mail_forms.specs.WireForms.{wire_of, feeds_of}
use Rattle.mail_reader.specs.Bodies.{body_of}
use Rattle.mail_reader.specs.Content.{content_id_of}
use Rattle.mail_reader.specs.Fields.{FieldText, fields_of, first_named}
use Rattle.mail_reader.specs.Ids.{own_id}
use Rattle.mail_reader.specs.References.{refs_of}
use Rattle.mail_reader.specs.Values.{flat_of}
use Rattle.mime_words.specs.Decoding.{decoded}
use Rattle.arch_model.specs.Overviews.{id_or_nothing, id_fact, over_of}
use Rattle.arch_model.specs.Rows.{row_of}
use Rattle.mail_forms.specs.declared.row.Row.{Row}
use Rattle.std.specs.Prelude.{codes}

some_subject : (field : Option FieldText) (value : List ℕ) → Some value ≡ option_map (λ (f : FieldText). f.value) field → decoded (flat_of value) ≡ subject_of field
some_subject None value e = absurd (none-some _ (sym e))
some_subject (Some f) value e = ap (λ v. decoded (flat_of v)) (same_Some _ _ e)

none_subject : (field : Option FieldText) → None ≡ option_map (λ (f : FieldText). f.value) field → [] ≡ subject_of field
none_subject None e = refl
none_subject (Some f) e = absurd (none-some _ e)

-- The subject of a text, by the value of its first Subject field.
pub subject-some : (text value : List ℕ) → Some value ≡ option_map (λ (f : FieldText). f.value) (first_named (codes "Subject") (fields_of text)) → decoded (flat_of value) ≡ subject_fact text
unfolding subject_fact
subject-some text value e = some_subject (first_named (codes "Subject") (fields_of text)) value e

pub subject-none : (text : List ℕ) → None ≡ option_map (λ (f : FieldText). f.value) (first_named (codes "Subject") (fields_of text)) → [] ≡ subject_fact text
unfolding subject_fact
subject-none text e = none_subject (first_named (codes "Subject") (fields_of text)) e

-- The own id of a text, or nothing.
pub id-some : (text id : List ℕ) → Some id ≡ own_id text → id ≡ id_fact text
unfolding id_fact
id-some text id e = ap id_or_nothing e

pub id-none : (text : List ℕ) → None ≡ own_id text → [] ≡ id_fact text
unfolding id_fact
id-none text e = ap id_or_nothing e

-- The author and the date of the commit that keeps a text.
pub commit-author : (text : List ℕ) (tree : ObjectId) (parent : Option ObjectId) (moment : ℕ) → (commit_of text tree parent moment).author ≡ from_fact text
unfolding commit_of
commit-author text tree parent moment = refl

pub commit-date : (text : List ℕ) (tree : ObjectId) (parent : Option ObjectId) (moment secs : ℕ) (zone : ℤ) → secs ≡ (commit_of text tree parent moment).secs → zone ≡ (commit_of text tree parent moment).zone
    → let date : Moment = record { secs = secs; zone = zone } in date ≡ written_at (date_fact text) moment
unfolding commit_of
commit-date text tree parent moment secs zone s z = rw (s, z) refl

-- The zone of a commit fits in 16 bits.
pub zone_fits : (zone : ℤ) → IsCommitZone zone → FitsSigned w16 zone
zone_fits zone h =
    let low = h.low in
    let high = h.high in
    omega (arith, ints)

-- A row of the facts of a text is its row.
pub row-made : (form : Form) (number : ℕ) (text : List ℕ) (arrived : ℕ) (blob : ObjectId) (id : List ℕ) (refs : List (List ℕ)) (subject from : List ℕ) (date : Moment) (size wire mbox lines : ℕ) (over content : List ℕ)
    → blob ≡ blob_id_of form text → id ≡ id_fact text → refs ≡ refs_of text → subject ≡ subject_fact text → from ≡ from_fact text → date ≡ written_at (date_fact text) arrived → size ≡ length text
    → wire ≡ length (wire_of text) → mbox ≡ length (mbox_of text) → lines ≡ feeds_of (body_of text) → over ≡ over_of text → content ≡ content_id_of text
    → let made : Row = record { number = number; blob = blob; id = id; refs = refs; subject = subject; from = from; date = date; arrived = arrived; size = size; wire = wire; mbox = mbox; lines = lines; over = over; content = content } in
    made ≡ row_of form number text arrived
unfolding row_of
row-made form number text arrived blob id refs subject from date size wire mbox lines over content b i r s f d z w m l o c =
    rw (b, i, r, s, f, d, z, w, m, l, o, c) refl
