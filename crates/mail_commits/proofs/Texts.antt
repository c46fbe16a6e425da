-- Clean texts, and the values of fields.
use Rattle.std.proofs.Common.{◌≡◌, ◌<◌, ◌-◌, ℕ, true, List, [], ◌∷◌, ◌++◌, codes, length, take, drop, Option, Some, None, refl, sym, ap, ◌∙◌, arith, append-nil, append_assoc}
use Rattle.std.specs.Prelude.{◌≤◌, Result, Ok, Err, IfOk, IfSome, option_map, option_and_then}
use Rattle.std.specs.List.{prefix_len, suffix_len, flat_map}
use Rattle.std.specs.Str.{str_eq_ignore_ascii_case}
use Rattle.std.proofs.lemmas.Option.{same_Some, none-some}
use Rattle.std.proofs.lemmas.List.{length-drop}
use Rattle.arch_base.specs.declared.sequence.NoMemory.{NoMemory}
use Rattle.git_objects.specs.CleanText.{is_space, trimmed, clean, IsCleanText}
use Rattle.git_objects.proofs.Cleaning.{IsCleanText-clean}
use Rattle.git_objects.specs.Commits.{IsCommitZone}
use Rattle.mail_address.specs.declared.address.Address.{Address}
use Rattle.mail_address.specs.Addresses.{addresses_of}
use Rattle.mail_date.specs.declared.moment.Moment.{Moment}
use Rattle.mail_date.specs.Dates.{last_second}
use Rattle.mail_date.specs.Pieces.{IsZone as IsDateZone}
use Rattle.mail_date.specs.Reading.{moment_in}
use Rattle.mail_reader.specs.Fields.{FieldText, fields_of, first_named}
use Rattle.mail_reader.specs.Values.{flat_of}
use Rattle.mime_words.specs.Decoding.{decoded}
use Rattle.mail_commits.specs.Facts.{values_of, after_comma, listed, subject_of, from_list, first_mailbox_of, first_mailbox, from_of, email_of, from_fact, email_fact, subject_fact, date_fact}

-- A list of length 0 is empty.
nil_by : (xs : List ℕ) → length xs ≡ 0 → xs ≡ []
nil_by [] h = refl
nil_by (x ∷ xs) h = absurd (omega arith)

-- Nothing is left of a list after its end.
drop_past : (n : ℕ) (xs : List ℕ) → length xs < n → drop n xs ≡ []
drop_past n xs h = nil_by (drop n xs) (omega (arith, length-drop n xs))

-- A text of spaces alone has nothing between them.
pub trimmed-nothing : (text front : List ℕ) (n m : ℕ) → n ≡ prefix_len is_space text → m ≡ suffix_len is_space text → front ≡ take (length text - m) text → length front < n
    → [] ≡ trimmed text
trimmed-nothing text front n m e f g h = rw (sym e, sym f, sym g) (sym (drop_past n front h))

-- What is between the spaces at the two ends.
pub trimmed-crash_between : (text front back : List ℕ) (n m : ℕ) → n ≡ prefix_len is_space text → m ≡ suffix_len is_space text → front ≡ take (length text - m) text → back ≡ drop n front
    → back ≡ trimmed text
trimmed-crash_between text front back n m e f g h = rw (sym e, sym f, sym g) h

-- A copy of a clean text is clean.
pub copied-clean : (made : Result (List ℕ) NoMemory) (bytes text : List ℕ) → bytes ≡ clean text → IfOk made (λ copy. copy ≡ bytes) → IfOk made IsCleanText
copied-clean (Ok copy) bytes text e h = rw (h ∙ e) (IsCleanText-clean text)
copied-clean (Err refused) bytes text e h = tt

-- One more field with the name.
pub values-taken : (name old new : List ℕ) (all : List ℕ) (fields later : List FieldText) (field : FieldText) → fields ≡ field ∷ later → str_eq_ignore_ascii_case field.name name ≡ true
    → new ≡ old ++ after_comma (flat_of field.value) → old ++ flat_map after_comma (values_of name fields) ≡ all → new ++ flat_map after_comma (values_of name later) ≡ all
values-taken name old new all fields later field e t f h =
    let first : values_of name fields ≡ flat_of field.value ∷ values_of name later = ap (values_of name) e ∙ rw t refl in
    rw f (append_assoc old (after_comma (flat_of field.value)) (flat_map after_comma (values_of name later)) ∙ ap (λ values. old ++ flat_map after_comma values) (sym first) ∙ h)

-- No more field.
pub values-end : (name old : List ℕ) (all : List ℕ) (fields : List FieldText) → fields ≡ [] → old ++ flat_map after_comma (values_of name fields) ≡ all → old ≡ all
values-end name old all fields e h = sym (append-nil old) ∙ ap (λ left. old ++ flat_map after_comma (values_of name left)) (sym e) ∙ h

-- Without the first comma and space, the values are listed.
pub listed-drop : (values : List (List ℕ)) → drop 2 (flat_map after_comma values) ≡ listed values
listed-drop [] = refl
listed-drop (value ∷ values) = refl

-- The subject, by the value of a field or none.
pub subject-some : (field : Option FieldText) (value : List ℕ) → Some value ≡ option_map (λ (f : FieldText). f.value) field → subject_of field ≡ decoded (flat_of value)
subject-some None value e = absurd (none-some _ (sym e))
subject-some (Some f) value e = ap (λ v. decoded (flat_of v)) (sym (same_Some _ _ e))

pub subject-none : (field : Option FieldText) → None ≡ option_map (λ (f : FieldText). f.value) field → subject_of field ≡ []
subject-none None e = refl
subject-none (Some f) e = absurd (none-some _ e)

-- The author of a text, by its first mailbox.
pub from_fact-by : (text : List ℕ) (found : List Address) (mailbox : Option Address) → found ≡ addresses_of (from_list text) → mailbox ≡ first_mailbox_of found → from_of mailbox ≡ from_fact text
unfolding from_fact first_mailbox
from_fact-by text found mailbox f m = rw (m, f) refl

pub email_fact-by : (text : List ℕ) (found : List Address) (mailbox : Option Address) → found ≡ addresses_of (from_list text) → mailbox ≡ first_mailbox_of found → email_of mailbox ≡ email_fact text
unfolding email_fact first_mailbox
email_fact-by text found mailbox f m = rw (m, f) refl

-- The subject of a text, by the value of its first Subject field.
pub subject_fact-some : (text value : List ℕ) → Some value ≡ option_map (λ (f : FieldText). f.value) (first_named (codes "Subject") (fields_of text)) → decoded (flat_of value) ≡ subject_fact text
unfolding subject_fact
subject_fact-some text value e = sym (subject-some (first_named (codes "Subject") (fields_of text)) value e)

pub subject_fact-none : (text : List ℕ) → None ≡ option_map (λ (f : FieldText). f.value) (first_named (codes "Subject") (fields_of text)) → [] ≡ subject_fact text
unfolding subject_fact
subject_fact-none text e = sym (subject-none (first_named (codes "Subject") (fields_of text)) e)

-- When a text was written, by the value of its first Date field.
date-some : (field : Option FieldText) (value : List ℕ) → Some value ≡ option_map (λ (f : FieldText). f.value) field → moment_in value ≡ option_and_then (λ (f : FieldText). moment_in f.value) field
date-some None value e = absurd (none-some _ (sym e))
date-some (Some f) value e = ap moment_in (same_Some _ _ e)

date-none : (field : Option FieldText) → None ≡ option_map (λ (f : FieldText). f.value) field → None ≡ option_and_then (λ (f : FieldText). moment_in f.value) field
date-none None e = refl
date-none (Some f) e = absurd (none-some _ e)

pub date_fact-some : (text value : List ℕ) → Some value ≡ option_map (λ (f : FieldText). f.value) (first_named (codes "Date") (fields_of text)) → moment_in value ≡ date_fact text
unfolding date_fact
date_fact-some text value e = date-some (first_named (codes "Date") (fields_of text)) value e

pub date_fact-none : (text : List ℕ) → None ≡ option_map (λ (f : FieldText). f.value) (first_named (codes "Date") (fields_of text)) → None ≡ date_fact text
unfolding date_fact
date_fact-none text e = date-none (first_named (codes "Date") (fields_of text)) e

-- The zone of a moment that is read is a zone of a commit.
pub zone_of_read : (found : Option Moment) → IfSome found (λ moment. (moment.secs ≤ last_second) × IsDateZone moment.zone) → IfSome found (λ moment. IsCommitZone moment.zone)
zone_of_read None h = tt
zone_of_read (Some moment) h = record { low = h.1.0; high = h.1.1 }
