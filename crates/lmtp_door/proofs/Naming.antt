-- No act changes the name of the archive.
use Rattle.std.proofs.Common.{◌≡◌, ℕ, Bool, true, false, List, Option, Some, None, Result, Ok, Err, inl, inr, refl, sym, ap, ◌∙◌, subst, if◌then◌else◌, nat_lt}
use Rattle.line_door.specs.Acts.{ConnectionState, Said, Departure, Plain, Memory, Disk, Newer, StopsShort, Sent, Acts}
use Rattle.mail_reader.specs.Stored.{stored}
use Rattle.mail_reader.specs.declared.storing.StoredRefusal.{StoredRefusal}
use Rattle.mail_reader.specs.declared.storing.StoredRefusal.TheVariants as stored_refusal
use Rattle.arch_base.specs.declared.config.Config.{Config}
use Rattle.arch_model.specs.Archives.{Archive}
use Rattle.arch_model.specs.Candidates.{choice_of}
use Rattle.arch_model.specs.Delivery.{Done, refused, collision, delivered, delivered_form, delivered_choice, delivered_kept, delivered_new}
use Rattle.arch_model.specs.Standing.{LastKnown, unsure_of}
use Rattle.arch_model.specs.declared.answer.Answer.TheVariants as answer
use Rattle.arch_model.specs.declared.choice.Choice.{Choice}
use Rattle.arch_model.specs.declared.choice.Choice.TheVariants.{Take, Repeat}
use Rattle.keep_course.specs.Answering.{newer_of}
use Rattle.lmtp_door.specs.Door.{Guest, said_giving, said_opening}
use Rattle.lmtp_door.specs.Sessions.{DoubtHasName, HasName}

-- A delivery leaves the settings.
if-config : (t : Bool) (a : Archive) (x y : Done) → x.archive.config ≡ a.config → y.archive.config ≡ a.config → (if t then x else y).archive.config ≡ a.config
if-config true a x y e f = e
if-config false a x y e f = f

kept-config : (a : Archive) (text : List ℕ) (moment : ℕ) (found : Option ℕ) → (delivered_kept a text moment found).archive.config ≡ a.config
kept-config a text moment (Some number) = refl
kept-config a text moment None = new-config (nat_lt a.config.max a.next) refl
  where
    new-config : (t : Bool) → nat_lt a.config.max a.next ≡ t → (delivered_new a text moment).archive.config ≡ a.config
    new-config true is = rw is refl
    new-config false is = rw is refl

choice-config : (a : Archive) (moment : ℕ) (choice : Choice) → (delivered_choice a moment choice).archive.config ≡ a.config
choice-config a moment (Repeat number) = refl
choice-config a moment (Take text) = kept-config a text moment (collision a.config.form a.entries text)

form-config : (a : Archive) (moment : ℕ) (form : Result (List ℕ) StoredRefusal) → (delivered_form a moment form).archive.config ≡ a.config
form-config a moment (Ok text) = choice-config a moment (choice_of a text)
form-config a moment (Err stored_refusal.NoFields) = refl
form-config a moment (Err (stored_refusal.TooLarge len)) = refl
form-config a moment (Err stored_refusal.NoMemory) = refl

pub config-kept : (a : Archive) (text : List ℕ) (moment : ℕ) → (delivered a text moment).archive.config ≡ a.config
config-kept a text moment = if-config a.config.mirror a (refused a answer.IsMirror) (delivered_form a moment (stored text)) refl (form-config a moment (stored text))

-- The name after the acts on a recipient.
newer-name : (name : List ℕ) (a : Archive) (other : Option Archive) → a.config.name ≡ name → DoubtHasName name other → (newer_of a other).config.name ≡ name
newer-name name a None is also = is
newer-name name a (Some b) is also = also

unsure-name : (name : List ℕ) (a : Archive) (other : Option Archive) → a.config.name ≡ name → DoubtHasName name other → HasName name (unsure_of a other)
unsure-name name a None is also = (is, is)
unsure-name name a (Some b) is also = (is, also)

pub opening-name : (name : List ℕ) (s : LastKnown) (ready next : Guest) (way : Departure) → HasName name s → HasName name (said_opening s ready next way).after
opening-name name s ready next Plain has = (has.0, tt)
opening-name name s ready next Newer has = (newer-name name s.archive s.in_doubt has.0 has.1, tt)
opening-name name s ready next Memory has = has
opening-name name s ready next Disk has = unsure-name name s.archive s.in_doubt has.0 has.1

pub giving-name : (name : List ℕ) (moment : ℕ) (s : LastKnown) (text : List ℕ) (next : Guest) (way : Departure) → HasName name s → HasName name (said_giving moment s text next way).after
giving-name name moment s text next Plain has = (ap (λ (c : Config). c.name) (config-kept s.archive text moment) ∙ has.0, tt)
giving-name name moment s text next Newer has = (ap (λ (c : Config). c.name) (config-kept s.archive text moment) ∙ has.0, tt)
giving-name name moment s text next Memory has = has
giving-name name moment s text next Disk has = (has.0, ap (λ (c : Config). c.name) (config-kept s.archive text moment) ∙ has.0)

-- What an act leaves is what its words leave in one of their ways.
short-after : {H : Type 0} (words : Departure → Said H LastKnown) (way : Departure) (i : ConnectionState) (held : Option H) (t : LastKnown) (j : ConnectionState) → StopsShort words way i held t j → t ≡ (words Plain).after
short-after words Plain i held t j never = absurd never
short-after words Memory i held t j short = short.after_is
short-after words Disk i held t j short = short.after_is
short-after words Newer i held t j never = absurd never

pub acts-name : {H : Type 0} (name : List ℕ) (words : Departure → Said H LastKnown) (i : ConnectionState) (held : Option H) (t : LastKnown) (j : ConnectionState) → Acts words i held t j → ((way : Departure) → HasName name (words way).after) → HasName name t
acts-name {H} name words i held t j acts has = by acts.way acts.sent
  where
    by : (way : Departure) → Sent words way i held t j → HasName name t
    by way (inl whole) = subst (λ (x : LastKnown). HasName name x) (sym whole.after_is) (has way)
    by way (inr (inl lost)) = subst (λ (x : LastKnown). HasName name x) (sym lost.after_is) (has way)
    by way (inr (inr short)) = subst (λ (x : LastKnown). HasName name x) (sym (short-after words way i held t j short)) (has Plain)
