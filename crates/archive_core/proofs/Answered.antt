-- A delivery is never answered that a number isn't live.
use Rattle.std.specs.Prelude.{◌≡◌, ℕ, Bool, true, false, nat_lt, List, Option, Some, None, Result, Ok, Err, if◌then◌else◌}
use Rattle.git_objects.specs.Objects.{blob_id_of}
use Rattle.mail_reader.specs.Stored.{stored}
use Rattle.mail_reader.specs.declared.storing.StoredRefusal.{StoredRefusal}
use Rattle.mail_reader.specs.declared.storing.StoredRefusal.TheVariants as storing
use Rattle.arch_model.specs.Archives.{Archive, with_entry}
use Rattle.arch_model.specs.Candidates.{choice_of}
use Rattle.arch_model.specs.Delivery.{delivered, delivered_form, delivered_choice, delivered_kept, refused, new_epoch, collision}
use Rattle.arch_model.specs.declared.answer.Answer.TheVariants as answer
use Rattle.arch_model.specs.declared.choice.Choice.{Choice}
use Rattle.arch_model.specs.declared.choice.Choice.TheVariants as choice

new_lives : (t : Bool) (a : Archive) (text : List ℕ) (moment n : ℕ) → (if t then refused a (answer.Full a.config.max) else record { archive = with_entry a (new_epoch a) text moment; answer = answer.Ok a.next (blob_id_of a.config.form text) }).answer ≡ answer.NotLive n → ⊥
new_lives true a text moment n is = cc
new_lives false a text moment n is = cc

kept_lives : (a : Archive) (text : List ℕ) (moment n : ℕ) (found : Option ℕ) → (delivered_kept a text moment found).answer ≡ answer.NotLive n → ⊥
kept_lives a text moment n (Some number) is = cc
kept_lives a text moment n None is = new_lives (nat_lt a.config.max a.next) a text moment n is

choice_lives : (a : Archive) (moment n : ℕ) (taken : Choice) → (delivered_choice a moment taken).answer ≡ answer.NotLive n → ⊥
choice_lives a moment n (choice.Repeat number) is = cc
choice_lives a moment n (choice.Take text) is = kept_lives a text moment n (collision a.config.form a.entries text) is

form_lives : (a : Archive) (moment n : ℕ) (form : Result (List ℕ) StoredRefusal) → (delivered_form a moment form).answer ≡ answer.NotLive n → ⊥
form_lives a moment n (Ok text) is = choice_lives a moment n (choice_of a text) is
form_lives a moment n (Err storing.NoFields) is = cc
form_lives a moment n (Err (storing.TooLarge len)) is = cc
form_lives a moment n (Err storing.NoMemory) is = cc

mirror_lives : (t : Bool) (a : Archive) (bytes : List ℕ) (moment n : ℕ) → (if t then refused a answer.IsMirror else delivered_form a moment (stored bytes)).answer ≡ answer.NotLive n → ⊥
mirror_lives true a bytes moment n is = cc
mirror_lives false a bytes moment n is = form_lives a moment n (stored bytes) is

pub delivery-lives : (a : Archive) (bytes : List ℕ) (moment n : ℕ) → (delivered a bytes moment).answer ≡ answer.NotLive n → ⊥
delivery-lives a bytes moment n is = mirror_lives a.config.mirror a bytes moment n is
