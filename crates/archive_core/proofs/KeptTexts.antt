-- A delivery that isn't accepted keeps no text.
use Rattle.std.specs.Prelude.{◌≡◌, ℕ, true}
use Rattle.std.proofs.Common.{sym, subst}
use Rattle.arch_base.specs.declared.ids.Form.{Form}
use Rattle.archive_core.specs.declared.texts.KeptText.{KeptText}
use Rattle.disk_model.specs.declared.name.FileName.{FileName}
use Rattle.arch_model.specs.declared.answer.Answer.{Answer}
use Rattle.arch_model.specs.declared.answer.Answer.TheVariants as answer
use Rattle.arch_model.specs.declared.command.Command.{Command}
use Rattle.arch_model.specs.declared.command.Command.TheVariants.{Deliver, Remove, Purge, Edit}
use Rattle.arch_judge.specs.declared.index.Index.{Index}
use Rattle.arch_judge.specs.declared.judging.Verdict.TheVariants.{Refuse}
use Rattle.epoch_file.specs.declared.refusal.StoreRefusal.{StoreRefusal}
use Rattle.epoch_file.specs.declared.refusal.StoreRefusal.TheVariants as refusal
use Rattle.store_finding.specs.Kept.{StoreState}
use Rattle.archive_core.specs.Commands.{AnswersDelivery, AnswersEdit, IsForCommand, OnDone, TellsText, is_delivery, refusal_answer}
use Rattle.archive_core.specs.Kept.{TakesWhatMay}

pub refuse-tells : (v : StoreState) (index : Index) (reply : Answer) (text : KeptText) → TakesWhatMay v index (Refuse reply) → TellsText v.root.config.form reply text
refuse-tells v index (answer.Ok number id) text never = absurd never
refuse-tells v index answer.NoMemory text is = tt
refuse-tells v index (answer.Duplicate number) text is = tt
refuse-tells v index answer.NoFields text is = tt
refuse-tells v index (answer.TooLarge len) text is = tt
refuse-tells v index (answer.Full max) text is = tt
refuse-tells v index (answer.Collision number) text is = tt
refuse-tells v index (answer.NotLive number) text is = tt
refuse-tells v index (answer.NoText number) text is = tt
refuse-tells v index answer.IsMirror text is = tt
refuse-tells v index answer.DiskFault text is = tt
refuse-tells v index (answer.Damaged file at) text is = tt

pub refuse-done : (v : StoreState) (index : Index) (reply : Answer) (P : Type 0) → TakesWhatMay v index (Refuse reply) → OnDone reply P
refuse-done v index (answer.Ok number id) P never = absurd never
refuse-done v index answer.NoMemory P is = tt
refuse-done v index (answer.Duplicate number) P is = tt
refuse-done v index answer.NoFields P is = tt
refuse-done v index (answer.TooLarge len) P is = tt
refuse-done v index (answer.Full max) P is = tt
refuse-done v index (answer.Collision number) P is = tt
refuse-done v index (answer.NotLive number) P is = tt
refuse-done v index (answer.NoText number) P is = tt
refuse-done v index answer.IsMirror P is = tt
refuse-done v index answer.DiskFault P is = tt
refuse-done v index (answer.Damaged file at) P is = tt

pub refuse-answers : (v : StoreState) (index : Index) (reply : Answer) → TakesWhatMay v index (Refuse reply) → AnswersDelivery reply
refuse-answers v index (answer.Ok n id) never = absurd never
refuse-answers v index answer.NoMemory is = tt
refuse-answers v index answer.DiskFault is = tt
refuse-answers v index (answer.Duplicate n) is = tt
refuse-answers v index answer.NoFields is = tt
refuse-answers v index (answer.TooLarge len) is = tt
refuse-answers v index (answer.Full max) is = tt
refuse-answers v index (answer.Collision n) is = tt
refuse-answers v index (answer.NotLive n) never = absurd never
refuse-answers v index (answer.NoText n) never = absurd never
refuse-answers v index answer.IsMirror is = tt
refuse-answers v index (answer.Damaged file at) is = tt

-- What holds of each answer for an error of the store.
pub error-then : (why : StoreRefusal) (P : Answer → Type 0) → P answer.DiskFault → P answer.NoMemory → ((file : FileName) (at : ℕ) → P (answer.Damaged file at)) → P (refusal_answer why)
error-then refusal.DiskFault P fault short damage = fault
error-then refusal.NoMemory P fault short damage = short
error-then (refusal.Damaged file at) P fault short damage = damage file at

pub error-tells : (form : Form) (why : StoreRefusal) (reply : Answer) (text : KeptText) → reply ≡ refusal_answer why → TellsText form reply text
error-tells form why reply text is = subst (λ (r : Answer). TellsText form r text) (sym is) (error-then why (λ (r : Answer). TellsText form r text) tt tt (λ file at. tt))

pub error-done : (why : StoreRefusal) (reply : Answer) (P : Type 0) → reply ≡ refusal_answer why → OnDone reply P
error-done why reply P is = subst (λ (r : Answer). OnDone r P) (sym is) (error-then why (λ (r : Answer). OnDone r P) tt tt (λ file at. tt))

-- An answer to a delivery is one to an edit.
pub delivery-edit : (number : ℕ) (reply : Answer) → AnswersDelivery reply → AnswersEdit number reply
delivery-edit number (answer.NotLive n) is = absurd is
delivery-edit number other is = is

-- An answer to a delivery is one to a command that delivers.
pub for-delivery : (m : Command) (reply : Answer) → is_delivery m ≡ true → AnswersDelivery reply → IsForCommand m reply
for-delivery (Deliver bytes) reply delivers is = is
for-delivery (Remove number) reply delivers is = absurd (cc)
for-delivery (Purge number) reply delivers is = absurd (cc)
for-delivery (Edit number bytes) reply delivers is = delivery-edit number reply is
