-- What a value spells, and what it doesn't spell.
use Rattle.std.proofs.Common.{◌≡◌, ℕ, List, Option, Some, None, IfNone, subst, sym, ap, ◌∙◌}
use Rattle.std.specs.Prelude.{IfSome}
use Rattle.std.proofs.lemmas.Option.{same_Some, none-some}
use Rattle.mail_date.specs.declared.moment.Moment.{Moment}
use Rattle.mail_date.specs.declared.moment.CivilDate.{CivilDate}
use Rattle.mail_date.specs.Dates.{IsMomentOf}
use Rattle.mail_date.specs.Reading.{date_of}
use Rattle.mail_date.specs.Parts.{SpellsMoment}
use Rattle.mail_date.specs.Laws.{GivesWrittenMoment}
use Rattle.mail_date.proofs.PartLemmas.{spelled_parts, parts_spell}
use Rattle.mail_date.proofs.OneLemmas.{one_spelled}
use Rattle.mail_date.proofs.WrittenLemmas.{written_spelled}

-- The moment of a text's date is spelled.
pub spelled_by_date : (answer : Option Moment) (text : List ℕ) (date : CivilDate) → Some date ≡ date_of text → IfSome answer (IsMomentOf date) → IfSome answer (SpellsMoment text)
spelled_by_date None text date e h = tt
spelled_by_date (Some moment) text date e h = (date, spelled_parts text date (sym e), h)

-- A text whose date names no moment spells none.
pub refused_by_date : (answer : Option Moment) (text : List ℕ) (date : CivilDate) → Some date ≡ date_of text → IfNone answer ((moment : Moment) → IsMomentOf date moment → ⊥) → IfNone answer ((moment : Moment) → SpellsMoment text moment → ⊥)
refused_by_date None text date e h =
    λ moment spelled. h moment (subst (λ (other : CivilDate). IsMomentOf other moment) (sym (same_Some _ _ (e ∙ parts_spell text spelled.0 spelled.1))) spelled.2)
refused_by_date (Some moment) text date e h = tt

-- A text without a date spells no moment.
no_date : (text : List ℕ) → None ≡ date_of text → (moment : Moment) → SpellsMoment text moment → ⊥
no_date text e moment spelled = none-some _ (e ∙ parts_spell text spelled.0 spelled.1)

pub refused_without_date : (answer : Option Moment) (text : List ℕ) → None ≡ date_of text → IfNone answer ((moment : Moment) → SpellsMoment text moment → ⊥)
refused_without_date None text e = no_date text e
refused_without_date (Some moment) text e = tt

pub written_without_date : (answer : Option Moment) (text : List ℕ) → None ≡ date_of text → GivesWrittenMoment text answer
written_without_date answer text none moment date shown bound zone e =
    absurd (no_date text none moment (subst (λ (t : List ℕ). SpellsMoment t moment) (sym e) (written_spelled moment date shown bound zone)))

-- The moment that a text is written for is the answer.
pub written_given : (answer : Option Moment) (text : List ℕ) → IfSome answer (SpellsMoment text) → IfNone answer ((moment : Moment) → SpellsMoment text moment → ⊥) → GivesWrittenMoment text answer
written_given None text h k moment date shown bound zone e = absurd (k moment (subst (λ (t : List ℕ). SpellsMoment t moment) (sym e) (written_spelled moment date shown bound zone)))
written_given (Some found) text h k moment date shown bound zone e =
    ap (λ (m : Moment). Some m) (one_spelled text found moment h (subst (λ (t : List ℕ). SpellsMoment t moment) (sym e) (written_spelled moment date shown bound zone)))
