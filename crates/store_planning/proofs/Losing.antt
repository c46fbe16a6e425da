-- Which epochs a planner writes anew: those that lose an entry.
use Rattle.std.specs.Prelude.{◌≡◌, ◌==◌, ℕ, Bool, true, false, ◌&&◌, ◌||◌, if◌then◌else◌, List, [], ◌∷◌, ◌++◌, Option, Some, None, is_some, refl}
use Rattle.std.proofs.Common.{◌∙◌, sym, ap, inl, inr}
use Rattle.disk_model.specs.Disk.{Content}
use Rattle.disk_model.specs.declared.name.FileKind.{FileKind}
use Rattle.disk_model.specs.declared.name.FileKind.TheVariants as kind
use Rattle.disk_model.specs.declared.name.FileName.{FileName}
use Rattle.root_change.specs.Rewriting.{Plan, plan_of, same_kind}
use Rattle.root_change.proofs.PlanParts.{is_of}
use Rattle.epoch_file.specs.Planning.{IsOfEpoch, Planned}
use Rattle.store_finding.specs.declared.entries.StoredEntry.{StoredEntry}
use Rattle.store_planning.specs.Planning.{ChangesNext, ClosesAs, PlansEntry, LeavesOut, OpensPlan, OpensBy, Planning, is_anew, is_changed, without_current}

-- Tests.
pub or_no : (t : Bool) → (t || false) ≡ t
or_no true = refl
or_no false = refl

or_more : (s c n : Bool) → (s || n) ≡ ((s || (c && n)) || n)
or_more true c n = refl
or_more false true true = refl
or_more false true false = refl
or_more false false n = refl

-- One more plan of an epoch.
some_if : (t : Bool) (p : Plan) → is_some (if t then Some p else None) ≡ t
some_if true p = refl
some_if false p = refl

some_step : (t : Bool) (q : Plan) (one two : Option Plan) (u : Bool) → is_some one ≡ (is_some two || u) → is_some (if t then Some q else one) ≡ (is_some (if t then Some q else two) || u)
some_step true q one two u is = refl
some_step false q one two u is = is

some_more : (ps : List Plan) (p : Plan) (e : ℕ) → p.kind ≡ kind.Epoch → is_some (plan_of (ps ++ p ∷ []) kind.Epoch e) ≡ (is_some (plan_of ps kind.Epoch e) || (p.number == e))
some_more [] p e k_is = some_if (is_of p kind.Epoch e) p ∙ ap (λ (k : FileKind). same_kind k kind.Epoch && (p.number == e)) k_is
some_more (q ∷ qs) p e k_is = some_step (is_of q kind.Epoch e) q (plan_of (qs ++ p ∷ []) kind.Epoch e) (plan_of qs kind.Epoch e) (p.number == e) (some_more qs p e k_is)

-- The current epoch was closed.
pub closed_some : (old : Planning) (c : Planned) (finished : Option Plan) (new : Planning) (e : ℕ) → IsOfEpoch c.file finished → ClosesAs (without_current old) finished new → is_some finished ≡ is_some c.changed
    → is_some (plan_of new.plans kind.Epoch e) ≡ (is_some (plan_of old.plans kind.Epoch e) || is_changed (Some c) e)
closed_some old c None new e of is only =
    ap (λ (p : Planning). is_some (plan_of p.plans kind.Epoch e)) is
    ∙ (sym (or_no (is_some (plan_of old.plans kind.Epoch e))) ∙ ap (λ (t : Bool). is_some (plan_of old.plans kind.Epoch e) || (t && (c.file.number == e))) only)
closed_some old c (Some plan) new e of pushed only =
    ap (λ (p : Planning). is_some (plan_of p.plans kind.Epoch e)) pushed.0
    ∙ (some_more old.plans plan e of.kind
    ∙ (ap (λ (n : ℕ). is_some (plan_of old.plans kind.Epoch e) || (n == e)) of.number
    ∙ ap (λ (t : Bool). is_some (plan_of old.plans kind.Epoch e) || (t && (c.file.number == e))) only))

-- The plan of a file was opened.
opened_some : (old : Planning) (file : FileName) (current : Option Planned) (mid : Planning) (plan : Planned) (e : ℕ) → OpensBy old file current mid plan
    → (plan.file ≡ file) × ((is_some (plan_of mid.plans kind.Epoch e) || is_changed (Some plan) e) ≡ (is_some (plan_of old.plans kind.Epoch e) || is_changed current e))
opened_some old file None mid plan e by = (
  ap (λ (d : Planned). d.file) by.1,
  ap (λ (p : Planning). is_some (plan_of p.plans kind.Epoch e) || is_changed (Some plan) e) by.0 ∙ ap (λ (d : Planned). is_some (plan_of old.plans kind.Epoch e) || is_changed (Some d) e) by.1,
)
opened_some old file (Some c) mid plan e (inl here) = (
  ap (λ (d : Planned). d.file) here.1 ∙ here.0,
  ap (λ (p : Planning). is_some (plan_of p.plans kind.Epoch e) || is_changed (Some plan) e) here.2 ∙ ap (λ (d : Planned). is_some (plan_of old.plans kind.Epoch e) || is_changed (Some d) e) here.1,
)
opened_some old file (Some c) mid plan e (inr next) = (
  ap (λ (d : Planned). d.file) next.1,
  ap (λ (d : Planned). is_some (plan_of mid.plans kind.Epoch e) || is_changed (Some d) e) next.1
      ∙ (or_no (is_some (plan_of mid.plans kind.Epoch e)) ∙ closed_some old c next.2.0 mid e next.2.2 next.2.3 next.2.4),
)

-- An entry was kept, or left out.
pub kept_changes : (old : Planning) (file : FileName) (stored : StoredEntry) (content : Option Content) (mid new : Planning) (plan : Planned) → OpensPlan old file mid plan → PlansEntry mid plan stored content new → ChangesNext old file.number false new
kept_changes old file stored content mid new plan opens keeps = λ e.
    let so = opened_some old file old.current mid plan e opens in
    let some = is_some (plan_of mid.plans kind.Epoch e) in
    ap (λ (p : Planning). is_anew p e) keeps.new_is
    ∙ (ap (λ (t : Bool). some || (t && (keeps.after.file.number == e))) keeps.going
    ∙ (ap (λ (f : FileName). some || (is_some plan.changed && (f.number == e))) keeps.file
    ∙ (so.1 ∙ sym (or_no (is_anew old e)))))

pub left_changes : (old : Planning) (file : FileName) (stored : StoredEntry) (mid new : Planning) (plan : Planned) → OpensPlan old file mid plan → LeavesOut mid plan stored new → ChangesNext old file.number true new
left_changes old file stored mid new plan opens left = λ e.
    let so = opened_some old file old.current mid plan e opens in
    let some = is_some (plan_of mid.plans kind.Epoch e) in
    let was : (some || (is_some plan.changed && (file.number == e))) ≡ is_anew old e = ap (λ (f : FileName). some || (is_some plan.changed && (f.number == e))) (sym so.0) ∙ so.1 in
    ap (λ (p : Planning). is_anew p e) left.3
    ∙ (ap (λ (t : Bool). some || (t && (left.0.file.number == e))) left.4
    ∙ (ap (λ (f : FileName). some || (f.number == e)) (left.2 ∙ so.0)
    ∙ (or_more some (is_some plan.changed) (file.number == e)
    ∙ ap (λ (t : Bool). t || (file.number == e)) was)))

-- The same by a test of the entry.
pub changes_by : (old : Planning) (number : ℕ) (t leaves : Bool) (new : Planning) → t ≡ leaves → ChangesNext old number leaves new → ChangesNext old number t new
changes_by old number t leaves new is changes = λ e. changes e ∙ ap (λ (b : Bool). is_anew old e || (b && (number == e))) (sym is)
