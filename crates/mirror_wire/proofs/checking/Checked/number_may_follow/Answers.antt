use Rattle.std.proofs.Common.{◌≡◌, ◌<◌, true, false, Some, None, sym, ap, subst, ◌∙◌, arith}
use Rattle.std.proofs.lemmas.Bool.Decides.{nat_tests}
use Rattle.arch_base.proofs.IdOrder.{id_eq-Decides, same_ids}
use Rattle.git_objects.specs.declared.entry_kind.EntryKind.{EntryKind}
use Rattle.mirror_wire.specs.Rules.{NumberMayFollow}
use Rattle.mirror_wire.specs.Checking.{blob_at}
use Rattle.mirror_wire.proofs.Following.{number-above, number-ends, number-live}
use Rattle.mirror_wire.proofs.checking.Checked.number_may_follow.Goals as goal

pub returns-else-self-line : goal.returns-else-self-line
returns-else-self-line c = (
  λ test. absurd (let low : c.args.self.now.number < c.args.line.now.number = grind (arith, nat_tests, test) in omega (arith, low, c.if-self-line.false)),
  λ follows. absurd (let above = number-above c.args.self.now.number c.args.self.now.next c.args.self.now.live c.args.self.now.lines c.args.line.now c.requires.checked.numbers
      (subst (λ (k : EntryKind). NumberMayFollow k c.args.self.now.next c.args.self.now.lines c.args.line.now) c.in-Message.is follows) in
      omega (arith, above, c.if-self-line.false)),
)

pub returns-in-Some : goal.returns-in-Some
returns-in-Some c = (
  λ test. (let same : c.in-Some.blob ≡ c.args.line.now.blob = (id_eq-Decides c.in-Some.blob c.args.line.now.blob).0 (sym (same_ids c.in-Some.blob c.args.line.now.blob) ∙ sym c.eq.ensures ∙ test) in
      let found : blob_at c.args.self.now.live c.args.line.now.number ≡ Some c.args.line.now.blob = sym c.in-Some.ensures ∙ ap Some same in
      subst (λ (k : EntryKind). NumberMayFollow k c.args.self.now.next c.args.self.now.lines c.args.line.now) (sym c.in-Deletion.is)
      (number-ends c.args.self.now.number c.args.self.now.live c.args.self.now.lines c.args.line.now c.requires.checked.numbers found c.requires.sizes)),
  λ follows. (let found : blob_at c.args.self.now.live c.args.line.now.number ≡ Some c.args.line.now.blob = number-live c.args.self.now.number c.args.self.now.live c.args.self.now.lines c.args.line.now c.requires.checked.numbers
      (subst (λ (k : EntryKind). NumberMayFollow k c.args.self.now.next c.args.self.now.lines c.args.line.now) c.in-Deletion.is follows) in
      let both : Some c.in-Some.blob ≡ Some c.args.line.now.blob = c.in-Some.ensures ∙ found in
      let same : c.in-Some.blob ≡ c.args.line.now.blob = cc in
      c.eq.ensures ∙ same_ids c.in-Some.blob c.args.line.now.blob ∙ (id_eq-Decides c.in-Some.blob c.args.line.now.blob).1 same),
)

pub returns-in-None : goal.returns-in-None
returns-in-None c = (
  λ test. absurd (let wrong : false ≡ true = test in cc),
  λ follows. absurd (let found : blob_at c.args.self.now.live c.args.line.now.number ≡ Some c.args.line.now.blob = number-live c.args.self.now.number c.args.self.now.live c.args.self.now.lines c.args.line.now c.requires.checked.numbers
      (subst (λ (k : EntryKind). NumberMayFollow k c.args.self.now.next c.args.self.now.lines c.args.line.now) c.in-Deletion.is follows) in
      let wrong : None ≡ Some c.args.line.now.blob = c.in-None.ensures ∙ found in
      cc),
)
