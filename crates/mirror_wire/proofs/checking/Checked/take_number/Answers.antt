use Rattle.std.proofs.Common.{refl, subst, arith}
use Rattle.git_objects.specs.declared.entry_kind.EntryKind.{EntryKind}
use Rattle.mirror_wire.specs.Rules.{NumberMayFollow}
use Rattle.mirror_wire.proofs.Taking.{knows-message, knows-deletion}
use Rattle.mirror_wire.proofs.checking.Checked.take_number.Goals as goal

pub returns-in_ok-insert-in-Message : goal.returns-in_ok-insert-in-Message
returns-in_ok-insert-in-Message c = record {
  form = refl;
  next = refl;
  lines = refl;
  epoch = refl;
  sizes = refl;
  within = (let rises = subst (λ (k : EntryKind). NumberMayFollow k c.args.self.now.next c.args.self.now.lines c.args.line.now) c.in-Message.is c.requires.follows.number in let below = rises.below in omega (arith, below));
  numbers = knows-message c.args.self.now.number c.args.self.now.next c.args.self.now.live c.insert.new.self c.args.self.now.lines c.args.line.now c.requires.checked.numbers c.in-Message.is
      (subst (λ (k : EntryKind). NumberMayFollow k c.args.self.now.next c.args.self.now.lines c.args.line.now) c.in-Message.is c.requires.follows.number) c.in_ok-insert-in-Message.ensures.updates;
}

pub returns-in-Deletion : goal.returns-in-Deletion
returns-in-Deletion c = record {
  form = refl;
  next = refl;
  lines = refl;
  epoch = refl;
  sizes = refl;
  within = c.requires.checked.within;
  numbers = knows-deletion c.args.self.now.number c.args.self.now.live c.remove.new.self c.args.self.now.lines c.args.line.now c.requires.checked.numbers c.in-Deletion.is
      (subst (λ (k : EntryKind). NumberMayFollow k c.args.self.now.next c.args.self.now.lines c.args.line.now) c.in-Deletion.is c.requires.follows.number) c.remove.ensures.updates;
}
