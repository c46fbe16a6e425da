use Rattle.std.proofs.Common.{◌≡◌, ◌∙◌, true, false, None, ap, sym, subst}
use Rattle.arch_model.specs.Keeping.{text_known}
use Rattle.arch_model.specs.Archives.{Archive}
use Rattle.arch_model.specs.Delivery.{applied}
use Rattle.arch_model.specs.declared.command.Command.{Command}
use Rattle.archive_core.specs.Commands.{OnDone, IsGone, is_delivery, IfDelivery, TakesCommand, TellsText, KeepsTextFor}
use Rattle.archive_core.proofs.Replies.{when-done}
use Rattle.archive_core.proofs.archive.DiskArchive.command_keeping.Goals as goal

pub returns-in-Deliver : goal.returns-in-Deliver
returns-in-Deliver g c = record {
  taken = subst (λ (m : Command). TakesCommand g.D.Disk c.args.disk.now c.deliver.new.disk c.args.self.now c.deliver.new.self m (λ (a : Archive). applied a m c.args.moment) c.deliver.result) (sym c.in-Deliver.is) c.deliver.ensures.taken;
  unread = λ a cache store unknown. c.deliver.ensures.unread a cache store (subst (λ (m : Command). text_known a m ≡ false) c.in-Deliver.is unknown);
  text = subst (λ (m : Command). IfDelivery (is_delivery m) (TellsText c.args.self.now.root.config.form c.deliver.result c.deliver.new.kept)) (sym c.in-Deliver.is) c.deliver.ensures.text;
  kept = λ a cache store. subst (λ (m : Command). IfDelivery (is_delivery m) (OnDone c.deliver.result (KeepsTextFor m a (applied a m c.args.moment) c.args.moment c.deliver.new.kept.text))) (sym c.in-Deliver.is) (c.deliver.ensures.kept a cache store);
  gone = λ a cache store. subst (λ (m : Command). OnDone c.deliver.result (IsGone a m c.args.gone.now)) (sym c.in-Deliver.is) (when-done c.deliver.result (c.args.gone.now ≡ None) c.requires.none);
}

pub returns-in-Remove : goal.returns-in-Remove
returns-in-Remove g c = record {
  taken = subst (λ (m : Command). TakesCommand g.D.Disk c.args.disk.now c.remove.new.disk c.args.self.now c.remove.new.self m (λ (a : Archive). applied a m c.args.moment) c.remove.result) (sym c.in-Remove.is) c.remove.ensures.taken;
  unread = λ a cache store unknown. (let known : text_known a c.args.command.now ≡ true = ap (text_known a) c.in-Remove.is in let wrong : true ≡ false = sym known ∙ unknown in absurd (cc));
  text = subst (λ (m : Command). IfDelivery (is_delivery m) (TellsText c.args.self.now.root.config.form c.remove.result c.args.kept.now)) (sym c.in-Remove.is) tt;
  kept = λ a cache store. subst (λ (m : Command). IfDelivery (is_delivery m) (OnDone c.remove.result (KeepsTextFor m a (applied a m c.args.moment) c.args.moment c.args.kept.now.text))) (sym c.in-Remove.is) tt;
  gone = λ a cache store. subst (λ (m : Command). OnDone c.remove.result (IsGone a m c.args.gone.now)) (sym c.in-Remove.is) (when-done c.remove.result (c.args.gone.now ≡ None) c.requires.none);
}

pub returns-in-Purge : goal.returns-in-Purge
returns-in-Purge g c = record {
  taken = subst (λ (m : Command). TakesCommand g.D.Disk c.args.disk.now c.purge.new.disk c.args.self.now c.purge.new.self m (λ (a : Archive). applied a m c.args.moment) c.purge.result) (sym c.in-Purge.is) c.purge.ensures.taken;
  unread = λ a cache store unknown. (let known : text_known a c.args.command.now ≡ true = ap (text_known a) c.in-Purge.is in let wrong : true ≡ false = sym known ∙ unknown in absurd (cc));
  text = subst (λ (m : Command). IfDelivery (is_delivery m) (TellsText c.args.self.now.root.config.form c.purge.result c.args.kept.now)) (sym c.in-Purge.is) tt;
  kept = λ a cache store. subst (λ (m : Command). IfDelivery (is_delivery m) (OnDone c.purge.result (KeepsTextFor m a (applied a m c.args.moment) c.args.moment c.args.kept.now.text))) (sym c.in-Purge.is) tt;
  gone = λ a cache store. subst (λ (m : Command). OnDone c.purge.result (IsGone a m c.purge.new.gone)) (sym c.in-Purge.is) (c.purge.ensures.gone a cache store);
}

pub returns-in-Edit : goal.returns-in-Edit
returns-in-Edit g c = record {
  taken = subst (λ (m : Command). TakesCommand g.D.Disk c.args.disk.now c.edit.new.disk c.args.self.now c.edit.new.self m (λ (a : Archive). applied a m c.args.moment) c.edit.result) (sym c.in-Edit.is) c.edit.ensures.taken;
  unread = λ a cache store unknown. (let known : text_known a c.args.command.now ≡ true = ap (text_known a) c.in-Edit.is in let wrong : true ≡ false = sym known ∙ unknown in absurd (cc));
  text = subst (λ (m : Command). IfDelivery (is_delivery m) (TellsText c.args.self.now.root.config.form c.edit.result c.edit.new.kept)) (sym c.in-Edit.is) c.edit.ensures.text;
  kept = λ a cache store. subst (λ (m : Command). IfDelivery (is_delivery m) (OnDone c.edit.result (KeepsTextFor m a (applied a m c.args.moment) c.args.moment c.edit.new.kept.text))) (sym c.in-Edit.is) (c.edit.ensures.kept a cache store);
  gone = λ a cache store. subst (λ (m : Command). OnDone c.edit.result (IsGone a m c.edit.new.gone)) (sym c.in-Edit.is) c.edit.ensures.gone;
}
