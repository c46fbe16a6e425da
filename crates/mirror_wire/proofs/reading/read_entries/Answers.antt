use Rattle.std.proofs.Common.{List, ℕ, ◌+◌, ap, sym, ◌∙◌}
use Rattle.arch_model.specs.declared.line.EntryLine.{EntryLine}
use Rattle.mirror_wire.specs.Parts.{entries_part}
use Rattle.mirror_wire.proofs.Spelling.{entries-push}
use Rattle.mirror_wire.proofs.Stopping.{checked-stops}
use Rattle.mirror_wire.proofs.reading.read_entries.Goals as goal

pub loop-line-preserved : goal.loop-line-preserved
loop-line-preserved c = record {
  checked = c.in_ok-push.ensures.checked;
  form = c.in_ok-push.ensures.form ∙ c.loop-line.invariant.form;
  next = c.in_ok-push.ensures.next ∙ c.loop-line.invariant.next;
  is = c.loop-line.invariant.is ∙ ap (entries_part c.loop-line.checked.lines) c.in-Some.ensures.spelled ∙ sym (entries-push c.loop-line.checked.lines c.in-Some.line c.in-Some.more.now)
      ∙ ap (λ (ls : List EntryLine). entries_part ls c.in-Some.more.now) (sym c.in_ok-push.ensures.lines);
}

pub returns-in-None : goal.returns-in-None
returns-in-None c =
    checked-stops c.args.form c.args.next c.args.text.now c.loop-line.checked c.loop-line.rest.now (c.count-in-None.result + 4) c.loop-line.invariant.form c.loop-line.invariant.next
    c.loop-line.invariant.checked c.loop-line.invariant.is c.in_default.ensures c.in-None.ensures (ap (λ (n : ℕ). n + 4) c.count-in-None.ensures.count)
