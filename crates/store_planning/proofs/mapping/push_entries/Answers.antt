-- One entry more.
use Rattle.std.proofs.Common.{arith}
use Rattle.store_planning.proofs.Mapped.{item_at, records_next, records_none}
use Rattle.store_planning.proofs.mapping.push_entries.Goals as goal

pub loop-entry-init : goal.loop-entry-init
loop-entry-init c = records_none c.args.form c.args.entries.now c.args.next c.args.lines.now c.requires.next c.requires.none

pub loop-entry-preserved : goal.loop-entry-preserved
loop-entry-preserved c =
    let here = item_at c.args.entries.now c.loop-entry.entry-index c.entry-item.result c.loop-entry-test.true c.entry-item.is in
    records_next c.args.form c.args.entries.now c.args.next c.loop-entry.entry-index c.entry-item.result here c.loop-entry.number c.loop-entry.lines c.push_kept.new.lines _ c.loop-entry.invariant c.in_ok-number.ensures

pub returns : goal.returns
returns c = (c.loop-entry.entry-index, omega (arith, c.loop-entry-test.false), c.loop-entry.invariant)
