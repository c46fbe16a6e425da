use Rattle.std.proofs.Common.{◌≤◌, ◌+◌, arith, subst, sym}
use Rattle.git_objects.specs.declared.entry_kind.EntryKind.{EntryKind}
use Rattle.view_set.specs.Walks.{reads_of}
use Rattle.view_set.proofs.Results.{err-weaker, on-weaker}
use Rattle.view_set.proofs.Walking.{damaged-at, views-message, views-deletion, walks-same}
use Rattle.view_set.proofs.rebuilding.take_line.Goals as goal

pub returns-in-Message-clause-rows : goal.returns-in-Message-clause-rows
returns-in-Message-clause-rows g c = λ a held old_is.
    on-weaker c.add_message.result _ _ (λ adds. views-message a c.args.index c.args.line.now c.args.views.now c.add_message.new.views (g.met.W.Walked.holds_valid c.args.walked.now a held) (c.requires.archive a held) c.in-Message.is old_is adds)
    (c.add_message.ensures.row a held)

pub returns-in-Ok-clause-rows : goal.returns-in-Ok-clause-rows
returns-in-Ok-clause-rows g c = λ a held old_is.
    views-deletion a c.args.index c.args.line.now c.args.views.now c.take.new.self (g.met.W.Walked.holds_valid c.args.walked.now a held) (c.requires.archive a held) c.in-Deletion.is old_is c.take.ensures

pub returns-in-Ok-clause-walk : goal.returns-in-Ok-clause-walk
returns-in-Ok-clause-walk g c = walks-same g.W.Walked.holds g.W.Walked.sound g.W.Walked.lines g.W.Walked.alike g.W.Walked.faults g.met.W.Walked.alike_same g.met.W.Walked.alike_joined c.args.walked.now

pub returns-in-Err-clause-walk : goal.returns-in-Err-clause-walk
returns-in-Err-clause-walk g c = walks-same g.W.Walked.holds g.W.Walked.sound g.W.Walked.lines g.W.Walked.alike g.W.Walked.faults g.met.W.Walked.alike_same g.met.W.Walked.alike_joined c.args.walked.now

-- A text that is damaged is that of the message.
pub returns-in-Message-clause-damage : goal.returns-in-Message-clause-damage
returns-in-Message-clause-damage g c =
    err-weaker c.add_message.result _ _ (λ why names. damaged-at (g.W.Walked.lines c.args.walked.now) c.args.index c.args.line.now why c.requires.line c.in-Message.is names) c.add_message.ensures.damage

-- The text of a message alone is read.
pub returns-in-Message-clause-reads : goal.returns-in-Message-clause-reads
returns-in-Message-clause-reads g c = subst (λ (k : EntryKind). g.W.Walked.reads c.add_message.new.walked ≤ g.W.Walked.reads c.args.walked.now + reads_of k) (sym c.in-Message.is) c.add_message.ensures.reads.most

pub returns-in-Ok-clause-reads : goal.returns-in-Ok-clause-reads
returns-in-Ok-clause-reads g c = omega arith

pub returns-in-Err-clause-reads : goal.returns-in-Err-clause-reads
returns-in-Err-clause-reads g c = omega arith
