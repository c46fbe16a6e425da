use Rattle.std.proofs.Common.{false, None, refl}
use Rattle.arch_model.specs.KeeperRecord.{keeper}
use Rattle.arch_model.specs.Archives.{live, text_of}
use Rattle.arch_model.specs.Standing.{standing}
use Rattle.control_door.specs.Requests.{Shows, Threads, Lists, Quits, Mistakes, Exceeds}
use Rattle.control_door.proofs.Answering.{asked-showing, answers-read, answers-held, acts-quitting, acts-mistaken, acts-exceeding}
use Rattle.control_door.proofs.Counting.{reads-none, reads-once}
use Rattle.control_door.proofs.answers.say_requested.Goals as goal

pub returns-in-Message-clause-acts : goal.returns-in-Message-clause-acts
returns-in-Message-clause-acts g c = rw (c.in-Message.is, c.after.ensures) (rw c.command_of.ensures at c.say_commanded.ensures.acts)

pub returns-in-Joined-clause-acts : goal.returns-in-Joined-clause-acts
returns-in-Joined-clause-acts g c = rw (c.in-Joined.is, c.after-in-Joined.ensures) c.say_joined.ensures.acts

pub returns-in-Text-clause-acts : goal.returns-in-Text-clause-acts
returns-in-Text-clause-acts g c = rw (c.in-Text.is, c.after-in-Text.ensures)
    (answers-read (keeper g.K.Shelf g.K.Keep) g.met.K.Keep.holds_files_are g.met.K.Keep.holds_left c.args.moment (Shows c.in-Text.number) c.args.keep.now _ _ _ _ (g.met.K.Keep.alike_kept _ _ c.say_message.ensures.shelf.same) (c.say_message.ensures.acts c.args.moment)
    (λ a rest held. asked-showing (keeper g.K.Shelf g.K.Keep) c.args.moment (standing a None) (text_of (live a.entries) c.in-Text.number) _ c.args.keep.now _ _ _ _ _ c.say_message.ensures.shelf.same (c.say_message.ensures.unused a held)))

pub returns-in-Removal-clause-acts : goal.returns-in-Removal-clause-acts
returns-in-Removal-clause-acts g c = rw (c.in-Removal.is, c.after-in-Removal.ensures) c.say_commanded-in-Removal.ensures.acts

pub returns-in-Purge-clause-acts : goal.returns-in-Purge-clause-acts
returns-in-Purge-clause-acts g c = rw (c.in-Purge.is, c.after-in-Purge.ensures) c.say_commanded-in-Purge.ensures.acts

pub returns-in-Thread-clause-acts : goal.returns-in-Thread-clause-acts
returns-in-Thread-clause-acts g c = rw (c.in-Thread.is, c.after-in-Thread.ensures)
    (answers-read (keeper g.K.Shelf g.K.Keep) g.met.K.Keep.holds_files_are g.met.K.Keep.holds_left c.args.moment (Threads c.in-Thread.number) c.args.keep.now c.args.keep.now _ _ _ (g.met.K.Keep.alike_kept _ _ (g.met.K.Shelf.alike_same c.args.keep.now)) (c.say_thread.ensures.acts c.args.moment)
    (λ a rest held. (g.met.K.Shelf.alike_same c.args.keep.now, refl)))

pub returns-in-Epochs-clause-acts : goal.returns-in-Epochs-clause-acts
returns-in-Epochs-clause-acts g c = rw (c.in-Epochs.is, c.after-in-Epochs.ensures)
    (answers-read (keeper g.K.Shelf g.K.Keep) g.met.K.Keep.holds_files_are g.met.K.Keep.holds_left c.args.moment Lists c.args.keep.now _ _ _ _ (g.met.K.Keep.alike_kept _ _ c.say_epochs.ensures.shelf.same) (c.say_epochs.ensures.acts c.args.moment)
    (λ a rest held. c.say_epochs.ensures.shelf.same))

pub returns-in-Reindexing-clause-acts : goal.returns-in-Reindexing-clause-acts
returns-in-Reindexing-clause-acts g c = rw (c.in-Reindexing.is, c.after-in-Reindexing.ensures) (c.say_reindexing.ensures.acts c.args.moment)

pub returns-in-Quit-clause-acts : goal.returns-in-Quit-clause-acts
returns-in-Quit-clause-acts g c = rw c.in-Quit.is
    (answers-held (keeper g.K.Shelf g.K.Keep) g.met.K.Keep.holds_files_are g.met.K.Keep.holds_left c.args.moment Quits c.args.keep.now _ _ false (λ a rest. acts-quitting c.args.moment (standing a None) rest _)
    (λ a rest. (g.met.K.Shelf.alike_same c.args.keep.now, refl)))

pub returns-in-Mistake-clause-acts : goal.returns-in-Mistake-clause-acts
returns-in-Mistake-clause-acts g c = rw (c.in-Mistake.is, c.after-in-Mistake.ensures)
    (answers-held (keeper g.K.Shelf g.K.Keep) g.met.K.Keep.holds_files_are g.met.K.Keep.holds_left c.args.moment Mistakes c.args.keep.now _ _ _ (λ a rest. acts-mistaken c.args.moment (standing a None) rest _ _ _ refl c.say_bad.ensures.said)
    (λ a rest. (g.met.K.Shelf.alike_same c.args.keep.now, refl)))

pub returns-in-Excess-clause-acts : goal.returns-in-Excess-clause-acts
returns-in-Excess-clause-acts g c = rw c.in-Excess.is
    (answers-held (keeper g.K.Shelf g.K.Keep) g.met.K.Keep.holds_files_are g.met.K.Keep.holds_left c.args.moment Exceeds c.args.keep.now _ _ false (λ a rest. acts-exceeding c.args.moment (standing a None) rest _ _ _ refl c.say_bad-in-Excess.ensures.said)
    (λ a rest. (g.met.K.Shelf.alike_same c.args.keep.now, refl)))

pub returns-in-Message-clause-reads : goal.returns-in-Message-clause-reads
returns-in-Message-clause-reads g c = rw c.in-Message.is (rw c.command_of.ensures at c.say_commanded.ensures.reads)

pub returns-in-Joined-clause-reads : goal.returns-in-Joined-clause-reads
returns-in-Joined-clause-reads g c = rw c.in-Joined.is c.say_joined.ensures.reads

pub returns-in-Text-clause-reads : goal.returns-in-Text-clause-reads
returns-in-Text-clause-reads g c = rw c.in-Text.is (c.say_message.ensures.shelf.at_hand, reads-once _ _ c.say_message.ensures.reads)

pub returns-in-Removal-clause-reads : goal.returns-in-Removal-clause-reads
returns-in-Removal-clause-reads g c = rw c.in-Removal.is c.say_commanded-in-Removal.ensures.reads

pub returns-in-Purge-clause-reads : goal.returns-in-Purge-clause-reads
returns-in-Purge-clause-reads g c = rw c.in-Purge.is tt

pub returns-in-Thread-clause-reads : goal.returns-in-Thread-clause-reads
returns-in-Thread-clause-reads g c = rw c.in-Thread.is (c.requires.ready, reads-none 0 _)

pub returns-in-Epochs-clause-reads : goal.returns-in-Epochs-clause-reads
returns-in-Epochs-clause-reads g c = rw c.in-Epochs.is (c.say_epochs.ensures.shelf.at_hand, c.say_epochs.ensures.reads)

pub returns-in-Reindexing-clause-reads : goal.returns-in-Reindexing-clause-reads
returns-in-Reindexing-clause-reads g c = rw c.in-Reindexing.is tt

pub returns-in-Quit-clause-reads : goal.returns-in-Quit-clause-reads
returns-in-Quit-clause-reads g c = rw c.in-Quit.is (c.requires.ready, reads-none 0 _)

pub returns-in-Mistake-clause-reads : goal.returns-in-Mistake-clause-reads
returns-in-Mistake-clause-reads g c = rw c.in-Mistake.is (c.requires.ready, reads-none 0 _)

pub returns-in-Excess-clause-reads : goal.returns-in-Excess-clause-reads
returns-in-Excess-clause-reads g c = rw c.in-Excess.is (c.requires.ready, reads-none 0 _)
