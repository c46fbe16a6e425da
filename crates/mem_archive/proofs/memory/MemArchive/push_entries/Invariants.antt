use Rattle.mem_archive.proofs.EpochSteps.{HasPushed}
use Rattle.mem_archive.proofs.memory.MemArchive.push_entries.Given as goal

abbrev pub invariant-loop-kept : goal.invariant-loop-kept
invariant-loop-kept l = HasPushed l.self-inside.config.form l.self-inside.kept.items l.epoch l.fn.into l.kept-index l.into l.parent
