use Rattle.mem_archive.proofs.Copying.{CopiedTo}
use Rattle.mem_archive.proofs.memory.MemArchive.without_text.Given as goal

abbrev pub invariant-loop-kept : goal.invariant-loop-kept
invariant-loop-kept l = CopiedTo l.self l.kept-items l.text l.kept-index l.made
