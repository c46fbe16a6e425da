use Rattle.std.proofs.Common.{take}
use Rattle.thread_tree.specs.Facts.{AreFacts}
use Rattle.thread_tree.proofs.facts.Facts.of.Given as goal

abbrev pub invariant-loop-twig : goal.invariant-loop-twig
invariant-loop-twig l = AreFacts (take l.twig-index l.twigs) (record { live = l.live; naming = l.naming; placing = l.placing })
