use Rattle.std.proofs.Common.{◌≡◌, true}
use Rattle.imap_command_tests.proofs.client.hears_all.Given as goal

abbrev pub invariant-loop-case : goal.invariant-loop-case
invariant-loop-case g l = g.S.Shelf.ready l.shelf ≡ true
