use Rattle.std.proofs.lemmas.Slice.Eq.{strip_prefix_is}
use Rattle.std.proofs.lemmas.Bool.Decides.{Decides-eqb}
use Rattle.shelf_doors.proofs.Prefixes.{behind-found}
use Rattle.shelf_doors.proofs.mailbox.after_prefix.Goals as goal

pub returns : goal.returns
returns c = behind-found c.args.prefix.now c.args.bytes.now c.strip_prefix.result (strip_prefix_is Decides-eqb c.args.bytes.now c.args.prefix.now c.strip_prefix.result c.strip_prefix.ensures.cases)
