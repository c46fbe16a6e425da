use Rattle.std.proofs.Common.{[], ◌∷◌, Some}
use Rattle.std.proofs.lemmas.Slice.Eq.{strip_prefix_is}
use Rattle.std.proofs.lemmas.Bool.Decides.{Decides-eqb}
use Rattle.edge_io.proofs.Lines.{no_opening, no_sending}
use Rattle.edge_io.proofs.reading.read_what.Goals as goal

pub returns-in_err-conn : goal.returns-in_err-conn
returns-in_err-conn c = rw c.from_residual.ensures (no_opening c.args.words.now c.in-Some.rest.now
    (strip_prefix_is Decides-eqb c.args.words.now (111 ∷ 32 ∷ []) (Some c.in-Some.rest) c.in-Some.ensures.cases) c.in_err-conn.ensures)

pub returns-in_err-conn-2 : goal.returns-in_err-conn-2
returns-in_err-conn-2 c = rw c.from_residual-in_err-conn-2.ensures (no_sending c.args.words.now c.in-Some-strip_prefix.rest.now
    (strip_prefix_is Decides-eqb c.args.words.now (98 ∷ 32 ∷ []) (Some c.in-Some-strip_prefix.rest) c.in-Some-strip_prefix.ensures.cases) c.in_err-conn-2.ensures)
