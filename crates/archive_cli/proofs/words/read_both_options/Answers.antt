use Rattle.std.proofs.Common.{◌∷◌, []}
use Rattle.archive_cli.proofs.Grammar.{serve-read, serve-unread, serve-unread-second, both-options, both-words}
use Rattle.archive_cli.proofs.words.read_both_options.Goals as goal

pub returns-in_err-option : goal.returns-in_err-option
returns-in_err-option c = rw c.from_residual.ensures (serve-unread c.args.option.now (c.args.other.now ∷ []) c.in_err-option.ensures)

pub returns-in_err-other : goal.returns-in_err-other
returns-in_err-other c = rw c.from_residual-in_err-other.ensures (serve-unread-second c.args.option.now c.args.other.now [] c.in_err-other.ensures)

pub returns : goal.returns
returns c =
    let x = c.in_ok-option.option in
    let y = c.in_ok-other.other in
    serve-read (c.args.option.now ∷ c.args.other.now ∷ []) (x ∷ y ∷ []) c.served_with_both.result (both-options x y c.in_ok-option.ensures.0 c.in_ok-other.ensures.0)
    (both-words c.args.option.now c.args.other.now x y c.in_ok-option.ensures.1 c.in_ok-other.ensures.1) c.served_with_both.ensures
