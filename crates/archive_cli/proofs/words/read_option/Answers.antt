use Rattle.std.proofs.Common.{◌∷◌, [], Some, ap, List, ℕ}
use Rattle.archive_cli.proofs.Grammar.{serve-read, serve-unread, one-option}
use Rattle.archive_cli.proofs.words.read_option.Goals as goal

pub returns-in_err-option : goal.returns-in_err-option
returns-in_err-option c = rw c.from_residual.ensures (serve-unread c.args.option.now [] c.in_err-option.ensures)

pub returns : goal.returns
returns c =
    let x = c.in_ok-option.option in
    serve-read (c.args.option.now ∷ []) (x ∷ []) (Some c.served_with.result) (one-option x c.in_ok-option.ensures.0) (ap (λ (w : List ℕ). w ∷ []) c.in_ok-option.ensures.1) c.served_with.ensures
