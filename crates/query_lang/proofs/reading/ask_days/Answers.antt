use Rattle.std.proofs.Common.{[], ◌∷◌, sym, append_assoc}
use Rattle.query_lang.proofs.reading.ask_days.Goals as goal

pub returns : goal.returns
returns c =
    let range = sym c.in-Some.ensures in
    let pushed = append_assoc c.args.asked.now (c.in-Some.first ∷ []) (c.in-Some.last ∷ []) in
    ((c.in-Some.first, c.in-Some.last), range, rw (c.in_ok-push-2.ensures, c.in_ok-push.ensures) pushed)
