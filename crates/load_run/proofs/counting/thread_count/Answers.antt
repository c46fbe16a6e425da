use Rattle.std.proofs.Common.{◌≡◌, ◌∙◌, ap, sym, arith}
use Rattle.arch_model.specs.Archives.{live}
use Rattle.load_run.proofs.Firsts.{tally, first_at, threads_tally}
use Rattle.load_run.proofs.counting.thread_count.Goals as goal

pub returns : goal.returns
returns g c = λ a valid held.
    let end : c.loop-n.n ≡ a.next = omega (arith, c.loop-n-test.false, c.loop-n.auto.n-end, c.next_number-n-end.ensures a held) in
    c.loop-n.invariant.counted a held ∙ ap (tally (first_at (live a.entries))) end ∙ sym (threads_tally a valid)
