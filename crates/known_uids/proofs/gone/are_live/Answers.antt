use Rattle.std.proofs.Common.{refl}
use Rattle.known_uids.proofs.Counting.{block-test}
use Rattle.known_uids.proofs.gone.are_live.Goals as goal

pub returns-in-len1-up-clause-live : goal.returns-in-len1-up-clause-live
returns-in-len1-up-clause-live g c = λ a first bound held valid rises none.
    block-test a c.args.uids.now c.live_count.result _ _ first bound c.in-len1-up.len_at_least refl refl (c.live_count.ensures a held) valid rises none
