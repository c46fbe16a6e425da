use Rattle.std.proofs.Common.{◌≡◌, ◌∙◌, ap, arith}
use Rattle.edge_io.specs.MemHosts.{Hosting}
use Rattle.edge_io.proofs.mem_host.MemHostHost.send.Goals as goal

-- A listed call is counted as lost.
pub returns-then-fails-clause-cause : goal.returns-then-fails-clause-cause
returns-then-fails-clause-cause c =
    let lost : c.self.inside.outlets.lost ≡ c.args.self.now.outgoing.lost = ap (λ (s : Hosting). s.outgoing.lost) (c.self.view_is ∙ c.fails.ensures.counted) in
    record {
      later = omega (arith, lost, c.lose.ensures.later);
      failed = omega (arith, lost, c.lose.ensures.rose);
      kept = tt;
    }
