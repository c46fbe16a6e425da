use Rattle.std.proofs.Common.{arith}
use Rattle.std.proofs.lemmas.Bool.{false_from_ne_true}
use Rattle.imap_items.proofs.Windows.{run-all, run-split}
use Rattle.imap_items.proofs.octets.first_run.Goals as goal

pub returns-in-Some-clause-sent : goal.returns-in-Some-clause-sent
returns-in-Some-clause-sent c =
    let found = c.in-Some.ensures in
    run-split c.args.bytes.now c.split_at.result.0.now c.sent_for.result.now c.split_at-in-Some.result.1.now c.in-Some.end found.0.high
    (λ k less. false_from_ne_true _ (found.0.before k (omega arith) less)) c.split_at.ensures.front c.sent_for.ensures c.split_at-in-Some.ensures.back

pub returns-in-None-clause-sent : goal.returns-in-None-clause-sent
returns-in-None-clause-sent c = run-all c.args.bytes.now (λ k less. false_from_ne_true _ (c.in-None.ensures k (omega arith) less))
