use Rattle.std.proofs.Common.{◌≡◌, length, arith}
use Rattle.std.proofs.lemmas.Bool.Decides.{nat_tests}
use Rattle.web_text.proofs.Pushing.{kept-on}
use Rattle.atom_mbox.proofs.Mailing.{lines-more, lines-end}
use Rattle.atom_mbox.proofs.mailbox.push_lines.Goals as goal

pub loop-rest-preserved : goal.loop-rest-preserved
loop-rest-preserved c =
    let held = c.loop-rest.invariant in record {
      pushed = lines-more c.loop-rest.into c.push_line.new.into _ c.line_len.result c.loop-rest.rest.now c.split_at.result.0.now c.split_at.result.1.now c.split_at.ensures.front c.split_at.ensures.back c.line_len.ensures.lines c.in_ok-push_line.ensures.ok held.pushed;
      kept = kept-on c.args.into.now c.loop-rest.into c.push_line.new.into held.kept c.push_line.ensures.kept;
    }

pub returns-clause-ok : goal.returns-clause-ok
returns-clause-ok c =
    let none : length c.loop-rest.rest.now ≡ 0 = grind (arith, nat_tests) in
    lines-end c.loop-rest.into _ c.loop-rest.rest.now none c.loop-rest.invariant.pushed
