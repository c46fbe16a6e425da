use Rattle.std.proofs.Common.{arith}
use Rattle.mail_forms.proofs.MailboxLengths.{counted_more, few_quoted}
use Rattle.mail_forms.proofs.mailbox.from_lines.Goals as goal

pub overflow_add-found : goal.overflow_add-found
overflow_add-found c =
    let text = c.args.text.now in
    let rest = c.loop-rest.rest.now in
    let next = counted_more c.loop-rest.found c.line_len.result text c.split_at.result.0.now rest c.split_at.result.1.now c.marks_for-found.result c.split_at.ensures.front
    c.split_at.ensures.back c.line_len.ensures.lines c.marks_for-found.ensures c.loop-rest.invariant in
    record { fits = omega (arith, next, few_quoted text) }

pub returns-clause-few : goal.returns-clause-few
returns-clause-few c = omega (arith, c.loop-rest.invariant, few_quoted c.args.text.now)
