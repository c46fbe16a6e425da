use Rattle.std.proofs.Common.{◌≡◌, take, drop, true, false, sym, ◌∙◌, rules}
use Rattle.std.proofs.lemmas.List.{take_rest}
use Rattle.mail_reader.specs.Lines.{is_continuation}
use Rattle.mail_reader.proofs.FirstFields.{Continuing-none, Continuing-more, Continues-stop, Continues-all, is_continuation-line}
use Rattle.mail_reader.proofs.header.continuation_len.Goals as goal

pub loop-len-init : goal.loop-len-init
loop-len-init c = Continuing-none c.args.bytes.now

pub returns-then-not-is_continuation : goal.returns-then-not-is_continuation
returns-then-not-is_continuation c =
    let is_not : is_continuation (drop c.loop-len.len c.args.bytes.now) ≡ false = sym (rw (take_rest c.args.bytes.now c.loop-len.len) at c.is_continuation.ensures.value) ∙ c.if-not-is_continuation.true in
    Continues-stop c.args.bytes.now c.loop-len.len c.loop-len.invariant is_not

pub loop-len-preserved : goal.loop-len-preserved
loop-len-preserved c =
    let rest = drop c.loop-len.len c.args.bytes.now in
    let some = c.line_len-len.ensures.some in
    let lines = rw (take_rest c.args.bytes.now c.loop-len.len) at c.line_len-len.ensures.lines in
    let within = rw (take_rest c.args.bytes.now c.loop-len.len) at c.line_len-len.ensures.within in
    let starts : is_continuation rest ≡ true = sym (rw (take_rest c.args.bytes.now c.loop-len.len) at c.is_continuation.ensures.value) ∙ c.if-not-is_continuation.false in
    let is : is_continuation (take c.line_len-len.result rest) ≡ true = is_continuation-line c.line_len-len.result rest some ∙ starts in
    Continuing-more c.args.bytes.now c.loop-len.len c.line_len-len.result c.loop-len.invariant within lines is

pub returns : goal.returns
returns c = Continues-all c.args.bytes.now c.loop-len.len c.loop-len.invariant (search rules)
