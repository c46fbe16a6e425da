use Rattle.std.proofs.Common.{◌+◌, take, drop, ap, ◌∙◌}
use Rattle.std.proofs.lemmas.List.{take_rest}
use Rattle.mail_reader.specs.Stored.{clean_lines}
use Rattle.mail_reader.proofs.Trims.{NoByte-before}
use Rattle.mail_reader.proofs.LineEnds.{clean_lines-at, clean_lines-last, clean_lines-none}
use Rattle.mail_reader.proofs.lines.first_line.Goals as goal

pub returns-in-Some-clause-lines : goal.returns-in-Some-clause-lines
returns-in-Some-clause-lines c =
    let found = rw c.in-Some.is at (NoByte-before 10 c.args.bytes.now c.memchr.result c.memchr.ensures) in
    rw (take_rest c.args.bytes.now (c.in-Some.end + 1), c.without_returns.ensures) (ap clean_lines found.4 ∙ clean_lines-at (take c.in-Some.end c.args.bytes.now) (drop (c.in-Some.end + 1) c.args.bytes.now) found.1)

pub returns-in-None-clause-lines : goal.returns-in-None-clause-lines
returns-in-None-clause-lines c =
    let none = rw c.in-None.is at (NoByte-before 10 c.args.bytes.now c.memchr.result c.memchr.ensures) in
    rw (c.without_returns-in-None.ensures, clean_lines-none) (clean_lines-last c.args.bytes.now none c.requires)
