use Rattle.std.proofs.Common.{inl}
use Rattle.archive_cli.proofs.Printed.{printed-as, due-long, due-none, some-input}
use Rattle.archive_cli.proofs.program.replay.Goals as goal

pub returns-in-Err-NoMemory-clause-ends : goal.returns-in-Err-NoMemory-clause-ends
returns-in-Err-NoMemory-clause-ends g c =
    let given = some-input (g.S.Source.left c.args.input.now) in
    let kept = rw c.in-Err-NoMemory.field-0-is at c.in-Err-NoMemory.ensures.read in
    inl (given.0, given.1, kept, printed-as _ _ _ _ _ _ _ c.print_no_memory.ensures.printed (due-none c.args.config given.0))

pub returns-in-Err-TooLong-clause-ends : goal.returns-in-Err-TooLong-clause-ends
returns-in-Err-TooLong-clause-ends g c =
    let long = rw c.in-Err-TooLong.field-0-is at c.in-Err-TooLong.ensures.read in
    inl (long.0, long.1, long.3, printed-as _ _ _ _ _ _ _ c.print.ensures.printed (due-long c.args.config long.0 long.2))
