use Rattle.std.proofs.Common.{refl, arith, ◌∙◌}
use Rattle.std.proofs.lemmas.List.{take_all}
use Rattle.http_front.specs.Fronts.{head_limit}
use Rattle.http_front.proofs.Scanning.{part-is, head_ends, still_part, too_long}
use Rattle.http_front.proofs.scan.head_in.Goals as goal

pub overflow_sub-room : goal.overflow_sub-room
overflow_sub-room c = omega (arith, (part-is head_limit c.args.held.now c.requires.part).1)

pub returns-in-Whole : goal.returns-in-Whole
returns-in-Whole c =
    let short = (part-is head_limit c.args.held.now c.requires.part).1 in
    let found = rw c.split_at.ensures.front at (c.in-Whole.ensures.whole c.in-Whole.len refl) in
    head_ends head_limit c.args.held.now c.args.seen c.args.piece.now c.requires c.min.result c.in-Whole.len found (omega (arith, short, c.min.ensures)) (omega (arith, short, c.min.ensures))

pub returns-in-Open : goal.returns-in-Open
returns-in-Open c =
    let short = (part-is head_limit c.args.held.now c.requires.part).1 in
    let found = rw c.split_at.ensures.front at (c.in-Open.ensures.more c.in-Open.field-0 refl).0 in
    too_long head_limit c.args.held.now c.args.seen c.args.piece.now c.requires c.min.result found (omega (arith, short, c.min.ensures, c.if-piece-room.true)) (omega (arith, short, c.min.ensures))

pub returns-in-Open-2 : goal.returns-in-Open-2
returns-in-Open-2 c =
    let short = (part-is head_limit c.args.held.now c.requires.part).1 in
    let more = c.in-Open.ensures.more c.in-Open.field-0 refl in
    let near = c.split_at.ensures.front ∙ take_all c.min.result c.args.piece.now (omega (arith, short, c.min.ensures, c.if-piece-room.false)) in
    let found = rw near at more.0 in
    let same = rw near at more.1 in
    rw same (still_part head_limit c.args.held.now c.args.seen c.args.piece.now c.requires found (omega (arith, short, c.if-piece-room.false)))
