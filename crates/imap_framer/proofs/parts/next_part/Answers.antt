-- How a piece goes on, by the first line that ends in it.
use Rattle.std.proofs.Common.{◌+◌, ◌-◌, length, drop, refl, ap, ◌∙◌, arith}
use Rattle.imap_framer.specs.Framing.{most_octets}
use Rattle.imap_framer.proofs.Fronting.{Fits, framing-fits, piece-open, piece-long, line-long, line-next}
use Rattle.imap_framer.specs.Scanning.{framing_of}
use Rattle.imap_framer.proofs.parts.next_part.Goals as goal

pub returns-then-piece-room : goal.returns-then-piece-room
unfolding most_octets
returns-then-piece-room c =
    let fits = framing-fits c.args.held c.args.owed c.args.octets.now c.requires.held c.requires.owed c.requires.short c.requires.open in
    piece-open c.args.held c.args.owed c.args.octets.now c.args.piece.now c.requires.held fits
    c.saturating_sub-skip.result c.saturating_sub-skip.ensures c.in-None.ensures c.if-piece-room.true

pub returns-else-piece-room : goal.returns-else-piece-room
unfolding most_octets
returns-else-piece-room c =
    let fits = framing-fits c.args.held c.args.owed c.args.octets.now c.requires.held c.requires.owed c.requires.short c.requires.open in
    let long = c.if-piece-room.false in
    piece-long c.args.held c.args.owed c.args.octets.now c.args.piece.now c.requires.held fits c.args.literals
    c.saturating_sub-skip.result (16384 - length c.args.octets.now + 1) c.saturating_sub-skip.ensures c.in-None.ensures refl (omega (arith, long))

pub returns-then-end-room : goal.returns-then-end-room
unfolding most_octets
returns-then-end-room c =
    let fits = framing-fits c.args.held c.args.owed c.args.octets.now c.requires.held c.requires.owed c.requires.short c.requires.open in
    line-next c.args.held c.args.owed c.args.octets.now c.args.piece.now c.requires.held fits c.args.literals
    c.saturating_sub-skip.result c.in-Some.end (16384 - length c.args.octets.now) c.split_at.result.1.now c.split_at-then-end-room.result.1.now c.split_at-then-end-room-2.result.0.now c.ended.result
    c.saturating_sub-skip.ensures c.in-Some.ensures refl c.if-end-room.true
    (c.split_at.ensures.back ∙ ap (λ n. drop n c.args.octets.now) c.min.ensures) c.split_at-then-end-room.ensures.back c.split_at-then-end-room-2.ensures.front c.ended.ensures

pub returns-else-end-room : goal.returns-else-end-room
unfolding most_octets
returns-else-end-room c =
    let fits = framing-fits c.args.held c.args.owed c.args.octets.now c.requires.held c.requires.owed c.requires.short c.requires.open in
    let long = c.if-end-room.false in
    line-long c.args.held c.args.owed c.args.octets.now c.args.piece.now c.requires.held fits c.args.literals
    c.saturating_sub-skip.result c.in-Some.end (16384 - length c.args.octets.now + 1) c.saturating_sub-skip.ensures c.in-Some.ensures refl (omega (arith, long))
