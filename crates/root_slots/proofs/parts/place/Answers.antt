-- Two numbers, one after the other.
use Rattle.std.proofs.Common.{◌++◌}
use Rattle.disk_model.specs.BigEndian.{be64}
use Rattle.root_slots.proofs.Reading.{place_parts, place_is}
use Rattle.root_slots.proofs.parts.place.Goals as goal

pub returns-clause-read : goal.returns-clause-read
returns-clause-read c = λ p rest fits is.
    let first = c.number64-generation.ensures.read p.generation (be64 p.length ++ rest) fits.generation (place_parts c.args.bytes.now rest p is) in
    let second = c.number64-length.ensures.read p.length rest fits.length first.1 in
    (place_is c.number64-generation.result.0 c.number64-length.result.0 p first.0 second.0, second.1)
