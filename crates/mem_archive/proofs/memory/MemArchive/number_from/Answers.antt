use Rattle.std.proofs.Common.{◌≡◌, ◌≤◌, length, ap, arith}
use Rattle.mem_archive.proofs.Numbers.{least-is}
use Rattle.mem_archive.proofs.memory.MemArchive.number_from.Goals as goal

pub least_live-requires : goal.least_live-requires
least_live-requires c =
    let few : length c.self.inside.places.items ≤ c.self.inside.config.max = c.self.invariant.0.numbers in
    let high : c.self.inside.config.max ≤ 2147483647 = c.self.invariant.0.settings.max_high in
    let count : length c.as_slice.result.now ≡ length c.self.inside.places.items = ap length c.as_slice.ensures.value in
    omega (arith, few, high, count)

pub returns : goal.returns
returns c = least-is c.self.inside.config c.self.inside.kept.items c.self.inside.places.items c.self.inside.index c.self.inside.end c.args.self.now c.self.view_is c.self.invariant.0 c.as_slice.result.now c.args.number c.least_live.result c.as_slice.ensures.value c.least_live.ensures
