use Rattle.std.proofs.Common.{◌≡◌, ◌≤◌, ◌∙◌, ℕ, length, min, ap, arith}
use Rattle.mem_archive.proofs.Counting.{counted}
use Rattle.mem_archive.proofs.Numbers.{count-is}
use Rattle.mem_archive.proofs.memory.MemArchive.message_count.Goals as goal

pub count_live-requires : goal.count_live-requires
count_live-requires c =
    let few : length c.self.inside.places.items ≤ c.self.inside.config.max = c.self.invariant.0.numbers in
    let high : c.self.inside.config.max ≤ 2147483647 = c.self.invariant.0.settings.max_high in
    let count : length c.as_slice.result.now ≡ length c.self.inside.places.items = ap length c.as_slice.ensures.value in
    omega (arith, few, high, count)

pub returns : goal.returns
returns c =
    c.min.ensures
    ∙ ap (λ (n : ℕ). min n c.from.result) (count-is c.self.inside.config c.self.inside.kept.items c.self.inside.places.items c.self.inside.index c.self.inside.end c.args.self.now c.self.view_is c.self.invariant.0 c.as_slice.result.now 0 4294967295 c.count_live.result c.as_slice.ensures.value c.count_live.ensures)
    ∙ ap (min _) c.from.ensures
    ∙ counted c.self.inside.config c.self.inside.kept.items c.self.inside.places.items c.self.inside.index c.self.inside.end c.args.self.now c.self.view_is c.self.invariant.0
