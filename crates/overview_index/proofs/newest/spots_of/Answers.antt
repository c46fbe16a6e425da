use Rattle.std.proofs.Common.{◌∙◌, sym, refl, arith}
use Rattle.std.specs.Prelude.{option_copied}
use Rattle.overview_index.proofs.NewestFirst.{spots-more, spots-none}
use Rattle.overview_index.proofs.newest.spots_of.Goals as goal

pub loop-i-init : goal.loop-i-init
loop-i-init c = record { within = omega arith; put = c.new-found.ensures.empty ∙ sym (spots-none c.args.rows.now.entries c.args.numbers.now) }

pub loop-i-preserved : goal.loop-i-preserved
loop-i-preserved c = record {
  within = (let before = c.loop-i.invariant.within in omega (arith, before));
  put = spots-more c.args.rows.now.entries c.args.numbers.now c.loop-i.i 0 _ (option_copied c.row_of.result) c.loop-i.found.keys c.put_spot.new.found.keys c.loop-i-test.true c.loop-i.invariant.within refl c.row_of.ensures c.loop-i.invariant.put c.in_ok-put_spot.ensures;
}
