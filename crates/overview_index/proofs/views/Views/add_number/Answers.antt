use Rattle.std.proofs.Common.{ℕ, ap, refl, ◌∙◌}
use Rattle.std.specs.Cmp.{nat_cmp_total}
use Rattle.std.specs.Global.{Vec}
use Rattle.std.specs.Ordering.{nat_cmp}
use Rattle.std.specs.BTreeMap.{is_at}
use Rattle.std.specs.Cmp.Lexicographic.{slice_cmp}
use Rattle.std.specs.Map.{lookup}
use Rattle.std.specs.Set.{remove_key}
use Rattle.ranked_set.proofs.SortedKeys.{remove-insert}
use Rattle.thread_model.proofs.Texts.{found_after}
use Rattle.overview_index.proofs.views.Views.add_number.Goals as goal

pub returns-in-Err-clause-err : goal.returns-in-Err-clause-err
returns-in-Err-clause-err c =
    let number = c.args.number in
    let removed = rw c.from-in-Err.ensures at c.remove.ensures.keys in
    let inserted = rw c.from.ensures at c.in_ok-insert.ensures.ok in
    record {
      dates = refl;
      numbers = removed ∙ ap (remove_key (is_at (nat_cmp number))) inserted ∙ remove-insert nat_cmp_total number c.args.self.now.numbers c.requires;
      ids = λ q. ap (lookup (is_at (λ (k : Vec ℕ). slice_cmp nat_cmp q k.items))) c.in-Err.ensures.err;
    }

pub returns-clause-ok : goal.returns-clause-ok
returns-clause-ok c = record {
  dates = refl;
  numbers = rw c.from.ensures at c.in_ok-insert.ensures.ok;
  ids = λ q. found_after (λ (k : Vec ℕ). k.items) q c.args.id c.args.number c.args.self.now.ids.entries c.insert-2.new.self.entries c.in_default.ensures.entries;
}
