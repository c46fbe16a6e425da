use Rattle.std.proofs.Common.{◌≡◌, ◌==◌, ◌++◌, ◌∙◌, ◌≤◌, ◌<◌, ℕ, List, length, get_or, Some, false, ap, arith}
use Rattle.std.proofs.lemmas.Bool.Decides.{nat_tests}
use Rattle.arch_base.specs.declared.ids.ObjectId.{ObjectId}
use Rattle.mail_commits.specs.Entries.{commit_id, entry_bytes}
use Rattle.mem_archive.specs.Memory.{front_bytes}
use Rattle.mem_archive.proofs.EpochSteps.{pushed-one, pushed-else, pushed-all}
use Rattle.mem_archive.proofs.memory.MemArchive.push_entries.Goals as goal
use Rattle.mem_archive.proofs.memory.MemArchive.push_entries.Goals.{then-kept-epoch+in_ok-push_after, else-kept-epoch}

pub loop-kept-preserved : goal.loop-kept-preserved
loop-kept-preserved c =
    let items : c.as_slice-kept-items.result.now ≡ c.self.inside.kept.items = c.as_slice-kept-items.ensures.value in
    let below : c.loop-kept.kept-index < length c.self.inside.kept.items = rw items at c.loop-kept-test.true in
    let at : c.kept-item.result ≡ get_or c.self.inside.kept.items c.loop-kept.kept-index c.kept-item.result = rw items at c.kept-item.is in
    elim c.if-kept-epoch.branch [
      | then-kept-epoch+in_ok-push_after w ↦ (
          let text : w.as_slice.result.now ≡ c.kept-item.result.text = w.as_slice.ensures in
          let same : c.kept-item.result.epoch ≡ c.args.epoch = grind (arith, nat_tests, w.if-kept-epoch.true) in
          let more = pushed-one c.self.inside.config.form c.self.inside.kept.items c.args.epoch c.args.into.now c.loop-kept.kept-index c.kept-item.result c.loop-kept.into c.loop-kept.parent below at same c.loop-kept.invariant in
          let into : c.if-kept-epoch.into ≡ c.loop-kept.into ++ (front_bytes c.self.inside.config.form c.loop-kept.parent ++ entry_bytes c.self.inside.config.form c.kept-item.result.kind c.kept-item.result.text c.kept-item.result.moment c.loop-kept.parent) =
          w.into-is ∙ w.in_ok-push_after.ensures.ok ∙ ap (λ (t : List ℕ). c.loop-kept.into ++ (front_bytes c.self.inside.config.form c.loop-kept.parent ++ entry_bytes c.self.inside.config.form c.kept-item.result.kind t c.kept-item.result.moment c.loop-kept.parent)) text in
          let parent : c.if-kept-epoch.parent ≡ Some (commit_id c.self.inside.config.form c.kept-item.result.kind c.kept-item.result.text c.kept-item.result.moment c.loop-kept.parent) =
          w.parent-is ∙ ap (λ (i : ObjectId). Some i) w.in_ok-push_after.ensures.id ∙ ap (λ (t : List ℕ). Some (commit_id c.self.inside.config.form c.kept-item.result.kind t c.kept-item.result.moment c.loop-kept.parent)) text in
          (into ∙ more.0, parent ∙ more.1))
      | else-kept-epoch w ↦ (
          let other : (c.kept-item.result.epoch == c.args.epoch) ≡ false = grind (arith, nat_tests, w.if-kept-epoch.false) in
          let more = pushed-else c.self.inside.config.form c.self.inside.kept.items c.args.epoch c.args.into.now c.loop-kept.kept-index c.kept-item.result c.loop-kept.into c.loop-kept.parent below at other c.loop-kept.invariant in
          (w.into-is ∙ more.0, w.parent-is ∙ more.1))
    ]

pub returns-clause-found : goal.returns-clause-found
returns-clause-found c =
    let items : c.as_slice-kept-items.result.now ≡ c.self.inside.kept.items = c.as_slice-kept-items.ensures.value in
    let whole : length c.self.inside.kept.items ≤ c.loop-kept.kept-index = omega (arith, c.loop-kept-test.false, ap length items) in
    c.is_some.ensures ∙ (pushed-all c.args.self.now c.self.inside.config c.self.inside.kept.items c.self.inside.places.items c.args.epoch c.args.into.now c.loop-kept.kept-index c.loop-kept.into c.loop-kept.parent c.self.view_is whole c.loop-kept.invariant).1
