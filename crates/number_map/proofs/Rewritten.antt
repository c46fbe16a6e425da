-- A map that is written anew.
use Rattle.std.specs.Prelude.{◌≡◌, ℕ, Ok, Err, Bool, true, false, List, Option, Some, None}
use Rattle.std.proofs.Common.{◌∙◌, sym, ap, subst}
use Rattle.arch_base.specs.declared.ids.Form.{Form}
use Rattle.disk_model.specs.declared.name.FileName.{FileName}
use Rattle.disk_model.specs.declared.refusal.WalkRefusal.{WalkRefusal}
use Rattle.disk_model.specs.declared.refusal.WalkRefusal.TheVariants.{DiskFault, Damaged, NoMemory}
use Rattle.disk_model.specs.Disk.{Content, Kept, BothTold, WhereTold, Unchanged, bytes_of}
use Rattle.root_change.specs.Copying.{OtherFilesStay}
use Rattle.root_change.specs.Gathering.{HasSources, PutSources}
use Rattle.root_change.specs.Rewriting.{Plan}
use Rattle.root_change.proofs.Drops.{not_both}
use Rattle.root_change.proofs.Pushes.{plan_put, sources_there}
use Rattle.number_map.specs.declared.line.Record.{Record}
use Rattle.number_map.specs.Rewriting.{PlansMap, RewritesMap}
use Rattle.number_map.specs.Walks.{BeginsWithRecords, WalksMap}

module _ (form : Form) where
  -- The map can't be read.
  refused_now : (from : FileName) (count : ℕ) (to : FileName) (gone : List ℕ) (refusal : WalkRefusal) (k m : Content) → WalksMap form count (bytes_of (k from).seen) (Err refusal) → Unchanged k m → RewritesMap form from count to gone k m (Err refusal)
  refused_now from count to gone DiskFault k m walks same = tt
  refused_now from count to gone NoMemory k m walks same = same
  refused_now from count to gone (Damaged at) k m walks same = (walks, same)

  pub walk_refused : (from : FileName) (count : ℕ) (to : FileName) (gone : List ℕ) (refusal : WalkRefusal) (k m : Option Content) → WhereTold (λ c. WalksMap form count (bytes_of (c from).seen) (Err refusal)) k → BothTold Unchanged k m → BothTold (λ c d. RewritesMap form from count to gone c d (Err refusal)) k m
  walk_refused from count to gone refusal None None walks same = tt
  walk_refused from count to gone refusal None (Some d) walks same = absurd same
  walk_refused from count to gone refusal (Some c) None walks same = absurd same
  walk_refused from count to gone refusal (Some c) (Some d) walks same = refused_now from count to gone refusal c d walks same

  -- The records stand in the map after a call that changes nothing.
  begins_still : (from : FileName) (lines : List Record) (k m : Content) → BeginsWithRecords form lines (bytes_of (k from).seen) → Unchanged k m → BeginsWithRecords form lines (bytes_of (m from).seen)
  begins_still from lines k m begins same = subst (λ (it : Kept). BeginsWithRecords form lines (bytes_of it.seen)) (sym (same from)) begins

  -- The plan of the map was carried out.
  rewritten_now : (from : FileName) (count : ℕ) (to : FileName) (gone : List ℕ) (plan : Plan) (lines : List Record) (k m o : Content) → WalksMap form count (bytes_of (k from).seen) (Ok lines) → PlansMap form from count gone plan → Unchanged k m → PutSources plan.bytes plan.sources to 0 m o → RewritesMap form from count to gone k o (Ok tt)
  rewritten_now from count to gone plan lines k m o walks planned same put = (
    lines,
    walks.0,
    walks.1,
    λ none.
        let none_m = ap (λ (it : Kept). bytes_of it.seen) (same to) ∙ none in
        plan_put plan to m o put none_m ∙ (planned.written (λ (name : FileName). bytes_of (m name).seen) lines walks.0 (begins_still from lines k m walks.1 same)).1,
  )

  pub rewritten : (from : FileName) (count : ℕ) (to : FileName) (gone : List ℕ) (plan : Plan) (lines : List Record) (k m o : Option Content) → WhereTold (λ c. WalksMap form count (bytes_of (c from).seen) (Ok lines)) k → PlansMap form from count gone plan → BothTold Unchanged k m → BothTold (PutSources plan.bytes plan.sources to 0) m o → BothTold (λ c d. RewritesMap form from count to gone c d (Ok tt)) k o
  rewritten from count to gone plan lines None None None walks planned same put = tt
  rewritten from count to gone plan lines None None (Some e) walks planned same put = absurd put
  rewritten from count to gone plan lines None (Some d) o walks planned same put = absurd same
  rewritten from count to gone plan lines (Some c) None o walks planned same put = absurd same
  rewritten from count to gone plan lines (Some c) (Some d) None walks planned same put = absurd put
  rewritten from count to gone plan lines (Some c) (Some d) (Some e) walks planned same put = rewritten_now from count to gone plan lines c d e walks planned same put

  -- The plan is whole where the map was read.
  pub never_short : (from : FileName) (count : ℕ) (to : FileName) (gone : List ℕ) (at : ℕ) (plan : Plan) (lines : List Record) (whole : Bool) (k m o : Option Content) → WhereTold (λ c. WalksMap form count (bytes_of (c from).seen) (Ok lines)) k → PlansMap form from count gone plan → BothTold Unchanged k m → BothTold (OtherFilesStay to) m o → (HasSources plan.bytes m plan.sources → whole ≡ true) → whole ≡ false
      → BothTold (λ c d. RewritesMap form from count to gone c d (Err (Damaged at))) k o
  never_short from count to gone at plan lines whole None None None walks planned same others all short = tt
  never_short from count to gone at plan lines whole None None (Some e) walks planned same others all short = absurd others
  never_short from count to gone at plan lines whole None (Some d) o walks planned same others all short = absurd same
  never_short from count to gone at plan lines whole (Some c) None o walks planned same others all short = absurd same
  never_short from count to gone at plan lines whole (Some c) (Some d) None walks planned same others all short = absurd others
  never_short from count to gone at plan lines whole (Some c) (Some d) (Some e) walks planned same others all short =
      let there = sources_there plan d (planned.written (λ (name : FileName). bytes_of (d name).seen) lines walks.0 (begins_still from lines c d walks.1 same)).0 in
      absurd (not_both whole (all there) short)
