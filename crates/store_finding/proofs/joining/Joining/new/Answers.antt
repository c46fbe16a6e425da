-- Before the first entry.
use Rattle.std.proofs.Common.{◌≡◌, ◌∙◌, List, length, rules, slice_get, sym, ap, subst}
use Rattle.number_map.specs.declared.line.Record.{Record}
use Rattle.store_finding.specs.declared.entries.StoredEntry.{StoredEntry}
use Rattle.store_finding.specs.Damage.{messages}
use Rattle.store_finding.specs.Indexes.{IndexesStored}
use Rattle.store_finding.specs.Joined.{message_count}
use Rattle.store_finding.proofs.Firsts.{messages_small}
use Rattle.store_finding.proofs.Indexes.{indexes_none}
use Rattle.store_finding.proofs.Recorded.{joining_none}
use Rattle.store_finding.proofs.joining.Joining.new.Goals as goal

pub invariant_of-result : goal.invariant_of-result
invariant_of-result c =
    let rs = c.args.records.now in
    let records = c.in_ok-records.records.items in
    let is : records ≡ messages rs = search rules in
    let none = c.new.ensures.items in
    let index = c.new-3.result in (
      subst (λ (es : List StoredEntry). IndexesStored es index) (sym none) (indexes_none index c.new-3.ensures.owners c.new-3.ensures.blobs),
      λ i r here. messages_small rs i r (ap (λ (l : List Record). slice_get l i) (sym is) ∙ here),
      ap length c.new-2.ensures.items ∙ ap message_count (sym none),
      joining_none c.requires.valid.0 rs records c.new.result.items c.new-2.result.items index is c.requires.valid.1 c.new-2.ensures.items c.new-3.ensures.owners c.new-3.ensures.blobs,
    )
