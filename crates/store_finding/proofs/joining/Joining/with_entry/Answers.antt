-- The index has one more entry, and so have the places, if it is a message.
use Rattle.std.proofs.Common.{◌≡◌, ◌∙◌, ◌++◌, ◌∷◌, ℕ, List, [], length, rules, sym, ap, subst, refl}
use Rattle.git_objects.specs.declared.entry_kind.EntryKind.TheVariants.{Message}
use Rattle.store_finding.specs.declared.entries.StoredEntry.{StoredEntry}
use Rattle.store_finding.specs.Indexes.{IndexesStored}
use Rattle.store_finding.specs.Joined.{IsJoining, IsWantedRecord, JoinedEntries, entry_seen, message_count, places_with, with_seen}
use Rattle.store_finding.proofs.Indexes.{indexes_more}
use Rattle.store_finding.proofs.Recorded.{joining_more, places_count}
use Rattle.store_finding.proofs.joining.Joining.with_entry.Goals as goal

pub invariant_of-result : goal.invariant_of-result
invariant_of-result c =
    let old = c.self.inside in
    let entry = entry_seen c.args.number c.args.epoch c.args.seen in
    let before : JoinedEntries = record { records = old.records.items; entries = old.entries.items } in
    let wanted = subst (λ (v : JoinedEntries). c.args.seen.kind ≡ Message → IsWantedRecord v c.args.epoch c.args.seen c.args.number) (sym c.self.view_is) c.requires in
    let long : c.len.result ≡ length old.entries.items = search rules in
    let pushed : c.push_place.new.places.items ≡ places_with c.args.seen.kind old.places.items c.len.result = c.in_ok-push_place.ensures in
    let places : c.push_place.new.places.items ≡ places_with c.args.seen.kind old.places.items (length old.entries.items) = pushed ∙ ap (places_with c.args.seen.kind old.places.items) long in
    let entries : c.push.new.self.items ≡ old.entries.items ++ entry ∷ [] = c.in_ok-push.ensures.items in (
      subst (λ (l : List StoredEntry). IndexesStored l c.take_entry.new.index) (sym entries) (indexes_more old.entries.items entry old.index c.take_entry.new.index c.self.invariant.0 c.in_ok-take_entry.ensures.ok),
      c.self.invariant.1,
      ap length places ∙ (places_count c.args.seen.kind old.places.items (length old.entries.items) old.entries.items entry refl c.self.invariant.2 ∙ ap message_count (sym entries)),
      subst (λ (l : List StoredEntry). IsJoining (record { records = old.records.items; entries = l }) c.push_place.new.places.items c.take_entry.new.index) (sym entries)
          (subst (λ (ps : List ℕ). IsJoining (with_seen before c.args.number c.args.epoch c.args.seen) ps c.take_entry.new.index) (sym places)
          (joining_more before old.places.items old.index c.take_entry.new.index c.args.number c.args.epoch c.args.seen c.self.invariant.3 c.self.invariant.2 wanted c.in_ok-take_entry.ensures.ok)),
    )
