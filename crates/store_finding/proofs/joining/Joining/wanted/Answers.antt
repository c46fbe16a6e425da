use Rattle.std.proofs.Common.{◌≡◌, ◌∙◌, length, rules, subst}
use Rattle.store_finding.specs.Joined.{JoinedEntries, IsWantedRecord, message_count}
use Rattle.store_finding.proofs.Joins.{is_wanted, other_blob, found_at, blobs_differ, blobs_same}
use Rattle.store_finding.proofs.joining.Joining.wanted.Goals as goal

pub returns-then-ne : goal.returns-then-ne
returns-then-ne c =
    let size : c.len.result ≡ message_count c.self.inside.entries.items = (let count : c.len.result ≡ length c.self.inside.places.items = search rules in count ∙ c.self.invariant.2) in
    let v : JoinedEntries = record { records = c.self.inside.records.items; entries = c.self.inside.entries.items } in
    λ number.
    subst (λ (w : JoinedEntries). IsWantedRecord w c.args.epoch c.args.seen.now number → ⊥) c.self.view_is
    (other_blob v c.args.epoch c.args.seen.now c.in_ok-record.record.now number
    (found_at v c.deref.result.now c.len.result c.in_ok-record.record.now c.deref.ensures.value size c.in_ok-record.ensures.lookup.3.0 c.in_ok-record.ensures.lookup.1)
    (blobs_differ c.in_ok-record.record.now.blob c.args.seen.now.blob c.ne.result c.ne.ensures c.if-ne.true))

pub returns : goal.returns
returns c =
    let size : c.len.result ≡ message_count c.self.inside.entries.items = (let count : c.len.result ≡ length c.self.inside.places.items = search rules in count ∙ c.self.invariant.2) in
    let v : JoinedEntries = record { records = c.self.inside.records.items; entries = c.self.inside.entries.items } in
    subst (λ (w : JoinedEntries). IsWantedRecord w c.args.epoch c.args.seen.now c.in_ok-record.record.now.number) c.self.view_is
    (is_wanted v c.args.epoch c.args.seen.now c.in_ok-record.record.now c.in-Message.is
    (found_at v c.deref.result.now c.len.result c.in_ok-record.record.now c.deref.ensures.value size c.in_ok-record.ensures.lookup.3.0 c.in_ok-record.ensures.lookup.1)
    c.if-record-epoch.false (blobs_same c.in_ok-record.record.now.blob c.args.seen.now.blob c.ne.result c.ne.ensures c.if-ne.false))
