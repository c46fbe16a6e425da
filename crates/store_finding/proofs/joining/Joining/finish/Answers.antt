use Rattle.std.proofs.Common.{◌≡◌, ◌∙◌, length, rules, sym, subst}
use Rattle.store_finding.specs.Joined.{JoinedEntries, HoldsJoined, message_count}
use Rattle.store_finding.proofs.Joins.{found_at, none_at, none_left, one_left}
use Rattle.store_finding.proofs.joining.Joining.finish.Goals as goal

pub returns-in-None-clause-finished : goal.returns-in-None-clause-finished
returns-in-None-clause-finished c =
    let size : c.len.result ≡ message_count c.self.inside.entries.items = (let count : c.len.result ≡ length c.self.inside.places.items = search rules in count ∙ c.self.invariant.2) in
    let v : JoinedEntries = record { records = c.self.inside.records.items; entries = c.self.inside.entries.items } in
    λ form rs after entries holds.
    none_left v (none_at v c.deref.result.now c.len.result c.deref.ensures.value size c.in-None.ensures.lookup.3) form rs after entries
    (subst (λ (w : JoinedEntries). HoldsJoined form w rs after entries) (sym c.self.view_is) holds)

pub returns-clause-finished : goal.returns-clause-finished
returns-clause-finished c =
    let size : c.len.result ≡ message_count c.self.inside.entries.items = (let count : c.len.result ≡ length c.self.inside.places.items = search rules in count ∙ c.self.invariant.2) in
    let v : JoinedEntries = record { records = c.self.inside.records.items; entries = c.self.inside.entries.items } in
    λ form rs after entries holds.
    one_left v c.in-Some.record.now
    (found_at v c.deref.result.now c.len.result c.in-Some.record.now c.deref.ensures.value size c.in-Some.ensures.lookup.3.0 c.in-Some.ensures.lookup.1) form rs after entries
    (subst (λ (w : JoinedEntries). HoldsJoined form w rs after entries) (sym c.self.view_is) holds)

pub returns-clause-small : goal.returns-clause-small
returns-clause-small c =
    let size : c.len.result ≡ message_count c.self.inside.entries.items = (let count : c.len.result ≡ length c.self.inside.places.items = search rules in count ∙ c.self.invariant.2) in
    let v : JoinedEntries = record { records = c.self.inside.records.items; entries = c.self.inside.entries.items } in
    c.self.invariant.1 (message_count c.self.inside.entries.items) c.in-Some.record.now
    (found_at v c.deref.result.now c.len.result c.in-Some.record.now c.deref.ensures.value size c.in-Some.ensures.lookup.3.0 c.in-Some.ensures.lookup.1)
