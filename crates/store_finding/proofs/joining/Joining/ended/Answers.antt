-- The message of a live id is found, and its blob id compared.
use Rattle.std.proofs.Common.{◌≡◌, List, Some, None, rules, sym, subst}
use Rattle.arch_base.specs.declared.ids.Form.{Form}
use Rattle.arch_model.specs.Archives.{Entry}
use Rattle.arch_judge.specs.Indexes.{owner_in}
use Rattle.number_map.specs.declared.line.Record.{Record}
use Rattle.store_finding.specs.Joined.{JoinedEntries, OfJoined, EndedBy, IsMessageOf, IsRecorded}
use Rattle.store_finding.proofs.Joins.{ends_one, ends_other, blobs_differ, blobs_same}
use Rattle.store_finding.proofs.joining.Joining.ended.Goals as goal

pub message-message-requires : goal.message-message-requires
message-message-requires c =
    let found : owner_in c.self.inside.index.owners c.args.seen.now.id ≡ Some c.in-Some.owner = search rules in
    subst (λ (w : JoinedEntries). (line : Record) × IsRecorded w c.in-Some.owner.number line) c.self.view_is (c.self.invariant.3.indexes.owners c.args.seen.now.id c.in-Some.owner found)

pub returns-then-ne : goal.returns-then-ne
returns-then-ne c =
    let v : JoinedEntries = record { records = c.self.inside.records.items; entries = c.self.inside.entries.items } in
    let seen = c.args.seen.now in
    let s = c.message-message.result.now in
    let found : owner_in c.self.inside.index.owners seen.id ≡ Some c.in-Some.owner = search rules in
    let of = subst (λ (w : JoinedEntries). IsMessageOf w.entries c.in-Some.owner.number s) (sym c.self.view_is) c.message-message.ensures.of in
    subst (λ (w : JoinedEntries). OfJoined w (λ (form : Form) (all : List Entry). EndedBy form all seen None)) c.self.view_is
    (ends_other v c.self.inside.index seen c.in-Some.owner s c.self.invariant.0 found of (blobs_differ s.seen.blob seen.blob c.ne.result c.ne.ensures c.if-ne.true))

pub returns : goal.returns
returns c =
    let v : JoinedEntries = record { records = c.self.inside.records.items; entries = c.self.inside.entries.items } in
    let seen = c.args.seen.now in
    let s = c.message-message.result.now in
    let found : owner_in c.self.inside.index.owners seen.id ≡ Some c.in-Some.owner = search rules in
    let of = subst (λ (w : JoinedEntries). IsMessageOf w.entries c.in-Some.owner.number s) (sym c.self.view_is) c.message-message.ensures.of in
    subst (λ (w : JoinedEntries). OfJoined w (λ (form : Form) (all : List Entry). EndedBy form all seen (Some c.in-Some.owner.number))) c.self.view_is
    (ends_one v c.self.inside.index seen c.in-Some.owner s c.self.invariant.0 found of c.requires (blobs_same s.seen.blob seen.blob c.ne.result c.ne.ensures c.if-ne.false))
