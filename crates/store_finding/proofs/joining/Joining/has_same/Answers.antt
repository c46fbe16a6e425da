-- Both texts are read, and compared.
use Rattle.std.proofs.Common.{◌≡◌, ◌∙◌, Some, subst, rules}
use Rattle.std.specs.Str.{bytes_eq}
use Rattle.arch_judge.specs.Indexes.{number_in}
use Rattle.number_map.specs.declared.line.Record.{Record}
use Rattle.store_finding.specs.Joined.{JoinedEntries, IsMessageOf, IsRecorded}
use Rattle.store_finding.proofs.Comparing.{both_read}
use Rattle.store_finding.proofs.joining.Joining.has_same.Goals as goal

pub message-older-requires : goal.message-older-requires
message-older-requires g c =
    let found : number_in c.self.inside.index.blobs c.args.seen.now.blob ≡ Some c.in-Some.number = search rules in
    let so = c.self.invariant.3.indexes.blobs c.args.seen.now.blob c.in-Some.number found in
    subst (λ (w : JoinedEntries). (line : Record) × IsRecorded w c.in-Some.number line) c.self.view_is (so.0, so.1)

pub returns-clause-compared : goal.returns-clause-compared
returns-clause-compared g c =
    let v : JoinedEntries = c.args.self.now in
    let seen = c.args.seen.now in
    let older = c.message-older.result.now in
    let of : IsMessageOf v.entries c.in-Some.number older = c.message-older.ensures.of in
    let found : number_in c.self.inside.index.blobs seen.blob ≡ Some c.in-Some.number = search rules in
    let so = c.self.invariant.3.indexes.blobs seen.blob c.in-Some.number found in
    let line : IsRecorded v c.in-Some.number so.0 = subst (λ (w : JoinedEntries). IsRecorded w c.in-Some.number so.0) c.self.view_is so.1 in
    let blob : older.seen.blob ≡ seen.blob = c.message-older.ensures.blob so.0 line ∙ so.2 in
    let same : c.eq.result ≡ bytes_eq c.in_ok-old.old.items c.in_ok-new.new.items = search rules in
    both_read c.args.root.now v c.args.epoch seen of.index older c.in_ok-old.old.items c.in_ok-new.new.items c.eq.result
    (g.D.Disk.content c.args.disk.now) (g.D.Disk.content c.seen_text.new.disk) of.among blob
    c.seen_text.ensures.reads.same c.in_ok-old.ensures.text c.in_ok-new.ensures.text same
