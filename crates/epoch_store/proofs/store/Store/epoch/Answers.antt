-- An epoch that is read, and one without bytes.
use Rattle.std.proofs.Common.{◌≡◌, ◌∙◌, ◌++◌, ◌<◌, ℕ, List, sym, ap, subst, rules}
use Rattle.disk_model.specs.Disk.{Content, WhereTold, bytes_of}
use Rattle.store_finding.specs.Reading.{StandsAt}
use Rattle.epoch_store.proofs.WholeEpochs.{unnamed_gives, read_gives}
use Rattle.epoch_store.proofs.store.Store.epoch.Goals as goal

pub returns-then-named-eq0-clause-bytes : goal.returns-then-named-eq0-clause-bytes
returns-then-named-eq0-clause-bytes g c = λ a cache own.
    let none : c.named_length-named.result ≡ 0 = search rules in
    unnamed_gives c.args.self.now cache a (g.D.Disk.content c.args.disk.now) c.args.epoch c.args.into.now own (sym c.named_length-named.ensures.length ∙ none)

pub returns-clause-bytes : goal.returns-clause-bytes
returns-clause-bytes g c = λ a cache own.
    let text = c.in-Ok.bytes.items in
    let some : 0 < c.named_length-named.result = search rules in
    let size = c.named_length-named.ensures.length in
    let added : c.push_slice.new.self ≡ c.args.into.now ++ text = c.in_ok-push_slice.ensures ∙ ap (λ (l : List ℕ). c.args.into.now ++ l) c.as_slice.ensures.value in
    let k = g.D.Disk.content c.args.disk.now in
    let file = c.file_of-file.result in
    read_gives c.args.self.now cache a k c.args.epoch c.args.into.now c.push_slice.new.self text file own (c.named_length-named.ensures.there some) c.file_of-file.ensures
    (subst (λ (n : ℕ). 0 < n) size some)
    (subst (λ (n : ℕ). WhereTold (λ (f : Content). StandsAt (bytes_of (f file).seen) 0 n text) k) size c.in-Ok.ensures.found)
    added
