use Rattle.std.proofs.Common.{◌≡◌, ◌∙◌, true, false, sym, subst, slice_get, Some}
use Rattle.disk_model.specs.Disk.{WhereTold}
use Rattle.epoch_store.specs.Reads.{FindsText}
use Rattle.store_finding.specs.Kept.{StoreState, IsStoreWith}
use Rattle.archive_core.proofs.ByNumber.{inside-message, text-gives, text-kept}
use Rattle.archive_core.proofs.Standing.{store_keeps}
use Rattle.archive_core.proofs.archive.DiskArchive.text.Goals as goal

pub text-requires : goal.text-requires
text-requires g c = record { there = inside-message c.args.self.now c.self.inside.store c.args.n c.in-Some.index c.self.view_is c.in-Some.ensures.known.message }

pub unreachable-requires : goal.unreachable-requires
unreachable-requires g c = let wrong : false ≡ true = c.in-None.ensures.found ∙ c.requires.live in absurd (cc)

pub returns-clause-text : goal.returns-clause-text
returns-clause-text g c = λ a cache own.
    let k = g.D.Disk.content c.args.disk.now in
    text-gives c.args.self.now a (store_keeps c.args.self.now cache a k own) c.args.n c.in-Some.index c.in-Some.ensures.known c.args.into.now c.text.new.into c.text.result
    (c.text.ensures.archive a cache (subst (λ (v : StoreState). IsStoreWith v cache a k) (sym c.self.view_is) own))

pub returns-clause-kept : goal.returns-clause-kept
returns-clause-kept g c =
    let k = g.D.Disk.content c.args.disk.now in
    text-kept c.args.self.now k c.args.n c.in-Some.index c.args.into.now c.text.new.into c.text.result c.in-Some.ensures.known.message
    (λ s here. c.text.ensures.text s (subst (λ (v : StoreState). slice_get v.entries c.in-Some.index ≡ Some s) (sym c.self.view_is) here))
    (λ s here. subst (λ (v : StoreState). WhereTold (FindsText v.root s c.args.into.now c.text.new.into c.text.result) k) c.self.view_is (c.text.ensures.found s (subst (λ (v : StoreState). slice_get v.entries c.in-Some.index ≡ Some s) (sym c.self.view_is) here)))
