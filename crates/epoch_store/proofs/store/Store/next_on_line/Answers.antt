-- The entry at this index is on the line, or there is none.
use Rattle.std.proofs.Common.{◌≡◌, true, false, ◌∙◌, length, refl, sym, ap, subst, arith}
use Rattle.std.proofs.lemmas.Option.{same_Some, slice_get_within}
use Rattle.store_finding.specs.Kept.{StoreState}
use Rattle.store_finding.specs.declared.entries.StoredEntry.{StoredEntry}
use Rattle.epoch_store.specs.Adopting.{IsOnLine}
use Rattle.epoch_store.proofs.AdoptedEpochs.{more_off_line, none_on_line}
use Rattle.epoch_store.proofs.Purged.{entry_at}
use Rattle.epoch_store.proofs.store.Store.next_on_line.Goals as goal

pub returns-then-is_on_line-clause-on : goal.returns-then-is_on_line-clause-on
returns-then-is_on_line-clause-on c = λ s found.
    let v = c.args.self.now in
    let i = c.loop-at.at in
    let e = c.index.result.now in
    let here = entry_at v c.self.inside.root c.self.inside.slot c.self.inside.entries.items c.self.inside.entries.items i e c.self.view_is refl (omega (arith, c.loop-at-test.true)) c.index.ensures in
    subst (λ (t : StoredEntry). IsOnLine t c.args.line.now) (same_Some e s (sym here ∙ found)) (c.is_on_line.ensures.on c.if-is_on_line.true)

pub loop-at-init : goal.loop-at-init
loop-at-init c = record { least = omega arith; passed = none_on_line c.args.self.now.entries c.args.from c.args.line.now }

pub loop-at-preserved : goal.loop-at-preserved
loop-at-preserved c =
    let v = c.args.self.now in
    let i = c.loop-at.at in
    let e = c.index.result.now in
    let here = entry_at v c.self.inside.root c.self.inside.slot c.self.inside.entries.items c.self.inside.entries.items i e c.self.view_is refl (omega (arith, c.loop-at-test.true)) c.index.ensures in
    let so = c.loop-at.invariant in
    let least = so.least in
    record {
      least = omega (arith, least);
      passed = more_off_line v.entries c.args.from i e c.args.line.now here
          (λ on. (let wrong : true ≡ false = sym (c.is_on_line.ensures.off on) ∙ c.if-is_on_line.false in cc))
          so.passed;
    }

pub returns-clause-on : goal.returns-clause-on
returns-clause-on c = λ s found.
    let v = c.args.self.now in
    let size : length c.self.inside.entries.items ≡ length v.entries = ap (λ (u : StoreState). length u.entries) c.self.view_is in
    absurd (let within = slice_get_within v.entries _ s found in omega (arith, within, size))
