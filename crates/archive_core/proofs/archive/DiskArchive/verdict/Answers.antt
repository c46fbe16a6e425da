use Rattle.std.proofs.Common.{◌≡◌, ◌∙◌, true, false, sym, ap, subst, refl, List, ℕ, Ok}
use Rattle.arch_base.specs.declared.config.Config.{Config}
use Rattle.store_finding.specs.Kept.{StoreState}
use Rattle.archive_core.specs.Commands.{ReadsMessage, left_without}
use Rattle.archive_core.proofs.Standing.{store_keeps}
use Rattle.archive_core.proofs.TellingDamage.{compared-damage, judged-damage}
use Rattle.archive_core.proofs.Unmoved.{if-final, if-none-read, if-compared}
use Rattle.archive_core.proofs.Verdicts.{judges-read, unread-judges, compares, alone-final, alone-same, judged-by, judged-cause, unread-by, compared-by, final-late, last-late, unread-late}
use Rattle.archive_core.proofs.WithoutText.{known-left, left-indexed, reads-left, left-config, left-next, left-agree}
use Rattle.archive_core.proofs.archive.DiskArchive.verdict.Goals as goal

pub returns-in-Final-clause-judged : goal.returns-in-Final-clause-judged
returns-in-Final-clause-judged g c = λ a cache gone own indexed.
    let keeps = store_keeps c.args.self.now cache a (g.D.Disk.content c.args.disk.now) own in (
      judges-read (left_without a gone) c.args.bytes.now c.in-Final.verdict (c.in-Final.ensures.judged (left_without a gone) (known-left c.args.self.now a c.config-config.result.now c.args.index.now c.next_number-next.result gone keeps (c.config-config.ensures ∙ ap (λ (v : StoreState). v.root.config) c.self.view_is) (c.next_number-next.ensures ∙ ap (λ (v : StoreState). v.root.next) c.self.view_is) indexed)),
      alone-final (left_without a gone) c.config-config.result.now c.args.index.now c.next_number-next.result c.in-Final.verdict (left-config a gone ∙ sym (c.config-config.ensures ∙ ap (λ (v : StoreState). v.root.config) c.self.view_is ∙ keeps.names.config)) (left-indexed a gone c.args.index.now indexed) c.in-Final.ensures.taken,
    )

pub returns-in-Final-clause-taken : goal.returns-in-Final-clause-taken
returns-in-Final-clause-taken g c =
    judged-by c.args.self.now c.config-config.result.now c.args.index.now c.next_number-next.result c.in-Final.verdict (c.config-config.ensures ∙ ap (λ (v : StoreState). v.root.config) c.self.view_is) (c.next_number-next.ensures ∙ ap (λ (v : StoreState). v.root.next) c.self.view_is) c.in-Final.ensures.taken

pub returns-in-Final-clause-formed : goal.returns-in-Final-clause-formed
returns-in-Final-clause-formed g c = λ form writable is.
    final-late c.in-Final.verdict (c.in-Final.ensures.formed form (ap (λ (k : Config). k.mirror) (c.config-config.ensures ∙ ap (λ (v : StoreState). v.root.config) c.self.view_is) ∙ writable) is)

pub returns-in-Final-clause-cause : goal.returns-in-Final-clause-cause
returns-in-Final-clause-cause g c = judged-cause c.config-config.result.now c.args.index.now c.next_number-next.result (g.D.Disk.faults c.args.disk.now) c.in-Final.verdict c.in-Final.ensures.taken

pub returns-in-Ok-clause-formed : goal.returns-in-Ok-clause-formed
returns-in-Ok-clause-formed g c = λ form writable is. last-late c.compared.result c.compared.ensures.last

pub returns-in-Err-clause-formed : goal.returns-in-Err-clause-formed
returns-in-Err-clause-formed g c = λ form writable is. unread-late c.in-Err.answer c.in-Err.ensures.unread

pub returns-in-Ok-clause-judged : goal.returns-in-Ok-clause-judged
returns-in-Ok-clause-judged g c = λ a cache gone own indexed.
    let keeps = store_keeps c.args.self.now cache a (g.D.Disk.content c.args.disk.now) own in
    let b = left_without a gone in
    let compared = c.in-Compare.ensures.judged b
    (known-left c.args.self.now a c.config-config.result.now c.args.index.now c.next_number-next.result gone keeps (c.config-config.ensures ∙ ap (λ (v : StoreState). v.root.config) c.self.view_is) (c.next_number-next.ensures ∙ ap (λ (v : StoreState). v.root.next) c.self.view_is) indexed) in
    let agree = left-agree a gone keeps.valid in
    let read : ReadsMessage a c.in-Compare.number (Ok c.as_slice.result.now) = subst (λ (l : List ℕ). ReadsMessage a c.in-Compare.number (Ok l)) (sym c.as_slice.ensures) (c.in-Ok.ensures.text a cache own) in
    let still : ReadsMessage b c.in-Compare.number (Ok c.as_slice.result.now) = reads-left a gone c.in-Compare.number c.as_slice.result.now keeps.valid.blobs read in (
      judges-read b c.args.bytes.now c.compared.result
          (c.compared.ensures.judged b c.args.bytes.now (left-config a gone ∙ sym (c.config-config.ensures ∙ ap (λ (v : StoreState). v.root.config) c.self.view_is ∙ keeps.names.config)) (left-next a gone ∙ sym (c.next_number-next.ensures ∙ ap (λ (v : StoreState). v.root.next) c.self.view_is ∙ keeps.names.next))
          (compares b c.args.bytes.now c.in-Compare.text c.as_slice.result.now c.in-Compare.ids.blob c.in-Compare.number agree compared still)),
      alone-same b c.config-config.result.now c.args.index.now c.next_number-next.result c.in-Compare.text c.as_slice.result.now c.in-Compare.ids c.in-Compare.number c.compared.result (left-config a gone ∙ sym (c.config-config.ensures ∙ ap (λ (v : StoreState). v.root.config) c.self.view_is ∙ keeps.names.config)) agree (left-indexed a gone c.args.index.now indexed) c.in-Compare.ensures.taken.0.ids_are c.in-Compare.ensures.taken.1 still c.compared.ensures.taken c.compared.ensures.same,
    )

pub returns-in-Ok-clause-taken : goal.returns-in-Ok-clause-taken
returns-in-Ok-clause-taken g c =
    compared-by c.args.self.now c.config-config.result.now c.args.index.now c.next_number-next.result c.in-Compare.text c.in-Compare.ids c.compared.result (c.config-config.ensures ∙ ap (λ (v : StoreState). v.root.config) c.self.view_is) (c.next_number-next.ensures ∙ ap (λ (v : StoreState). v.root.next) c.self.view_is) c.in-Compare.ensures.taken.0 c.compared.ensures.taken

pub returns-in-Err-clause-judged : goal.returns-in-Err-clause-judged
returns-in-Err-clause-judged g c = λ a cache gone own indexed. (unread-judges a (left_without a gone) c.args.bytes.now c.in-Compare.number c.in-Err.answer (c.in-Err.ensures.text a cache own), tt)

pub returns-in-Err-clause-taken : goal.returns-in-Err-clause-taken
returns-in-Err-clause-taken g c = unread-by c.args.self.now c.args.index.now c.in-Err.answer c.in-Err.ensures.unread

pub returns-in-Ok-clause-unread : goal.returns-in-Ok-clause-unread
returns-in-Ok-clause-unread g c = λ a cache gone own indexed unknown.
    let keeps = store_keeps c.args.self.now cache a (g.D.Disk.content c.args.disk.now) own in
    let compared = c.in-Compare.ensures.judged (left_without a gone)
    (known-left c.args.self.now a c.config-config.result.now c.args.index.now c.next_number-next.result gone keeps (c.config-config.ensures ∙ ap (λ (v : StoreState). v.root.config) c.self.view_is) (c.next_number-next.ensures ∙ ap (λ (v : StoreState). v.root.next) c.self.view_is) indexed) in
    let wrong : true ≡ false = sym compared.known ∙ unknown in
    absurd (cc)

pub returns-in-Err-clause-unread : goal.returns-in-Err-clause-unread
returns-in-Err-clause-unread g c = λ a cache gone own indexed unknown.
    let keeps = store_keeps c.args.self.now cache a (g.D.Disk.content c.args.disk.now) own in
    let compared = c.in-Compare.ensures.judged (left_without a gone)
    (known-left c.args.self.now a c.config-config.result.now c.args.index.now c.next_number-next.result gone keeps (c.config-config.ensures ∙ ap (λ (v : StoreState). v.root.config) c.self.view_is) (c.next_number-next.ensures ∙ ap (λ (v : StoreState). v.root.next) c.self.view_is) indexed) in
    let wrong : true ≡ false = sym compared.known ∙ unknown in
    absurd (cc)

pub returns-in-Final-clause-unmoved : goal.returns-in-Final-clause-unmoved
returns-in-Final-clause-unmoved g c = if-final c.in-Final.verdict _ refl

pub returns-in-Ok-clause-unmoved : goal.returns-in-Ok-clause-unmoved
returns-in-Ok-clause-unmoved g c = if-compared c.compared.result _ c.compared.ensures.last

pub returns-in-Err-clause-unmoved : goal.returns-in-Err-clause-unmoved
returns-in-Err-clause-unmoved g c = if-none-read c.in-Err.answer _ c.in-Err.ensures.unread

pub returns-in-Final-clause-damage : goal.returns-in-Final-clause-damage
returns-in-Final-clause-damage g c = judged-damage c.args.self.now (g.D.Disk.content c.args.disk.now) c.config-config.result.now c.args.index.now c.next_number-next.result c.in-Final.verdict c.in-Final.ensures.taken

pub returns-in-Ok-clause-damage : goal.returns-in-Ok-clause-damage
returns-in-Ok-clause-damage g c = compared-damage c.args.self.now (g.D.Disk.content c.args.disk.now) c.compared.result c.compared.ensures.last
