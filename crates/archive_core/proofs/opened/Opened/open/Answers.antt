use Rattle.std.specs.Prelude.{ℕ, List}
use Rattle.arch_model.specs.Archives.{Archive}
use Rattle.epoch_store.specs.Opens.{ReadsWith}
use Rattle.store_finding.specs.Kept.{IsStoreWith}
use Rattle.archive_core.proofs.OpeningRows.{opened-read, unopened-read, kindly-read, cause-of}
use Rattle.archive_core.proofs.Openings.{opened_reads}
use Rattle.archive_core.proofs.Standing.{still_own}
use Rattle.archive_core.proofs.opened.Opened.open.Goals as goal

pub returns-in-Ok-rows-clause-opened : goal.returns-in-Ok-rows-clause-opened
returns-in-Ok-rows-clause-opened g c = opened-read g.D.Disk g.met.D.Disk.counts_now c.args.disk.now c.open.new.disk c.rows.new.disk c.in-Ok.archive c.in-Ok.ensures.opened c.rows.ensures.looks
    (c.rows.ensures.cause.kept (λ fault. absurd (cc)))

pub returns-in-Err-rows-clause-opened : goal.returns-in-Err-rows-clause-opened
returns-in-Err-rows-clause-opened g c = unopened-read g.D.Disk g.met.D.Disk.counts_now c.args.disk.now c.open.new.disk c.rows.new.disk c.in-Ok.archive c.in-Ok.ensures.opened c.rows.ensures.looks c.in-Err-rows.refusal
    c.in-Err-rows.ensures.well c.in-Err-rows.ensures.sound c.in-Ok.ensures.texts (cause-of c.in-Err-rows.refusal _ _ c.in-Err-rows.ensures.cause)

pub returns-in-Ok-rows-clause-rows : goal.returns-in-Ok-rows-clause-rows
returns-in-Ok-rows-clause-rows g c = λ a cache reads. c.in-Ok-rows.ensures.rows a cache (c.in-Ok.ensures.opened.done a cache reads)

pub returns-in-Err-rows-clause-refused : goal.returns-in-Err-rows-clause-refused
returns-in-Err-rows-clause-refused g c =
    let v = c.in-Ok.archive in
    let before = g.D.Disk.content c.args.disk.now in
    let now = g.D.Disk.content c.open.new.disk in
    let after = g.D.Disk.content c.rows.new.disk in
    let own : (a : Archive) (cache : List ℕ) → ReadsWith cache a before → IsStoreWith v cache a after = λ a cache reads. still_own v cache a now after c.rows.ensures.looks.same (c.in-Ok.ensures.opened.done a cache reads) in
    kindly-read v before now after c.in-Err-rows.refusal c.in-Ok.ensures.opened.answer c.in-Ok.ensures.opened.kept c.in-Ok.ensures.texts c.in-Err-rows.ensures.sound c.rows.ensures.looks.same
    (opened_reads c.law_of_stores.ensures.recovers c.law_of_stores.ensures.exact v before after own) own c.in-Ok.ensures.opened.settled
