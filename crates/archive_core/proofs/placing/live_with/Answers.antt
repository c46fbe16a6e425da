use Rattle.std.proofs.Common.{◌∙◌, sym, false, arith}
use Rattle.archive_core.specs.declared.placing.MessagePlace.{MessagePlace}
use Rattle.archive_core.proofs.Dropping.{none-more, none-dead, none-first, none-all, found-live}
use Rattle.archive_core.proofs.placing.live_with.Goals as goal
use Rattle.archive_core.proofs.placing.live_with.Goals.{else-place-via-then-place+else-has_blob, else-place-via-else-place}

pub loop-place-init : goal.loop-place-init
loop-place-init c = none-first c.args.places.now c.args.entries.now c.args.blob.now

pub returns-then-has_blob : goal.returns-then-has_blob
returns-then-has_blob c =
    let none : MessagePlace = record { number = 0; entry = 0; live = false } in
    found-live c.args.places.now c.args.entries.now c.args.blob.now c.loop-place.place-index none c.loop-place-test.true c.if-place.true (sym c.has_blob.ensures ∙ c.if-has_blob.true)

pub loop-place-preserved : goal.loop-place-preserved
loop-place-preserved c =
    let none : MessagePlace = record { number = 0; entry = 0; live = false } in
    elim c.else-place.branch [
      | else-place-via-then-place+else-has_blob w ↦
          none-more c.args.places.now c.args.entries.now c.args.blob.now c.loop-place.place-index none c.loop-place-test.true (sym w.has_blob.ensures ∙ w.if-has_blob.false) c.loop-place.invariant
      | else-place-via-else-place w ↦
          none-dead c.args.places.now c.args.entries.now c.args.blob.now c.loop-place.place-index none c.loop-place-test.true w.if-place.false c.loop-place.invariant
    ]

pub returns : goal.returns
returns c = none-all c.args.places.now c.args.entries.now c.args.blob.now c.loop-place.place-index (omega arith) c.loop-place.invariant
