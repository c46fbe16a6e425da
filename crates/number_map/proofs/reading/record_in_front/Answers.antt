-- No other record has the first bytes.
use Rattle.std.proofs.Common.{rules, arith, ◌≡◌, ◌∙◌, sym, take}
use Rattle.disk_model.specs.Sizes.{record_size}
use Rattle.number_map.proofs.Spelled.{none_short, none_other, none_valid}
use Rattle.number_map.proofs.reading.record_in_front.Goals as goal

pub returns-then-bytes-record_size-clause-none : goal.returns-then-bytes-record_size-clause-none
returns-then-bytes-record_size-clause-none c = λ line valid is. none_short c.args.form c.args.bytes.now line c.args.number (let short = c.if-bytes-record_size.true in omega (arith, short, c.record_size.ensures.size)) valid is

pub returns-then-line-number-clause-none : goal.returns-then-line-number-clause-none
returns-then-line-number-clause-none c = λ line valid is.
    let read = c.any_record-line.ensures in
    let front : take (record_size c.args.form) c.args.bytes.now ≡ c.split_at.result.0.now = search rules in
    none_other c.args.form c.args.number c.any_record-line.result line c.split_at.result.0.now c.ranges.number.fits read.number read.epoch read.blob read.bytes (search rules) valid (sym front ∙ is)

pub returns-then-not-is_valid-clause-none : goal.returns-then-not-is_valid-clause-none
returns-then-not-is_valid-clause-none c = λ line valid is.
    let read = c.any_record-line.ensures in
    let front : take (record_size c.args.form) c.args.bytes.now ≡ c.split_at.result.0.now = search rules in
    none_valid c.args.form c.args.number c.any_record-line.result line c.split_at.result.0.now c.ranges.number.fits read.number read.epoch read.blob read.bytes (search rules) valid (sym front ∙ is)
