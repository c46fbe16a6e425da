use Rattle.archive_cli.specs.Words.{spelled}
use Rattle.archive_cli.proofs.Grammar.{Reading-at, Reading-stuck, Reading-twice, Reading-more}
use Rattle.archive_cli.proofs.words.read_settings.Goals as goal

pub returns-in_err-setting : goal.returns-in_err-setting
returns-in_err-setting c =
    let at = Reading-at c.args.options.now c.loop-option.option-index _ c.loop-option.settings c.loop-option-test.true c.loop-option.invariant in
    rw c.from_residual.ensures (Reading-stuck (spelled c.args.options.now) _ _ c.loop-option.settings at c.in_err-setting.ensures)

pub returns-in_err-settings : goal.returns-in_err-settings
returns-in_err-settings c =
    let at = Reading-at c.args.options.now c.loop-option.option-index _ c.loop-option.settings c.loop-option-test.true c.loop-option.invariant in
    rw c.from_residual-in_err-settings.ensures (Reading-twice (spelled c.args.options.now) _ _ c.loop-option.settings at c.in_ok-setting.setting c.in_ok-setting.ensures.0 c.in_ok-setting.ensures.1 c.in_err-settings.ensures)

pub loop-option-preserved : goal.loop-option-preserved
loop-option-preserved c =
    let at = Reading-at c.args.options.now c.loop-option.option-index _ c.loop-option.settings c.loop-option-test.true c.loop-option.invariant in
    Reading-more (spelled c.args.options.now) _ _ c.loop-option.settings at c.in_ok-setting.setting c.in_ok-settings.settings c.in_ok-setting.ensures.0 c.in_ok-setting.ensures.1 c.in_ok-settings.ensures
