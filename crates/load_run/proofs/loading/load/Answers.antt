use Rattle.std.proofs.Common.{◌≡◌, ◌+◌, ◌/◌, ℕ, None, ap, subst}
use Rattle.arch_model.specs.KeeperRecord.{keeper}
use Rattle.arch_model.specs.Keeping.{MatchesKnown}
use Rattle.arch_model.specs.Standing.{standing}
use Rattle.load_run.specs.Loads.{loaded, delivered_to, removed_to, moment_of}
use Rattle.load_run.proofs.Validly.{loaded_valid}
use Rattle.load_run.proofs.loading.load.Goals as goal

pub returns-in-Ok-clause-counts : goal.returns-in-Ok-clause-counts
returns-in-Ok-clause-counts g c = λ a valid fits.
    let first = delivered_to a c.args.seed c.args.count in
    let second = removed_to first (moment_of c.args.count) (c.args.count / 10) in
    let last = loaded a c.args.count c.args.seed in
    let fits_1 = c.in_ok-deliver_all.ensures.kept a fits in
    let moment : 1700000000 + c.from-moment.result ≡ moment_of c.args.count = ap (λ (n : ℕ). 1700000000 + n) c.from-moment.ensures in
    let fits_2 = subst (λ (m : ℕ). MatchesKnown (keeper g.K.Shelf g.K.Keep) c.remove_all.new.keep (standing (removed_to first m (c.args.count / 10)) None)) moment
    (c.in_ok-remove_all.ensures.kept first fits_1) in
    let fits_3 = c.in_ok-purge_all.ensures.kept second fits_2 in
    let fits_4 = c.in_ok-live.ensures.kept last fits_3 in
    c.in-Ok.ensures last (loaded_valid c.law_of_commands.ensures.valid a c.args.count c.args.seed c.requires valid) (fits_4.settled c.in_ok-live.ensures.ready).0 (c.in_ok-live.ensures.live last fits_3)
