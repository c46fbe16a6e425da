use Rattle.std.proofs.Common.{◌≡◌, ◌∙◌, List, [], Some, None, refl, sym, ap, subst, arith}
use Rattle.arch_model.specs.KeeperRecord.{keeper}
use Rattle.arch_model.specs.Archives.{empty_archive}
use Rattle.arch_model.specs.Keeping.{MatchesKnown}
use Rattle.arch_model.specs.Standing.{standing}
use Rattle.arch_model.proofs.Keepers.{fits-held}
use Rattle.edge_io.specs.Frames.{Outputs}
use Rattle.edge_io.specs.Passing.{PassedEvents, left_of}
use Rattle.edge_io.specs.ScriptHosts.{Recorded}
use Rattle.node_serve.proofs.Running.{outputs-asked}
use Rattle.archive_cli.proofs.PlayedEvents.{new-suits, fresh-of, transcript-of, part-of}
use Rattle.archive_cli.proofs.playing.play_over.Goals as goal

pub returns-then-is_whole : goal.returns-then-is_whole
returns-then-is_whole g c = λ arrivals new config held valid text script short.
    let served = c.serve-end.ensures.served in
    let whole = c.is_whole.ensures c.if-is_whole.true in
    let empty = standing (empty_archive config) None in
    let fits = fits-held (keeper g.K.Shelf g.K.Keep) g.met.K.Keep.holds_files_are g.met.K.Keep.holds_left c.args.keep (empty_archive config) held in
    let suits = new-suits (keeper g.K.Shelf g.K.Keep) (empty_archive config) c.new-node.result _ valid c.new-node.ensures.none c.new-node.ensures.idling in
    let run = served.runs empty (subst (λ k. MatchesKnown (keeper g.K.Shelf g.K.Keep) k empty) (sym c.new-node.ensures.keep) fits) suits in
    let noted =
    subst (λ (os : List Outputs). Recorded c.serve-end.new.host os) (sym (outputs-asked served.none _ served.stages _ _ run.turns _ run.at refl refl)) (served.records [] new.nothing_yet) in
    let fresh = fresh-of (empty_archive config) _ _ c.new-node.ensures.none c.new-node.ensures.count new.unused.untaken new.unused.all_open (ap g.K.Shelf.faults c.new-node.ensures.keep ∙ c.requires.unfailed) new.unused.no_lost in
    let is = ap (λ (e : PassedEvents). Some (left_of e)) (sym new.events_are) ∙ served.left_is in
    let unfailed = ap g.K.Shelf.faults (sym c.into_keep.ensures) ∙ sym c.failed-failed.ensures ∙ whole.2 in
    let lost : c.serve-end.new.host.outgoing.lost ≡ 0 = omega (arith, c.starved-starved.ensures.lost, whole.1) in
    transcript-of config arrivals served.arrivals _ served.none _ _ _ _ _ run.turns is fresh run.served (rw whole.0 at served.ends) _ unfailed lost (c.into_frames-frames.ensures.whole _ noted (sym c.starved-starved.ensures.value ∙ whole.1))

pub returns : goal.returns
returns g c = λ arrivals new config held valid text script short.
    let served = c.serve-end.ensures.served in
    let empty = standing (empty_archive config) None in
    let fits = fits-held (keeper g.K.Shelf g.K.Keep) g.met.K.Keep.holds_files_are g.met.K.Keep.holds_left c.args.keep (empty_archive config) held in
    let suits = new-suits (keeper g.K.Shelf g.K.Keep) (empty_archive config) c.new-node.result _ valid c.new-node.ensures.none c.new-node.ensures.idling in
    let run = served.runs empty (subst (λ k. MatchesKnown (keeper g.K.Shelf g.K.Keep) k empty) (sym c.new-node.ensures.keep) fits) suits in
    let noted =
    subst (λ (os : List Outputs). Recorded c.serve-end.new.host os) (sym (outputs-asked served.none _ served.stages _ _ run.turns _ run.at refl refl)) (served.records [] new.nothing_yet) in
    let fresh = fresh-of (empty_archive config) _ _ c.new-node.ensures.none c.new-node.ensures.count new.unused.untaken new.unused.all_open (ap g.K.Shelf.faults c.new-node.ensures.keep ∙ c.requires.unfailed) new.unused.no_lost in
    let is = ap (λ (e : PassedEvents). Some (left_of e)) (sym new.events_are) ∙ served.left_is in
    part-of _ config text arrivals served.arrivals _ served.none _ _ _ run.turns _ short script (omega arith) is fresh run.served served.ends (c.into_frames-frames.ensures.first _ noted)
