-- An engine converts as its archive does.
use Rattle.std.proofs.Common.{◌∙◌, ap, refl, subst}
use Rattle.archive_core.specs.Converting.{EngineConverts}
use Rattle.archive_core.specs.Engines.{Owning}
use Rattle.archive_core.proofs.Converted.{engine_converts}
use Rattle.archive_core.proofs.engine.Engine.convert_ready.Goals as goal

pub returns-clause-converts : goal.returns-clause-converts
returns-clause-converts g c =
    let inside : Owning g.row.D.Denot = record { disk = c.self.inside.disk; view = c.self.inside.archive; views = c.self.inside.views; stale = c.self.inside.stale } in
    let new : Owning g.row.D.Denot = record { disk = c.convert-result.new.disk; view = c.convert-result.new.self; views = c.self.inside.views; stale = c.needs_opening_then-self-inside.result } in
    let changes = c.convert-result.ensures.changes in
    let fresh = ap (λ (o : Owning g.row.D.Denot). o.stale) c.self.view_is ∙ c.requires in
    subst (λ (o : Owning g.row.D.Denot). EngineConverts g.D.Disk o new c.convert-result.result) c.self.view_is
    (engine_converts g.D.Disk inside new c.convert-result.result changes.0 changes.1 changes.2 c.needs_opening_then-self-inside.ensures refl fresh c.convert-result.ensures.mirror c.convert-result.ensures.already c.convert-result.ensures.collision)
