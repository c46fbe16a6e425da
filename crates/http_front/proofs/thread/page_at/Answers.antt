use Rattle.std.proofs.Common.{ap}
use Rattle.arch_base.specs.declared.config.Config.{Config}
use Rattle.http_front.proofs.ThreadRows.{page-made}
use Rattle.http_front.proofs.thread.page_at.Goals as goal

pub returns : goal.returns
returns g c = λ a held.
    page-made a c.args.n c.args.row.now c.in_ok-twigs.twigs c.in_ok-tree.tree c.as_slice.result.now c.in_ok-lines.lines.items c.as_slice-2.result.now c.config.result.now.name c.in_ok-page.page (c.in_ok-twigs.ensures a held) c.in_ok-tree.ensures.laid c.as_slice.ensures (c.in_ok-lines.ensures a held)
    c.as_slice-2.ensures.value (ap (λ (k : Config). k.name) (c.config.ensures a held)) c.in_ok-page.ensures
