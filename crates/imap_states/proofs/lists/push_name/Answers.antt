use Rattle.std.proofs.Common.{◌≡◌, ◌++◌, ◌∙◌, [], true, sym, ap, rules}
use Rattle.arch_base.specs.declared.config.Config.{Config}
use Rattle.imap_states.specs.Boxes.{box_name}
use Rattle.imap_states.specs.Lists.{list_line}
use Rattle.imap_states.specs.Patterns.{matches_name}
use Rattle.imap_states.proofs.Acting.{when}
use Rattle.imap_states.proofs.lists.push_name.Goals as goal

pub returns-clause-said : goal.returns-clause-said
returns-clause-said g c = λ a held.
    let listed = c.args.listed.now in
    let pattern = listed.reference.now ++ listed.pattern.now in
    let named : c.is_named.result ≡ true = search rules in
    let name = c.as_slice.ensures.value ∙ ap (λ (k : Config). k.name) (c.config.ensures a held) in
    rw (when (matches_name pattern (box_name a c.args.index)) (list_line a listed.name.now c.args.index) [] (sym (c.is_named.ensures a held) ∙ named)) (c.push_line.ensures.said a name)
