use Rattle.std.proofs.Common.{ap, ◌∙◌, rules}
use Rattle.std.specs.Str.{str_to_ascii_lowercase}
use Rattle.imap_items.proofs.Names.{names-more}
use Rattle.imap_items.proofs.header_fields.set_of.Goals as goal

pub loop-name-preserved : goal.loop-name-preserved
loop-name-preserved c =
    names-more c.args.names.now c.loop-name.name-index _ c.into_vec-lower.result c.loop-name.set c.insert.new.self c.loop-name-test.true
    (c.into_vec-lower.ensures ∙ c.in_ok-lower.ensures ∙ ap str_to_ascii_lowercase (c.as_slice.ensures ∙ c.name-item.is)) c.loop-name.invariant (search rules)
