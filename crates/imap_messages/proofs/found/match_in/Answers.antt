use Rattle.std.proofs.Common.{◌∙◌, map, sym, ap, option_copied}
use Rattle.imap_syntax.specs.Trees.{tree_of}
use Rattle.imap_messages.proofs.Seekings.{all-found}
use Rattle.imap_messages.proofs.found.match_in.Goals as goal

pub returns-in-Ok-clause-found : goal.returns-in-Ok-clause-found
returns-in-Ok-clause-found g c = λ a told held is rows given.
    all-found a told c.args.place is (map tree_of c.args.keys.now) c.args.text.now c.in-Some.row.now c.in-Ok.found (sym (c.row.ensures a held) ∙ ap option_copied c.in-Some.is) given rows c.in-Ok.ensures
