use Rattle.std.proofs.Common.{List, ap, ◌∙◌}
use Rattle.mime_parts.specs.declared.part.Part.{Part}
use Rattle.imap_structure.specs.Forests.{forest_of, split_at}
use Rattle.imap_items.specs.Sections.{place_at, mail_with}
use Rattle.imap_items.proofs.Placing.{all-deeper}
use Rattle.imap_items.proofs.sections.numbered.Goals as goal

pub returns : goal.returns
returns c =
    let text = c.args.text.now in
    c.place_at.ensures ∙ ap (place_at text c.args.numbers.now)
    (c.whole_mail.ensures.place ∙ ap (λ (ps : List Part). mail_with text (split_at 0 (forest_of ps)).deeper) c.requires ∙ ap (mail_with text) (all-deeper text c.parts_are_a_tree.ensures))
