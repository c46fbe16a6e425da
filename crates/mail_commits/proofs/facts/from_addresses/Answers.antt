use Rattle.std.proofs.Common.{◌≡◌, codes, drop, ap, ◌∙◌}
use Rattle.mail_reader.specs.Fields.{fields_of}
use Rattle.mail_commits.specs.Facts.{from_list, values_of}
use Rattle.mail_commits.proofs.Texts.{listed-drop}
use Rattle.mail_commits.proofs.facts.from_addresses.Goals as goal

pub returns : goal.returns
returns c =
    let same : c.without_comma.result.now ≡ from_list c.args.text.now =
    c.without_comma.ensures ∙ ap (drop 2) (c.as_slice.ensures ∙ c.in_ok-values.ensures) ∙ listed-drop (values_of (codes "From") (fields_of c.args.text.now)) in
    rw same at c.list.ensures
