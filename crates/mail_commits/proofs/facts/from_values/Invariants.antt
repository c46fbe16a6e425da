use Rattle.std.proofs.Common.{◌≡◌, ◌++◌, codes}
use Rattle.std.specs.List.{flat_map}
use Rattle.mail_reader.specs.Fields.{fields_of}
use Rattle.mail_commits.specs.Facts.{after_comma, values_of}
use Rattle.mail_commits.proofs.facts.from_values.Given as goal

abbrev pub invariant-loop-field : goal.invariant-loop-field
invariant-loop-field l =
    l.values ++ flat_map after_comma (values_of (codes "From") l.field-iterator) ≡ flat_map after_comma (values_of (codes "From") (fields_of l.text))
