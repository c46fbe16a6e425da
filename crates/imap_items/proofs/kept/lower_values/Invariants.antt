use Rattle.std.proofs.Common.{◌≡◌, ◌++◌, map}
use Rattle.mail_forms.specs.NamedValues.{values_of}
use Rattle.imap_items.specs.Kept.{lower_decoded, lower_values}
use Rattle.imap_items.proofs.kept.lower_values.Given as goal

abbrev pub invariant-loop-field : goal.invariant-loop-field
invariant-loop-field l = l.values ++ map lower_decoded (values_of l.name l.field-iterator) ≡ lower_values l.name l.text
