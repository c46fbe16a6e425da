use Rattle.std.proofs.Common.{◌≡◌, ℕ, List, ◌++◌}
use Rattle.mail_reader.specs.Fields.{fields_of}
use Rattle.mail_reader.specs.Content.{counted}
use Rattle.mail_reader.specs.Hashing.{HasHashed}
use Rattle.mail_reader.proofs.content.hash_fields.Given as goal

abbrev pub invariant-loop-field : goal.invariant-loop-field
invariant-loop-field l =
    (done : List ℕ) × (HasHashed l.fn.hasher l.hasher done × (done ++ counted l.name l.field-iterator ≡ counted l.name (fields_of l.text)))
