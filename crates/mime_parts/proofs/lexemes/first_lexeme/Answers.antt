use Rattle.std.proofs.Common.{sym, ap, ◌∙◌, rules}
use Rattle.std.proofs.lemmas.List.{nil_from_length}
use Rattle.mime_parts.specs.Lexemes.{lexemes_of}
use Rattle.mime_parts.proofs.lexemes.first_lexeme.Goals as goal

pub returns-then-is_empty : goal.returns-then-is_empty
returns-then-is_empty c =
    sym c.after_gap-rest.ensures.lexemes ∙ ap lexemes_of (nil_from_length c.after_gap-rest.result.now (search rules))
