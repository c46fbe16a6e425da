use Rattle.std.proofs.Common.{◌≡◌, length}
use Rattle.mime_parts.specs.declared.params.Expected.TheVariants.{Semicolon}
use Rattle.mime_parts.specs.Lexemes.{lexemes_of}
use Rattle.mime_parts.specs.ContentTypes.{with_front, params_of}
use Rattle.mime_parts.proofs.params.read_params.Given as goal

abbrev pub invariant-loop-lexeme : goal.invariant-loop-lexeme
invariant-loop-lexeme l = with_front l.params (params_of l.expected (lexemes_of l.rest)) ≡ params_of Semicolon (lexemes_of l.value)

abbrev pub decreases-loop-lexeme : goal.decreases-loop-lexeme
decreases-loop-lexeme l = length l.rest
