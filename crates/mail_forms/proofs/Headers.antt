-- The header of a text is its front.
use Rattle.std.proofs.Common.{◌≡◌, ℕ, ◌+◌, ◌≤◌, List, ◌++◌, length, take, sym, ap, ◌∙◌, arith, length-append}
use Rattle.std.specs.List.{concat}
use Rattle.std.proofs.lemmas.List.{take-append-le, take_all}
use Rattle.mail_reader.specs.Lines.{lines_of, after_header}
use Rattle.mail_reader.specs.Fields.{fields_of}
use Rattle.mail_reader.specs.Laws.{wholes, FieldsAreFront}

pub header-short : (text : List ℕ) → FieldsAreFront → length (wholes (fields_of text)) ≤ length text
header-short text law =
    omega (arith, ap length (law text), length-append (wholes (fields_of text)) (concat (after_header (lines_of text))))

pub header-front : (text : List ℕ) → FieldsAreFront → take (length (wholes (fields_of text))) text ≡ wholes (fields_of text)
header-front text law =
    let front = wholes (fields_of text) in
    ap (take (length front)) (law text) ∙ take-append-le (length front) front (concat (after_header (lines_of text))) (omega arith) ∙ take_all (length front) front (omega arith)
