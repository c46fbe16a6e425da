use Rattle.std.proofs.Common.{◌≡◌, [], sym, ◌∙◌, rules}
use Rattle.std.proofs.lemmas.List.{nil_from_length, append-nil}
use Rattle.mail_reader.proofs.LineEnds.{clean_lines-none}
use Rattle.mail_reader.proofs.storing.push_lines.Goals as goal

pub returns : goal.returns
returns c =
    let nil : c.loop-rest.rest.now ≡ [] = nil_from_length c.loop-rest.rest.now (search rules) in
    sym (append-nil c.loop-rest.text) ∙ rw (nil, clean_lines-none) at c.loop-rest.invariant
