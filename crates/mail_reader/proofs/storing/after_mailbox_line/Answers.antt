use Rattle.std.proofs.Common.{◌≡◌, [], refl, rules}
use Rattle.std.proofs.lemmas.List.{nil_from_length}
use Rattle.mail_reader.proofs.LineEnds.{clean_lines-none}
use Rattle.mail_reader.proofs.storing.after_mailbox_line.Goals as goal

pub returns-then-is_empty : goal.returns-then-is_empty
returns-then-is_empty c =
    let nil : c.args.bytes.now ≡ [] = nil_from_length c.args.bytes.now (search rules) in
    rw (nil, clean_lines-none) refl
