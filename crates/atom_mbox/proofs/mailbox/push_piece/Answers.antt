use Rattle.std.proofs.Common.{◌≡◌, ℕ, List, ◌++◌, ◌∷◌, []}
use Rattle.std.specs.List.{flat_map}
use Rattle.mail_reader.specs.Lines.{lines_of}
use Rattle.mail_forms.specs.Mailboxes.{mbox_of, quoted, separator}
use Rattle.web_text.proofs.Pushing.{grown, last_grown}
use Rattle.atom_mbox.proofs.mailbox.push_piece.Goals as goal

pub returns-clause-ok : goal.returns-clause-ok
unfolding mbox_of
returns-clause-ok c =
    let first = c.args.into.now in
    let front_1 : List ℕ = separator in
    let is_1 : c.push_slice.new.self ≡ first ++ front_1 = c.in_ok-push_slice.ensures in
    let front_2 : List ℕ = front_1 ++ flat_map quoted (lines_of c.args.text.now) in
    let is_2 : c.push_lines.new.into ≡ first ++ front_2 = grown first c.push_slice.new.self c.push_lines.new.into front_1 (flat_map quoted (lines_of c.args.text.now)) is_1 c.in_ok-push_lines.ensures.ok in
    last_grown c.push.result first c.push_lines.new.into c.push.new.self front_2 (10 ∷ []) is_2 c.push.ensures
