use Rattle.std.proofs.Common.{◌≡◌, ℕ, List, ◌++◌, codes}
use Rattle.web_text.specs.Escapes.{escaped}
use Rattle.atom_mbox.specs.Feeds.{entry_body}
use Rattle.web_text.proofs.Pushing.{grown, last_grown}
use Rattle.atom_mbox.proofs.entries.push_body.Goals as goal

pub returns-clause-ok : goal.returns-clause-ok
unfolding entry_body
returns-clause-ok c =
    let first = c.args.into.now in
    let front_1 : List ℕ = codes "<content type=\"text\">" in
    let is_1 : c.push_slice.new.self ≡ first ++ front_1 = c.in_ok-push_slice.ensures in
    let front_2 : List ℕ = front_1 ++ escaped c.args.body.now in
    let is_2 : c.push_escaped.new.into ≡ first ++ front_2 = grown first c.push_slice.new.self c.push_escaped.new.into front_1 (escaped c.args.body.now) is_1 c.in_ok-push_escaped.ensures.ok in
    last_grown c.push_slice-2.result first c.push_escaped.new.into c.push_slice-2.new.self front_2 (codes "</content></entry>\n") is_2 c.push_slice-2.ensures
