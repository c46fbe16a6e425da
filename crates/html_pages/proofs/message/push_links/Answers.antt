use Rattle.std.proofs.Common.{◌≡◌, ℕ, List, ◌++◌, codes}
use Rattle.html_pages.specs.Pieces.{address}
use Rattle.html_pages.specs.Lines.{links_line}
use Rattle.web_text.proofs.Pushing.{grown, last_grown}
use Rattle.html_pages.proofs.message.push_links.Goals as goal

pub returns : goal.returns
unfolding links_line
returns c =
    let first = c.args.into.now in
    let front_1 : List ℕ = codes "<a href=\"" in
    let is_1 : c.push_slice.new.self ≡ first ++ front_1 = c.in_ok-push_slice.ensures in
    let front_2 : List ℕ = front_1 ++ address c.args.name.now c.args.id.now in
    let is_2 : c.push_place.new.into ≡ first ++ front_2 = grown first c.push_slice.new.self c.push_place.new.into front_1 (address c.args.name.now c.args.id.now) is_1 c.in_ok-push_place.ensures in
    let front_3 : List ℕ = front_2 ++ codes "raw\">raw</a> <a href=\"" in
    let is_3 : c.push_slice-2.new.self ≡ first ++ front_3 = grown first c.push_place.new.into c.push_slice-2.new.self front_2 (codes "raw\">raw</a> <a href=\"") is_2 c.in_ok-push_slice-2.ensures in
    let front_4 : List ℕ = front_3 ++ address c.args.name.now c.args.id.now in
    let is_4 : c.push_place-2.new.into ≡ first ++ front_4 = grown first c.push_slice-2.new.self c.push_place-2.new.into front_3 (address c.args.name.now c.args.id.now) is_3 c.in_ok-push_place-2.ensures in
    last_grown c.push_slice-3.result first c.push_place-2.new.into c.push_slice-3.new.self front_4 (codes "t/\">thread</a>\n") is_4 c.push_slice-3.ensures
