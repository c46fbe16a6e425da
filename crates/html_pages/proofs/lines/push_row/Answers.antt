use Rattle.std.proofs.Common.{◌≡◌, ℕ, List, ◌++◌, ap, ◌∙◌, codes}
use Rattle.web_text.specs.Escapes.{escaped, title_of}
use Rattle.html_pages.specs.Pieces.{page_date, address}
use Rattle.html_pages.specs.Lines.{row_line}
use Rattle.web_text.proofs.Pushing.{grown, last_grown}
use Rattle.html_pages.proofs.lines.push_row.Goals as goal

pub returns : goal.returns
unfolding row_line
returns c =
    let first = c.args.into.now in
    let front_1 : List ℕ = page_date c.args.row.now.date.secs in
    let is_1 : c.push_date.new.into ≡ first ++ front_1 = c.in_ok-push_date.ensures in
    let front_2 : List ℕ = front_1 ++ codes " <a href=\"" in
    let is_2 : c.push_slice.new.self ≡ first ++ front_2 = grown first c.push_date.new.into c.push_slice.new.self front_1 (codes " <a href=\"") is_1 c.in_ok-push_slice.ensures in
    let front_3 : List ℕ = front_2 ++ address c.args.name.now c.args.row.now.id in
    let is_3 : c.push_place.new.into ≡ first ++ front_3 = grown first c.push_slice.new.self c.push_place.new.into front_2 (address c.args.name.now c.args.row.now.id) is_2 (c.in_ok-push_place.ensures ∙ ap (λ t. c.push_slice.new.self ++ address c.args.name.now t) c.as_slice.ensures) in
    let front_4 : List ℕ = front_3 ++ codes "\">" in
    let is_4 : c.push_slice-2.new.self ≡ first ++ front_4 = grown first c.push_place.new.into c.push_slice-2.new.self front_3 (codes "\">") is_3 c.in_ok-push_slice-2.ensures in
    let front_5 : List ℕ = front_4 ++ title_of c.args.row.now.subject in
    let is_5 : c.push_title.new.into ≡ first ++ front_5 = grown first c.push_slice-2.new.self c.push_title.new.into front_4 (title_of c.args.row.now.subject) is_4 (c.in_ok-push_title.ensures.ok ∙ ap (λ t. c.push_slice-2.new.self ++ title_of t) c.as_slice-2.ensures) in
    let front_6 : List ℕ = front_5 ++ codes "</a> " in
    let is_6 : c.push_slice-3.new.self ≡ first ++ front_6 = grown first c.push_title.new.into c.push_slice-3.new.self front_5 (codes "</a> ") is_5 c.in_ok-push_slice-3.ensures in
    let front_7 : List ℕ = front_6 ++ escaped c.args.row.now.from in
    let is_7 : c.push_escaped.new.into ≡ first ++ front_7 = grown first c.push_slice-3.new.self c.push_escaped.new.into front_6 (escaped c.args.row.now.from) is_6 (c.in_ok-push_escaped.ensures.ok ∙ ap (λ t. c.push_slice-3.new.self ++ escaped t) c.as_slice-3.ensures) in
    last_grown c.push_slice-4.result first c.push_escaped.new.into c.push_slice-4.new.self front_7 (codes "\n") is_7 c.push_slice-4.ensures
