use Rattle.std.proofs.Common.{◌≡◌, ℕ, List, ◌++◌, ap, ◌∙◌, codes}
use Rattle.std.specs.List.{flat_map}
use Rattle.web_text.specs.Escapes.{escaped}
use Rattle.html_pages.specs.Lines.{header_line, links_line}
use Rattle.html_pages.specs.Pages.{shown_fields}
use Rattle.web_text.proofs.Pushing.{grown, last_ok}
use Rattle.html_pages.proofs.message.push_message.Goals as goal

pub returns : goal.returns
returns c =
    let first = c.args.into.now in
    let front_1 : List ℕ = flat_map (header_line c.args.text.now) shown_fields in
    let is_1 : c.push_fields.new.into ≡ first ++ front_1 = c.in_ok-push_fields.ensures in
    let front_2 : List ℕ = front_1 ++ codes "\n" in
    let is_2 : c.push_slice.new.self ≡ first ++ front_2 = grown first c.push_fields.new.into c.push_slice.new.self front_1 (codes "\n") is_1 c.in_ok-push_slice.ensures in
    let front_3 : List ℕ = front_2 ++ escaped c.args.body.now in
    let is_3 : c.push_escaped.new.into ≡ first ++ front_3 = grown first c.push_slice.new.self c.push_escaped.new.into front_2 (escaped c.args.body.now) is_2 c.in_ok-push_escaped.ensures.ok in
    let front_4 : List ℕ = front_3 ++ codes "\n" in
    let is_4 : c.push_slice-2.new.self ≡ first ++ front_4 = grown first c.push_escaped.new.into c.push_slice-2.new.self front_3 (codes "\n") is_3 c.in_ok-push_slice-2.ensures in
    last_ok c.push_links.result (λ (e : c.push_links.new.into ≡ c.push_slice-2.new.self ++ links_line c.args.name.now c.as_slice.result.now). grown first c.push_slice-2.new.self c.push_links.new.into front_4 (links_line c.args.name.now c.args.row.now.id) is_4 (e ∙ ap (λ t. c.push_slice-2.new.self ++ links_line c.args.name.now t) c.as_slice.ensures)) c.push_links.ensures
