use Rattle.std.proofs.Common.{◌≡◌, ℕ, List, ◌++◌, ap, ◌∙◌, codes}
use Rattle.web_text.specs.Escapes.{escaped, title_of}
use Rattle.atom_mbox.specs.Feeds.{entry_author}
use Rattle.web_text.proofs.Pushing.{grown, last_grown}
use Rattle.atom_mbox.proofs.entries.push_author.Goals as goal

pub returns-clause-ok : goal.returns-clause-ok
unfolding entry_author
returns-clause-ok c =
    let first = c.args.into.now in
    let front_1 : List ℕ = codes "<entry><author><name>" in
    let is_1 : c.push_slice.new.self ≡ first ++ front_1 = c.in_ok-push_slice.ensures in
    let front_2 : List ℕ = front_1 ++ escaped c.args.row.now.from in
    let is_2 : c.push_escaped.new.into ≡ first ++ front_2 = grown first c.push_slice.new.self c.push_escaped.new.into front_1 (escaped c.args.row.now.from) is_1 (c.in_ok-push_escaped.ensures.ok ∙ ap (λ t. c.push_slice.new.self ++ escaped t) c.as_slice.ensures) in
    let front_3 : List ℕ = front_2 ++ codes "</name></author><title>" in
    let is_3 : c.push_slice-2.new.self ≡ first ++ front_3 = grown first c.push_escaped.new.into c.push_slice-2.new.self front_2 (codes "</name></author><title>") is_2 c.in_ok-push_slice-2.ensures in
    let front_4 : List ℕ = front_3 ++ title_of c.args.row.now.subject in
    let is_4 : c.push_title.new.into ≡ first ++ front_4 = grown first c.push_slice-2.new.self c.push_title.new.into front_3 (title_of c.args.row.now.subject) is_3 (c.in_ok-push_title.ensures.ok ∙ ap (λ t. c.push_slice-2.new.self ++ title_of t) c.as_slice-2.ensures) in
    last_grown c.push_slice-3.result first c.push_title.new.into c.push_slice-3.new.self front_4 (codes "</title>") is_4 c.push_slice-3.ensures
