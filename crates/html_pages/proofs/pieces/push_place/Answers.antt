use Rattle.std.proofs.Common.{◌≡◌, ℕ, List, ◌++◌, ap, ◌∙◌, codes}
use Rattle.web_text.specs.Addresses.{address_of}
use Rattle.html_pages.specs.Pieces.{address}
use Rattle.web_text.proofs.Pushing.{grown, last_grown}
use Rattle.html_pages.proofs.pieces.push_place.Goals as goal

pub returns : goal.returns
unfolding address
returns c =
    let first = c.args.into.now in
    let front_1 : List ℕ = codes "/" in
    let is_1 : c.push_slice.new.self ≡ first ++ front_1 = c.in_ok-push_slice.ensures in
    let front_2 : List ℕ = front_1 ++ c.args.name.now in
    let is_2 : c.push_slice-2.new.self ≡ first ++ front_2 = grown first c.push_slice.new.self c.push_slice-2.new.self front_1 (c.args.name.now) is_1 (c.in_ok-push_slice-2.ensures ∙ ap (λ t. c.push_slice.new.self ++ t) c.as_slice.ensures.value) in
    let front_3 : List ℕ = front_2 ++ codes "/" in
    let is_3 : c.push_slice-3.new.self ≡ first ++ front_3 = grown first c.push_slice-2.new.self c.push_slice-3.new.self front_2 (codes "/") is_2 c.in_ok-push_slice-3.ensures in
    let front_4 : List ℕ = front_3 ++ address_of c.args.id.now in
    let is_4 : c.push_address.new.into ≡ first ++ front_4 = grown first c.push_slice-3.new.self c.push_address.new.into front_3 (address_of c.args.id.now) is_3 c.in_ok-push_address.ensures.ok in
    last_grown c.push_slice-4.result first c.push_address.new.into c.push_slice-4.new.self front_4 (codes "/") is_4 c.push_slice-4.ensures
