use Rattle.std.proofs.Common.{◌≡◌, ℕ, List, ◌++◌, ap, ◌∙◌, codes, arith, take_all}
use Rattle.web_text.specs.Days.{moment_text}
use Rattle.web_text.specs.Addresses.{address_of}
use Rattle.atom_mbox.specs.Feeds.{entry_place}
use Rattle.web_text.proofs.Pushing.{grown, last_grown, kept-on, kept-more}
use Rattle.atom_mbox.proofs.entries.push_place.Goals as goal

pub returns-clause-ok : goal.returns-clause-ok
unfolding entry_place
returns-clause-ok c =
    let first = c.args.into.now in
    let front_1 : List ℕ = codes "<id>mid:" in
    let is_1 : c.push_slice.new.self ≡ first ++ front_1 = c.in_ok-push_slice.ensures in
    let front_2 : List ℕ = front_1 ++ address_of c.args.row.now.id in
    let is_2 : c.push_address.new.into ≡ first ++ front_2 = grown first c.push_slice.new.self c.push_address.new.into front_1 (address_of c.args.row.now.id) is_1 (c.in_ok-push_address.ensures.ok ∙ ap (λ t. c.push_slice.new.self ++ address_of t) c.as_slice.ensures) in
    let front_3 : List ℕ = front_2 ++ codes "</id><updated>" in
    let is_3 : c.push_slice-2.new.self ≡ first ++ front_3 = grown first c.push_address.new.into c.push_slice-2.new.self front_2 (codes "</id><updated>") is_2 c.in_ok-push_slice-2.ensures in
    let front_4 : List ℕ = front_3 ++ moment_text c.args.row.now.arrived in
    let is_4 : c.push_moment.new.into ≡ first ++ front_4 = grown first c.push_slice-2.new.self c.push_moment.new.into front_3 (moment_text c.args.row.now.arrived) is_3 c.in_ok-push_moment.ensures.ok in
    let front_5 : List ℕ = front_4 ++ codes "</updated><link href=\"/" in
    let is_5 : c.push_slice-3.new.self ≡ first ++ front_5 = grown first c.push_moment.new.into c.push_slice-3.new.self front_4 (codes "</updated><link href=\"/") is_4 c.in_ok-push_slice-3.ensures in
    let front_6 : List ℕ = front_5 ++ c.args.name.now in
    let is_6 : c.push_slice-4.new.self ≡ first ++ front_6 = grown first c.push_slice-3.new.self c.push_slice-4.new.self front_5 (c.args.name.now) is_5 (c.in_ok-push_slice-4.ensures ∙ ap (λ t. c.push_slice-3.new.self ++ t) c.as_slice-2.ensures.value) in
    let front_7 : List ℕ = front_6 ++ codes "/" in
    let is_7 : c.push_slice-5.new.self ≡ first ++ front_7 = grown first c.push_slice-4.new.self c.push_slice-5.new.self front_6 (codes "/") is_6 c.in_ok-push_slice-5.ensures in
    let front_8 : List ℕ = front_7 ++ address_of c.args.row.now.id in
    let is_8 : c.push_address-2.new.into ≡ first ++ front_8 = grown first c.push_slice-5.new.self c.push_address-2.new.into front_7 (address_of c.args.row.now.id) is_7 (c.in_ok-push_address-2.ensures.ok ∙ ap (λ t. c.push_slice-5.new.self ++ address_of t) c.as_slice-3.ensures) in
    last_grown c.push_slice-6.result first c.push_address-2.new.into c.push_slice-6.new.self front_8 (codes "/\"/>") is_8 c.push_slice-6.ensures

pub returns-in_err-push_address-2-clause-kept : goal.returns-in_err-push_address-2-clause-kept
returns-in_err-push_address-2-clause-kept c =
    let first = c.args.into.now in
    let kept_1 = kept-more first first c.push_slice.new.self _ (take_all _ first (omega arith)) c.in_ok-push_slice.ensures in
    let kept_2 = kept-on first c.push_slice.new.self c.push_address.new.into kept_1 c.push_address.ensures.kept in
    let kept_3 = kept-more first c.push_address.new.into c.push_slice-2.new.self _ kept_2 c.in_ok-push_slice-2.ensures in
    let kept_4 = kept-more first c.push_slice-2.new.self c.push_moment.new.into _ kept_3 c.in_ok-push_moment.ensures.ok in
    let kept_5 = kept-more first c.push_moment.new.into c.push_slice-3.new.self _ kept_4 c.in_ok-push_slice-3.ensures in
    let kept_6 = kept-more first c.push_slice-3.new.self c.push_slice-4.new.self _ kept_5 c.in_ok-push_slice-4.ensures in
    let kept_7 = kept-more first c.push_slice-4.new.self c.push_slice-5.new.self _ kept_6 c.in_ok-push_slice-5.ensures in
    kept-on first c.push_slice-5.new.self c.push_address-2.new.into kept_7 c.push_address-2.ensures.kept
