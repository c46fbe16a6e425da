use Rattle.std.proofs.Common.{◌≡◌, ℕ, List, ◌++◌, ap, ◌∙◌, codes}
use Rattle.web_text.specs.Days.{moment_text}
use Rattle.atom_mbox.specs.Feeds.{feed_start}
use Rattle.web_text.proofs.Pushing.{grown, last_grown}
use Rattle.atom_mbox.proofs.entries.push_feed_start.Goals as goal

pub returns-clause-ok : goal.returns-clause-ok
unfolding feed_start
returns-clause-ok c =
    let first = c.args.into.now in
    let front_1 : List ℕ = codes "<?xml version=\"1.0\" encoding=\"utf-8\"?>\n" in
    let is_1 : c.push_slice.new.self ≡ first ++ front_1 = c.in_ok-push_slice.ensures in
    let front_2 : List ℕ = front_1 ++ codes "<feed xmlns=\"http://www.w3.org/2005/Atom\">\n<title>" in
    let is_2 : c.push_slice-2.new.self ≡ first ++ front_2 = grown first c.push_slice.new.self c.push_slice-2.new.self front_1 (codes "<feed xmlns=\"http://www.w3.org/2005/Atom\">\n<title>") is_1 c.in_ok-push_slice-2.ensures in
    let front_3 : List ℕ = front_2 ++ c.args.name.now in
    let is_3 : c.push_slice-3.new.self ≡ first ++ front_3 = grown first c.push_slice-2.new.self c.push_slice-3.new.self front_2 (c.args.name.now) is_2 (c.in_ok-push_slice-3.ensures ∙ ap (λ t. c.push_slice-2.new.self ++ t) c.as_slice.ensures.value) in
    let front_4 : List ℕ = front_3 ++ codes "</title>\n<id>mid:" in
    let is_4 : c.push_slice-4.new.self ≡ first ++ front_4 = grown first c.push_slice-3.new.self c.push_slice-4.new.self front_3 (codes "</title>\n<id>mid:") is_3 c.in_ok-push_slice-4.ensures in
    let front_5 : List ℕ = front_4 ++ c.args.name.now in
    let is_5 : c.push_slice-5.new.self ≡ first ++ front_5 = grown first c.push_slice-4.new.self c.push_slice-5.new.self front_4 (c.args.name.now) is_4 (c.in_ok-push_slice-5.ensures ∙ ap (λ t. c.push_slice-4.new.self ++ t) c.as_slice-2.ensures.value) in
    let front_6 : List ℕ = front_5 ++ codes "@piv2.invalid</id>\n<updated>" in
    let is_6 : c.push_slice-6.new.self ≡ first ++ front_6 = grown first c.push_slice-5.new.self c.push_slice-6.new.self front_5 (codes "@piv2.invalid</id>\n<updated>") is_5 c.in_ok-push_slice-6.ensures in
    let front_7 : List ℕ = front_6 ++ moment_text c.args.updated in
    let is_7 : c.push_moment.new.into ≡ first ++ front_7 = grown first c.push_slice-6.new.self c.push_moment.new.into front_6 (moment_text c.args.updated) is_6 c.in_ok-push_moment.ensures.ok in
    last_grown c.push_slice-7.result first c.push_moment.new.into c.push_slice-7.new.self front_7 (codes "</updated>\n") is_7 c.push_slice-7.ensures
