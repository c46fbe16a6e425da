use Rattle.std.proofs.Common.{◌≡◌, ℕ, List, ◌++◌, ap, ◌∙◌, codes}
use Rattle.std.specs.Fmt.{decimal}
use Rattle.http_heads.specs.Replies.{media_type, line_end, body_lines}
use Rattle.web_text.proofs.Pushing.{grown, last_grown}
use Rattle.http_heads.proofs.reply.push_body.Goals as goal

pub returns-clause-ok : goal.returns-clause-ok
unfolding body_lines
returns-clause-ok c =
    let first = c.args.into.now in
    let front_1 : List ℕ = codes "Content-Type: " in
    let is_1 : c.push_slice.new.self ≡ first ++ front_1 = c.in_ok-push_slice.ensures in
    let front_2 : List ℕ = front_1 ++ media_type c.args.body in
    let is_2 : c.push_slice-2.new.self ≡ first ++ front_2 = grown first c.push_slice.new.self c.push_slice-2.new.self front_1 (media_type c.args.body) is_1 (c.in_ok-push_slice-2.ensures ∙ ap (λ t. c.push_slice.new.self ++ t) c.media_type.ensures) in
    let front_3 : List ℕ = front_2 ++ codes "\r\nContent-Length: " in
    let is_3 : c.push_slice-3.new.self ≡ first ++ front_3 = grown first c.push_slice-2.new.self c.push_slice-3.new.self front_2 (codes "\r\nContent-Length: ") is_2 c.in_ok-push_slice-3.ensures in
    let front_4 : List ℕ = front_3 ++ decimal c.args.len in
    let is_4 : c.push_slice-4.new.self ≡ first ++ front_4 = grown first c.push_slice-3.new.self c.push_slice-4.new.self front_3 (decimal c.args.len) is_3 (c.in_ok-push_slice-4.ensures ∙ ap (λ t. c.push_slice-3.new.self ++ t) (c.as_bytes.ensures.value ∙ c.format.ensures.text)) in
    last_grown c.push_slice-5.result first c.push_slice-4.new.self c.push_slice-5.new.self front_4 (line_end) is_4 c.push_slice-5.ensures
