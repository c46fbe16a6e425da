use Rattle.std.proofs.Common.{◌≡◌, ℕ, List, ◌++◌, ap, ◌∙◌, codes}
use Rattle.http_heads.specs.Dates.{reply_date}
use Rattle.http_heads.specs.Replies.{status_words, line_end, status_lines}
use Rattle.web_text.proofs.Pushing.{grown, last_grown}
use Rattle.http_heads.proofs.reply.push_status.Goals as goal

pub returns-clause-ok : goal.returns-clause-ok
unfolding status_lines
returns-clause-ok c =
    let first = c.args.into.now in
    let front_1 : List ℕ = codes "HTTP/1.1 " in
    let is_1 : c.push_slice.new.self ≡ first ++ front_1 = c.in_ok-push_slice.ensures in
    let front_2 : List ℕ = front_1 ++ status_words c.args.status in
    let is_2 : c.push_slice-2.new.self ≡ first ++ front_2 = grown first c.push_slice.new.self c.push_slice-2.new.self front_1 (status_words c.args.status) is_1 (c.in_ok-push_slice-2.ensures ∙ ap (λ t. c.push_slice.new.self ++ t) c.words.ensures) in
    let front_3 : List ℕ = front_2 ++ codes "\r\nDate: " in
    let is_3 : c.push_slice-3.new.self ≡ first ++ front_3 = grown first c.push_slice-2.new.self c.push_slice-3.new.self front_2 (codes "\r\nDate: ") is_2 c.in_ok-push_slice-3.ensures in
    let front_4 : List ℕ = front_3 ++ reply_date c.args.moment in
    let is_4 : c.push_slice-4.new.self ≡ first ++ front_4 = grown first c.push_slice-3.new.self c.push_slice-4.new.self front_3 (reply_date c.args.moment) is_3 (c.in_ok-push_slice-4.ensures ∙ ap (λ t. c.push_slice-3.new.self ++ t) c.date_at.ensures) in
    last_grown c.push_slice-5.result first c.push_slice-4.new.self c.push_slice-5.new.self front_4 (line_end) is_4 c.push_slice-5.ensures
