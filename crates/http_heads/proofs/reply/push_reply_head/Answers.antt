use Rattle.std.proofs.Common.{◌≡◌, ℕ, List, ◌++◌}
use Rattle.http_heads.specs.Replies.{status_lines, body_lines, allow_line, close_line, line_end}
use Rattle.web_text.proofs.Pushing.{grown, last_grown}
use Rattle.http_heads.proofs.reply.push_reply_head.Goals as goal

pub returns-clause-ok : goal.returns-clause-ok
returns-clause-ok c =
    let first = c.args.into.now in
    let front_1 : List ℕ = status_lines c.args.status c.args.moment in
    let is_1 : c.push_status.new.into ≡ first ++ front_1 = c.in_ok-push_status.ensures.ok in
    let front_2 : List ℕ = front_1 ++ body_lines c.args.body c.args.len in
    let is_2 : c.push_body.new.into ≡ first ++ front_2 = grown first c.push_status.new.into c.push_body.new.into front_1 (body_lines c.args.body c.args.len) is_1 c.in_ok-push_body.ensures.ok in
    let front_3 : List ℕ = front_2 ++ allow_line c.args.status in
    let is_3 : c.push_allow.new.into ≡ first ++ front_3 = grown first c.push_body.new.into c.push_allow.new.into front_2 (allow_line c.args.status) is_2 c.in_ok-push_allow.ensures.ok in
    let front_4 : List ℕ = front_3 ++ close_line c.args.closes in
    let is_4 : c.push_close.new.into ≡ first ++ front_4 = grown first c.push_allow.new.into c.push_close.new.into front_3 (close_line c.args.closes) is_3 c.in_ok-push_close.ensures.ok in
    last_grown c.push_slice.result first c.push_close.new.into c.push_slice.new.self front_4 (line_end) is_4 c.push_slice.ensures
