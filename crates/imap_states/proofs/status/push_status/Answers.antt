use Rattle.std.proofs.Common.{◌≡◌, ◌++◌, ◌∷◌, ◌∙◌, [], ap, codes, append_assoc, sym}
use Rattle.arch_base.specs.declared.config.Config.{Config}
use Rattle.wire_replies.proofs.Wording.{Waits-then, Waits-lost}
use Rattle.imap_states.specs.Boxes.{status_list}
use Rattle.imap_states.proofs.Lines.{status_start, status-joined}
use Rattle.imap_states.proofs.status.push_status.Goals as goal

pub returns-in_err-push-clause-said : goal.returns-in_err-push-clause-said
returns-in_err-push-clause-said g c = λ a held valid.
    let index = c.args.mailbox.index in
    let range = c.args.mailbox.range in
    let name = c.as_slice.ensures.value ∙ ap (λ (k : Config). k.name) (c.config.ensures a held) in
    rw (← status-joined a c.as_slice.result.now index range c.args.items.now name)
    (Waits-lost (status_start c.as_slice.result.now index) (status_list a range (codes "(") c.args.items.now ++ 41 ∷ 13 ∷ 10 ∷ []) c.args.reply.now _ _ _ _ _ _ c.from_residual.result c.from_residual.ensures.0 c.in_err-push.ensures.said)

pub returns-in_err-push_items-clause-said : goal.returns-in_err-push_items-clause-said
returns-in_err-push_items-clause-said g c = λ a held valid.
    let index = c.args.mailbox.index in
    let range = c.args.mailbox.range in
    let name = c.as_slice.ensures.value ∙ ap (λ (k : Config). k.name) (c.config.ensures a held) in
    let start = status_start c.as_slice.result.now index in
    let list = status_list a range (codes "(") c.args.items.now in
    rw (← status-joined a c.as_slice.result.now index range c.args.items.now name)
    (Waits-then start (list ++ 41 ∷ 13 ∷ 10 ∷ []) c.args.reply.now c.push.new.self _ _ _ _ _ _ _ _ c.from_residual-in_err-push_items.result c.in_ok-push.ensures.said
    (Waits-lost list (41 ∷ 13 ∷ 10 ∷ []) c.push.new.self _ _ _ _ _ _ c.from_residual-in_err-push_items.result c.from_residual-in_err-push_items.ensures.0 (c.in_err-push_items.ensures.said a held valid)))

pub returns-clause-said : goal.returns-clause-said
returns-clause-said g c = λ a held valid.
    let index = c.args.mailbox.index in
    let range = c.args.mailbox.range in
    let name = c.as_slice.ensures.value ∙ ap (λ (k : Config). k.name) (c.config.ensures a held) in
    let start = status_start c.as_slice.result.now index in
    let list = status_list a range (codes "(") c.args.items.now in
    rw (status-joined a c.as_slice.result.now index range c.args.items.now name)
    at (Waits-then start (list ++ 41 ∷ 13 ∷ 10 ∷ []) c.args.reply.now c.push.new.self _ _ _ _ _ _ _ _ c.push-2.result c.in_ok-push.ensures.said
    (Waits-then list (41 ∷ 13 ∷ 10 ∷ []) c.push.new.self c.push_items.new.reply _ _ _ _ _ _ _ _ c.push-2.result (c.in_ok-push_items.ensures.said a held valid) c.push-2.ensures.said))
