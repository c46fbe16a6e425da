use Rattle.std.proofs.Common.{◌∙◌, sym, ap}
use Rattle.arch_base.specs.Decimals.{decimal_of}
use Rattle.control_door.specs.Orders.{number_in as number_of, remove_order as remove_order_of, purge_order as purge_order_of, edit_words as edit_words_of, thread_order as thread_order_of}
use Rattle.control_door.proofs.Orders.{passing, meeting, all-after}
use Rattle.control_door.proofs.order.read_order.Goals as goal

pub returns-then-begins_with-3 : goal.returns-then-begins_with-3
returns-then-begins_with-3 c =
    let line = c.args.line.now in
    passing _ _ _ _ (sym c.begins_with.ensures.value ∙ c.if-begins_with.false)
    (passing _ _ _ _ (sym c.begins_with-else-begins_with.ensures.value ∙ c.if-begins_with-2.false)
    (meeting _ _ _ _ (sym c.begins_with-else-begins_with-2.ensures.value ∙ c.if-begins_with-3.true)
    (c.remove_order.ensures ∙ ap remove_order_of (c.number_in-then-begins_with-3.ensures ∙ ap number_of (c.read_decimal-then-begins_with-3.ensures.value ∙ ap decimal_of (all-after 7 line))))))

pub returns-then-begins_with-4 : goal.returns-then-begins_with-4
returns-then-begins_with-4 c =
    let line = c.args.line.now in
    passing _ _ _ _ (sym c.begins_with.ensures.value ∙ c.if-begins_with.false)
    (passing _ _ _ _ (sym c.begins_with-else-begins_with.ensures.value ∙ c.if-begins_with-2.false)
    (passing _ _ _ _ (sym c.begins_with-else-begins_with-2.ensures.value ∙ c.if-begins_with-3.false)
    (meeting _ _ _ _ (sym c.begins_with-else-begins_with-3.ensures.value ∙ c.if-begins_with-4.true)
    (c.purge_order.ensures ∙ ap purge_order_of (c.number_in-then-begins_with-4.ensures ∙ ap number_of (c.read_decimal-then-begins_with-4.ensures.value ∙ ap decimal_of (all-after 6 line)))))))

pub returns-then-begins_with-5 : goal.returns-then-begins_with-5
returns-then-begins_with-5 c =
    let line = c.args.line.now in
    passing _ _ _ _ (sym c.begins_with.ensures.value ∙ c.if-begins_with.false)
    (passing _ _ _ _ (sym c.begins_with-else-begins_with.ensures.value ∙ c.if-begins_with-2.false)
    (passing _ _ _ _ (sym c.begins_with-else-begins_with-2.ensures.value ∙ c.if-begins_with-3.false)
    (passing _ _ _ _ (sym c.begins_with-else-begins_with-3.ensures.value ∙ c.if-begins_with-4.false)
    (meeting _ _ _ _ (sym c.begins_with-else-begins_with-4.ensures.value ∙ c.if-begins_with-5.true)
    (c.read_edit.ensures ∙ ap edit_words_of (all-after 5 line))))))

pub returns-then-begins_with-6 : goal.returns-then-begins_with-6
returns-then-begins_with-6 c =
    let line = c.args.line.now in
    passing _ _ _ _ (sym c.begins_with.ensures.value ∙ c.if-begins_with.false)
    (passing _ _ _ _ (sym c.begins_with-else-begins_with.ensures.value ∙ c.if-begins_with-2.false)
    (passing _ _ _ _ (sym c.begins_with-else-begins_with-2.ensures.value ∙ c.if-begins_with-3.false)
    (passing _ _ _ _ (sym c.begins_with-else-begins_with-3.ensures.value ∙ c.if-begins_with-4.false)
    (passing _ _ _ _ (sym c.begins_with-else-begins_with-4.ensures.value ∙ c.if-begins_with-5.false)
    (meeting _ _ _ _ (sym c.begins_with-else-begins_with-5.ensures.value ∙ c.if-begins_with-6.true)
    (c.thread_order.ensures ∙ ap thread_order_of (c.number_in-then-begins_with-6.ensures ∙ ap number_of (c.read_decimal-then-begins_with-6.ensures.value ∙ ap decimal_of (all-after 7 line)))))))))
