-- The last brace of a text in two slices.
use Rattle.std.proofs.Common.{◌∙◌, ap}
use Rattle.imap_framer.proofs.Numbers.{with_more, after_brace-append_some, after_brace-append_none}
use Rattle.imap_framer.proofs.joined.after_last_brace.Goals as goal

pub returns-in-Some : goal.returns-in-Some
returns-in-Some c = after_brace-append_some c.args.text.front.now c.args.text.back.now c.in-Some.back.now c.in-Some.ensures

pub returns-in-Some-brace_cut : goal.returns-in-Some-brace_cut
returns-in-Some-brace_cut c =
    after_brace-append_none c.args.text.front.now c.args.text.back.now c.in-None.ensures ∙ ap (with_more c.args.text.back.now) c.in-Some-brace_cut.ensures

pub returns-in-None-brace_cut : goal.returns-in-None-brace_cut
returns-in-None-brace_cut c =
    after_brace-append_none c.args.text.front.now c.args.text.back.now c.in-None.ensures ∙ ap (with_more c.args.text.back.now) c.in-None-brace_cut.ensures
