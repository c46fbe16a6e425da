use Rattle.std.proofs.Common.{◌<◌, ◌^◌, ◌∙◌, sym, rules}
use Rattle.git_objects.proofs.Splitting.{parted-at}
use Rattle.epoch_file.proofs.Numbers.{number-none, number-front, number-found, number-bound}
use Rattle.epoch_file.proofs.sight.number.Goals as goal

pub returns-in_err-len-clause-again : goal.returns-in_err-len-clause-again
returns-in_err-len-clause-again c = λ size rest small is.
    absurd (number-none c.args.bytes.now size rest (rw c.in_err-len.was at (parted-at 0 c.args.bytes.now c.memchr.result c.memchr.ensures)) is)

pub returns-in_err-size-clause-again : goal.returns-in_err-size-clause-again
returns-in_err-size-clause-again c = λ size rest small is.
    let parts = rw c.in_ok-len.was at (parted-at 0 c.args.bytes.now c.memchr.result c.memchr.ensures) in
    absurd (c.in_err-size.ensures.none size small (c.split_at.ensures.front ∙ number-front c.args.bytes.now c.in_ok-len.len size rest parts small is))

pub returns-clause-bound : goal.returns-clause-bound
returns-clause-bound c =
    let parts = rw c.in_ok-len.was at (parted-at 0 c.args.bytes.now c.memchr.result c.memchr.ensures) in
    let fits : c.in_ok-size.size < 2 ^ 64 = search rules in
    number-bound c.args.bytes.now c.in_ok-len.len c.in_ok-size.size parts.0 fits (sym c.split_at.ensures.front ∙ c.in_ok-size.ensures.found)

pub returns-clause-again : goal.returns-clause-again
returns-clause-again c = λ size rest small is.
    let parts = rw c.in_ok-len.was at (parted-at 0 c.args.bytes.now c.memchr.result c.memchr.ensures) in
    let fits : c.in_ok-size.size < 2 ^ 64 = search rules in
    number-found c.args.bytes.now c.in_ok-len.len c.in_ok-size.size size rest parts fits (sym c.split_at.ensures.front ∙ c.in_ok-size.ensures.found) small is
