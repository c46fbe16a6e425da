use Rattle.git_objects.proofs.Texts.{text-none, text-unclean, text-found}
use Rattle.git_objects.proofs.commit_reading.read_text.Goals as goal

pub returns-in_err-text : goal.returns-in_err-text
returns-in_err-text c = rw c.from_residual.ensures (text-none c.args.end c.args.bytes.now c.in_err-text.ensures)

pub returns-then-not-is_clean : goal.returns-then-not-is_clean
returns-then-not-is_clean c =
    text-unclean c.args.end c.args.bytes.now c.in_ok-text.text.now c.in_ok-text.rest.now c.requires c.in_ok-text.ensures.0 c.in_ok-text.ensures.1
    (λ clean. cc (c.is_clean.ensures.1 clean, c.if-not-is_clean.true))

pub returns : goal.returns
returns c =
    text-found c.args.end c.args.bytes.now c.in_ok-text.text.now c.in_ok-text.rest.now c.requires c.in_ok-text.ensures.0 c.in_ok-text.ensures.1
    (c.is_clean.ensures.0 c.if-not-is_clean.false)
