use Rattle.git_objects.proofs.Texts.{name-none, name-joined, name-unclean, name-found}
use Rattle.git_objects.proofs.commit_reading.read_name.Goals as goal

pub returns-in_err-front : goal.returns-in_err-front
returns-in_err-front c = rw c.from_residual.ensures (name-none c.args.bytes.now c.in_err-front.ensures)

pub returns-in_err-name : goal.returns-in_err-name
returns-in_err-name c = rw c.from_residual-in_err-name.ensures
    (name-joined c.args.bytes.now c.in_ok-front.front.now c.in_ok-front.rest.now c.in_ok-front.ensures.0 c.in_ok-front.ensures.1 c.in_err-name.ensures)

pub returns-then-not-is_clean : goal.returns-then-not-is_clean
returns-then-not-is_clean c =
    name-unclean c.args.bytes.now c.in_ok-front.front.now c.in_ok-front.rest.now c.in_ok-name.name.now c.in_ok-front.ensures.0 c.in_ok-front.ensures.1 c.in_ok-name.ensures
    (λ clean. cc (c.is_clean.ensures.1 clean, c.if-not-is_clean.true))

pub returns : goal.returns
returns c =
    name-found c.args.bytes.now c.in_ok-front.front.now c.in_ok-front.rest.now c.in_ok-name.name.now c.in_ok-front.ensures.0 c.in_ok-front.ensures.1 c.in_ok-name.ensures
    (c.is_clean.ensures.0 c.if-not-is_clean.false)
