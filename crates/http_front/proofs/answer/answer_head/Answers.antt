use Rattle.std.proofs.Common.{refl, sym, ◌∙◌}
use Rattle.http_front.proofs.Counting.{head-served}
use Rattle.http_front.proofs.Finding.{reads-none as no-reads}
use Rattle.http_front.proofs.Serving.{serve-spares, reads-some, reads-none, acts-bad, acts-refused, acts-served}
use Rattle.http_front.specs.Reading.{asked_in}
use Rattle.http_front.proofs.answer.answer_head.Goals as goal

pub returns-in-Serve-clause-acts : goal.returns-in-Serve-clause-acts
returns-in-Serve-clause-acts g c = λ a rest held.
    let read = c.in-Some.ensures.some in
    let found = reads-some c.args.head.now read.0 _ read.1 read.2 in
    acts-served c.args.moment a rest (asked_in c.args.head.now) _ c.in-Serve.sends _ _ _ found (sym c.judge.ensures ∙ c.in-Serve.is) (c.serve.ensures.acts a rest held)

pub returns-in-Refuse-clause-acts : goal.returns-in-Refuse-clause-acts
returns-in-Refuse-clause-acts g c = λ a rest held.
    let read = c.in-Some.ensures.some in
    let found = reads-some c.args.head.now read.0 _ read.1 read.2 in
    acts-refused c.args.moment a rest (asked_in c.args.head.now) _ c.in-Refuse.status c.in-Refuse.sends _ _ _ found (sym c.judge.ensures ∙ c.in-Refuse.is) refl c.say_status.ensures.said

pub returns-in-None-clause-acts : goal.returns-in-None-clause-acts
returns-in-None-clause-acts g c = λ a rest held.
    acts-bad c.args.moment a rest (asked_in c.args.head.now) _ _ _ (reads-none c.args.head.now c.in-None.ensures.found) refl c.say_status-in-None.ensures.said

pub returns-in-Serve-clause-reads : goal.returns-in-Serve-clause-reads
returns-in-Serve-clause-reads g c = λ a held.
    let read = c.in-Some.ensures.some in
    let found = reads-some c.args.head.now read.0 _ read.1 read.2 in
    head-served a (asked_in c.args.head.now) _ c.in-Serve.sends _ _ found (sym c.judge.ensures ∙ c.in-Serve.is) (c.serve.ensures.reads a held)

pub returns-in-Refuse-clause-reads : goal.returns-in-Refuse-clause-reads
returns-in-Refuse-clause-reads g c = λ a held. no-reads _ _

pub returns-in-None-clause-reads : goal.returns-in-None-clause-reads
returns-in-None-clause-reads g c = λ a held. no-reads _ _

pub returns-in-Serve-clause-unused : goal.returns-in-Serve-clause-unused
returns-in-Serve-clause-unused g c = λ a held spares.
    let read = c.in-Some.ensures.some in
    let found = reads-some c.args.head.now read.0 _ read.1 read.2 in
    c.serve.ensures.unused a held (serve-spares a (asked_in c.args.head.now) _ c.in-Serve.sends found (sym c.judge.ensures ∙ c.in-Serve.is) spares)
