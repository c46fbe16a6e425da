use Rattle.std.proofs.Common.{◌≡◌, ◌≢◌, ◌++◌, ℕ, List, length-take, take, drop, Ok, Err, refl, sym, ap, ◌∙◌, subst, arith}
use Rattle.httparse.specs.Grammar.{HasNoResponse, NeverHasResponse}
use Rattle.httparse.specs.declared.Error.{Error}
use Rattle.httparse.specs.declared.Error.TheVariants.{TooManyHeaders}
use Rattle.httparse.specs.declared.Status.{Status}
use Rattle.httparse.specs.declared.spans.ResponseSpans.{ResponseSpans}
use Rattle.httparse.specs.Outcome.{IfComplete, OnPartial}
use Rattle.httparse.specs.Spans.{ResponseExceeds, ResponseOverflows, IsResponseOf, IsResponseWithin}
use Rattle.peer_replies.specs.Bodies.{body_length}
use Rattle.peer_replies.specs.Fronts.{Headed, Long}
use Rattle.peer_replies.specs.Readings.{reading_by}
use Rattle.peer_replies.proofs.Heads.{first_taken, headed-front, after-head, refused-front}
use Rattle.peer_replies.proofs.reading.read_reply.Goals as goal

pub returns-in-Ok-Complete-clause-exact : goal.returns-in-Ok-Complete-clause-exact
returns-in-Ok-Complete-clause-exact c =
    let n : ℕ = c.min.result in
    let bytes : List ℕ = c.args.bytes.now in
    let spans = c.in-Ok-Complete.spans in
    let found : IsResponseOf (take n bytes) c.parse_response.new.headers spans =
    subst (λ s. IfComplete {E = Error} (Ok s) (IsResponseOf (take n bytes) c.parse_response.new.headers)) c.in-Ok-Complete.field-0-is c.in-Ok-Complete.ensures.complete in
    let within : IsResponseWithin (take n bytes) c.parse_response.new.headers spans =
    subst (λ s. IfComplete {E = Error} (Ok s) (IsResponseWithin (take n bytes) c.parse_response.new.headers)) c.in-Ok-Complete.field-0-is c.in-Ok-Complete.ensures.within in
    let most = c.min.ensures in (
      Headed found.0 (drop spans.len (take n bytes) ++ drop n bytes),
      headed-front n bytes c.parse_response.new.headers spans found.0 (omega (arith, most)) c.parse_response.auto.headers within found.1,
      c.read_body.ensures.exact found.0 found.1.fields found.1.version found.1.code found.1.len
          ∙ ap (λ k. reading_by (body_length found.0) found.0 k c.args.ended) (sym (after-head n spans.len bytes within.section.len_fits)),
    )

pub returns-in-Ok-Partial-clause-exact : goal.returns-in-Ok-Partial-clause-exact
returns-in-Ok-Partial-clause-exact c =
    let n : ℕ = c.min.result in
    let bytes : List ℕ = c.args.bytes.now in
    let same : take n bytes ≡ take 16384 bytes = first_taken n 16384 bytes c.min.ensures in
    let none : HasNoResponse (take n bytes) =
    subst (λ (s : Status ResponseSpans). OnPartial {E = Error} (Ok s) (HasNoResponse (take n bytes))) c.in-Ok-Partial.field-0-is c.in-Ok-Partial.ensures.partial in
    let full = c.if-front-eq-MAX_HEAD.true in
    let most = c.min.ensures in
    (Long, record { long = omega (arith, full, most, length-take n bytes); none = subst HasNoResponse same none }, refl)

pub returns-in-Err-clause-exact : goal.returns-in-Err-clause-exact
returns-in-Err-clause-exact c =
    let n : ℕ = c.min.result in
    let bytes : List ℕ = c.args.bytes.now in
    let same : take n bytes ≡ take 16384 bytes = first_taken n 16384 bytes c.min.ensures in
    let e : Error = c.in-Err.refused in
    let never : e ≢ TooManyHeaders → NeverHasResponse (take n bytes) = c.in-Err.ensures.invalid in
    let over : ResponseOverflows 128 (take n bytes) = c.in-Err.ensures.no_room in
    let many : e ≡ TooManyHeaders → ResponseExceeds 128 (take n bytes) = λ is. c.in-Err.ensures.too_many (ap Err is) in
    rw c.refusal.ensures (refused-front e bytes c.args.ended (λ other. subst NeverHasResponse same (never other)) (subst (ResponseOverflows 128) same over) (λ is. subst (ResponseExceeds 128) same (many is)))
