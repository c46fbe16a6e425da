use Rattle.std.proofs.Common.{get_or, refl, arith}
use Rattle.mail_forms.specs.WireForms.{sent}
use Rattle.mail_forms.proofs.WireLengths.{wire-more, wire-end, kept-more}
use Rattle.mail_forms.proofs.wire_form.push_all.Goals as goal

pub loop-byte-preserved : goal.loop-byte-preserved
loop-byte-preserved c =
    let text = c.args.text.now in
    let byte = get_or text c.loop-byte.byte-index 0 in record {
      sent = wire-more c.loop-byte.into c.push_sent.new.into _ text c.loop-byte.byte-index byte c.loop-byte-test.true refl c.in_ok-push_sent.ensures.ok c.loop-byte.invariant.sent;
      kept = kept-more c.args.into.now c.loop-byte.into c.push_sent.new.into (sent byte) c.in_ok-push_sent.ensures.ok c.loop-byte.invariant.kept;
    }

pub returns-clause-ok : goal.returns-clause-ok
returns-clause-ok c = wire-end c.loop-byte.into _ c.args.text.now c.loop-byte.byte-index (omega arith) c.loop-byte.invariant.sent
