use Rattle.std.proofs.Common.{ap, ◌∙◌, take}
use Rattle.mail_forms.proofs.Headers.{header-front}
use Rattle.mail_forms.proofs.header_bytes.header.Goals as goal

pub returns : goal.returns
returns c = ap (λ n. take n c.args.text.now) c.header_len.ensures.value ∙ header-front c.args.text.now c.fields_are_front.ensures
