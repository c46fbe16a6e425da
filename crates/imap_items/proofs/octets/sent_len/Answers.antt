use Rattle.std.proofs.Common.{◌≡◌, ap, ◌∙◌, length, arith}
use Rattle.memchr.specs.Find.{is_byte}
use Rattle.memchr.proofs.lemmas.CallerLemmas.{length-places}
use Rattle.mail_forms.specs.WireForms.{feeds_of}
use Rattle.mail_forms.proofs.WireLengths.{length-wire}
use Rattle.imap_items.proofs.octets.sent_len.Goals as goal

pub returns : goal.returns
returns c =
    let source = c.args.source.now in
    let feeds : c.count-feeds.result ≡ feeds_of source = c.count-feeds.ensures ∙ ap length c.memchr_iter.ensures.value ∙ length-places (is_byte 10) source in
    omega (arith, feeds, length-wire source)
