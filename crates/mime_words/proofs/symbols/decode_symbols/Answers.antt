use Rattle.std.proofs.Common.{sym, subst, ◌∙◌}
use Rattle.base64.specs.declared.decode.DecodeAllocError.{DecodeAllocError}
use Rattle.base64.specs.GeneralPurpose.{IsDecodeFailure}
use Rattle.mime_words.specs.Base64.{packed, sextets}
use Rattle.mime_words.proofs.Lenient.{decode_is, ok-is, not_err}
use Rattle.mime_words.proofs.symbols.decode_symbols.Goals as goal

pub unreachable-requires : goal.unreachable-requires
unreachable-requires c =
    let symbols = c.args.symbols.now in
    not_err (packed (sextets symbols)) _ (sym (decode_is c.lenient.result c.lenient.ensures symbols c.requires.symbols c.requires.len)
    ∙ subst (λ (refused : DecodeAllocError). IsDecodeFailure c.lenient.result symbols refused) c.in-Err-DecodeError.field-0-is c.in-Err-DecodeError.ensures.err)

pub returns-in-Ok : goal.returns-in-Ok
returns-in-Ok c =
    let symbols = c.args.symbols.now in
    c.from_vec.ensures
    ∙ ok-is c.in-Ok.bytes.items (packed (sextets symbols)) (sym c.in-Ok.ensures.ok ∙ decode_is c.lenient.result c.lenient.ensures symbols c.requires.symbols c.requires.len)
