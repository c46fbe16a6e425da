use Rattle.std.proofs.Common.{◌≡◌, true, false, sym, ◌∙◌, ap, is_err}
use Rattle.std.specs.Str.{bytes_eq}
use Rattle.hex.specs.Hex.{encode_lower}
use Rattle.arch_base.specs.Ids.{id_bytes}
use Rattle.arch_base.proofs.HexDigits.{decodes-encode, bytes_eq-same}
use Rattle.arch_base.proofs.ids.id_of_hex.Goals as goal

pub returns-then-is_err-clause-none : goal.returns-then-is_err-clause-none
returns-then-is_err-clause-none c = λ id valid is.
    let done = decodes-encode c.args.text.now (id_bytes id) _ _ _ c.decode_to_slice.result (valid.len ∙ sym c.id_size.ensures.size) c.id_size.ensures.most valid.bytes is c.decode_to_slice.ensures.value in
    let fine : is_err c.decode_to_slice.result ≡ false = ap is_err done.0 in cc

pub returns-else-eq-clause-none : goal.returns-else-eq-clause-none
returns-else-eq-clause-none c = λ id valid is.
    let done = decodes-encode c.args.text.now (id_bytes id) _ _ _ c.decode_to_slice.result (valid.len ∙ sym c.id_size.ensures.size) c.id_size.ensures.most valid.bytes is c.decode_to_slice.ensures.value in
    let same : c.as_slice.result.now ≡ c.args.text.now = c.as_slice.ensures ∙ c.hex_of.ensures ∙ ap encode_lower (c.from_slice-id.ensures.bytes ∙ done.1) ∙ sym is in
    let equal : bytes_eq c.as_slice.result.now c.args.text.now ≡ true = bytes_eq-same _ _ same in cc
