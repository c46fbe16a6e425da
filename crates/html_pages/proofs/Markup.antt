-- The markup of texts in forms and of addresses: they have none.
use Rattle.std.proofs.Common.{◌≡◌, ℕ, ◌/◌, ◌%◌, Bool, true, false, cond, eqb, ltb, List, [], ◌∷◌, ◌++◌, refl}
use Rattle.std.specs.Prelude.{codes}
use Rattle.std.specs.Fmt.{digit_glyph}
use Rattle.form_urlencoded.specs.Form.{is_unchanged, serialize_byte, byte_serialize}
use Rattle.percent_encoding.specs.Percent.{percent_encode_byte}
use Rattle.web_text.specs.Addresses.{address_of}
use Rattle.web_text.specs.Markup.{markup}
use Rattle.web_text.proofs.Markup.{none-append, none-cons, none-each, one, glyph_by, passes, id_none, name_none}
use Rattle.html_pages.specs.Pieces.{address}
use Rattle.html_pages.specs.Laws.{AddressMakesNoTag}

-- A text in a form has none.
form_by : (plain blank : Bool) (b : ℕ) → is_unchanged b ≡ plain → markup (cond plain (b ∷ []) (cond blank (43 ∷ []) (percent_encode_byte b))) ≡ []
unfolding percent_encode_byte
form_by true blank b e = one b (passes is_unchanged b refl refl refl e)
form_by false true b e = refl
form_by false false b e =
    none-cons 37 (digit_glyph true (b / 16 % 16) ∷ digit_glyph true (b % 16) ∷ []) refl
    (none-cons (digit_glyph true (b / 16 % 16)) (digit_glyph true (b % 16) ∷ []) (glyph_by (ltb (b / 16 % 16) 10) (b / 16 % 16) refl)
    (one (digit_glyph true (b % 16)) (glyph_by (ltb (b % 16) 10) (b % 16) refl)))

pub form_none : (text : List ℕ) → markup (byte_serialize text) ≡ []
unfolding byte_serialize
form_none text = none-each serialize_byte (λ b. form_by (is_unchanged b) (eqb b 32) b refl) text

-- An address has none.
pub address_none : AddressMakesNoTag
unfolding address
address_none name id h =
    none-append (((codes "/" ++ name) ++ codes "/") ++ address_of id) (codes "/")
    (none-append ((codes "/" ++ name) ++ codes "/") (address_of id)
    (none-append (codes "/" ++ name) (codes "/") (none-append (codes "/") name refl (name_none name h)) refl) (id_none id))
    refl
