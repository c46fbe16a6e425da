-- Private: the engine of the kit's base64 that symbols are decoded with.
use Rattle.std.specs.Prelude.{◌≡◌, true}
use Rattle.base64.specs.declared.engine.general_purpose.GeneralPurpose.{GeneralPurpose}
use Rattle.base64.specs.declared.engine.DecodePaddingMode.TheVariants.{Indifferent}
use Rattle.base64.specs.Engines.{standard}

-- The kit's engine for the standard alphabet that takes texts with padding or without, and any bits
-- after the last whole byte.
pub record IsLenient (engine : GeneralPurpose) : Type 0 where
  pub symbols : engine.encode_table ≡ standard.encode_table
  pub padding : engine.padding.value ≡ 61
  pub trailing_bits : engine.config.decode_allow_trailing_bits ≡ true
  pub mode : engine.config.decode_padding_mode ≡ Indifferent
