-- Archives that are valid in another form.
use Rattle.std.proofs.Common.{arith}
use Rattle.arch_base.specs.Configs.{IsConfig, with_form}
use Rattle.arch_base.specs.declared.config.Config.{Config}
use Rattle.arch_base.specs.declared.ids.Form.{Form}
use Rattle.arch_model.specs.Archives.{Archive}
use Rattle.arch_model.specs.Validity.{BlobsAgree, IsArchive}
use Rattle.convert_planning.specs.Collisions.{NoneCollides}
use Rattle.convert_planning.specs.Converting.{converted}
use Rattle.convert_planning.specs.Laws.{ConversionFollows, ConversionValid}

-- An archive whose blob ids of a form have one text each is valid in it.
settings_with : (form : Form) (config : Config) → IsConfig config → IsConfig (with_form form config)
settings_with form config valid = record {
  limit_low = valid.limit_low;
  limit_high = valid.limit_high;
  slice_low = valid.slice_low;
  slice_high = valid.slice_high;
  max_low = valid.max_low;
  max_high = valid.max_high;
  born_low = valid.born_low;
  born_high = valid.born_high;
}

pub valid_in : (form : Form) (a : Archive) → IsArchive a → BlobsAgree form a.entries → IsArchive (converted form a)
valid_in form a valid agree = record {
  name = valid.name;
  config = settings_with form a.config valid.config;
  next_least = valid.next_least;
  next_most = valid.next_most;
  entries = valid.entries;
  below = valid.below;
  order = valid.order;
  ends = valid.ends;
  ids = valid.ids;
  blobs = agree;
}

-- The laws.
pub conversion_follows : ConversionFollows
conversion_follows form a = record { next = omega arith; texts = λ n text low has. has }

pub conversion_valid : NoneCollides → ConversionValid
conversion_valid collisions form a valid none = valid_in form a valid ((collisions form a valid).0 none)
