-- The valid settings of an archive, and settings of another form.
use Rattle.std.specs.Prelude.{◌≤◌}
use Rattle.arch_base.specs.declared.config.Config.{Config}
use Rattle.arch_base.specs.declared.ids.Form.{Form}

-- The ranges of an archive's settings.
pub record IsConfig (config : Config) : Type 0 where
  pub limit_low : 1 ≤ config.limit
  pub limit_high : config.limit ≤ 1099511627776
  pub slice_low : 1 ≤ config.slice
  pub slice_high : config.slice ≤ 1000000
  pub max_low : 1 ≤ config.max
  pub max_high : config.max ≤ 2147483647
  pub born_low : 1 ≤ config.born
  pub born_high : config.born ≤ 4294967295

-- The settings with objects of this form.
abbrev pub with_form : Form → Config → Config
with_form form config = record {
  name = config.name;
  limit = config.limit;
  slice = config.slice;
  max = config.max;
  mirror = config.mirror;
  born = config.born;
  form = form;
}
