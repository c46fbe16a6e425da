-- Private: the results of the code that reads options.
use Rattle.std.specs.Prelude.{◌≡◌, ◌<◌, ◌⊎◌, ℕ, Bool, true, false, List, [], ◌∷◌, ◌++◌, map, length, All, Option, Some, None}
use Rattle.std.specs.Option.{option_to_list, unwrap_or}
use Rattle.arch_base.specs.declared.config.Config.{Config}
use Rattle.arch_base.specs.declared.ids.Form.TheVariants as form
use Rattle.archive_cli.specs.Words.{setting_word, GivesServing, IsSetting, AreMakingWords, EachOnce, limit_of, slice_of, max_of, mirror_of, form_given, limits, slices, maxes, mirrors, forms}
use Rattle.archive_cli.specs.declared.words.Job.{Job}
use Rattle.archive_cli.specs.declared.words.Job.TheVariants.{Serve}
use Rattle.archive_cli.specs.declared.words.ServeOption.{ServeOption}
use Rattle.archive_cli.specs.declared.words.Setting.{Setting}
use Rattle.archive_cli.specs.declared.words.Settings.{Settings}

-- One mark if `mirror` was given, otherwise none.
abbrev pub marks : Bool → List Bool
marks true = true ∷ []
marks false = []

-- The held values are those that the settings give, kind by kind.
pub record HoldsSettings (settings : List Setting) (held : Settings) : Type 0 where
  pub limit_is : limits settings ≡ option_to_list held.limit
  pub slice_is : slices settings ≡ option_to_list held.slice
  pub max_is : maxes settings ≡ option_to_list held.max
  pub mirror_is : mirrors settings ≡ marks held.mirror
  pub form_is : forms settings ≡ option_to_list held.form

-- One more setting is held.
pub record HoldsMore (held : Settings) (setting : Setting) (more : Settings) : Type 0 where
  pub limit_is : option_to_list held.limit ++ limit_of setting ≡ option_to_list more.limit
  pub slice_is : option_to_list held.slice ++ slice_of setting ≡ option_to_list more.slice
  pub max_is : option_to_list held.max ++ max_of setting ≡ option_to_list more.max
  pub mirror_is : marks held.mirror ++ mirror_of setting ≡ marks more.mirror
  pub form_is : option_to_list held.form ++ form_given setting ≡ option_to_list more.form

-- A setting of this kind is held already.
abbrev pub HoldsTwo : Settings → Setting → Type 0
HoldsTwo held setting =
    (1 < length (option_to_list held.limit ++ limit_of setting))
    ⊎ ((1 < length (option_to_list held.slice ++ slice_of setting))
    ⊎ ((1 < length (option_to_list held.max ++ max_of setting))
    ⊎ ((1 < length (marks held.mirror ++ mirror_of setting))
    ⊎ (1 < length (option_to_list held.form ++ form_given setting)))))

-- One more setting is held, or it is refused as the second of its kind.
abbrev pub IsWith : Settings → Setting → Option Settings → Type 0
IsWith held setting (Some more) = HoldsMore held setting more
IsWith held setting None = HoldsTwo held setting

-- The words spell settings that give the held values.
pub record Collects (words : List (List ℕ)) (held : Settings) : Type 0 where
  pub settings : List Setting
  pub is : words ≡ map setting_word settings
  pub ranges : All IsSetting settings
  pub holds : HoldsSettings settings held

-- The settings that words spell, or none if they spell none, or two of one kind.
abbrev pub IsCollected : List (List ℕ) → Option Settings → Type 0
IsCollected words (Some held) = Collects words held
IsCollected words None = (settings : List Setting) → words ≡ map setting_word settings
    → All IsSetting settings → EachOnce settings → ⊥

-- The settings of an archive with this name, by the held values.
abbrev pub config_by : List ℕ → Settings → Config
config_by name held = record {
  name = name;
  limit = unwrap_or held.limit 1073741824;
  slice = unwrap_or held.slice 50000;
  max = unwrap_or held.max 2147483647;
  mirror = held.mirror;
  born = 1;
  form = unwrap_or held.form form.Sha1;
}

-- The settings of the archive that words give, or none if they aren't a name with settings after
-- it.
abbrev pub IsConfigured : List (List ℕ) → Option Config → Type 0
IsConfigured words (Some config) = (settings : List Setting) × AreMakingWords words settings config
IsConfigured words None = (settings : List Setting) (config : Config)
    → AreMakingWords words settings config → ⊥

-- The serving that options give, or none if two are of one kind.
abbrev pub IsServing : List ServeOption → Option Job → Type 0
IsServing options (Some job) = (turns : ℕ) × (port : ℕ) × (job ≡ Serve turns port)
    × GivesServing options turns port
IsServing options None = (turns port : ℕ) → GivesServing options turns port → ⊥
