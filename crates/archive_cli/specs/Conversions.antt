-- Which archives are converted to SHA-256 ids, and why others are not.
use Rattle.std.specs.Prelude.{◌≡◌, true, false, None, Err}
use Rattle.arch_base.specs.declared.config.Config.{Config}
use Rattle.arch_base.specs.declared.ids.Form.TheVariants.{Sha1, Sha256}
use Rattle.arch_model.specs.Archives.{Archive}
use Rattle.convert_planning.specs.Collisions.{collision_of}
use Rattle.epoch_store.specs.Converting.{CollidesAs}
use Rattle.epoch_store.specs.declared.convert_refusal.ConvertRefusal.{ConvertRefusal}
use Rattle.epoch_store.specs.declared.convert_refusal.ConvertRefusal.TheVariants as converting

-- Settings allow a conversion: those of no mirror, with SHA-1 ids.
abbrev pub MayConvert : Config → Type 0
MayConvert config = (config.mirror ≡ false) × (config.form ≡ Sha1)

-- Settings agree with a refusal to convert an archive that was opened. That of a mirror comes first;
-- those that don't come of the settings come only if these allow a conversion.
abbrev pub SettingsRefuse : Config → ConvertRefusal → Type 0
SettingsRefuse config converting.IsMirror = config.mirror ≡ true
SettingsRefuse config converting.Already = (config.mirror ≡ false) × (config.form ≡ Sha256)
SettingsRefuse config (converting.Open why) = ⊥
SettingsRefuse config other = MayConvert config

-- An archive agrees with a refusal: by its settings, and by the messages that collide. None is about a
-- damaged file.
abbrev pub RefusesConversion : Archive → ConvertRefusal → Type 0
RefusesConversion a why = SettingsRefuse a.config why × CollidesAs {T = Unit {0}} Sha256 a (Err why)

-- An archive is converted if its settings allow it and no messages collide.
abbrev pub TakesConversion : Archive → Type 0
TakesConversion a = MayConvert a.config × (collision_of Sha256 a ≡ None)
