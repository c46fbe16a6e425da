-- The bytes of a root in its slot, numbers with the highest byte first.
use Rattle.std.specs.Prelude.{ℕ, ◌-◌, Bool, true, false, List, [], ◌∷◌, ◌++◌, length, replicate}
use Rattle.std.specs.List.{flat_map}
use Rattle.arch_base.specs.declared.config.Config.{Config}
use Rattle.arch_base.specs.declared.ids.Form.{Form}
use Rattle.arch_base.specs.declared.ids.Form.TheVariants.{Sha1, Sha256}
use Rattle.disk_model.specs.BigEndian.{be32, be64}
use Rattle.root_slots.specs.declared.root.Place.{Place}
use Rattle.root_slots.specs.declared.root.Root.{Root}

-- The length of a slot's body.
abbrev pub body_size : ℕ
body_size = 1536

-- A file's generation, then its length.
unfoldable pub place_bytes : Place → List ℕ
place_bytes p = be64 p.generation ++ be64 p.length

-- 1 for yes, 0 for no.
abbrev pub flag : Bool → ℕ
flag true = 1
flag false = 0

-- The length of a name, the name, and zeros up to 64 bytes.
unfoldable pub name_bytes : List ℕ → List ℕ
name_bytes name = (length name ∷ []) ++ name ++ replicate (64 - length name) 0

-- The format by the form of ids: 1 or 2.
abbrev pub format_byte : Form → ℕ
format_byte Sha1 = 1
format_byte Sha256 = 2

-- The format and the settings.
unfoldable pub config_bytes : Config → List ℕ
config_bytes c = (format_byte c.form ∷ flag c.mirror ∷ []) ++ name_bytes c.name ++ be64 c.limit
    ++ be32 c.slice ++ be32 c.max ++ be32 c.born

-- All fields of a root.
unfoldable pub fields : Root → List ℕ
fields r = be64 r.sequence ++ config_bytes r.config ++ be32 r.next ++ place_bytes r.map
    ++ flat_map place_bytes r.epochs ++ place_bytes r.cache

-- The fields, then zeros up to the length of a slot's body.
unfoldable pub spelling : Root → List ℕ
spelling r = fields r ++ replicate (body_size - length (fields r)) 0
