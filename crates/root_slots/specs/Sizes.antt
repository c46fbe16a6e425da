-- Lemmas for proofs: the lengths of the parts of a root, and where its sequence is.
use Rattle.std.specs.Prelude.{◌≡◌, ◌<◌, ◌≤◌, ◌^◌, ◌*◌, ℕ, List, [], ◌∷◌, ◌++◌, length, replicate, ◌-◌}
use Rattle.std.specs.List.{flat_map}
use Rattle.std.proofs.Common.{arith, length-append}
use Rattle.std.proofs.lemmas.List.{length-replicate}
use Rattle.std.proofs.lemmas.Nat.{from_be_bytes-to_be_bytes_8}
use Rattle.arch_base.specs.declared.config.Config.{Config}
use Rattle.arch_base.specs.Names.{IsArchiveName}
use Rattle.root_slots.specs.declared.root.Place.{Place}
use Rattle.root_slots.specs.declared.root.Root.{Root}
use Rattle.disk_model.specs.Sizes.{epoch_count}
use Rattle.disk_model.specs.BigEndian.{be32, be64, be32_length, be64_length}
use Rattle.root_slots.specs.Spelling.{body_size, flag, format_byte, place_bytes, name_bytes, config_bytes, fields, spelling}
use Rattle.root_slots.specs.Slots.{sequence_of}

-- A place takes 16 bytes.
pub place_length : (p : Place) → length (place_bytes p) ≡ 16
unfolding place_bytes
place_length p = omega (
  arith,
  length-append (be64 p.generation)
      (be64 p.length),
  be64_length p.generation,
  be64_length p.length,
)

-- Each place of a list takes 16 bytes.
pub places_length : (ps : List Place) → length (flat_map place_bytes ps) ≡ 16 * length ps
places_length [] = omega arith
places_length (p ∷ ps) = omega (
  arith,
  length-append (place_bytes p)
      (flat_map place_bytes ps),
  place_length p,
  places_length ps,
)

-- A name takes 65 bytes.
pub name_length : (name : List ℕ) → IsArchiveName name → length (name_bytes name) ≡ 65
unfolding name_bytes
name_length name valid =
    let short = valid.short in
    let zeros : List ℕ = replicate (64 - length name) 0 in
    omega (
      arith,
      length-append ((length name ∷ []) ++ name) zeros,
      length-append
          (length name ∷ []) name,
      length-replicate {A = ℕ} (64 - length name) 0,
    )

-- The format and the settings take 87 bytes.
pub config_length : (c : Config) → IsArchiveName c.name → length (config_bytes c) ≡ 87
unfolding config_bytes
config_length c valid =
    let a = (format_byte c.form ∷ flag c.mirror ∷ []) ++ name_bytes c.name in
    let b = a ++ be64 c.limit in
    let d = b ++ be32 c.slice in
    let e = d ++ be32 c.max in
    omega (
      arith,
      length-append e (be32 c.born),
      length-append d (be32 c.max),
      length-append b
          (be32 c.slice),
      length-append a (be64 c.limit),
      length-append
          (format_byte c.form ∷ flag c.mirror ∷ []) (name_bytes c.name),
      name_length c.name valid,
      be64_length
          c.limit,
      be32_length c.slice,
      be32_length c.max,
      be32_length c.born,
    )

-- The fields take 1,155 bytes.
pub fields_length : (r : Root) → IsArchiveName r.config.name → length r.epochs ≡ epoch_count
    → length (fields r) ≡ 1155
unfolding fields
fields_length r valid count =
    let a = be64 r.sequence ++ config_bytes r.config in
    let b = a ++ be32 r.next in
    let d = b ++ place_bytes r.map in
    let e = d ++ flat_map place_bytes r.epochs in
    omega (
      arith,
      count,
      length-append e (place_bytes r.cache),
      length-append d
          (flat_map place_bytes r.epochs),
      length-append b (place_bytes r.map),
      length-append a
          (be32 r.next),
      length-append (be64 r.sequence)
          (config_bytes r.config),
      be64_length r.sequence,
      config_length r.config valid,
      be32_length r.next,
      place_length r.map,
      places_length r.epochs,
      place_length r.cache,
    )

-- A spelling takes 1,536 bytes.
pub spelling_length : (r : Root) → IsArchiveName r.config.name → length r.epochs ≡ epoch_count
    → length (spelling r) ≡ body_size
unfolding spelling
spelling_length r valid count = let size = fields_length r valid count in
    omega (
      arith,
      size,
      length-append (fields r) (replicate (body_size - length (fields r)) 0),
      length-replicate {A = ℕ} (body_size - length (fields r)) 0,
    )

-- A spelling is never shorter.
pub spelling_least : (r : Root) → body_size ≤ length (spelling r)
unfolding spelling
spelling_least r = omega (
  arith,
  length-append (fields r)
      (replicate (body_size - length (fields r)) 0),
  length-replicate {A = ℕ} (body_size - length (fields r)) 0,
)

-- A spelling starts with its root's sequence.
pub sequence-spelling : (r : Root) → r.sequence < 2 ^ 64 → sequence_of (spelling r) ≡ r.sequence
unfolding spelling fields sequence_of be64
sequence-spelling r fits = from_be_bytes-to_be_bytes_8 r.sequence fits
