-- The root of an archive without messages, and the files that it names.
use Rattle.std.specs.Prelude.{◌≡◌, ◌≢◌, All, ◌-◌, ◌*◌, ◌==◌, ℕ, Bool, true, false, if◌then◌else◌, List, get_or, replicate, Option, Some, None, refl}
use Rattle.std.proofs.Common.{◌∙◌, sym, ap, subst, inl, inr, arith}
use Rattle.std.proofs.lemmas.Bool.{cases_lt}
use Rattle.std.proofs.lemmas.List.{get_or-replicate, get_or_past, length-replicate}
use Rattle.std.proofs.lemmas.List.Elements.{All-replicate}
use Rattle.arch_base.specs.Configs.{IsConfig}
use Rattle.disk_model.specs.declared.name.FileKind.{FileKind}
use Rattle.disk_model.specs.declared.name.FileKind.TheVariants as kind
use Rattle.disk_model.specs.Disk.{Content, WhereTold, IsLength}
use Rattle.disk_model.specs.Sizes.{record_size}
use Rattle.number_map.specs.Sizes.{sizes_none}
use Rattle.root_slots.specs.declared.root.Place.{Place}
use Rattle.root_slots.specs.declared.root.Root.{Root}
use Rattle.root_slots.specs.RootName.{root_name}
use Rattle.root_slots.specs.Valid.{PlaceIsValid, no_place}
use Rattle.root_change.specs.Names.{place_of}
use Rattle.root_change.specs.Texts.{HasPartSizes}
use Rattle.root_change.proofs.Sizes.{end_at_most}
use Rattle.rewrite_tests.specs.Bare.{IsBare}

-- A `Place` without bytes, and none.
by_either : (b : Bool) (place : Place) → place.length ≡ 0 → (if b then place else no_place).length ≡ 0
by_either true place none = none
by_either false place none = refl

-- No part but the cache has bytes.
none_there : (root : Root) → IsBare root → (t : FileKind) (n : ℕ) → t ≢ kind.Cache → (place_of root t n).length ≡ 0
none_there root bare kind.Root n other = refl
none_there root bare kind.Map n other = by_either (n == 0) root.map bare.map
none_there root bare kind.Epoch n other = ap (λ (ps : List Place). (get_or ps n no_place).length) bare.epochs ∙ ap (λ (p : Place). p.length) (elim (cases_lt n 64) [ inl below ↦ get_or-replicate 64 n no_place no_place below | inr past ↦ get_or_past (replicate 64 no_place) n no_place (omega (arith, past, length-replicate {A = Place} 64 no_place)) ])
none_there root bare kind.Cache n other = absurd (other refl)

pub bare_sizes : (root : Root) (k : Option Content) → IsBare root → WhereTold (IsLength root_name 4096) k → WhereTold (HasPartSizes root) k
bare_sizes root None bare size = tt
bare_sizes root (Some k) bare size = record {
  root_file = sym size;
  lengths = λ name apart other. (let none = none_there root bare name.kind name.number other in let most = end_at_most root name in omega (arith, none, most));
}

-- A root of sequence 1 without a number, a byte or an epoch is that of an archive without messages.
pub is_bare : (root : Root) → IsConfig root.config → root.sequence ≡ 1 → root.next ≡ 1 → root.map ≡ record { generation = 1; length = 0 } → root.epochs ≡ replicate 64 no_place → root.cache ≡ no_place → IsBare root
is_bare root config sequence next map epochs cache = record {
  valid = record {
    config = config;
    next_least = omega (arith, next);
    next_most = omega (arith, next);
    map_gen = (let gen : root.map.generation ≡ 1 = ap (λ (p : Place). p.generation) map in omega (arith, gen, sequence));
    map_length = ap (λ (p : Place). p.length) map ∙ (sym (sizes_none root.config.form) ∙ sym (ap (λ (n : ℕ). record_size root.config.form * (n - 1)) next));
    epochs = subst (λ (ps : List Place). All (PlaceIsValid root.sequence) ps) (sym epochs) (All-replicate (PlaceIsValid root.sequence) 64 no_place none);
    cache = subst (PlaceIsValid root.sequence) (sym cache) none;
  };
  sequence = sequence;
  map = ap (λ (p : Place). p.length) map;
  epochs = epochs;
} where
  none : PlaceIsValid root.sequence no_place
  none = record { generation = omega arith; empty = λ is. refl }
