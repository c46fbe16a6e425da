-- Values with the same spelling are equal.
use Rattle.std.specs.Prelude.{◌≡◌, ◌<◌, ℕ, nat_eq, List, [], ◌∷◌, ◌++◌, length, get_or, take, drop, suc, refl}
use Rattle.std.specs.List.{flat_map}
use Rattle.std.proofs.Common.{◌∙◌, sym, ap, arith, append_assoc}
use Rattle.arch_base.specs.declared.config.Config.{Config}
use Rattle.arch_base.specs.Names.{IsArchiveName}
use Rattle.arch_base.specs.Configs.{IsConfig}
use Rattle.root_slots.specs.declared.root.Place.{Place}
use Rattle.disk_model.specs.BigEndian.{be64, rest_is, apart64, apart32}
use Rattle.root_slots.specs.Spelling.{flag, format_byte, place_bytes, name_bytes, config_bytes, spelling}
use Rattle.root_slots.specs.Sizes.{spelling_length}
use Rattle.root_slots.specs.Valid.{no_place, PlaceFits}
use Rattle.root_slots.specs.Laws.{SpellingsDiffer, SpellingsFill}
use Rattle.root_slots.proofs.Reading.{place_parts, place_is, name_parts, config_parts, config_is, root_parts, root_is, first_byte, second_byte, flag_read, format_once}

-- Bytes that start with places.
apart_place : (p q : Place) (x y : List ℕ) → PlaceFits p → PlaceFits q → place_bytes p ++ x ≡ place_bytes q ++ y → (p ≡ q) × (x ≡ y)
apart_place p q x y a b is =
    let parts = sym (place_parts (place_bytes p ++ x) x p refl) ∙ place_parts (place_bytes p ++ x) y q is in
    let gens = apart64 p.generation q.generation (be64 p.length ++ x) (be64 q.length ++ y) a.generation b.generation parts in
    let lengths = apart64 p.length q.length x y a.length b.length gens.1 in
    (place_is p.generation p.length q gens.0 lengths.0, lengths.1)

-- Bytes that start with equally many places.
apart_places : (ps qs : List Place) (x y : List ℕ) → length ps ≡ length qs → ((i : ℕ) → i < length ps → PlaceFits (get_or ps i no_place)) → ((i : ℕ) → i < length qs → PlaceFits (get_or qs i no_place))
    → flat_map place_bytes ps ++ x ≡ flat_map place_bytes qs ++ y → (ps ≡ qs) × (x ≡ y)
apart_places [] [] x y count a b is = (refl, is)
apart_places [] (q ∷ qs) x y count a b is = absurd (omega (arith, count))
apart_places (p ∷ ps) [] x y count a b is = absurd (omega (arith, count))
apart_places (p ∷ ps) (q ∷ qs) x y count a b is =
    let joined = sym (append_assoc (place_bytes p) (flat_map place_bytes ps) x) ∙ (is ∙ append_assoc (place_bytes q) (flat_map place_bytes qs) y) in
    let first = apart_place p q (flat_map place_bytes ps ++ x) (flat_map place_bytes qs ++ y) (a 0 (omega arith)) (b 0 (omega arith)) joined in
    let others = apart_places ps qs x y (omega (arith, count)) (λ i below. a (suc i) (omega (arith, below))) (λ i below. b (suc i) (omega (arith, below))) first.1 in
    (λ i. first.0 i ∷ others.0 i, others.1)

-- Bytes that start with names.
apart_name : (m n x y : List ℕ) → IsArchiveName m → IsArchiveName n → name_bytes m ++ x ≡ name_bytes n ++ y → (m ≡ n) × (x ≡ y)
apart_name m n x y a b is =
    let bytes = name_bytes m ++ x in
    let left = name_parts bytes x m a refl in
    let right = name_parts bytes y n b is in
    let size : length m ≡ length n = sym left.count ∙ right.count in
    (sym left.itself ∙ (ap (λ (k : ℕ). take k (drop 1 (take 65 bytes))) size ∙ right.itself), sym left.after ∙ right.after)

-- Bytes that start with settings.
apart_config : (c d : Config) (x y : List ℕ) → IsArchiveName c.name → IsArchiveName d.name → IsConfig c → IsConfig d → config_bytes c ++ x ≡ config_bytes d ++ y → (c ≡ d) × (x ≡ y)
apart_config c d x y named named2 a b is =
    let bytes = config_bytes c ++ x in
    let left = config_parts bytes x c refl in
    let right = config_parts bytes y d is in
    let mirrors = sym (flag_read c.mirror) ∙ (ap (λ (n : ℕ). nat_eq n 1) (sym (second_byte bytes _ (format_byte c.form) (flag c.mirror) left) ∙ second_byte bytes _ (format_byte d.form) (flag d.mirror) right) ∙ flag_read d.mirror) in
    let forms = format_once c.form d.form (sym (first_byte bytes _ (format_byte c.form) (flag c.mirror) left) ∙ first_byte bytes _ (format_byte d.form) (flag d.mirror) right) in
    let names = apart_name c.name d.name _ _ named named2 (sym (rest_is 2 bytes (format_byte c.form ∷ flag c.mirror ∷ []) _ refl left) ∙ rest_is 2 bytes (format_byte d.form ∷ flag d.mirror ∷ []) _ refl right) in
    let limits = apart64 c.limit d.limit _ _ (omega (arith, a.limit_high)) (omega (arith, b.limit_high)) names.1 in
    let slices = apart32 c.slice d.slice _ _ (omega (arith, a.slice_high)) (omega (arith, b.slice_high)) limits.1 in
    let mosts = apart32 c.max d.max _ _ (omega (arith, a.max_high)) (omega (arith, b.max_high)) slices.1 in
    let borns = apart32 c.born d.born x y (omega (arith, a.born_high)) (omega (arith, b.born_high)) mosts.1 in
    (config_is c d names.0 limits.0 slices.0 mosts.0 mirrors borns.0 forms, borns.1)

-- Two roots with the same spelling are equal.
pub spellings_differ : SpellingsDiffer
spellings_differ r s a b v w is =
    let bytes = spelling r in
    let parts = sym (root_parts bytes r refl) ∙ root_parts bytes s is in
    let sequences = apart64 r.sequence s.sequence _ _ a.sequence b.sequence parts in
    let configs = apart_config r.config s.config _ _ a.name b.name v.config w.config sequences.1 in
    let nexts = apart32 r.next s.next _ _ (omega (arith, v.next_most)) (omega (arith, w.next_most)) configs.1 in
    let maps = apart_place r.map s.map _ _ a.map b.map nexts.1 in
    let epochs = apart_places r.epochs s.epochs _ _ (a.count ∙ sym b.count) (λ i below. a.epochs i (omega (arith, below, a.count))) (λ i below. b.epochs i (omega (arith, below, b.count))) maps.1 in
    let caches = apart_place r.cache s.cache _ _ a.cache b.cache epochs.1 in
    root_is r s configs.0 sequences.0 nexts.0 maps.0 epochs.0 caches.0

-- A spelling fills its slot.
pub spellings_fill : SpellingsFill
spellings_fill r a = spelling_length r a.name a.count
