-- Values are read back from their spelling.
use Rattle.std.specs.Prelude.{◌≡◌, ◌<◌, ◌+◌, ◌-◌, ℕ, Bool, true, false, nat_eq, Option, Some, None, IfSome, IfNone, List, [], ◌∷◌, ◌++◌, length, get_or, set, take, drop, replicate, refl}
use Rattle.std.specs.List.{flat_map}
use Rattle.std.proofs.Common.{◌∙◌, sym, ap, subst, arith, append_assoc, add-one}
use Rattle.std.proofs.lemmas.List.{take_more_set}
use Rattle.std.proofs.Math.Seq.{take-append_seam, take-suc, drop-cons}
use Rattle.arch_base.specs.declared.config.Config.{Config}
use Rattle.arch_base.specs.declared.ids.Form.{Form}
use Rattle.arch_base.specs.declared.ids.Form.TheVariants.{Sha1, Sha256}
use Rattle.arch_base.specs.Names.{IsArchiveName}
use Rattle.root_slots.specs.declared.root.Place.{Place}
use Rattle.root_slots.specs.declared.root.Root.{Root}
use Rattle.disk_model.specs.BigEndian.{be32, be64, front_is, rest_is}
use Rattle.root_slots.specs.Spelling.{flag, format_byte, place_bytes, name_bytes, config_bytes, fields, spelling}
use Rattle.root_slots.specs.Sizes.{name_length}
use Rattle.root_slots.specs.Valid.{no_place, PlaceFits}

-- Six parts and a rest.
pub six_parts : (a b c d e f rest : List ℕ) → (a ++ b ++ c ++ d ++ e ++ f) ++ rest ≡ a ++ (b ++ (c ++ (d ++ (e ++ (f ++ rest)))))
six_parts a b c d e f rest =
    append_assoc (a ++ b ++ c ++ d ++ e) f rest ∙ (append_assoc (a ++ b ++ c ++ d) e (f ++ rest) ∙ (append_assoc (a ++ b ++ c) d (e ++ (f ++ rest)) ∙ (append_assoc (a ++ b) c (d ++ (e ++ (f ++ rest))) ∙ append_assoc a b (c ++ (d ++ (e ++ (f ++ rest)))))))

-- The two numbers of a place.
pub place_parts : (bytes rest : List ℕ) (p : Place) → bytes ≡ place_bytes p ++ rest → bytes ≡ be64 p.generation ++ (be64 p.length ++ rest)
unfolding place_bytes
place_parts bytes rest p is = is ∙ append_assoc (be64 p.generation) (be64 p.length) rest

-- A place of two numbers.
pub place_is : (generation long : ℕ) (p : Place) → generation ≡ p.generation → long ≡ p.length → record { generation = generation; length = long } ≡ p
place_is generation long p a b = λ i. record { generation = a i; length = b i }

-- The parts of a name.
pub record NameParts (bytes rest text : List ℕ) : Type 0 where
  pub count : get_or (take 1 (take 65 bytes)) 0 0 ≡ length text
  pub itself : take (length text) (drop 1 (take 65 bytes)) ≡ text
  pub after : drop 65 bytes ≡ rest

-- A name is its length, its text and zeros.
pub name_parts : (bytes rest text : List ℕ) → IsArchiveName text → bytes ≡ name_bytes text ++ rest → NameParts bytes rest text
unfolding name_bytes
name_parts bytes rest text valid is =
    let front : take 65 bytes ≡ name_bytes text = front_is 65 bytes (name_bytes text) rest (name_length text valid) is in
    record {
      count = ap (λ (b : List ℕ). get_or (take 1 b) 0 0) front;
      itself = ap (λ (b : List ℕ). take (length text) (drop 1 b)) front ∙ take-append_seam text (replicate (64 - length text) 0);
      after = rest_is 65 bytes (name_bytes text) rest (name_length text valid) is;
    }

-- The parts of settings.
pub config_parts : (bytes rest : List ℕ) (c : Config) → bytes ≡ config_bytes c ++ rest → bytes ≡ (format_byte c.form ∷ flag c.mirror ∷ []) ++ (name_bytes c.name ++ (be64 c.limit ++ (be32 c.slice ++ (be32 c.max ++ (be32 c.born ++ rest)))))
unfolding config_bytes
config_parts bytes rest c is = is ∙ six_parts (format_byte c.form ∷ flag c.mirror ∷ []) (name_bytes c.name) (be64 c.limit) (be32 c.slice) (be32 c.max) (be32 c.born) rest

-- A flag is read back.
pub flag_read : (mirror : Bool) → nat_eq (flag mirror) 1 ≡ mirror
flag_read true = refl
flag_read false = refl

-- The forms have formats of their own.
pub format_once : (form other : Form) → format_byte form ≡ format_byte other → form ≡ other
format_once Sha1 Sha1 is = refl
format_once Sha1 Sha256 is = absurd (omega (arith, is))
format_once Sha256 Sha1 is = absurd (omega (arith, is))
format_once Sha256 Sha256 is = refl

-- The first of two bytes at the front.
pub first_byte : (bytes rest : List ℕ) (a b : ℕ) → bytes ≡ (a ∷ b ∷ []) ++ rest → get_or (take 2 bytes) 0 0 ≡ a
first_byte bytes rest a b is = ap (λ (l : List ℕ). get_or (take 2 l) 0 0) is

-- The second of two bytes at the front.
pub second_byte : (bytes rest : List ℕ) (a b : ℕ) → bytes ≡ (a ∷ b ∷ []) ++ rest → get_or (take 2 bytes) 1 0 ≡ b
second_byte bytes rest a b is = ap (λ (l : List ℕ). get_or (take 2 l) 1 0) is

-- The value of an option, or this default.
abbrev value_or : {A : Type 0} → A → Option A → A
value_or x None = x
value_or x (Some y) = y

-- An option has one value.
pub some_is : {A : Type 0} (found : Option A) (x y : A) → found ≡ Some x → found ≡ Some y → x ≡ y
some_is found x y a b = ap (λ (o : Option _). value_or x o) (sym a ∙ b)

-- An option has a value.
abbrev HasValue : {A : Type 0} → Option A → Type 0
HasValue None = ⊥
HasValue (Some x) = Unit {0}

-- An option doesn't both have a value and lack one.
pub none_isnt : {A : Type 0} (found : Option A) (x : A) → found ≡ None → found ≡ Some x → ⊥
none_isnt found x a b = subst (λ (o : Option _). HasValue o) (sym b ∙ a) tt

-- A name that is found.
pub found_is : (found : Option (List ℕ)) (given text : List ℕ) → given ≡ text → IsArchiveName text → IfSome found (λ name. (name ≡ given) × IsArchiveName given) → IfNone found (IsArchiveName given → ⊥) → found ≡ Some text
found_is None given text is valid some none = absurd (none (subst IsArchiveName (sym is) valid))
found_is (Some name) given text is valid some none = ap (λ (t : List ℕ). Some t) (some.0 ∙ is)

-- The text after its length.
pub text_is : (front after bytes rest text : List ℕ) → front ≡ take 1 (take 65 bytes) → after ≡ drop 1 (take 65 bytes) → NameParts bytes rest text → take (get_or front 0 0) after ≡ text
text_is front after bytes rest text a b parts =
    ap (λ (n : ℕ). take n after) (ap (λ (l : List ℕ). get_or l 0 0) a ∙ parts.count) ∙ (ap (λ (l : List ℕ). take (length text) l) b ∙ parts.itself)

-- The parts of a root.
pub root_parts : (bytes : List ℕ) (r : Root) → bytes ≡ spelling r → bytes ≡ be64 r.sequence ++ (config_bytes r.config ++ (be32 r.next ++ (place_bytes r.map ++ (flat_map place_bytes r.epochs ++ (place_bytes r.cache ++ replicate (1536 - length (fields r)) 0)))))
unfolding spelling fields
root_parts bytes r is = is ∙ six_parts (be64 r.sequence) (config_bytes r.config) (be32 r.next) (place_bytes r.map) (flat_map place_bytes r.epochs) (place_bytes r.cache) (replicate (1536 - length (fields r)) 0)

-- Settings of seven values.
pub config_is : (x c : Config) → x.name ≡ c.name → x.limit ≡ c.limit → x.slice ≡ c.slice → x.max ≡ c.max → x.mirror ≡ c.mirror → x.born ≡ c.born → x.form ≡ c.form → x ≡ c
config_is x c p1 p2 p3 p4 p5 p6 p7 = λ i. record { name = p1 i; limit = p2 i; slice = p3 i; max = p4 i; mirror = p5 i; born = p6 i; form = p7 i }

-- A root of six values.
pub root_is : (x r : Root) → x.config ≡ r.config → x.sequence ≡ r.sequence → x.next ≡ r.next → x.map ≡ r.map → x.epochs ≡ r.epochs → x.cache ≡ r.cache → x ≡ r
root_is x r p1 p2 p3 p4 p5 p6 = λ i. record { config = p1 i; sequence = p2 i; next = p3 i; map = p4 i; epochs = p5 i; cache = p6 i }

-- The places that a loop has read.
abbrev pub HasRead : ℕ → List Place → List ℕ → List Place → List ℕ → Type 0
HasRead i all left ps more = (take i all ≡ take i ps) × (left ≡ flat_map place_bytes (drop i ps) ++ more)

-- One more place.
pub reads_on : (i : ℕ) (all ps : List Place) (left after more : List ℕ) (next : Place) → i < 64 → length all ≡ 64 → length ps ≡ 64 → PlaceFits (get_or ps i no_place)
    → ((p : Place) (rest : List ℕ) → PlaceFits p → left ≡ place_bytes p ++ rest → (next ≡ p) × (after ≡ rest)) → HasRead i all left ps more → HasRead (i + 1) (set all i next) after ps more
reads_on i all ps left after more next below size count fits read before =
    let p = get_or ps i no_place in
    let tail = flat_map place_bytes (drop (i + 1) ps) in
    let split : drop i ps ≡ p ∷ drop (i + 1) ps = rw add-one (drop-cons ps i no_place (omega (arith, below, count))) in
    let is : left ≡ place_bytes p ++ (tail ++ more) = before.1 ∙ (ap (λ (l : List Place). flat_map place_bytes l ++ more) split ∙ append_assoc (place_bytes p) tail more) in
    let both = read p (tail ++ more) fits is in
    let grown : take (i + 1) ps ≡ take i ps ++ p ∷ [] = rw add-one (take-suc ps i no_place (omega (arith, below, count))) in
    (take_more_set all i next (omega (arith, below, size)) ∙ (ap (λ (l : List Place). l ++ next ∷ []) before.0 ∙ (ap (λ (q : Place). take i ps ++ q ∷ []) both.0 ∙ sym grown)), both.1)
