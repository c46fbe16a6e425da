-- What is kept of messages, by ids.
use Rattle.std.specs.Prelude.{◌≡◌, ℕ, Bool, true, List, [], ◌∷◌, nat_lt, Option, Some, None, is_none, is_some, if◌then◌else◌}
use Rattle.std.specs.Option.{option_map}
use Rattle.std.specs.Str.{bytes_eq}
use Rattle.std.specs.Ordering.{nat_cmp}
use Rattle.std.specs.Cmp.Lexicographic.{slice_cmp}
use Rattle.std.specs.BTreeMap.{BTreeMap, get_by}
use Rattle.std.specs.Global.{Vec}
use Rattle.thread_model.specs.Members.{has}
use Rattle.thread_tree.specs.Trees.{Node, before, last_other, lesser_by, message_of, named_by, names_id}
use Rattle.thread_tree.specs.declared.twigs.Twig.{Twig}
use Rattle.thread_tree.specs.declared.facts.Above.{Above}
use Rattle.thread_tree.specs.declared.facts.Naming.{Naming}
use Rattle.thread_tree.specs.declared.facts.Placing.{Placing}
use Rattle.thread_tree.specs.declared.facts.Facts.{Facts}

-- The value of an id in a map by ids.
abbrev pub at_id : {X : Type 0} → BTreeMap (Vec ℕ) X → List ℕ → Option X
at_id values id = get_by (λ (k : Vec ℕ). slice_cmp nat_cmp id k.items) values

-- An index has the ids of messages, and no others.
abbrev pub AreIdsOf : {X : Type 0} → List Twig → BTreeMap (Vec ℕ) X → Type 0
AreIdsOf twigs index = (q : List ℕ) → is_some (at_id index q) ≡ names_id twigs q

-- Whether a number is less than one that may be there, or none is there.
abbrev pub is_lesser : ℕ → Option ℕ → Bool
is_lesser number None = true
is_lesser number (Some kept) = nat_lt number kept

-- What a message stands under, as it is kept.
abbrev pub above_value : Above → Option (List ℕ)
above_value above = option_map (λ (id : Vec ℕ). id.items) above.id

-- What messages stand under, by their ids.
abbrev pub above_at : BTreeMap (Vec ℕ) Above → List ℕ → Option (Option (List ℕ))
above_at live id = option_map above_value (at_id live id)

-- It was noted what a message stands under.
abbrev pub NotesAbove : BTreeMap (Vec ℕ) Above → BTreeMap (Vec ℕ) Above → Twig → Type 0
NotesAbove old new t = (q : List ℕ) → above_at new q
    ≡ (if bytes_eq q t.id then Some (last_other t.refs t.id) else above_at old q)

-- What is kept of a message that names an id.
abbrev pub naming_of : Twig → Naming
naming_of t = record { number = t.number; secs = t.secs }

-- Of two namings that may be there, the one with the lesser number.
abbrev pub lesser_naming : Option Naming → Option Naming → Option Naming
lesser_naming = lesser_by (λ (n : Naming). n.number)

-- It was noted that a message names an id.
abbrev pub NotesNaming : BTreeMap (Vec ℕ) Naming → BTreeMap (Vec ℕ) Naming → List ℕ → Naming → Type 0
NotesNaming old new id naming = (q : List ℕ) → at_id new q
    ≡ (if bytes_eq q id then lesser_naming (at_id old q) (Some naming) else at_id old q)

-- It was noted that a message names some ids.
abbrev pub NamesAll : BTreeMap (Vec ℕ) Naming → BTreeMap (Vec ℕ) Naming → List (List ℕ) → Naming → Type 0
NamesAll old new ids naming = (q : List ℕ) → at_id new q
    ≡ (if has ids q then lesser_naming (at_id old q) (Some naming) else at_id old q)

-- A placing as it is kept: the message's number, and what stands before the id.
abbrev pub placing_value : Placing → ℕ × List ℕ
placing_value p = (p.number, p.before.items)

-- The placing of an id, if it has one.
abbrev pub placing_at : BTreeMap (Vec ℕ) Placing → List ℕ → Option (ℕ × List ℕ)
placing_at placings id = option_map placing_value (at_id placings id)

-- Of two placings that may be there, the one with the lesser number.
abbrev pub lesser_placing : Option (ℕ × List ℕ) → Option (ℕ × List ℕ) → Option (ℕ × List ℕ)
lesser_placing = lesser_by (λ (p : ℕ × List ℕ). p.0)

-- How references of a message of a number place an id.
abbrev pub placing_in : ℕ → List (List ℕ) → List ℕ → Option (ℕ × List ℕ)
placing_in number refs id = option_map (λ (b : List ℕ). (number, b)) (before None refs id)

-- The least-numbered placing of an id.
abbrev pub least_placing : List Twig → List ℕ → Option (ℕ × List ℕ)
least_placing [] id = None
least_placing (t ∷ ts) id = lesser_placing (placing_in t.number t.refs id) (least_placing ts id)

-- It was noted that a message places an id.
abbrev pub NotesPlacing : BTreeMap (Vec ℕ) Placing → BTreeMap (Vec ℕ) Placing → List ℕ → ℕ × List ℕ → Type 0
NotesPlacing old new id placing = (q : List ℕ) → placing_at new q
    ≡ (if bytes_eq q id then lesser_placing (placing_at old q) (Some placing) else placing_at old q)

-- It was noted which ids the references of a message of a number place.
abbrev pub PlacesAll : BTreeMap (Vec ℕ) Placing → BTreeMap (Vec ℕ) Placing → ℕ → List (List ℕ) → Type 0
PlacesAll old new number refs = (q : List ℕ)
    → placing_at new q ≡ lesser_placing (placing_at old q) (placing_in number refs q)

-- What is kept is what the messages say.
pub record AreFacts (twigs : List Twig) (facts : Facts) : Type 0 where
  pub live : (q : List ℕ) → above_at facts.live q
      ≡ option_map (λ (t : Twig). last_other t.refs t.id) (message_of twigs q)
  pub naming : (q : List ℕ) → at_id facts.naming q ≡ option_map naming_of (named_by twigs q)
  pub placing : (q : List ℕ) → placing_at facts.placing q ≡ least_placing twigs q

-- What an id stands under: as its message says, or as it is placed.
abbrev pub kept_up_by : Option (Option (List ℕ)) → Option (ℕ × List ℕ) → Option (List ℕ)
kept_up_by None placing = option_map (λ (p : ℕ × List ℕ). p.1) placing
kept_up_by (Some above) placing = above

-- What an id stands under, by what is kept.
abbrev pub kept_up : Facts → List ℕ → Option (List ℕ)
kept_up facts id = kept_up_by (above_at facts.live id) (placing_at facts.placing id)

-- No message has an id, by what is kept.
abbrev pub kept_is_ghost : Facts → List ℕ → Bool
kept_is_ghost facts id = is_none (at_id facts.live id)

-- The node of a ghost by the message that names it.
abbrev pub kept_node : Option Naming → List ℕ → Node
kept_node None id = (0, 0, id)
kept_node (Some naming) id = (naming.secs, naming.number, id)

-- The node of a ghost, by what is kept.
abbrev pub kept_ghost : Facts → List ℕ → Node
kept_ghost facts id = kept_node (at_id facts.naming id) id
