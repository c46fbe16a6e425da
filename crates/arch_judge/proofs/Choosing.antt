-- What the candidate ids decide over an index, and in each archive of that index.
use Rattle.std.specs.Prelude.{◌≡◌, ◌+◌, ◌^◌, ◌<◌, ◌≤◌, ℕ, Bool, true, false, nat_lt, List, [], ◌++◌, length, Option, Some, None, option_map, IsSome, refl, if◌then◌else◌}
use Rattle.std.specs.Str.{bytes_eq}
use Rattle.std.proofs.Common.{◌∙◌, sym, ap, subst, arith}
use Rattle.std.proofs.lemmas.Bool.Decides.{nat_tests}
use Rattle.arch_base.specs.Names.{IsArchiveName}
use Rattle.arch_base.specs.Ids.{id_bytes}
use Rattle.arch_base.specs.declared.config.Config.{Config}
use Rattle.arch_base.specs.declared.ids.ObjectId.{ObjectId}
use Rattle.arch_base.specs.declared.ids.Form.TheVariants as form
use Rattle.hex.specs.Hex.{encode_lower}
use Rattle.git_objects.specs.Objects.{id_of}
use Rattle.mail_reader.specs.Content.{content_id_of}
use Rattle.mail_reader.specs.Ids.{own_id}
use Rattle.mail_reader.specs.Laws.{id_line}
use Rattle.arch_model.specs.Archives.{Entry, Archive, owner, live}
use Rattle.arch_model.specs.Candidates.{id_with, made_id, with_made, met, decided, choice_from, choice_of}
use Rattle.arch_judge.specs.Judging.{IsKnownBy, IsNewText, IsStored, TakesNewText}
use Rattle.arch_model.specs.Laws.{TakenAreStorage}
use Rattle.arch_judge.specs.Indexes.{IsArchiveIndex, met_in, met_own, owner_in, owner_of}
use Rattle.arch_model.specs.declared.choice.Choice.{Choice}
use Rattle.arch_model.specs.declared.choice.Choice.TheVariants.{Take, Repeat}
use Rattle.arch_model.specs.declared.choice.Meeting.{Meeting}
use Rattle.arch_model.specs.declared.choice.Meeting.TheVariants.{Free, Same, Other}
use Rattle.arch_judge.specs.declared.index.Index.{Index}
use Rattle.arch_judge.specs.declared.index.Owner.{Owner}
use Rattle.arch_model.proofs.Candidates.{Passed, all_made, below_or_at, meets, passed-more, passed-same, passed-free, not-all-passed}
use Rattle.arch_model.proofs.MadeIds.{made-once, made-own}
use Rattle.arch_judge.proofs.FreeIds.{one-free}

-- A candidate meets an archive as it meets an index of it.
pub met_known : (found : Option Owner) (own : Option Entry) (content : List ℕ) → found ≡ option_map owner_of own → met_in found content ≡ met own content
met_known found None content is = ap (λ (o : Option Owner). met_in o content) is
met_known found (Some e) content is = ap (λ (o : Option Owner). met_in o content) is

-- No message has a candidate that is free.
pub free_in : (found : Option Owner) (content : List ℕ) → met_in found content ≡ Free → found ≡ None
free_in None content is = refl
free_in (Some message) content is = absurd (met_step (bytes_eq message.content content) message.number is) where
  met_step : (t : Bool) (n : ℕ) → (if t then Same n else Other) ≡ Free → ⊥
  met_step true n h = absurd (cc)
  met_step false n h = absurd (cc)

-- How the made id of a count meets an index.
abbrev pub asked : Index → List ℕ → List ℕ → ℕ → Meeting
asked index name text i = met_in (owner_in index.owners (made_id name text i)) (content_id_of text)

-- The id that is looked up is the made id: digits, a count and a name.
is_made : (id digits name text own : List ℕ) (i : ℕ) (object : ObjectId) → id ≡ id_with digits i name → digits ≡ encode_lower (id_bytes object) → object ≡ id_of form.Sha1 text → name ≡ own → id ≡ made_id own text i
is_made id digits name text own i object is digits_is object_is name_is =
    is ∙ (ap (λ (d : List ℕ). id_with d i name) (digits_is ∙ ap (λ (o : ObjectId). encode_lower (id_bytes o)) object_is) ∙ ap (λ (n : List ℕ). made_id n text i) name_is)

is_asked : (index : Index) (id name text content : List ℕ) (i : ℕ) (m : Meeting) → m ≡ met_in (owner_in index.owners id) content → id ≡ made_id name text i → content ≡ content_id_of text → asked index name text i ≡ m
is_asked index id name text content i m is id_is content_is =
    sym (is ∙ ap (λ (q : List ℕ). met_in (owner_in index.owners q) content) id_is ∙ ap (met_in (owner_in index.owners (made_id name text i))) content_is)

-- The id that is looked up is the made id of a count, and the index meets that one so.
pub asks_made : (index : Index) (id looked digits name text own content : List ℕ) (i : ℕ) (object : ObjectId) (m : Meeting) → id ≡ id_with digits i name → digits ≡ encode_lower (id_bytes object) → object ≡ id_of form.Sha1 text → name ≡ own
    → looked ≡ id → m ≡ met_in (owner_in index.owners looked) content → content ≡ content_id_of text → (id ≡ made_id own text i) × (asked index own text i ≡ m)
asks_made index id looked digits name text own content i object m is digits_is object_is name_is looked_is met_is content_is =
    let made = is_made id digits name text own i object is digits_is object_is name_is in
    (made, is_asked index looked own text content i m met_is (looked_is ∙ made) content_is)

-- The made ids before this count are skipped in each archive with these settings and messages.
abbrev pub PassedIn : Config → Index → List ℕ → ℕ → Type 0
PassedIn config index text i = (a : Archive) → IsKnownBy config index a.next a → Passed a text i

-- Messages with other content have the made ids before this count.
abbrev pub TakenBelow : Index → List ℕ → List ℕ → ℕ → Type 0
TakenBelow index name text i = (j : ℕ) → j < i → asked index name text j ≡ Other

-- An id of a message with other content is in the index.
other-in : (found : Option Owner) (content : List ℕ) → met_in found content ≡ Other → found ≡ None → ⊥
other-in None content other none = absurd (cc)
other-in (Some message) content other none = absurd (cc)

-- Of one made id more than there are live messages, not all are those of messages.
pub one-left : (index : Index) (name text : List ℕ) (i : ℕ) → length index.owners.entries < i → i < 2 ^ 64 → TakenBelow index name text i → ⊥
one-left index name text i over small taken =
    one-free index.owners (made_id name text) i over (λ j k b d same. made-once name text j k (omega (arith, b, small)) (omega (arith, d, small)) same)
    (λ j l none. other-in (owner_in index.owners (made_id name text j)) (content_id_of text) (taken j l) none)

pub taken-more : (index : Index) (name text : List ℕ) (i : ℕ) → TakenBelow index name text i → asked index name text i ≡ Other → TakenBelow index name text (i + 1)
taken-more index name text i taken other = λ j l. below_or_at j i (λ k. asked index name text k ≡ Other) taken other (omega (arith, l))

module _ (config : Config) (index : Index) (text : List ℕ) where
  meets_known : (a : Archive) (i : ℕ) (m : Meeting) → IsKnownBy config index a.next a → asked index config.name text i ≡ m → meets a text i ≡ m
  meets_known a i m known is =
      let name : config.name ≡ a.config.name = sym (ap (λ (c : Config). c.name) known.config_is) in
      let id = made_id a.config.name text i in
      sym (met_known (owner_in index.owners id) (owner (live a.entries) id) (content_id_of text) (known.indexed.owners id)) ∙ (ap (λ (n : List ℕ). asked index n text i) (sym name) ∙ is)

  at_most : (l i : ℕ) → (l < i → ⊥) → i ≤ l
  at_most l i no_more = by (nat_lt l i) refl where
    by : (t : Bool) → nat_lt l i ≡ t → i ≤ l
    by true test = absurd (no_more (grind (arith, nat_tests, test)))
    by false test = grind (arith, nat_tests, test)

  -- What is skipped is no more than there are live messages.
  within : (a : Archive) (i : ℕ) → i < 2 ^ 64 → Passed a text i → i ≤ length (live a.entries)
  within a i small passed = at_most (length (live a.entries)) i (λ over. not-all-passed a text i over (omega (arith, over, small)) passed)

  pub goes_on : (i : ℕ) → i < 2 ^ 64 → PassedIn config index text i → asked index config.name text i ≡ Other → PassedIn config index text (i + 1)
  goes_on i small passed is a known = passed-more a text i (within a i small (passed a known)) small (passed a known) (meets_known a i Other known is)

  -- What was found is what the made ids decide in each of these archives.
  abbrev pub IsMade : Choice → Type 0
  IsMade found = (a : Archive) → IsKnownBy config index a.next a → found ≡ all_made a text

  pub repeats : (i n : ℕ) → i < 2 ^ 64 → PassedIn config index text i → asked index config.name text i ≡ Same n → IsMade (Repeat n)
  repeats i n small passed is a known = passed-same a text i n (within a i small (passed a known)) small (passed a known) (meets_known a i (Same n) known is)

  pub takes : (i : ℕ) (choice : Choice) (id : List ℕ) → i < 2 ^ 64 → PassedIn config index text i → asked index config.name text i ≡ Free → id ≡ made_id config.name text i
      → choice ≡ Take (id_line id ++ text) → IsMade choice
  takes i choice id small passed is id_is choice_is a known =
      choice_is
      ∙ (ap (λ (q : List ℕ). Take (id_line q ++ text)) id_is
      ∙ (ap (λ (c : Config). Take (with_made c.name text i)) (sym known.config_is) ∙ passed-free a text i (within a i small (passed a known)) (passed a known) (meets_known a i Free known is)))

-- An own id that the index doesn't have is new.
new_by : (index : Index) (text own : List ℕ) → own_id text ≡ Some own → owner_in index.owners own ≡ None → (id : List ℕ) → own_id text ≡ Some id → owner_in index.owners id ≡ None
new_by index text own own_is none id is =
    let same : own ≡ id = (let both : Some own ≡ Some id = sym own_is ∙ is in cc) in
    subst (λ (q : List ℕ). owner_in index.owners q ≡ None) same none

-- A text with a free made id at the front is new.
pub made_new : TakenAreStorage → (index : Index) (name text id : List ℕ) (i : ℕ) (choice : Choice) → IsArchiveName name → IsStored text → i < 2 ^ 64 → asked index name text i ≡ Free → id ≡ made_id name text i
    → choice ≡ Take (id_line id ++ text) → TakesNewText index choice
made_new law index name text id i choice is_name from small free id_is choice_is =
    subst (TakesNewText index) (sym (choice_is ∙ ap (λ (q : List ℕ). Take (id_line q ++ text)) id_is))
    (let new : IsNewText index (with_made name text i) = record {
      storage = (law name from.0 text from.1).1 is_name i small;
      new_id = new_by index (with_made name text i) (made_id name text i) (made-own name text i is_name small) (free_in (owner_in index.owners (made_id name text i)) (content_id_of text) free);
    } in new)

-- A text whose own id is free is new as it is.
pub own_new : TakenAreStorage → (index : Index) (text content : List ℕ) → IsStored text → Free ≡ met_own index.owners (own_id text) content → IsNewText index text
own_new law index text content from free = by (own_id text) refl free where
  by : (own : Option (List ℕ)) → own_id text ≡ own → Free ≡ met_own index.owners own content → IsNewText index text
  by None own free = absurd (let never : Free ≡ Other = free in cc)
  by (Some id) own free = record {
    storage = (law [] from.0 text from.1).0 (subst (λ (o : Option (List ℕ)). IsSome o) (sym own) refl);
    new_id = new_by index text id own (free_in (owner_in index.owners id) content (sym free));
  }

-- How the own id of a text meets an index decides in each archive of that index, before its made ids.
pub own_decides : (a : Archive) (index : Index) (text content : List ℕ) (m : Meeting) → IsArchiveIndex a.config.form a.entries index → content ≡ content_id_of text → m ≡ met_own index.owners (own_id text) content → choice_of a text ≡ decided m text (all_made a text)
own_decides a index text content m indexed content_is = by (own_id text) where
  chooses : Meeting → Choice
  chooses met_so = decided met_so text (all_made a text)

  by : (own : Option (List ℕ)) → m ≡ met_own index.owners own content → choice_from (live a.entries) a.config.name text own ≡ chooses m
  by None is = ap chooses (sym is)
  by (Some id) is = ap chooses (sym (is ∙ met_known (owner_in index.owners id) (owner (live a.entries) id) content (indexed.owners id) ∙ ap (met (owner (live a.entries) id)) content_is))
