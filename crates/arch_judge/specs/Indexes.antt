-- An index of live messages by their own ids, and of all entries by their blob ids.
use Rattle.std.specs.Prelude.{◌≡◌, ◌≢◌, ℕ, List, Option, Some, None, option_map, if◌then◌else◌}
use Rattle.std.specs.Str.{bytes_eq}
use Rattle.std.specs.Ordering.{nat_cmp}
use Rattle.std.specs.Cmp.Lexicographic.{slice_cmp}
use Rattle.std.specs.BTreeMap.{BTreeMap, get_by}
use Rattle.std.specs.Global.{Vec}
use Rattle.arch_base.specs.Ids.{id_cmp, id_eq}
use Rattle.arch_base.specs.declared.ids.Form.{Form}
use Rattle.arch_base.specs.declared.ids.ObjectId.{ObjectId}
use Rattle.mail_reader.specs.Content.{content_id_of}
use Rattle.arch_model.specs.Archives.{Entry, live, owner, blob_number}
use Rattle.arch_model.specs.declared.choice.Meeting.{Meeting}
use Rattle.arch_model.specs.declared.choice.Meeting.TheVariants.{Free, Same, Other}
use Rattle.arch_judge.specs.declared.index.Index.{Index}
use Rattle.arch_judge.specs.declared.index.Owner.{Owner}

-- What an index holds of an entry under its own id.
abbrev pub owner_of : Entry → Owner
owner_of e = record { number = e.number; content = content_id_of e.text }

-- The value of an id in a map by ids.
abbrev pub owner_in : BTreeMap (Vec ℕ) Owner → List ℕ → Option Owner
owner_in owners id = get_by (λ (k : Vec ℕ). slice_cmp nat_cmp id k.items) owners

-- The value of a blob id in a map by blob ids.
abbrev pub number_in : BTreeMap ObjectId ℕ → ObjectId → Option ℕ
number_in blobs blob = get_by (id_cmp blob) blobs

-- The index has the live entries by their own ids, and by each blob id of a form the number of the
-- first entry that has it, live or not.
pub record IsArchiveIndex (form : Form) (entries : List Entry) (index : Index) : Type 0 where
  pub owners : (id : List ℕ)
      → owner_in index.owners id ≡ option_map owner_of (owner (live entries) id)
  pub blobs : (blob : ObjectId) → number_in index.blobs blob ≡ blob_number form entries blob

-- The first of two options that is Some.
abbrev pub first_found : {X : Type 0} → Option X → Option X → Option X
first_found None other = other
first_found (Some x) other = Some x

-- One id was put into the index, and its blob id, if it wasn't there already.
pub record IndexPuts (old new : Index) (id : List ℕ) (blob : ObjectId) (message : Owner) : Type 0 where
  pub owners : (q : List ℕ)
      → owner_in new.owners q ≡ (if bytes_eq q id then Some message else owner_in old.owners q)
  pub blobs : (q : ObjectId) → number_in new.blobs q ≡ first_found (number_in old.blobs q)
      (if id_eq q blob then Some message.number else None)

-- An id was removed from the index. Blob ids stay.
pub record IndexLoses (old new : Index) (id : List ℕ) : Type 0 where
  pub owners : (q : List ℕ)
      → owner_in new.owners q ≡ (if bytes_eq q id then None else owner_in old.owners q)
  pub blobs : (q : ObjectId) → number_in new.blobs q ≡ number_in old.blobs q

-- A blob id was removed if it was that of a number.
pub record LosesIfOf (old new : Index) (blob : ObjectId) (number : ℕ) : Type 0 where
  pub its : number_in old.blobs blob ≡ Some number → (q : ObjectId)
      → number_in new.blobs q ≡ (if id_eq q blob then None else number_in old.blobs q)
  pub other : number_in old.blobs blob ≢ Some number → (q : ObjectId)
      → number_in new.blobs q ≡ number_in old.blobs q

-- Two indexes have the same content.
pub record HasSame (old new : Index) : Type 0 where
  pub owners : (q : List ℕ) → owner_in new.owners q ≡ owner_in old.owners q
  pub blobs : (q : ObjectId) → number_in new.blobs q ≡ number_in old.blobs q

-- The index has the content from before a message with a new id and a new number was put into it.
abbrev pub TakesBack : Index → Index → List ℕ → ObjectId → ℕ → Type 0
TakesBack put new id blob number = (old : Index) (message : Owner) → IndexPuts old put id blob message
    → message.number ≡ number → owner_in old.owners id ≡ None
    → number_in old.blobs blob ≢ Some number → HasSame old new

-- How a candidate for an id meets the message that has it.
abbrev pub met_owner : Owner → List ℕ → Meeting
met_owner message content = if bytes_eq message.content content then Same message.number else Other

-- How it meets what a map by ids has for it.
abbrev pub met_in : Option Owner → List ℕ → Meeting
met_in None content = Free
met_in (Some message) content = met_owner message content

-- How a text's own id meets it. A text without one goes by its made ids, as one whose own id a message
-- with other content has.
abbrev pub met_own : BTreeMap (Vec ℕ) Owner → Option (List ℕ) → List ℕ → Meeting
met_own owners None content = Other
met_own owners (Some id) content = met_in (owner_in owners id) content
