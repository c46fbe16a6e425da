-- The number of an own id in the archive in memory, by its index.
use Rattle.std.specs.Prelude.{◌≡◌, ℕ, Bool, true, false, List, [], ◌∷◌, Option, Some, None, option_map, if◌then◌else◌, refl}
use Rattle.std.proofs.Common.{◌∙◌, sym, ap}
use Rattle.mail_reader.specs.Ids.{own_id}
use Rattle.arch_base.specs.declared.config.Config.{Config}
use Rattle.arch_model.specs.Archives.{Archive, Entry, is_id, owner, live}
use Rattle.arch_model.specs.Listings.{number_of_id}
use Rattle.arch_judge.specs.Indexes.{owner_in, owner_of}
use Rattle.arch_judge.specs.declared.index.Index.{Index}
use Rattle.arch_judge.specs.declared.index.Owner.{Owner}
use Rattle.mem_archive.specs.Memory.{archive_of, entries_of, IsKept}
use Rattle.mem_archive.specs.declared.kept.Kept.{Kept}
use Rattle.mem_archive.specs.declared.kept.KeptPlace.{KeptPlace}
use Rattle.mem_archive.specs.declared.kept.End.{End}

-- The number of an id is that of its owner.
number_step : (t : Bool) (e : Entry) (found : Option Entry) (number : Option ℕ) → number ≡ option_map (λ (f : Entry). f.number) found → (if t then Some e.number else number) ≡ option_map (λ (f : Entry). f.number) (if t then Some e else found)
number_step true e found number is = refl
number_step false e found number is = is

pub number-owner : (es : List Entry) (id : List ℕ) → number_of_id es id ≡ option_map (λ (f : Entry). f.number) (owner es id)
number-owner [] id = refl
number-owner (e ∷ es) id = number_step (is_id id (own_id e.text)) e (owner es id) (number_of_id es id) (number-owner es id)

by_owner : (found : Option Entry) (held : Option Owner) → held ≡ option_map owner_of found → option_map (λ (o : Owner). o.number) held ≡ option_map (λ (f : Entry). f.number) found
by_owner None held is = ap (option_map (λ (o : Owner). o.number)) is
by_owner (Some e) held is = ap (option_map (λ (o : Owner). o.number)) is

module _ (config : Config) (ks : List Kept) (places : List (Option KeptPlace)) (index : Index) (end_ : End) (a : Archive) (is : archive_of config ks places ≡ a) (kept : IsKept config ks places index end_) (id : List ℕ) where
  held : option_map (λ (o : Owner). o.number) (owner_in index.owners id) ≡ number_of_id (live a.entries) id
  held =
      by_owner (owner (live (entries_of ks)) id) (owner_in index.owners id) (kept.indexed.owners id)
      ∙ sym (number-owner (live (entries_of ks)) id)
      ∙ ap (λ (b : Archive). number_of_id (live b.entries) id) is

  pub owned-none : None ≡ owner_in index.owners id → None ≡ number_of_id (live a.entries) id
  owned-none none = ap (option_map (λ (o : Owner). o.number)) none ∙ held

  pub owned-some : (o : Owner) → Some o ≡ owner_in index.owners id → Some o.number ≡ number_of_id (live a.entries) id
  owned-some o some = ap (option_map (λ (p : Owner). p.number)) some ∙ held
