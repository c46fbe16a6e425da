-- An entry whose text was read was taken.
use Rattle.std.specs.Prelude.{◌≡◌, ℕ, List, [], ◌∷◌, ◌++◌, slice_get, slice_set, Option, Some}
use Rattle.std.proofs.Common.{◌∙◌, ap, subst}
use Rattle.arch_base.specs.declared.ids.ObjectId.{ObjectId}
use Rattle.disk_model.specs.declared.name.FileName.{FileName}
use Rattle.git_objects.specs.Objects.{blob_id_of}
use Rattle.mail_commits.specs.Entries.{commit_id, commit_text, tree_of}
use Rattle.root_change.specs.Rewriting.{Plan}
use Rattle.store_finding.specs.declared.entries.StoredEntry.{StoredEntry}
use Rattle.convert_planning.specs.Converting.{Conversion}
use Rattle.convert_planning.specs.ConvertSteps.{Extends, IsMade, TakesText, parent_in}

pub takes_text : (inside old new : Conversion) (file : FileName) (e : StoredEntry) (text : List ℕ) (plan after : Plan) (tree commit objects : List ℕ) (parent : Option ObjectId) (at : ℕ) (made : StoredEntry) (blob id : ObjectId) → inside ≡ old
    → slice_get inside.plans e.epoch ≡ Some plan → Extends inside.form file e.seen objects plan after at
    → objects ≡ tree ++ commit → tree ≡ tree_of inside.form e.seen.kind text → parent ≡ parent_in inside.entries e.epoch → commit ≡ commit_text inside.form e.seen.kind text e.seen.moment parent
    → IsMade e at blob id made → blob ≡ blob_id_of inside.form text → id ≡ commit_id inside.form e.seen.kind text e.seen.moment parent
    → new ≡ record { plans = slice_set inside.plans e.epoch after; entries = inside.entries ++ made ∷ []; form = inside.form } → TakesText old file e text new
takes_text inside old new file e text plan after tree commit objects parent at made blob id same there ext objects_is tree_is parent_is commit_is made_is blob_is id_is is =
    let last = parent_in inside.entries e.epoch in
    let commit_so : commit ≡ commit_text inside.form e.seen.kind text e.seen.moment last = commit_is ∙ ap (commit_text inside.form e.seen.kind text e.seen.moment) parent_is in
    let id_so : id ≡ commit_id inside.form e.seen.kind text e.seen.moment last = id_is ∙ ap (commit_id inside.form e.seen.kind text e.seen.moment) parent_is in
    subst (λ (o : Conversion). TakesText o file e text new) same (record {
      plan = plan;
      there = there;
      after = after;
      at = at;
      extends = subst (λ (b : List ℕ). Extends inside.form file e.seen b plan after at) (objects_is ∙ (ap (λ (t : List ℕ). t ++ commit) tree_is ∙ ap (λ (c : List ℕ). tree_of inside.form e.seen.kind text ++ c) commit_so)) ext;
      plans = ap (λ (c : Conversion). c.plans) is;
      made = made;
      made_is = subst (λ (i : ObjectId). IsMade e at (blob_id_of inside.form text) i made) id_so (subst (λ (b : ObjectId). IsMade e at b id made) blob_is made_is);
      entries = ap (λ (c : Conversion). c.entries) is;
      form_is = ap (λ (c : Conversion). c.form) is;
    })
