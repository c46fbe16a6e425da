-- Where entries lie in a file that is walked, and in one that is written anew.
use Rattle.std.specs.Prelude.{◌≡◌, ◌+◌, ◌≤◌, ℕ, List, [], ◌∷◌, ◌++◌, length, true, false, Option, Some, None, is_some, refl}
use Rattle.std.proofs.Common.{◌∙◌, sym, ap, subst, arith}
use Rattle.arch_base.specs.declared.ids.Form.{Form}
use Rattle.arch_base.specs.declared.ids.ObjectId.{ObjectId}
use Rattle.arch_base.specs.Ids.{form_of}
use Rattle.git_objects.specs.Trees.{tree_size}
use Rattle.root_change.specs.Rewriting.{Plan, no_plan, plan_count, with_bytes, with_range}
use Rattle.root_change.specs.declared.sources.Source.TheVariants.{Bytes, Range}
use Rattle.root_change.specs.declared.plan.Target.TheVariants.{Anew}
use Rattle.root_change.proofs.Pushes.{count_with_bytes, count_with_range, each_more}
use Rattle.disk_model.specs.declared.name.FileName.{FileName}
use Rattle.disk_model.specs.declared.name.FileKind.TheVariants.{Epoch}
use Rattle.epoch_file.specs.declared.entry.Seen.{Seen}
use Rattle.epoch_file.specs.Entries.{EpochEntry, bytes_after}
use Rattle.epoch_file.specs.Lying.{EntryLiesIn, LieIn, tree_end}
use Rattle.epoch_file.specs.Planning.{CopiesEntry, EndUpTo, FinishesIn, IsMoved, IsPlannedIn, SourceEndsBy, KeepsIn, LeftOutIn, Planned, PlannedBy, reach_by}
use Rattle.epoch_file.specs.Reading.{IsEntryRead}
use Rattle.epoch_file.specs.Walking.{seen_at}
use Rattle.epoch_file.proofs.Planned.{first_plan, none_there}
use Rattle.epoch_file.proofs.Sizes.{length-entry, tree_by_blob}

-- One more entry, after those before.
pub lie_more : (from mid to : ℕ) (ss : List Seen) (s : Seen) → from ≤ mid → mid ≤ to → LieIn from mid ss → EntryLiesIn mid to s → LieIn from to (ss ++ s ∷ [])
lie_more from mid to [] s least most lie lies = (record { at = (let at = lies.at in omega (arith, at, least)); text = lies.text; ends = lies.ends }, tt)
lie_more from mid to (t ∷ ss) s least most lie lies = (
  record { at = lie.0.at; text = lie.0.text; ends = (let ends = lie.0.ends in omega (arith, ends, most)) },
  lie_more (tree_end t) mid to ss s lie.0.ends most lie.1 lies,
)

-- An entry that is read lies in its bytes.
entry_lies : (form : Form) (offset : ℕ) (parent : Option ObjectId) (e : EpochEntry) → EntryLiesIn offset (offset + length (bytes_after form parent e)) (seen_at form offset parent e)
entry_lies form offset parent e = record { at = omega arith; text = omega arith; ends = (let size = length-entry form parent e in let tree = tree_by_blob form e.text in omega (arith, size, tree)) }

pub read_lies : (form : Form) (offset : ℕ) (parent : Option ObjectId) (bytes : List ℕ) (found : Seen × ℕ) → IsEntryRead form offset parent bytes found → EntryLiesIn offset (offset + found.1) found.0
read_lies form offset parent bytes found r =
    subst (λ (s : Seen). EntryLiesIn offset (offset + found.1) s) (sym r.seen) (subst (λ (n : ℕ). EntryLiesIn offset (offset + n) (seen_at form offset parent r.entry)) (sym r.size) (entry_lies form offset parent r.entry))

-- The tree of an entry that is recorded at another offset is as long.
tree_moved : (seen : Seen) (at : ℕ) (commit : ObjectId) (made : Seen) → IsMoved seen at commit made → tree_size (form_of made.blob) ≡ tree_size (form_of seen.blob)
tree_moved seen at commit made moved = ap (λ (id : ObjectId). tree_size (form_of id)) moved.blob

-- An entry stays in its place.
pub keeps_in_place : (from most : ℕ) (old new : Planned) (seen made : Seen) → old.changed ≡ None → new.changed ≡ None → IsMoved seen seen.at seen.commit made → EntryLiesIn from most seen → KeepsIn from most old seen new made
keeps_in_place from most old new seen made none still moved lies =
    let at = moved.at_is in
    let text = moved.text_at in
    let size = moved.size in
    let before : reach_by from old.end_ old.changed ≡ from = ap (reach_by from old.end_) none in
    let after : reach_by (tree_end seen) new.end_ new.changed ≡ tree_end seen = ap (reach_by (tree_end seen) new.end_) still in
    let was_at = lies.at in
    let was_text = lies.text in
    let tree = tree_moved seen seen.at seen.commit made moved in
    record {
      planned = subst (PlannedBy most new.end_) (sym still) tt;
      lies = record { at = omega (arith, before, at, was_at); text = omega (arith, at, text, was_text); ends = omega (arith, after, at, text, size, tree) };
    }

-- Plans whose ranges end up to an offset, with one source more.
up_with_bytes : (most : ℕ) (plan : Plan) (bytes : List ℕ) → EndUpTo most plan → EndUpTo most (with_bytes plan bytes)
up_with_bytes most plan bytes up = each_more (SourceEndsBy most) plan.sources (Bytes (length plan.bytes) (length bytes)) up tt

up_with_range : (most : ℕ) (plan : Plan) (file : FileName) (offset count : ℕ) → EndUpTo most plan → offset + count ≤ most → EndUpTo most (with_range plan file offset count)
up_with_range most plan file offset count up ends = each_more (SourceEndsBy most) plan.sources (Range (record { file = file; offset = offset; count = count })) up ends

-- An entry is copied to the new file.
pub keeps_copied_in : (from most : ℕ) (old new : Planned) (plan made_plan : Plan) (seen made : Seen) (commit : ObjectId) (bytes : List ℕ) → old.changed ≡ Some plan → new.changed ≡ Some made_plan → new.end_ ≡ plan_count made_plan → CopiesEntry old.file seen bytes plan made_plan
    → IsMoved seen old.end_ commit made → EntryLiesIn from most seen → IsPlannedIn most old → KeepsIn from most old seen new made
keeps_copied_in from most old new plan made_plan seen made commit bytes some now end_is copies moved lies in_ =
    let n : ℕ = copies.0 in
    let count = copies.1 in
    let mid = with_range plan old.file seen.at n in
    let was = subst (PlannedBy most old.end_) some in_ in
    let was_end = was.1 in
    let was_text = lies.text in
    let was_ends = lies.ends in
    let long : plan_count made_plan ≡ plan_count plan + n + length bytes =
    ap plan_count copies.3 ∙ (count_with_bytes mid bytes ∙ ap (λ (m : ℕ). m + length bytes) (count_with_range plan old.file seen.at n)) in
    let up : EndUpTo most made_plan = subst (EndUpTo most) (sym copies.3) (up_with_bytes most mid bytes (up_with_range most plan old.file seen.at n was.0 (omega (arith, count, was_ends)))) in
    let at = moved.at_is in
    let text = moved.text_at in
    let size = moved.size in
    let before : reach_by from old.end_ old.changed ≡ old.end_ = ap (reach_by from old.end_) some in
    let after : reach_by (tree_end seen) new.end_ new.changed ≡ new.end_ = ap (reach_by (tree_end seen) new.end_) now in
    let tree = tree_moved seen old.end_ commit made moved in
    record {
      planned = subst (PlannedBy most new.end_) (sym now) (up, sym end_is);
      lies = record { at = omega (arith, before, at); text = omega (arith, at, text, was_text); ends = omega (arith, after, at, text, size, tree, end_is, long, was_end, count) };
    }

-- An entry is left out: the first one, or after another one.
pub leaves_first_in : (from most : ℕ) (old new : Planned) (seen : Seen) → old.changed ≡ None → new.changed ≡ Some (first_plan old.file seen.at) → new.end_ ≡ seen.at → new.parent ≡ old.parent → EntryLiesIn from most seen → LeftOutIn from most old seen new
leaves_first_in from most old new seen none now end_is parent lies =
    let plan = first_plan old.file seen.at in
    let was_at = lies.at in
    let was_text = lies.text in
    let was_ends = lies.ends in
    let start = no_plan Epoch old.file.number Anew in
    let long : plan_count plan ≡ 0 + seen.at = count_with_range start old.file 0 seen.at in
    let up : EndUpTo most plan = up_with_range most start old.file 0 seen.at (λ i s wrong. absurd (none_there i s wrong)) (omega (arith, was_text, was_ends)) in
    let before : reach_by from old.end_ old.changed ≡ from = ap (reach_by from old.end_) none in
    let after : reach_by (tree_end seen) new.end_ new.changed ≡ new.end_ = ap (reach_by (tree_end seen) new.end_) now in
    record {
      planned = subst (PlannedBy most new.end_) (sym now) (up, omega (arith, long, end_is));
      reach = omega (arith, before, after, end_is, was_at);
      parent = parent;
    }

pub leaves_more_in : (from most : ℕ) (old new : Planned) (plan : Plan) (seen : Seen) → old.changed ≡ Some plan → new ≡ old → IsPlannedIn most old → LeftOutIn from most old seen new
leaves_more_in from most old new plan seen some same in_ =
    let before : reach_by from old.end_ old.changed ≡ old.end_ = ap (reach_by from old.end_) some in
    let after : reach_by (tree_end seen) old.end_ old.changed ≡ old.end_ = ap (reach_by (tree_end seen) old.end_) some in
    subst (LeftOutIn from most old seen) (sym same) (record { planned = in_; reach = omega (arith, before, after); parent = refl })

-- The plan of the whole file.
pub finishes_as : (most : ℕ) (old : Planned) → IsPlannedIn most old → FinishesIn most old old.changed
finishes_as most old in_ = by old.changed in_ where
  by : (changed : Option Plan) → PlannedBy most old.end_ changed → FinishesIn most (record { file = old.file; changed = changed; end_ = old.end_; parent = old.parent; form = old.form }) changed
  by None so = record { ranges = tt; count = λ some from. refl }
  by (Some plan) so = record { ranges = so.0; count = λ some from. so.1 }

pub finishes_empty : (most : ℕ) (old : Planned) → is_some old.parent ≡ false → FinishesIn most old (Some (no_plan Epoch old.file.number Anew))
finishes_empty most old none = record {
  ranges = λ i s wrong. absurd (none_there i s wrong);
  count = λ some from. absurd (let wrong : false ≡ true = sym none ∙ some in cc);
}
