-- One more entry is planned, whatever the disk holds.
use Rattle.std.specs.Prelude.{◌≡◌, ◌+◌, ◌≤◌, ℕ, List, [], ◌∷◌, ◌++◌, length, slice_get, slice_set, Option, Some, None, refl}
use Rattle.std.specs.List.{AllByRecursion, AllZip}
use Rattle.std.proofs.Common.{◌∙◌, sym, ap, subst, inl, inr, arith, length-append}
use Rattle.std.proofs.lemmas.List.Elements.{AllZip-push}
use Rattle.std.proofs.lemmas.Option.{same_Some}
use Rattle.arch_base.specs.Ids.{IsObjectId, form_of}
use Rattle.arch_base.specs.declared.ids.Form.{Form}
use Rattle.arch_base.specs.declared.ids.ObjectId.{ObjectId}
use Rattle.disk_model.specs.declared.name.FileName.{FileName}
use Rattle.root_slots.specs.declared.root.Root.{Root}
use Rattle.root_change.specs.Rewriting.{Plan, plan_count}
use Rattle.root_change.proofs.Roots.{equal_or_not}
use Rattle.git_objects.specs.declared.entry_kind.EntryKind.{EntryKind}
use Rattle.git_objects.specs.Objects.{blob_id_of, blob_spelling}
use Rattle.git_objects.specs.Trees.{tree_size}
use Rattle.git_objects.proofs.ObjectIds.{IsObjectId-id_of}
use Rattle.mail_commits.specs.Entries.{commit_id, commit_text, tree_of}
use Rattle.arch_model.proofs.ValidArchives.{all_weaker}
use Rattle.epoch_file.specs.Lying.{tree_end}
use Rattle.epoch_file.proofs.Sizes.{length-tree, tree_by_blob}
use Rattle.store_finding.specs.declared.entries.StoredEntry.{StoredEntry}
use Rattle.store_finding.specs.Damage.{named_length}
use Rattle.store_finding.specs.Extents.{ComesAfter, LieFrom}
use Rattle.store_finding.specs.Files.{epoch_file_of}
use Rattle.store_finding.proofs.Extents.{all_more, lie_more}
use Rattle.convert_planning.specs.Converting.{Conversion, ConvertedOf}
use Rattle.convert_planning.specs.ConvertSteps.{EndsInPlans, IsEpochPlan, StartsPlans, TakenUpTo, TakesText, parent_in}
use Rattle.convert_planning.proofs.Extended.{count_after, extended, starts_after}
use Rattle.convert_planning.proofs.Sets.{count_of_set, item_of_set, set_here, set_other}

-- The id of a commit is one of its form.
commit_valid : (form : Form) (kind_ : EntryKind) (text : List ℕ) (moment : ℕ) (parent : Option ObjectId) → IsObjectId form (commit_id form kind_ text moment parent)
unfolding commit_id
commit_valid form kind_ text moment parent = IsObjectId-id_of form (commit_text form kind_ text moment parent)

-- Before the first entry.
pub taken_none : (root : Root) (form : Form) (p : Conversion) → StartsPlans p.plans → p.entries ≡ [] → p.form ≡ form → TakenUpTo root form 0 [] p
taken_none root form p starts none is = record {
  count = starts.count;
  each = λ x plan here. subst (IsEpochPlan root x) (sym (starts.each x plan here)) (record {
    kind_is = refl;
    number = refl;
    target = refl;
    valid = record { sources = λ i s at. absurd (let wrong : None ≡ Some s = at in cc); short = omega arith };
    from = λ i s at. absurd (let wrong : None ≡ Some s = at in cc);
    ends = λ i s at. absurd (let wrong : None ≡ Some s = at in cc);
  });
  kept = subst (AllZip (ConvertedOf form) []) (sym none) tt;
  lie = subst (LieFrom 0 0) (sym none) tt;
  ends = subst (AllByRecursion (EndsInPlans p.plans 0)) (sym none) tt;
  form_is = is;
}

-- An entry after those that were taken, in an epoch from theirs on.
module _ (root : Root) (form : Form) (epoch : ℕ) (taken : List StoredEntry) (s : StoredEntry) (text : List ℕ) (file : FileName) (p new : Conversion) (up : TakenUpTo root form epoch taken p) (takes : TakesText p file s text new)
    (file_is : file ≡ epoch_file_of root s.epoch) (least : epoch ≤ s.epoch) (ends : tree_end s.seen ≤ named_length root s.epoch) where
  abbrev made : StoredEntry
  made = takes.made

  abbrev after : Plan
  after = takes.after

  abbrev tree : List ℕ
  tree = tree_of p.form s.seen.kind text

  abbrev commit : List ℕ
  commit = commit_text p.form s.seen.kind text s.seen.moment (parent_in p.entries s.epoch)

  form_is : p.form ≡ form
  form_is = up.form_is

  its_count : plan_count after ≡ takes.at + takes.extends.count + length tree + length commit
  its_count =
      let all = count_after p.form file s.seen (tree ++ commit) takes.plan after takes.at takes.extends in
      let both = length-append tree commit in
      omega (arith, all, both)

  its_start : plan_count takes.plan ≤ takes.at
  its_start = starts_after p.form file s.seen (tree ++ commit) takes.plan after takes.at takes.extends

  its_plan : IsEpochPlan root s.epoch after
  its_plan = extended p.form file s.seen (tree ++ commit) takes.plan after takes.at takes.extends root s.epoch (up.each s.epoch takes.plan takes.there) file_is (omega (arith, ends))

  item : (x : ℕ) (plan : Plan) → slice_get new.plans x ≡ Some plan → slice_get (slice_set p.plans s.epoch after) x ≡ Some plan
  item x plan here = ap (λ (l : List Plan). slice_get l x) (sym takes.plans) ∙ here

  converted : ConvertedOf form s made
  converted =
      let of = takes.made_is in
      record {
        number = of.number;
        epoch = of.epoch;
        kind = of.kind;
        size = of.size;
        ids = record {
          blob = subst (IsObjectId form) (sym of.blob_is) (subst (λ (f : Form). IsObjectId f (blob_id_of p.form text)) form_is (IsObjectId-id_of p.form (blob_spelling text)));
          commit = subst (IsObjectId form) (sym of.commit_is)
              (subst (λ (f : Form). IsObjectId f (commit_id p.form s.seen.kind text s.seen.moment (parent_in p.entries s.epoch))) form_is (commit_valid p.form s.seen.kind text s.seen.moment (parent_in p.entries s.epoch)));
        };
        moment = of.moment;
        id = of.id;
        content = of.content;
      }

  after_here : slice_get new.plans s.epoch ≡ Some after
  after_here = ap (λ (l : List Plan). slice_get l s.epoch) takes.plans ∙ set_here p.plans s.epoch takes.plan after takes.there

  -- The plan of an earlier entry of its epoch.
  same_plan : (f : StoredEntry) → EndsInPlans p.plans epoch f → f.epoch ≡ s.epoch → tree_end f.seen ≤ takes.at
  same_plan f so same =
      let plan_is : so.plan ≡ takes.plan = same_Some so.plan takes.plan (sym so.there ∙ (ap (slice_get p.plans) same ∙ takes.there)) in
      let count = ap plan_count plan_is in
      let ends_so = so.ends in
      let start = its_start in
      omega (arith, count, ends_so, start)

  -- The earlier ones end before it.
  comes : (f : StoredEntry) → EndsInPlans p.plans epoch f → ComesAfter f.epoch (tree_end f.seen) made
  comes f so =
      let low = so.low in
      let epoch_is = takes.made_is.epoch in
      let at_is = takes.made_is.at_is in (
        omega (arith, low, least, epoch_is),
        λ same. (let most = same_plan f so (same ∙ epoch_is) in omega (arith, most, at_is)),
      )

  still : (f : StoredEntry) → EndsInPlans p.plans epoch f → EndsInPlans new.plans s.epoch f
  still f so = elim (equal_or_not f.epoch s.epoch) [
    | inl same ↦ record {
      low = omega (arith, same);
      plan = after;
      there = ap (slice_get new.plans) same ∙ after_here;
      ends = (let most = same_plan f so same in let count = its_count in omega (arith, most, count));
    }
    | inr apart ↦ record {
      low = (let low = so.low in omega (arith, low, least));
      plan = so.plan;
      there = ap (λ (l : List Plan). slice_get l f.epoch) takes.plans ∙ (set_other p.plans s.epoch f.epoch after apart ∙ so.there);
      ends = so.ends;
    }
  ]

  its_end : EndsInPlans new.plans s.epoch made
  its_end =
      let of = takes.made_is in
      let epoch_is = of.epoch in
      record {
        low = omega (arith, epoch_is);
        plan = after;
        there = ap (slice_get new.plans) epoch_is ∙ after_here;
        ends =
            let count = its_count in
            let sum = takes.extends.sum in
            let text_at = of.text_at in
            let size = of.size in
            let front = of.front in
            let tree_is = length-tree p.form s.seen.kind text in
            let blob_is : tree_size (form_of made.seen.blob) ≡ tree_size p.form = ap (λ (b : ObjectId). tree_size (form_of b)) of.blob_is ∙ tree_by_blob p.form text in
            omega (arith, count, sum, text_at, size, front, tree_is, blob_is);
      }

  made_text : made.seen.at ≤ made.seen.text_at
  made_text =
      let of = takes.made_is in
      let at = of.at_is in
      let front = of.front in
      let text_at = of.text_at in
      omega (arith, at, front, text_at)

  pub taken_more : TakenUpTo root form s.epoch (taken ++ s ∷ []) new
  taken_more = record {
    count = ap length takes.plans ∙ (count_of_set p.plans s.epoch after ∙ up.count);
    each = λ x plan here. elim (item_of_set p.plans s.epoch x after plan (item x plan here)) [
      | inl is ↦ subst (λ (n : ℕ). IsEpochPlan root n plan) (sym is.0) (subst (IsEpochPlan root s.epoch) (sym is.1) its_plan)
      | inr other ↦ up.each x plan other.1
    ];
    kept = subst (AllZip (ConvertedOf form) (taken ++ s ∷ [])) (sym takes.entries) (AllZip-push (ConvertedOf form) taken p.entries s made up.kept converted);
    lie = subst (LieFrom 0 0) (sym takes.entries) (lie_more 0 0 p.entries made up.lie (omega arith, λ same. omega arith) (all_weaker (EndsInPlans p.plans epoch) (λ (f : StoredEntry). ComesAfter f.epoch (tree_end f.seen) made) p.entries comes up.ends) made_text);
    ends = subst (AllByRecursion (EndsInPlans new.plans s.epoch)) (sym takes.entries) (all_more (EndsInPlans new.plans s.epoch) p.entries made (all_weaker (EndsInPlans p.plans epoch) (EndsInPlans new.plans s.epoch) p.entries still up.ends) its_end);
    form_is = takes.form_is ∙ up.form_is;
  }
