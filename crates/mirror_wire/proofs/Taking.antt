-- What is known of some lines with one more.
use Rattle.std.proofs.Common.{◌⊎◌, inl, inr, ◌≡◌, ◌≢◌, ◌<◌, ◌≤◌, ℕ, Bool, true, false, cond, List, [], ◌∷◌, ◌++◌, Option, Some, None, Result, Ok, Err, OnOk, is_ok, refl, sym, ap, subst, ◌∙◌, arith, append-nil, append_assoc}
use Rattle.std.specs.List.{AllByRecursion}
use Rattle.std.specs.Ordering.{nat_cmp}
use Rattle.std.specs.BTreeMap.{BTreeMap, UpdatesBy}
use Rattle.std.specs.declared.cmp.Ordering.{Ordering}
use Rattle.std.proofs.lemmas.Bool.{cases_eq}
use Rattle.std.proofs.lemmas.Grind.{common_steps}
use Rattle.arch_base.specs.declared.ids.Form.{Form}
use Rattle.arch_base.specs.declared.ids.ObjectId.{ObjectId}
use Rattle.arch_base.specs.Ids.{id_cmp, id_eq}
use Rattle.arch_base.specs.contracts.ids.ObjectIdOrd.TheImpl as order
use Rattle.arch_base.proofs.IdOrder.{derived, is_at-ids, id_eq-Decides}
use Rattle.git_objects.specs.declared.entry_kind.EntryKind.TheVariants.{Message, Deletion}
use Rattle.thread_model.specs.Members.{Among}
use Rattle.arch_model.specs.declared.line.EntryLine.{EntryLine}
use Rattle.arch_model.proofs.ValidArchives.{all_after, all_weaker}
use Rattle.mirror_wire.specs.Rules.{NumberRises, EndsListed, IsNext, MayFollow, EachMayFollow}
use Rattle.mirror_wire.specs.declared.checking.Checked.{Checked}
use Rattle.mirror_wire.specs.Checking.{blob_at, size_at, NamesLive, NamesSize, KnowsNumbers, KnowsEpoch, KnowsSizes, IsChecked, TakesNumber, TakesLine}
use Rattle.mirror_wire.proofs.Among.{all-among, among-before, among-last, among-cases, all-first, all-last}

-- A map with one more value at a key, or without one.
abbrev pub Puts : {K X : Type 0} → K → Option X → (K → Option X) → (K → Option X) → Type 0
Puts {K} {X} k w f g = (q : K) → ((k ≡ q) × (g q ≡ w)) ⊎ ((k ≡ q → ⊥) × (g q ≡ f q))

-- A change of a map by numbers.
pub puts-number : (old new : BTreeMap ℕ ObjectId) (k : ℕ) (w : Option ObjectId) → UpdatesBy nat_cmp (nat_cmp k) old new w → Puts k w (blob_at old) (blob_at new)
puts-number old new k w updates = λ q. by q (cases_eq k q) where
  by : (q : ℕ) → (k ≡ q) ⊎ (k ≡ q → ⊥) → ((k ≡ q) × (blob_at new q ≡ w)) ⊎ ((k ≡ q → ⊥) × (blob_at new q ≡ blob_at old q))
  by q (inl same) = inl (same, subst (λ (n : ℕ). blob_at new n ≡ w) same updates.1)
  by q (inr apart) = inr (apart, updates.2 q (grind (arith, common_steps)))

-- A change of a map by blob ids.
pub puts-id : (old new : BTreeMap ObjectId ℕ) (k : ObjectId) (w : Option ℕ) → UpdatesBy order.ghosts.cmp (order.ghosts.cmp k) old new w → Puts k w (size_at old) (size_at new)
puts-id old new k w updates = λ q. by q (id_eq k q) refl where
  by_order : UpdatesBy id_cmp (id_cmp k) old new w
  by_order = subst (λ (cmp : ObjectId → ObjectId → Ordering). UpdatesBy cmp (cmp k) old new w) derived updates

  by : (q : ObjectId) (t : Bool) → id_eq k q ≡ t → ((k ≡ q) × (size_at new q ≡ w)) ⊎ ((k ≡ q → ⊥) × (size_at new q ≡ size_at old q))
  by q true test = let same = (id_eq-Decides k q).0 test in inl (same, subst (λ (b : ObjectId). size_at new b ≡ w) same by_order.1)
  by q false test = inr (
    λ same. (let yes : id_eq k q ≡ true = (id_eq-Decides k q).1 same in let wrong : true ≡ false = sym yes ∙ test in cc),
    by_order.2 q (is_at-ids k q ∙ test),
  )

-- A line that isn't a deletion doesn't end a number.
not_ended : (l : EntryLine) (n : ℕ) → l.kind ≡ Message → l.kind ≡ Deletion → l.number ≢ n
not_ended l n message deletion = absurd (let wrong : Message ≡ Deletion = sym message ∙ deletion in cc)

-- The live messages with one more message.
module _ (f g : ℕ → Option ObjectId) (lines : List EntryLine) (l : EntryLine) (message : l.kind ≡ Message) (above : AllByRecursion (λ (m : EntryLine). m.number < l.number) lines) (puts : Puts l.number (Some l.blob) f g) where
  message_named : (n : ℕ) (b : ObjectId) → (f n ≡ Some b → NamesLive lines n b) → g n ≡ Some b → NamesLive (lines ++ l ∷ []) n b
  message_named n b old is = by (puts n) where
    by : ((l.number ≡ n) × (g n ≡ Some l.blob)) ⊎ ((l.number ≡ n → ⊥) × (g n ≡ f n)) → NamesLive (lines ++ l ∷ []) n b
    by (inl here) = record {
      message = l;
      there = among-last lines l;
      kind = message;
      number = here.0;
      blob_is = (let both : Some l.blob ≡ Some b = sym here.1 ∙ is in cc);
      live = all_after (λ (m : EntryLine). m.kind ≡ Deletion → m.number ≢ n) lines l
          (all_weaker (λ (m : EntryLine). m.number < l.number) (λ (m : EntryLine). m.kind ≡ Deletion → m.number ≢ n) lines (λ m low deletion same. (let at : l.number ≡ n = here.0 in omega (arith, low, same, at))) above)
          (not_ended l n message);
    }
    by (inr apart) =
        let named = old (sym apart.1 ∙ is) in
        record {
          message = named.message;
          there = among-before lines l named.message named.there;
          kind = named.kind;
          number = named.number;
          blob_is = named.blob_is;
          live = all_after (λ (m : EntryLine). m.kind ≡ Deletion → m.number ≢ n) lines l named.live (not_ended l n message);
        }

  message_kept : (n : ℕ) (b : ObjectId) → (NamesLive lines n b → f n ≡ Some b) → NamesLive (lines ++ l ∷ []) n b → g n ≡ Some b
  message_kept n b old named = by (puts n) (among-cases lines l named.message named.there) where
    by : ((l.number ≡ n) × (g n ≡ Some l.blob)) ⊎ ((l.number ≡ n → ⊥) × (g n ≡ f n)) → Among lines named.message ⊎ (named.message ≡ l) → g n ≡ Some b
    by (inl here) (inl there) = absurd (let low : named.message.number < l.number = all-among (λ (m : EntryLine). m.number < l.number) lines named.message above there in let own : named.message.number ≡ n = named.number in let at : l.number ≡ n = here.0 in omega (arith, low, own, at))
    by (inl here) (inr last) = here.1 ∙ ap Some (sym (ap (λ (m : EntryLine). m.blob) last) ∙ named.blob_is)
    by (inr apart) (inl there) = apart.1 ∙ old (record {
      message = named.message;
      there = there;
      kind = named.kind;
      number = named.number;
      blob_is = named.blob_is;
      live = all-first (λ (m : EntryLine). m.kind ≡ Deletion → m.number ≢ n) lines l named.live;
    })
    by (inr apart) (inr last) = absurd (apart.0 (sym (ap (λ (m : EntryLine). m.number) last) ∙ named.number))

-- The numbers that are known with one more message.
pub knows-message : (number next : ℕ) (live new : BTreeMap ℕ ObjectId) (lines : List EntryLine) (l : EntryLine) → KnowsNumbers number live lines → l.kind ≡ Message → NumberRises next lines l → UpdatesBy nat_cmp (nat_cmp l.number) live new (Some l.blob)
    → KnowsNumbers l.number new (lines ++ l ∷ [])
knows-message number next live new lines l known message rises updates = record {
  above = all_after (λ (m : EntryLine). m.number ≤ l.number) lines l (all_weaker (λ (m : EntryLine). m.number < l.number) (λ (m : EntryLine). m.number ≤ l.number) lines (λ m low. omega (arith, low)) rises.above) (omega arith);
  reached = λ n least all. all-last (λ (m : EntryLine). m.number < n) lines l all;
  names = λ n b.
      let puts = puts-number live new l.number (Some l.blob) updates in (
        message_named (blob_at live) (blob_at new) lines l message rises.above puts n b (known.names n b).0,
        message_kept (blob_at live) (blob_at new) lines l message rises.above puts n b (known.names n b).1,
      );
}

-- The live messages with one more deletion.
module _ (f g : ℕ → Option ObjectId) (lines : List EntryLine) (l : EntryLine) (deletion : l.kind ≡ Deletion) (puts : Puts l.number None f g) where
  deletion_named : (n : ℕ) (b : ObjectId) → (f n ≡ Some b → NamesLive lines n b) → g n ≡ Some b → NamesLive (lines ++ l ∷ []) n b
  deletion_named n b old is = by (puts n) where
    by : ((l.number ≡ n) × (g n ≡ None)) ⊎ ((l.number ≡ n → ⊥) × (g n ≡ f n)) → NamesLive (lines ++ l ∷ []) n b
    by (inl here) = absurd (let wrong : None ≡ Some b = sym here.1 ∙ is in cc)
    by (inr apart) =
        let named = old (sym apart.1 ∙ is) in
        record {
          message = named.message;
          there = among-before lines l named.message named.there;
          kind = named.kind;
          number = named.number;
          blob_is = named.blob_is;
          live = all_after (λ (m : EntryLine). m.kind ≡ Deletion → m.number ≢ n) lines l named.live (λ ends. apart.0);
        }

  deletion_kept : (n : ℕ) (b : ObjectId) → (NamesLive lines n b → f n ≡ Some b) → NamesLive (lines ++ l ∷ []) n b → g n ≡ Some b
  deletion_kept n b old named = by (puts n) (among-cases lines l named.message named.there) where
    ended : l.number ≡ n → ⊥
    ended = all-last (λ (m : EntryLine). m.kind ≡ Deletion → m.number ≢ n) lines l named.live deletion

    by : ((l.number ≡ n) × (g n ≡ None)) ⊎ ((l.number ≡ n → ⊥) × (g n ≡ f n)) → Among lines named.message ⊎ (named.message ≡ l) → g n ≡ Some b
    by (inl here) there = absurd (ended here.0)
    by (inr apart) (inl there) = apart.1 ∙ old (record {
      message = named.message;
      there = there;
      kind = named.kind;
      number = named.number;
      blob_is = named.blob_is;
      live = all-first (λ (m : EntryLine). m.kind ≡ Deletion → m.number ≢ n) lines l named.live;
    })
    by (inr apart) (inr last) = absurd (let wrong : Message ≡ Deletion = sym named.kind ∙ ap (λ (m : EntryLine). m.kind) last ∙ deletion in cc)

-- The numbers that are known with one more deletion.
pub knows-deletion : (number : ℕ) (live new : BTreeMap ℕ ObjectId) (lines : List EntryLine) (l : EntryLine) → KnowsNumbers number live lines → l.kind ≡ Deletion → EndsListed lines l → UpdatesBy nat_cmp (nat_cmp l.number) live new None
    → KnowsNumbers number new (lines ++ l ∷ [])
knows-deletion number live new lines l known deletion ends updates = record {
  above = all_after (λ (m : EntryLine). m.number ≤ number) lines l known.above
      (subst (λ (n : ℕ). n ≤ number) ends.number (all-among (λ (m : EntryLine). m.number ≤ number) lines ends.message known.above ends.there));
  reached = λ n least all. known.reached n least (all-first (λ (m : EntryLine). m.number < n) lines l all);
  names = λ n b.
      let puts = puts-number live new l.number None updates in (
        deletion_named (blob_at live) (blob_at new) lines l deletion puts n b (known.names n b).0,
        deletion_kept (blob_at live) (blob_at new) lines l deletion puts n b (known.names n b).1,
      );
}

-- The sizes that are known with one more line.
module _ (f g : ObjectId → Option ℕ) (lines : List EntryLine) (l : EntryLine) (sizes : AllByRecursion (λ (m : EntryLine). m.blob ≡ l.blob → m.size ≡ l.size) lines) (puts : Puts l.blob (Some l.size) f g) where
  size_named : (b : ObjectId) (s : ℕ) → (f b ≡ Some s → NamesSize lines b s) → g b ≡ Some s → NamesSize (lines ++ l ∷ []) b s
  size_named b s old is = by (puts b) where
    by : ((l.blob ≡ b) × (g b ≡ Some l.size)) ⊎ ((l.blob ≡ b → ⊥) × (g b ≡ f b)) → NamesSize (lines ++ l ∷ []) b s
    by (inl here) = record { line = l; there = among-last lines l; blob_is = here.0; size_is = (let both : Some l.size ≡ Some s = sym here.1 ∙ is in cc) }
    by (inr apart) =
        let named = old (sym apart.1 ∙ is) in
        record { line = named.line; there = among-before lines l named.line named.there; blob_is = named.blob_is; size_is = named.size_is }

  size_kept : (b : ObjectId) (s : ℕ) → (NamesSize lines b s → f b ≡ Some s) → NamesSize (lines ++ l ∷ []) b s → g b ≡ Some s
  size_kept b s old named = by (puts b) (among-cases lines l named.line named.there) where
    by : ((l.blob ≡ b) × (g b ≡ Some l.size)) ⊎ ((l.blob ≡ b → ⊥) × (g b ≡ f b)) → Among lines named.line ⊎ (named.line ≡ l) → g b ≡ Some s
    by (inl here) (inl there) = here.1 ∙ ap Some (sym (all-among (λ (m : EntryLine). m.blob ≡ l.blob → m.size ≡ l.size) lines named.line sizes there (named.blob_is ∙ sym here.0)) ∙ named.size_is)
    by (inl here) (inr last) = here.1 ∙ ap Some (sym (ap (λ (m : EntryLine). m.size) last) ∙ named.size_is)
    by (inr apart) (inl there) = apart.1 ∙ old (record { line = named.line; there = there; blob_is = named.blob_is; size_is = named.size_is })
    by (inr apart) (inr last) = absurd (apart.0 (sym (ap (λ (m : EntryLine). m.blob) last) ∙ named.blob_is))

pub knows-sizes : (old new : BTreeMap ObjectId ℕ) (lines : List EntryLine) (l : EntryLine) → KnowsSizes old lines → AllByRecursion (λ (m : EntryLine). m.blob ≡ l.blob → m.size ≡ l.size) lines → UpdatesBy order.ghosts.cmp (order.ghosts.cmp l.blob) old new (Some l.size)
    → KnowsSizes new (lines ++ l ∷ [])
knows-sizes old new lines l known sizes updates = λ b s.
    let puts = puts-id old new l.blob (Some l.size) updates in (
      size_named (size_at old) (size_at new) lines l sizes puts b s (known b s).0,
      size_kept (size_at old) (size_at new) lines l sizes puts b s (known b s).1,
    )

-- The last epoch with one more line.
pub knows-epoch : (lines : List EntryLine) (l : EntryLine) → AllByRecursion (λ (m : EntryLine). m.epoch ≤ l.epoch) lines → KnowsEpoch l.epoch (lines ++ l ∷ [])
knows-epoch lines l later = record {
  above = all_after (λ (m : EntryLine). m.epoch ≤ l.epoch) lines l later (omega arith);
  reached = λ n all. all-last (λ (m : EntryLine). m.epoch ≤ n) lines l all;
}

-- One more line that may follow.
pub each-push : (form : Form) (next : ℕ) (before ls : List EntryLine) (l : EntryLine) → EachMayFollow form next before ls → MayFollow form next (before ++ ls) l → EachMayFollow form next before (ls ++ l ∷ [])
each-push form next before [] l each one = (subst (λ (b : List EntryLine). MayFollow form next b l) (append-nil before) one, tt)
each-push form next before (m ∷ ms) l each one =
    (each.0, each-push form next (before ++ m ∷ []) ms l each.1 (subst (λ (b : List EntryLine). MayFollow form next b l) (sym (append_assoc before (m ∷ []) ms)) one))

-- A line is taken in, if it could be appended.
pub line-taken : {T E : Type 0} (result : Result T E) (old mid : Checked) (l : EntryLine) (sizes : BTreeMap ObjectId ℕ) (lines : List EntryLine) → IsChecked old → MayFollow old.form old.next old.lines l → TakesNumber old mid l
    → UpdatesBy order.ghosts.cmp (order.ghosts.cmp l.blob) mid.sizes sizes (Some l.size) → lines ≡ cond (is_ok result) (mid.lines ++ l ∷ []) mid.lines
    → (let new : Checked = record { form = mid.form; next = mid.next; lines = lines; number = mid.number; epoch = l.epoch; live = mid.live; sizes = sizes } in OnOk result (TakesLine old new l))
line-taken (Ok t) old mid l sizes lines checked follows taken updates is =
    let all : lines ≡ old.lines ++ l ∷ [] = is ∙ ap (λ (ls : List EntryLine). ls ++ l ∷ []) taken.lines in
    let each : EachMayFollow old.form old.next [] lines = subst (EachMayFollow old.form old.next []) (sym all) (each-push old.form old.next [] old.lines l checked.valid follows) in
    record {
      checked = record {
        next = subst IsNext (sym taken.next) checked.next;
        within = taken.within;
        valid = subst (λ (f : Form). EachMayFollow f mid.next [] lines) (sym taken.form) (subst (λ (n : ℕ). EachMayFollow old.form n [] lines) (sym taken.next) each);
        numbers = subst (KnowsNumbers mid.number mid.live) (sym all) taken.numbers;
        epochs = subst (KnowsEpoch l.epoch) (sym all) (knows-epoch old.lines l follows.later);
        sizes = subst (KnowsSizes sizes) (sym all)
            (knows-sizes old.sizes sizes old.lines l checked.sizes follows.sizes (subst (λ (m : BTreeMap ObjectId ℕ). UpdatesBy order.ghosts.cmp (order.ghosts.cmp l.blob) m sizes (Some l.size)) taken.sizes updates));
      };
      form = taken.form;
      next = taken.next;
      lines = all;
    }
line-taken (Err e) old mid l sizes lines checked follows taken updates is = tt
