-- The plans of epochs that are closed may be carried out.
use Rattle.std.specs.Prelude.{◌≡◌, ◌==◌, ◌&&◌, ℕ, suc, List, [], ◌∷◌, slice_get, Some, None, refl}
use Rattle.std.proofs.Common.{◌∙◌, ap}
use Rattle.disk_model.specs.declared.name.FileKind.{FileKind}
use Rattle.disk_model.specs.declared.name.FileKind.TheVariants as kind
use Rattle.root_slots.specs.declared.root.Root.{Root}
use Rattle.root_change.specs.Rewriting.{Plan, AreApart, plan_of, same_kind}
use Rattle.store_planning.specs.Planning.{ArePlansIn, ClosesLast, IsPlanIn, IsTakenToOffset, Planning}
use Rattle.store_planning.specs.Epochs.{AreEpochsReady}
use Rattle.store_planning.proofs.Finishing.{epoch_anew, isnt_behind, last_in}
use Rattle.store_planning.proofs.Planned.{of_rest}
use Rattle.store_planning.proofs.Taken.{all_shut}

-- None of these plans is that of a map.
no_maps : (plans : List Plan) (n : ℕ) → ((i : ℕ) (p : Plan) → slice_get plans i ≡ Some p → p.kind ≡ kind.Epoch) → plan_of plans kind.Map n ≡ None
no_maps [] n each = refl
no_maps (p ∷ ps) n each = of_rest p ps kind.Map n (ap (λ (k : FileKind). same_kind k kind.Map && (p.number == n)) (each 0 p refl)) ∙ no_maps ps n (λ i q here. each (suc i) q here)

pub epochs_ready : (root : Root) (old mid : Planning) → ArePlansIn root old → IsTakenToOffset root old → ClosesLast old old.current mid → AreApart mid.plans → AreEpochsReady root mid
epochs_ready root old mid are taken closes apart =
    let so = all_shut root old mid are taken closes in
    let in_ : (i : ℕ) (p : Plan) → slice_get mid.plans i ≡ Some p → IsPlanIn root p = last_in root old old.current mid are.each are.current closes in
    record {
      may = record {
        each = λ i p here. (let it = epoch_anew root p (in_ i p here) in record {
          part = it.part;
          valid = it.valid;
          comes = it.from;
          within = so.within i p here;
          room = λ behind. absurd (isnt_behind p.target it.anew behind);
          bytes_only = λ behind. absurd (isnt_behind p.target it.anew behind);
        });
        apart = apart;
      };
      no_map = λ n. no_maps mid.plans n (λ i p here. (in_ i p here).of.kind);
      named = record { lie = so.lie; ends = so.ends };
    }
