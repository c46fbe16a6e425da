-- What is left while the archive is opened, and what is there then.
use Rattle.std.proofs.Common.{◌-◌, None, inl, inr, refl, arith, rules}
use Rattle.disk_model.specs.Disk.{Files, Image}
use Rattle.disk_model.specs.Moments.{started, joined, weaker}
use Rattle.root_change.specs.Texts.{StandsFor}
use Rattle.root_slots.proofs.OneRoots.{looks_one}
use Rattle.root_slots.specs.Slots.{slot_number}
use Rattle.epoch_store.specs.Opens.{RecoversOfWith, SyncsFirst}
use Rattle.store_finding.specs.Recovery.{RecoversWith}
use Rattle.store_finding.specs.Kept.{StoreState}
use Rattle.store_finding.specs.declared.finding.Found.{Found}
use Rattle.epoch_store.proofs.Readying.{synced_root}
use Rattle.epoch_store.proofs.Reopening.{at_first, in_epochs, found_root, on_synced, opened_kept, opened_sizes, opened_store, opened_texts, opening_stands, opens_found, opens_refused, opens_view, opens_want, opens_well, reading_stands, refused_first, synced_recovers, texts_found}
use Rattle.epoch_store.proofs.store.Store.open.Goals as goal

pub invariant_of-store : goal.invariant_of-store
invariant_of-store g c = (c.in-Ok.ensures.root, in_epochs c.in-Ok.found.entries.items c.in-Ok.ensures.epochs, c.in-Ok.ensures.named)

-- Nothing was found.
pub returns-in-Err-clause-opened : goal.returns-in-Err-clause-opened
returns-in-Err-clause-opened g c =
    let content = g.D.Disk.content in
    let disk = c.args.disk.now in
    let d1 = c.find_synced.new.disk in
    let k0 = content disk in
    let k1 = content d1 in
    record {
      crash = λ may cache all. weaker g.D.Disk disk d1 (Image k0) (RecoversOfWith cache may) c.find_synced.ensures.crash (λ image. at_first cache may k0 image all);
      answer = opens_refused c.in-Err.refusal k0 c.in-Err.ensures.found;
      done = λ a cache reads. tt;
      well = λ a cache reads. opens_well c.law_of_spellings.ensures.differ c.law_of_undamaged_files.ensures.undamaged cache a k0 c.in-Err.refusal reads c.in-Err.ensures.found;
      first = refused_first Found StoreState (SyncsFirst g.D.Disk disk d1) c.in-Err.refusal k0 k1 c.in-Err.ensures.synced
          (λ only. record {
            synced = d1;
            only = only;
            before = c.find_synced.ensures.crash;
            after = λ a cache reads. started g.D.Disk d1 (λ (image : Files). RecoversWith cache image a) (λ image is. synced_recovers cache a k0 k1 image reads only (g.met.D.Disk.only_now d1 image is));
            none = λ none. started g.D.Disk d1 (Image k1) (λ image is. g.met.D.Disk.only_now d1 image is);
          });
      before = inl c.find_synced.ensures.crash;
      settled = tt;
      kept = tt;
      sizes = tt;
      cause = search rules;
      crash_root = record { slot = 0; in_range = omega arith; other = tt; crash = looks_one g.D.Disk 0 None disk d1 c.find_synced.ensures.crash };
    }

-- The disk was settled.
pub returns-in-Ok-settle-clause-opened : goal.returns-in-Ok-settle-clause-opened
returns-in-Ok-settle-clause-opened g c =
    let content = g.D.Disk.content in
    let disk = c.args.disk.now in
    let d1 = c.find_synced.new.disk in
    let k0 = content disk in
    let k1 = content d1 in
    let k2 = content c.settle.new.disk in
    let found = c.in-Ok.found in
    let first : SyncsFirst g.D.Disk disk c.settle.new.disk = record {
      synced = d1;
      only = c.in-Ok.ensures.synced;
      before = c.find_synced.ensures.crash;
      after = λ a cache reads.
          let so = reading_stands c.law_of_spellings.ensures.differ found cache a k0 k1 c.in-Ok.ensures.found reads c.in-Ok.ensures.synced in
          weaker g.D.Disk d1 c.settle.new.disk (StandsFor found.root (texts_found found cache a)) (λ (image : Files). RecoversWith cache image a) (c.settle.ensures.crash (texts_found found cache a) so.0) so.1;
      none = λ none. absurd (opens_found found k0 c.in-Ok.ensures.found none);
    } in
    record {
      crash = λ may cache all.
          let so = opening_stands c.law_of_spellings.ensures.differ cache may found k0 k1 (g.met.D.Disk.reads_fit disk) c.in-Ok.ensures.found all c.in-Ok.ensures.synced in
          joined g.D.Disk disk d1 c.settle.new.disk (Image k0) (StandsFor found.root (texts_found found cache so.0)) (RecoversOfWith cache may) c.find_synced.ensures.crash (c.settle.ensures.crash (texts_found found cache so.0) so.1) (λ image. at_first cache may k0 image all) so.2;
      answer = opens_view found k0 c.in-Ok.ensures.found;
      done = λ a cache reads. opened_store c.law_of_spellings.ensures.differ c.law_of_recovery.ensures.one c.law_of_opening.ensures.recovers found cache a k0 k1 k2 c.in-Ok.ensures.found reads c.in-Ok.ensures.synced c.in-Ok-settle.ensures.done;
      well = λ a cache reads. tt;
      first = first;
      before = inr first;
      settled = c.in-Ok-settle.ensures.settled;
      kept = opened_kept found.root (slot_number found.slot) k0 k1 k2 c.in-Ok.ensures.synced c.in-Ok-settle.ensures.kept;
      sizes = opened_sizes found k0 k1 k2 c.in-Ok.ensures.found c.in-Ok.ensures.synced c.in-Ok-settle.ensures.kept;
      cause = search rules;
      crash_root = record {
        slot = 1 - slot_number found.slot;
        in_range = omega arith;
        other = refl;
        crash = synced_root g.D.Disk (1 - slot_number found.slot) None disk d1 c.settle.new.disk (omega arith) (g.met.D.Disk.reads_fit disk) c.in-Ok.ensures.synced c.find_synced.ensures.crash (c.settle.ensures.crash_root (found_root found k0 k1 c.in-Ok.ensures.found c.in-Ok.ensures.synced));
      };
    }

-- It couldn't be settled.
pub returns-in-Err-settle-clause-opened : goal.returns-in-Err-settle-clause-opened
returns-in-Err-settle-clause-opened g c =
    let content = g.D.Disk.content in
    let disk = c.args.disk.now in
    let d1 = c.find_synced.new.disk in
    let k0 = content disk in
    let k1 = content d1 in
    let k2 = content c.settle.new.disk in
    let found = c.in-Ok.found in
    let first : SyncsFirst g.D.Disk disk c.settle.new.disk = record {
      synced = d1;
      only = c.in-Ok.ensures.synced;
      before = c.find_synced.ensures.crash;
      after = λ a cache reads.
          let so = reading_stands c.law_of_spellings.ensures.differ found cache a k0 k1 c.in-Ok.ensures.found reads c.in-Ok.ensures.synced in
          weaker g.D.Disk d1 c.settle.new.disk (StandsFor found.root (texts_found found cache a)) (λ (image : Files). RecoversWith cache image a) (c.settle.ensures.crash (texts_found found cache a) so.0) so.1;
      none = λ none. absurd (opens_found found k0 c.in-Ok.ensures.found none);
    } in
    record {
      crash = λ may cache all.
          let so = opening_stands c.law_of_spellings.ensures.differ cache may found k0 k1 (g.met.D.Disk.reads_fit disk) c.in-Ok.ensures.found all c.in-Ok.ensures.synced in
          joined g.D.Disk disk d1 c.settle.new.disk (Image k0) (StandsFor found.root (texts_found found cache so.0)) (RecoversOfWith cache may) c.find_synced.ensures.crash (c.settle.ensures.crash (texts_found found cache so.0) so.1) (λ image. at_first cache may k0 image all) so.2;
      answer = opens_want c.in-Err-settle.refusal k0 c.in-Err-settle.ensures.well;
      done = λ a cache reads. tt;
      well = λ a cache reads. c.in-Err-settle.ensures.well;
      first = on_synced StoreState (SyncsFirst g.D.Disk disk c.settle.new.disk) c.in-Err-settle.refusal first;
      before = inr first;
      settled = tt;
      kept = tt;
      sizes = tt;
      cause = search rules;
      crash_root = record {
        slot = 1 - slot_number found.slot;
        in_range = omega arith;
        other = tt;
        crash = synced_root g.D.Disk (1 - slot_number found.slot) None disk d1 c.settle.new.disk (omega arith) (g.met.D.Disk.reads_fit disk) c.in-Ok.ensures.synced c.find_synced.ensures.crash (c.settle.ensures.crash_root (found_root found k0 k1 c.in-Ok.ensures.found c.in-Ok.ensures.synced));
      };
    }

pub returns-in-Ok-settle-clause-texts : goal.returns-in-Ok-settle-clause-texts
returns-in-Ok-settle-clause-texts g c =
    opened_texts c.in-Ok.found (g.D.Disk.content c.args.disk.now) (g.D.Disk.content c.find_synced.new.disk) (g.D.Disk.content c.settle.new.disk) c.in-Ok.ensures.found c.in-Ok.ensures.synced c.in-Ok-settle.ensures.kept
