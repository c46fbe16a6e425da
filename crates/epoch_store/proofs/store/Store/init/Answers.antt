-- What is left while the archive is created, and what is there at the end.
use Rattle.std.proofs.Common.{refl, rules, sym, subst, List, []}
use Rattle.disk_model.specs.Disk.{WhereTold}
use Rattle.arch_model.specs.Archives.{empty_archive}
use Rattle.store_finding.specs.declared.entries.StoredEntry.{StoredEntry}
use Rattle.root_slots.specs.declared.root.Root.{Root}
use Rattle.store_finding.specs.Kept.{IsDiskOf}
use Rattle.epoch_store.specs.Commands.{StoreHasSizes}
use Rattle.epoch_store.proofs.Initial.{making_leaves, makes_only, owns_empty, only_settled, only_rooted, sized_empty}
use Rattle.epoch_store.proofs.store.Store.init.Goals as goal

pub returns-in_err-make : goal.returns-in_err-make
returns-in_err-make g c =
    let content = g.D.Disk.content in
    let disk = c.args.disk.now in
    let d1 = c.no_archive.new.disk in
    let d2 = c.all_names.new.disk in
    let k0 = content disk in
    let k1 = content d1 in
    let k2 = content d2 in
    let k3 = content c.make.new.disk in
    let config = c.args.config.now in
    let root_is = c.first_root-root.ensures.root in
    record {
      made = record {
        crash = making_leaves config c.first_root-root.ensures.name c.requires.config c.first_root-root.result root_is k0 k1 k2 c.in_ok-no_archive.ensures.synced c.all_names.ensures.same c.in_ok-no_archive.ensures.answer
            g.D.Disk disk d1 d2 c.make.new.disk (g.met.D.Disk.reads_fit disk) c.no_archive.ensures.crash c.all_names.ensures.crash c.make.ensures.crash;
        answer = search rules;
        refused = search rules;
        done = search rules;
        settled = search rules;
        sizes = search rules;
        root = search rules;
        slot = search rules;
        none = search rules;
        cause = search rules;
        rooted = search rules;
      };
    }

pub returns : goal.returns
returns g c =
    let content = g.D.Disk.content in
    let disk = c.args.disk.now in
    let d1 = c.no_archive.new.disk in
    let d2 = c.all_names.new.disk in
    let k0 = content disk in
    let k1 = content d1 in
    let k2 = content d2 in
    let k3 = content c.make.new.disk in
    let config = c.args.config.now in
    let root_is = c.first_root-root.ensures.root in
    let only = makes_only config c.first_root-root.result root_is c.as_slice.result.now _ c.as_slice.ensures k1 k2 k3 c.all_names.ensures.same c.in_ok-names.ensures.names c.in_ok-make.ensures.done in
    record {
      made = record {
        crash = making_leaves config c.first_root-root.ensures.name c.requires.config c.first_root-root.result root_is k0 k1 k2 c.in_ok-no_archive.ensures.synced c.all_names.ensures.same c.in_ok-no_archive.ensures.answer
            g.D.Disk disk d1 d2 c.make.new.disk (g.met.D.Disk.reads_fit disk) c.no_archive.ensures.crash c.all_names.ensures.crash c.make.ensures.crash;
        answer = search rules;
        refused = tt;
        done = subst (λ (es : List StoredEntry). WhereTold (IsDiskOf (record { root = c.first_root-root.result; slot = 0; entries = es }) (empty_archive config)) k3) (sym c.new.ensures.items)
            (subst (λ (r : Root). WhereTold (IsDiskOf (record { root = r; slot = 0; entries = [] }) (empty_archive config)) k3) (sym root_is) (owns_empty config k3 c.first_root-root.ensures.name c.requires.config (g.met.D.Disk.reads_fit c.make.new.disk) only));
        settled = only_settled config k3 only;
        sizes = subst (λ (es : List StoredEntry). WhereTold (StoreHasSizes (record { root = c.first_root-root.result; slot = 0; entries = es })) k3) (sym c.new.ensures.items)
            (subst (λ (r : Root). WhereTold (StoreHasSizes (record { root = r; slot = 0; entries = [] })) k3) (sym root_is) (sized_empty config k3 (g.met.D.Disk.reads_fit c.make.new.disk) only));
        root = root_is;
        slot = refl;
        none = c.new.ensures.items;
        cause = search rules;
        rooted = only_rooted config k3 only;
      };
    }
