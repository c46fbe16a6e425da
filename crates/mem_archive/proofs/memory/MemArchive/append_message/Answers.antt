use Rattle.std.proofs.Common.{◌≡◌, ◌∙◌, List, [], ◌∷◌, ◌++◌, length, true, ℕ, Option, Some, IsSome, sym, ap, subst, refl, arith}
use Rattle.git_objects.specs.declared.entry_kind.EntryKind.TheVariants.{Message}
use Rattle.mail_reader.specs.Ids.{own_id}
use Rattle.mail_commits.specs.Ids.{text_ids_of}
use Rattle.arch_model.specs.Archives.{Archive}
use Rattle.arch_judge.specs.declared.index.Owner.{Owner}
use Rattle.mem_archive.specs.declared.kept.Kept.{Kept}
use Rattle.mem_archive.specs.declared.kept.KeptPlace.{KeptPlace}
use Rattle.mem_archive.proofs.Keeping.{keeps, is-message}
use Rattle.mem_archive.proofs.RowsKept.{row-kept, row-left}
use Rattle.mem_archive.proofs.memory.MemArchive.append_message.Goals as goal

pub own_id_bytes-requires : goal.own_id_bytes-requires
own_id_bytes-requires c = subst (λ (t : List ℕ). IsSome (own_id t)) (sym c.as_slice.ensures) c.requires.follows.named

pub invariant_of-self-in-Err : goal.invariant_of-self-in-Err
invariant_of-self-in-Err c =
    let ids : c.args.ids.now ≡ text_ids_of c.self.inside.config.form c.as_slice-2.result.now =
    c.requires.ids ∙ ap (λ (a : Archive). text_ids_of a.config.form c.args.entry.text) (sym c.self.view_is) ∙ ap (text_ids_of c.self.inside.config.form) (sym c.as_slice-2.ensures) in
    row-left c.self.inside.config c.self.inside.kept.items c.self.inside.places.items c.self.inside.index c.self.inside.end c.args.self.now c.self.view_is c.self.invariant.0 c.self.inside.views c.self.invariant.1 c.owner_of-owner.result.number
    (ap (λ (o : Owner). o.number) c.owner_of-owner.ensures) c.as_slice-2.result.now c.args.entry.moment c.add_if_stored.new.views (c.in_ok-add_if_stored.ensures.ok c.self.inside.config.form ids)
    c.reserve-2.new.self.items c.in_ok-reserve-2.ensures.items c.reserve.new.self.items c.in_ok-reserve.ensures.items c.insert.new.self c.in-Err.ensures.err c.take.new.self c.take.ensures

pub invariant_of-self-2 : goal.invariant_of-self-2
invariant_of-self-2 c =
    let ids : c.args.ids.now ≡ text_ids_of c.self.inside.config.form c.as_slice-2.result.now =
    c.requires.ids ∙ ap (λ (a : Archive). text_ids_of a.config.form c.args.entry.text) (sym c.self.view_is) ∙ ap (text_ids_of c.self.inside.config.form) (sym c.as_slice-2.ensures) in
    let count : c.len-index.result ≡ length c.self.inside.kept.items = omega (arith, c.len-index.ensures, c.self.inside.kept.ok) in
    let held : c.push.new.self.items ≡ c.self.inside.kept.items ++ c.args.entry ∷ [] = c.in_ok-push.ensures.items ∙ ap (λ (ks : List Kept). ks ++ c.args.entry ∷ []) c.in_ok-reserve-2.ensures.items in
    let kind : c.args.entry.kind ≡ Message = is-message c.self.inside.config c.self.inside.kept.items c.self.inside.places.items c.self.inside.index c.self.inside.end c.args.self.now c.args.entry c.self.view_is c.self.invariant.0 c.requires.follows c.requires.number in (
      (keeps c.self.inside.config c.self.inside.kept.items c.self.inside.places.items c.self.inside.index c.insert.new.self c.self.inside.end c.args.end c.args.entry c.as_slice.result.now c.args.ids.now c.in_ok-id.id.items
          c.owner_of-owner.result c.len-index.result c.args.self.now c.self.view_is c.self.invariant.0 c.requires.follows c.requires.number c.requires.ends c.in_ok-id.ensures c.as_slice.ensures
          c.owner_of-owner.ensures c.requires.ids count c.in_default.ensures.ok c.push.new.self.items held c.push-2.new.self.items
          (c.in_ok-push-2.ensures.items ∙ ap (λ (ps : List (Option KeptPlace)). ps ++ Some (record { entry = c.len-index.result; live = true }) ∷ []) c.in_ok-reserve.ensures.items)).0,
      row-kept c.self.inside.config c.self.inside.kept.items c.self.inside.places.items c.self.inside.index c.self.inside.end c.args.self.now c.self.view_is c.self.invariant.0 c.self.inside.views c.self.invariant.1 c.owner_of-owner.result.number
          (ap (λ (o : Owner). o.number) c.owner_of-owner.ensures) c.as_slice-2.result.now c.args.entry.moment c.add_if_stored.new.views (c.in_ok-add_if_stored.ensures.ok c.self.inside.config.form ids)
          c.args.entry kind (c.requires.number ∙ sym (ap (λ (o : Owner). o.number) c.owner_of-owner.ensures)) refl c.as_slice-2.ensures c.push.new.self.items held,
    )

pub returns-clause-ok : goal.returns-clause-ok
returns-clause-ok c =
    let count : c.len-index.result ≡ length c.self.inside.kept.items = omega (arith, c.len-index.ensures, c.self.inside.kept.ok) in
    let held : c.push.new.self.items ≡ c.self.inside.kept.items ++ c.args.entry ∷ [] = c.in_ok-push.ensures.items ∙ ap (λ (ks : List Kept). ks ++ c.args.entry ∷ []) c.in_ok-reserve-2.ensures.items in
    (keeps c.self.inside.config c.self.inside.kept.items c.self.inside.places.items c.self.inside.index c.insert.new.self c.self.inside.end c.args.end c.args.entry c.as_slice.result.now c.args.ids.now c.in_ok-id.id.items
    c.owner_of-owner.result c.len-index.result c.args.self.now c.self.view_is c.self.invariant.0 c.requires.follows c.requires.number c.requires.ends c.in_ok-id.ensures c.as_slice.ensures
    c.owner_of-owner.ensures c.requires.ids count c.in_default.ensures.ok c.push.new.self.items held c.push-2.new.self.items
    (c.in_ok-push-2.ensures.items ∙ ap (λ (ps : List (Option KeptPlace)). ps ++ Some (record { entry = c.len-index.result; live = true }) ∷ []) c.in_ok-reserve.ensures.items)).1
