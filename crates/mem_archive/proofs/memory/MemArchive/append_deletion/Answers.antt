use Rattle.std.proofs.Common.{◌∙◌, ℕ, List, [], ◌∷◌, ◌++◌, IsSome, sym, ap, subst}
use Rattle.git_objects.specs.declared.entry_kind.EntryKind.TheVariants.{Deletion}
use Rattle.mail_reader.specs.Ids.{own_id}
use Rattle.arch_model.specs.Archives.{Entry}
use Rattle.mem_archive.specs.Memory.{entries_of}
use Rattle.mem_archive.proofs.Keeping.{ends-kept, ends-live}
use Rattle.mem_archive.proofs.Lines.{entries_of-push, of-kind}
use Rattle.mem_archive.proofs.RowsKept.{views-deletion}
use Rattle.mem_archive.proofs.memory.MemArchive.append_deletion.Goals as goal

pub own_id_bytes-requires : goal.own_id_bytes-requires
own_id_bytes-requires c = subst (λ (t : List ℕ). IsSome (own_id t)) (sym c.as_slice.ensures) c.requires.follows.named

pub overflow_sub-number : goal.overflow_sub-number
overflow_sub-number c = ends-live c.self.inside.config c.self.inside.kept.items c.self.inside.places.items c.self.inside.index c.self.inside.end c.args.self.now c.args.entry c.self.view_is c.self.invariant.0 c.requires.follows c.requires.kind

pub invariant_of-self-2 : goal.invariant_of-self-2
invariant_of-self-2 c = (
  (ends-kept c.self.inside.config c.self.inside.kept.items c.self.inside.places.items c.hide.new.places.items c.self.inside.index c.remove.new.self c.self.inside.end c.args.end c.args.entry c.as_slice.result.now c.in_ok-id.id.items
      c.args.self.now c.self.view_is c.self.invariant.0 c.requires.follows c.requires.kind c.requires.ends c.in_ok-id.ensures c.as_slice.ensures c.as_slice-2.result.now c.as_slice-2.ensures.value c.remove.ensures.lost c.hide.ensures c.push.new.self.items c.in_ok-push.ensures.items).0,
  views-deletion c.self.inside.config.form (entries_of c.self.inside.kept.items) (entries_of c.push.new.self.items) c.args.entry.number c.args.entry.epoch c.args.entry.text c.args.entry.moment c.self.inside.views c.take.new.self
      (ap entries_of c.in_ok-push.ensures.items ∙ entries_of-push c.self.inside.kept.items c.args.entry ∙ ap (λ (e : Entry). entries_of c.self.inside.kept.items ++ e ∷ []) (of-kind c.args.entry Deletion c.requires.kind)) c.self.invariant.0.order c.self.invariant.1 c.take.ensures,
)

pub returns-clause-ok : goal.returns-clause-ok
returns-clause-ok c =
    (ends-kept c.self.inside.config c.self.inside.kept.items c.self.inside.places.items c.hide.new.places.items c.self.inside.index c.remove.new.self c.self.inside.end c.args.end c.args.entry c.as_slice.result.now c.in_ok-id.id.items
    c.args.self.now c.self.view_is c.self.invariant.0 c.requires.follows c.requires.kind c.requires.ends c.in_ok-id.ensures c.as_slice.ensures c.as_slice-2.result.now c.as_slice-2.ensures.value c.remove.ensures.lost c.hide.ensures c.push.new.self.items c.in_ok-push.ensures.items).1
