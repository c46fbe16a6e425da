use Rattle.std.proofs.Common.{◌≤◌, ◌∙◌, is_some, ap, sym, subst, refl, arith}
use Rattle.std.proofs.lemmas.Result.{on_ok_weaker}
use Rattle.git_objects.specs.declared.entry_kind.EntryKind.{EntryKind}
use Rattle.git_objects.specs.declared.entry_kind.EntryKind.TheVariants.{Message}
use Rattle.arch_model.specs.Archives.{Archive, Entry}
use Rattle.mail_commits.specs.Ids.{text_ids_of}
use Rattle.mem_archive.specs.Memory.{entry_of, appended_as, numbered_to, IsNumberedAfter}
use Rattle.mem_archive.specs.declared.kept.End.{End}
use Rattle.mem_archive.proofs.Appending.{not-later, end-again, again-message, again-deletion, appends-same}
use Rattle.mem_archive.proofs.memory.MemArchive.append_again.Goals as goal

pub in_epoch-begin-requires : goal.in_epoch-begin-requires
in_epoch-begin-requires c = not-later c.self.inside.config c.self.inside.kept.items c.self.inside.places.items c.self.inside.index c.self.inside.end c.args.self.now (entry_of c.args.kept.now) c.self.view_is c.self.invariant.0 c.requires

pub unwrap-commit-requires : goal.unwrap-commit-requires
unwrap-commit-requires c = ap (λ (e : End). is_some e.parent) c.in_ok-end.ensures

pub number_to_next-requires : goal.number_to_next-requires
number_to_next-requires c =
    let numbered : IsNumberedAfter Message c.args.self.now (entry_of c.args.kept.now) = subst (λ (k : EntryKind). IsNumberedAfter k c.args.self.now (entry_of c.args.kept.now)) c.in-Message.is c.requires.numbered in
    let most : c.args.kept.now.number ≤ c.args.self.now.config.max = numbered.1 in
    omega (arith, most)

pub append_message-requires : goal.append_message-requires
append_message-requires c =
    let again = again-message c.args.self.now (entry_of c.args.kept.now) c.unwrap-commit.result c.in_ok-end.end c.in-Message.is c.requires (end-again c.self.inside.config c.self.inside.kept.items c.self.inside.places.items c.self.inside.index c.self.inside.end c.args.self.now (entry_of c.args.kept.now) c.in_epoch-begin.result c.in_ok-end.end c.as_slice.result.now c.unwrap-commit.result c.self.view_is c.self.invariant.0 c.requires c.in_epoch-begin.ensures c.in_ok-end.ensures c.as_slice.ensures c.unwrap-commit.ensures) in
    let now = appends-same (numbered_to c.args.self.now c.args.kept.now.number) c.number_to_next.new.self (entry_of c.args.kept.now) (entry_of c.in_ok-entry.entry) c.unwrap-commit.result c.in_ok-entry.entry.commit c.in_ok-end.end (appended_as c.args.self.now (entry_of c.args.kept.now)) c.in_ok-number_to_next-in-Message.ensures.ok c.in_ok-entry.ensures.entry c.in_ok-entry.ensures.commit again.0 in
    let ids =
    c.text_ids-ids.ensures
    ∙ ap (text_ids_of c.self.inside.config.form) (c.as_slice.ensures ∙ sym (ap (λ (e : Entry). e.text) c.in_ok-entry.ensures.entry))
    ∙ ap (λ (a : Archive). text_ids_of a.config.form c.in_ok-entry.entry.text) (c.self.view_is)
    ∙ sym (ap (λ (a : Archive). text_ids_of a.config.form c.in_ok-entry.entry.text) c.in_ok-number_to_next-in-Message.ensures.ok) in
    record { ids = ids; follows = now.follows; number = ap (λ (e : Entry). e.number) c.in_ok-entry.ensures.entry ∙ again.1 ∙ sym (ap (λ (a : Archive). a.next) c.in_ok-number_to_next-in-Message.ensures.ok); ends = now.ends }

pub returns-in_ok-number_to_next-in-Message : goal.returns-in_ok-number_to_next-in-Message
returns-in_ok-number_to_next-in-Message c =
    let again = again-message c.args.self.now (entry_of c.args.kept.now) c.unwrap-commit.result c.in_ok-end.end c.in-Message.is c.requires (end-again c.self.inside.config c.self.inside.kept.items c.self.inside.places.items c.self.inside.index c.self.inside.end c.args.self.now (entry_of c.args.kept.now) c.in_epoch-begin.result c.in_ok-end.end c.as_slice.result.now c.unwrap-commit.result c.self.view_is c.self.invariant.0 c.requires c.in_epoch-begin.ensures c.in_ok-end.ensures c.as_slice.ensures c.unwrap-commit.ensures) in
    let now = appends-same (numbered_to c.args.self.now c.args.kept.now.number) c.number_to_next.new.self (entry_of c.args.kept.now) (entry_of c.in_ok-entry.entry) c.unwrap-commit.result c.in_ok-entry.entry.commit c.in_ok-end.end (appended_as c.args.self.now (entry_of c.args.kept.now)) c.in_ok-number_to_next-in-Message.ensures.ok c.in_ok-entry.ensures.entry c.in_ok-entry.ensures.commit again.0 in
    on_ok_weaker c.append_message.result (λ is. is ∙ now.gives) c.append_message.ensures.ok

pub append_deletion-requires : goal.append_deletion-requires
append_deletion-requires c =
    let now = appends-same c.args.self.now c.args.self.now (entry_of c.args.kept.now) (entry_of c.in_ok-entry.entry) c.unwrap-commit.result c.in_ok-entry.entry.commit c.in_ok-end.end (appended_as c.args.self.now (entry_of c.args.kept.now)) refl c.in_ok-entry.ensures.entry c.in_ok-entry.ensures.commit (again-deletion c.args.self.now (entry_of c.args.kept.now) c.unwrap-commit.result c.in_ok-end.end c.requires (end-again c.self.inside.config c.self.inside.kept.items c.self.inside.places.items c.self.inside.index c.self.inside.end c.args.self.now (entry_of c.args.kept.now) c.in_epoch-begin.result c.in_ok-end.end c.as_slice.result.now c.unwrap-commit.result c.self.view_is c.self.invariant.0 c.requires c.in_epoch-begin.ensures c.in_ok-end.ensures c.as_slice.ensures c.unwrap-commit.ensures)) in
    record { follows = now.follows; kind = ap (λ (e : Entry). e.kind) c.in_ok-entry.ensures.entry ∙ c.in-Deletion.is; ends = now.ends }

pub returns-in-Deletion : goal.returns-in-Deletion
returns-in-Deletion c =
    let now = appends-same c.args.self.now c.args.self.now (entry_of c.args.kept.now) (entry_of c.in_ok-entry.entry) c.unwrap-commit.result c.in_ok-entry.entry.commit c.in_ok-end.end (appended_as c.args.self.now (entry_of c.args.kept.now)) refl c.in_ok-entry.ensures.entry c.in_ok-entry.ensures.commit (again-deletion c.args.self.now (entry_of c.args.kept.now) c.unwrap-commit.result c.in_ok-end.end c.requires (end-again c.self.inside.config c.self.inside.kept.items c.self.inside.places.items c.self.inside.index c.self.inside.end c.args.self.now (entry_of c.args.kept.now) c.in_epoch-begin.result c.in_ok-end.end c.as_slice.result.now c.unwrap-commit.result c.self.view_is c.self.invariant.0 c.requires c.in_epoch-begin.ensures c.in_ok-end.ensures c.as_slice.ensures c.unwrap-commit.ensures)) in
    on_ok_weaker c.append_deletion.result (λ is. is ∙ now.gives) c.append_deletion.ensures.ok
