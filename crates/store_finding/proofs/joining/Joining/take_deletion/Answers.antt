-- A deletion that ends nothing doesn't join.
use Rattle.std.proofs.Common.{◌≡◌, ◌∙◌, inl, inr, sym, refl}
use Rattle.git_objects.specs.declared.entry_kind.EntryKind.TheVariants.{Message, Deletion}
use Rattle.store_finding.proofs.joining.Joining.take_deletion.Goals as goal

pub with_entry-requires : goal.with_entry-requires
with_entry-requires c = λ message. absurd (let wrong : Message ≡ Deletion = sym message ∙ c.requires in cc)

pub returns-in-None : goal.returns-in-None
returns-in-None c = (
  refl,
  λ form rs after all holds number joins. elim joins.1 [
    | inl message ↦ absurd (let wrong : Message ≡ Deletion = sym message.wanted.message ∙ c.requires in cc)
    | inr deletion ↦ c.in-None.ensures form rs after all holds number deletion
  ],
)
