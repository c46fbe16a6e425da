use Rattle.std.proofs.Common.{◌≡◌, ◌+◌, [], ◌++◌, drop, get_or, false, sym, ap, ◌∙◌, refl, append_assoc, arith}
use Rattle.std.proofs.lemmas.List.{drop_more, drop_all, append-nil}
use Rattle.mail_reader.specs.Stored.{without_end}
use Rattle.mail_reader.specs.Values.{flat_of, unfolded, without_front}
use Rattle.mail_reader.specs.Content.{squeezed}
use Rattle.mail_reader.specs.Hashing.{given_at}
use Rattle.mail_reader.proofs.Trims.{without_end-twice}
use Rattle.mail_reader.proofs.Squeezes.{given_from, given_is, NoEnd}
use Rattle.mail_reader.proofs.Hashes.{HasHashed-none, HasHashed-then, HasHashed-same}
use Rattle.mail_reader.proofs.content.hash_squeezed.Goals as goal

pub loop-byte-init : goal.loop-byte-init
loop-byte-init c = ([], (HasHashed-none c.args.hasher.now, refl))

pub loop-byte-preserved : goal.loop-byte-preserved
loop-byte-preserved c =
    let items = c.trim-byte-items.result.now in
    let i = c.loop-byte.byte-index in
    let byte = get_or items i 0 in
    let given = given_at c.loop-byte.spaced byte in
    let next : given_from c.loop-byte.spaced (drop i items) ≡ given ++ given_from c.hash_spaced-spaced.result (drop (i + 1) items) =
    ap (given_from c.loop-byte.spaced) (drop_more items i 0 c.loop-byte-test.true) ∙ ap (λ t. given ++ given_from t (drop (i + 1) items)) (sym c.hash_spaced-spaced.ensures.waits) in (
      c.loop-byte.invariant.0 ++ given,
      (
        HasHashed-then c.args.hasher.now c.loop-byte.hasher c.hash_spaced-spaced.new.hasher c.loop-byte.invariant.0 given c.loop-byte.invariant.1.0 c.hash_spaced-spaced.ensures.took,
        append_assoc c.loop-byte.invariant.0 given (given_from c.hash_spaced-spaced.result (drop (i + 1) items)) ∙ ap (λ t. c.loop-byte.invariant.0 ++ t) (sym next) ∙ c.loop-byte.invariant.1.1,
      ),
    )

pub returns : goal.returns
unfolding flat_of
returns c =
    let items = c.trim-byte-items.result.now in
    let i = c.loop-byte.byte-index in
    let none : drop i items ≡ [] = drop_all i items (omega arith) in
    let no_end : NoEnd (unfolded items) =
    ap (without_end 32) c.trim-byte-items.ensures ∙ without_end-twice 32 (without_front (unfolded c.args.value.now)) ∙ sym c.trim-byte-items.ensures in
    let is : c.loop-byte.invariant.0 ≡ squeezed (flat_of c.args.value.now) =
    sym (append-nil c.loop-byte.invariant.0) ∙ ap (λ t. c.loop-byte.invariant.0 ++ given_from c.loop-byte.spaced t) (sym none) ∙ c.loop-byte.invariant.1.1
    ∙ given_is items false no_end ∙ ap squeezed c.trim-byte-items.ensures in
    HasHashed-same c.args.hasher.now c.loop-byte.hasher c.loop-byte.invariant.0 _ is c.loop-byte.invariant.1.0
