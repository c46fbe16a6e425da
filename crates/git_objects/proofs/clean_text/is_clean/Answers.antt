use Rattle.std.proofs.Common.{◌<◌, length, arith}
use Rattle.std.proofs.lemmas.Bool.Decides.{nat_tests}
use Rattle.git_objects.proofs.Cleaning.{unclean-first, unclean-last, clean-by_bytes}
use Rattle.git_objects.proofs.clean_text.is_clean.Goals as goal

pub returns-then-text-eq32 : goal.returns-then-text-eq32
returns-then-text-eq32 c =
    let some : 0 < length c.args.text.now = grind (arith, nat_tests) in
    unclean-first c.args.text.now some c.if-text-eq32.true

pub returns-then-text-eq32-2 : goal.returns-then-text-eq32-2
returns-then-text-eq32-2 c =
    let some : 0 < length c.args.text.now = grind (arith, nat_tests) in
    unclean-last c.args.text.now some c.if-text-eq32-2.true

pub returns : goal.returns
returns c =
    let some : 0 < length c.args.text.now = grind (arith, nat_tests) in
    clean-by_bytes c.args.text.now c.are_clean_bytes.result some c.if-text-eq32.false c.if-text-eq32-2.false c.are_clean_bytes.ensures
