use Rattle.std.proofs.Common.{◌<◌, length, arith}
use Rattle.std.proofs.lemmas.Bool.Decides.{nat_tests}
use Rattle.git_objects.proofs.Cleaning.{clean-by_bytes}
use Rattle.git_samples.proofs.is_clean.Goals as goal

pub returns : goal.returns
returns c =
    let some : 0 < length c.args.text.now = grind (arith, nat_tests) in
    (clean-by_bytes c.args.text.now c.are_clean_bytes.result some c.if-text-eq32.false c.if-text-eq32-2.false c.are_clean_bytes.ensures).0
