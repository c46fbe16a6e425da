use Rattle.imap_syntax.proofs.NestedKeys.{key_read, key_spelled, key_one}
use Rattle.imap_syntax.proofs.laws.keys_are_read.Goals as goal

pub returns : goal.returns
returns c = record {
  read = λ depth octets t rest s. key_read depth t octets rest s.begins s.depth_fits;
  spelled = key_spelled;
  one = key_one;
}
