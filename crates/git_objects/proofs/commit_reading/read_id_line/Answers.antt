use Rattle.arch_base.specs.Ids.{IsObjectId}
use Rattle.git_objects.specs.Commits.{hex_line}
use Rattle.git_objects.proofs.Composing.{led-either}
use Rattle.git_objects.proofs.commit_reading.read_id_line.Goals as goal

pub returns : goal.returns
returns c = led-either (IsObjectId c.args.form) hex_line c.args.bytes.now c.args.word.now c.in_ok-digits.digits.now c.read_id.result
    (λ f. f.0) (λ f. f.1.now) c.in_ok-digits.ensures c.read_id.ensures
