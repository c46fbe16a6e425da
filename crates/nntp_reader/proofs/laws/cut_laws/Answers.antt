use Rattle.line_door.specs.Clipped.{longest_line}
use Rattle.line_door.proofs.Reading.{reader-laws}
use Rattle.nntp_reader.specs.Replies.{line_answered, too_long}
use Rattle.nntp_reader.proofs.laws.cut_laws.Goals as goal

pub returns : goal.returns
returns c = λ moment. reader-laws longest_line (line_answered moment) too_long
