-- What is said of a command makes an act.
use Rattle.std.proofs.Common.{◌≡◌, ℕ, true, List, Result, is_ok, inl, inr, sym, subst}
use Rattle.edge_io.specs.declared.sink.SinkFault.{SinkFault}
use Rattle.line_door.specs.Acts.{ConnectionState, Acts, held_if}
use Rattle.line_door.specs.Readers.{as_said, line_reader}
use Rattle.arch_model.specs.Archives.{Archive}
use Rattle.shelf_doors.specs.Ways.{replies}
use Rattle.shelf_doors.proofs.Acting.{acts-said, acts-unread}
use Rattle.nntp_reader.specs.Commands.{Command}
use Rattle.nntp_reader.specs.Notices.{refused_code}
use Rattle.nntp_reader.specs.Replies.{answered, reads_text, in_way}
use Rattle.nntp_reader.specs.Sessions.{SaysOrNot}
use Rattle.nntp_reader.specs.declared.group.Group.{Group}

-- A text was read and words of it were said, or it was said why it was not read.
pub acts-read : (moment : ℕ) (a : Archive) (g after new : Group) (command : Command) (rest words : List ℕ) (i j : ConnectionState) (sent : Result Unit SinkFault) → reads_text a g command ≡ true → answered moment a g command ≡ replies after words → SaysOrNot words after g i sent new j
    → Acts (λ way. as_said rest (in_way moment a g command way)) i (held_if (is_ok sent) (line_reader new rest)) a j
acts-read moment a g after new command rest words i j sent reads is (inl read) =
    subst (λ (x : Group). Acts (λ way. as_said rest (in_way moment a g command way)) i (held_if (is_ok sent) (line_reader x rest)) a j) (sym read.1)
    (acts-said refused_code a g (reads_text a g command) (reads_text a g command) (answered moment a g command) rest i j sent after words is read.0 read.2)
acts-read moment a g after new command rest words i j sent reads is (inr unread) =
    subst (λ (x : Group). Acts (λ way. as_said rest (in_way moment a g command way)) i (held_if (is_ok sent) (line_reader x rest)) a j) (sym unread.0)
    (acts-unread refused_code a g (reads_text a g command) (reads_text a g command) (answered moment a g command) rest i j sent reads reads unread.1)
