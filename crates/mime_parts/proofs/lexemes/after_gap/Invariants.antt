use Rattle.std.proofs.Common.{◌≡◌, ◌≤◌, true, drop}
use Rattle.mail_address.specs.Places.{depth_of}
use Rattle.mime_parts.specs.Lexemes.{closed, lexed_from, lexemes_of}
use Rattle.mime_parts.proofs.Lexing.{is_between}
use Rattle.mime_parts.proofs.lexemes.after_gap.Given as goal

abbrev pub invariant-loop-at : goal.invariant-loop-at
invariant-loop-at l = record {
  lexemes : closed (lexed_from l.place (drop l.at l.value)) ≡ lexemes_of l.value;
  crash_between : is_between l.place ≡ true;
  shallow : depth_of l.place ≤ l.at;
}
