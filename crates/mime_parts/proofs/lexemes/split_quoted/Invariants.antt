use Rattle.std.proofs.Common.{◌≡◌, take, drop}
use Rattle.mail_address.specs.declared.place.Place.TheVariants.{Quoted}
use Rattle.mime_parts.specs.Lexemes.{lexed_from}
use Rattle.mime_parts.proofs.Lexing.{onto_all, quote_place}
use Rattle.mime_parts.proofs.lexemes.split_quoted.Given as goal

abbrev pub invariant-loop-at : goal.invariant-loop-at
invariant-loop-at l =
    onto_all (take l.at l.bytes) (lexed_from (quote_place l.escaped) (drop l.at l.bytes)) ≡ lexed_from Quoted l.bytes
