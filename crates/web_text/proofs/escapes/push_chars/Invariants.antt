use Rattle.std.proofs.Common.{◌≡◌, ◌++◌, length, take, IsUtf8}
use Rattle.std.specs.Str.Iter.{chars_rest}
use Rattle.web_text.specs.Escapes.{escaped_chars}
use Rattle.web_text.proofs.escapes.push_chars.Given as goal

abbrev pub invariant-loop-c : goal.invariant-loop-c
invariant-loop-c l = record {
  utf8 : IsUtf8 (chars_rest l.c-iterator);
  pushed : l.into ++ escaped_chars (chars_rest l.c-iterator) ≡ l.fn.into ++ escaped_chars l.text;
  kept : take (length l.fn.into) l.into ≡ l.fn.into;
}
