use Rattle.mime_words.proofs.Sextets.{lone-value, lone-symbols}
use Rattle.std.proofs.Common.{◌-◌, length}
use Rattle.mime_words.proofs.symbols.without_lone.Goals as goal

pub returns-then-symbols-eq1-clause-value : goal.returns-then-symbols-eq1-clause-value
returns-then-symbols-eq1-clause-value c = lone-value c.args.symbols.now c.requires c.if-symbols-eq1.true

pub returns-then-symbols-eq1-clause-symbols : goal.returns-then-symbols-eq1-clause-symbols
returns-then-symbols-eq1-clause-symbols c = lone-symbols c.args.symbols.now (length c.args.symbols.now - 1) c.requires
