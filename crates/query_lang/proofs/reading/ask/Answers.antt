use Rattle.query_lang.proofs.AskLemmas.{asks_days, asks_any}
use Rattle.query_lang.proofs.reading.ask.Goals as goal

pub returns-in-Some-after-3 : goal.returns-in-Some-after-3
returns-in-Some-after-3 c = asks_days c.args.query.now c.args.term.now c.in-Some-after-3.text.now c.ask_days.result c.ask_days.new.asked c.in-Some-after-3.ensures c.ask_days.ensures

pub returns : goal.returns
returns c = asks_any c.args.query.now c.args.term.now c.ask_words-2.result c.ask_words-2.new.asked c.in_default.ensures c.in_default-after.ensures c.in_default-after-2.ensures c.in_default-after-3.ensures c.ask_words-2.ensures.ok c.ask_words-2.ensures.err
