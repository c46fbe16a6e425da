use Rattle.arch_model.proofs.TakenTexts.{taken_are_storage}
use Rattle.arch_model.proofs.laws.law_of_taken_texts.Goals as goal

pub returns : goal.returns
returns c = taken_are_storage c.stored_once.ensures c.forms_are_short.ensures c.field_in_front.ensures c.id_line_is_kept.ensures
