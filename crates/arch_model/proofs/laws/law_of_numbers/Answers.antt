use Rattle.arch_model.proofs.Following.{follows_with_entry, follows_with_deletion, follows_without_text, numbers_stay, shown_stay}
use Rattle.arch_model.proofs.laws.law_of_numbers.Goals as goal

pub returns-clause-with_entry : goal.returns-clause-with_entry
returns-clause-with_entry c = follows_with_entry

pub returns-clause-with_deletion : goal.returns-clause-with_deletion
returns-clause-with_deletion c = follows_with_deletion

pub returns-clause-without_text : goal.returns-clause-without_text
returns-clause-without_text c = follows_without_text

pub returns-clause-stay : goal.returns-clause-stay
returns-clause-stay c = numbers_stay

pub returns-clause-shown : goal.returns-clause-shown
returns-clause-shown c = shown_stay
