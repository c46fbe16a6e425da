use Rattle.fetch_course.proofs.Asked.{asks_once}
use Rattle.fetch_course.proofs.Followers.{holds_followers}
use Rattle.fetch_course.proofs.Held.{holds_the_list}
use Rattle.fetch_course.proofs.More.{needs_no_more}
use Rattle.fetch_course.proofs.Sources.{holds_only_the_source, holds_the_source}
use Rattle.fetch_course.proofs.laws.law_of_fetches.Goals as goal

pub returns-clause-list : goal.returns-clause-list
returns-clause-list c = holds_the_list

pub returns-clause-follower : goal.returns-clause-follower
returns-clause-follower c = holds_followers c.kept_numbers_follow.ensures

pub returns-clause-no_more : goal.returns-clause-no_more
returns-clause-no_more c = needs_no_more

pub returns-clause-source : goal.returns-clause-source
returns-clause-source c = holds_the_source c.law_of_lists.ensures.back

pub returns-clause-only : goal.returns-clause-only
returns-clause-only c = holds_only_the_source c.law_of_lists.ensures.back

pub returns-clause-once : goal.returns-clause-once
returns-clause-once c = asks_once
