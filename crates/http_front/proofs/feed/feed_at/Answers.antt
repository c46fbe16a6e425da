use Rattle.http_front.specs.Asking.{feed_found}
use Rattle.http_front.proofs.Feeds.{feed-made, finds-refused}
use Rattle.http_front.proofs.feed.feed_at.Goals as goal

pub returns-in-Err-push_mails-clause-found : goal.returns-in-Err-push_mails-clause-found
returns-in-Err-push_mails-clause-found g c = λ a held. finds-refused a (feed_found a c.args.numbers.now) c.in-Err-push_mails.refusal (c.in-Err-push_mails.ensures.entries a held)

pub returns-in-Ok-push_feed_end-clause-found : goal.returns-in-Ok-push_feed_end-clause-found
returns-in-Ok-push_feed_end-clause-found g c = λ a held.
    feed-made a c.args.numbers.now c.new-made.result c.start_feed.new.into c.push_mails.new.into c.push_feed_end.new.into c.new-made.ensures (c.in-Ok.ensures a held) (c.in-Ok-push_mails.ensures.entries a held) c.in-Ok-push_feed_end.ensures.ok
