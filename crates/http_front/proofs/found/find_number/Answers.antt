use Rattle.std.proofs.Common.{◌∙◌, true, false, length, reverse, refl, ap, arith}
use Rattle.http_front.specs.Asking.{message_found, text_found, thread_found, feed_found}
use Rattle.http_front.specs.Threads.{oldest_first, thread_rows}
use Rattle.http_front.specs.Views.{shown_row, shown_text}
use Rattle.http_front.proofs.Counting.{leaves-whole, leaves-page, message-whole, text-whole}
use Rattle.http_front.proofs.Finding.{finds-page, finds-feed, reads-feed}
use Rattle.http_front.proofs.found.find_number.Goals as goal

pub returns-in-Ok-clause-found : goal.returns-in-Ok-clause-found
returns-in-Ok-clause-found g c = λ a held.
    rw c.in-Thread.is (finds-page a (thread_found a c.args.n (shown_row a c.args.n)) false c.in-Ok.held (c.in-Ok.ensures a held))

pub returns-in-Ok-newest_of-clause-found : goal.returns-in-Ok-newest_of-clause-found
returns-in-Ok-newest_of-clause-found g c = λ a held.
    rw c.in-Feed.is (finds-feed a c.as_slice.result.now _ c.feed_at.result (c.as_slice.ensures ∙ c.in-Ok-newest_of.ensures a held) (c.feed_at.ensures.found a held))

pub returns-in-Ok-newest_of-clause-reads : goal.returns-in-Ok-newest_of-clause-reads
returns-in-Ok-newest_of-clause-reads g c = λ a held.
    rw c.in-Feed.is (reads-feed c.as_slice.result.now (reverse (oldest_first (thread_rows a c.args.n))) _ _ (c.as_slice.ensures ∙ c.in-Ok-newest_of.ensures a held) c.feed_at.ensures.reads)

pub returns-in-Message-clause-left : goal.returns-in-Message-clause-left
returns-in-Message-clause-left g c = λ a held.
    rw c.in-Message.is
    (leaves-whole a (message_found a (shown_row a c.args.n) (shown_text a.entries c.args.n)) true c.message_at.result (message-whole a (shown_row a c.args.n) (shown_text a.entries c.args.n)) (c.message_at.ensures.found a held))

pub returns-in-Text-clause-left : goal.returns-in-Text-clause-left
returns-in-Text-clause-left g c = λ a held.
    rw c.in-Text.is (leaves-whole a (text_found (shown_text a.entries c.args.n)) true c.text_at.result (text-whole (shown_text a.entries c.args.n)) (c.text_at.ensures.found a held))

pub returns-in-Ok-clause-left : goal.returns-in-Ok-clause-left
returns-in-Ok-clause-left g c = λ a held.
    rw c.in-Thread.is (leaves-page a (thread_found a c.args.n (shown_row a c.args.n)) c.in-Ok.held (c.in-Ok.ensures a held))

pub returns-in-Ok-newest_of-clause-left : goal.returns-in-Ok-newest_of-clause-left
returns-in-Ok-newest_of-clause-left g c = λ a held.
    rw c.in-Feed.is (leaves-whole a (feed_found a c.as_slice.result.now) true c.feed_at.result refl (c.feed_at.ensures.found a held))

pub returns-in-Ok-oldest_of-clause-left : goal.returns-in-Ok-oldest_of-clause-left
returns-in-Ok-oldest_of-clause-left g c = λ a held. rw c.in-Mailbox.is (omega (arith, ap length (c.in-Ok-oldest_of.ensures a held)))
