-- Private: a command that was read, as it is answered.
use Rattle.std.specs.Prelude.{ℕ}
use Rattle.arch_model.specs.Archives.{Archive}
use Rattle.line_door.specs.Acts.{Departure}
use Rattle.imap_messages.specs.Fetching.{asked_fetch}
use Rattle.imap_messages.specs.Seeking.{asked_search}
use Rattle.imap_states.specs.Replies.{ImapReply, asked_said}
use Rattle.imap_states.specs.declared.state.ImapState.{ImapState}
use Rattle.imap_commands.specs.Replies.{fetch_at, search_at}
use Rattle.imap_commands.specs.Texts.{fetch_texts_at, search_texts_at}
use Rattle.imap_commands.specs.declared.orders.Order.{Order}
use Rattle.imap_commands.specs.declared.orders.Order.TheVariants as order

-- What is said to it, in each way.
abbrev pub order_said : Archive → ImapState → Order → Departure → ImapReply
order_said a s (order.State tag command) way = asked_said a s tag.now command way
order_said a s (order.Fetch command) way = fetch_at a s (asked_fetch command) s.place way
order_said a s (order.Search command) way = search_at a s (asked_search command) s.place way

-- How many texts are read at most.
abbrev pub order_texts : Archive → ImapState → Order → ℕ
order_texts a s (order.State tag command) = 0
order_texts a s (order.Fetch command) = fetch_texts_at a (asked_fetch command) s.place
order_texts a s (order.Search command) = search_texts_at a (asked_search command) s.place
