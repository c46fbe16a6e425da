use Rattle.std.proofs.Common.{codes}
use Rattle.peer_replies.specs.Requests.{request_text}
use Rattle.peer_replies.proofs.RequestHeads.{five-pieces}
use Rattle.peer_replies.proofs.request.request_bytes.Goals as goal

pub returns : goal.returns
unfolding request_text
returns c = five-pieces (codes "GET ") c.args.path.now (codes " HTTP/1.1\r\nHost: ") c.args.authority.now (codes "\r\nAccept-Encoding: identity\r\nConnection: keep-alive\r\n\r\n")
    _ _ _ _ _ _ c.new-made.ensures c.in_ok-push_slice.ensures c.in_ok-push_slice-2.ensures c.in_ok-push_slice-3.ensures c.in_ok-push_slice-4.ensures c.in_ok-push_slice-5.ensures
