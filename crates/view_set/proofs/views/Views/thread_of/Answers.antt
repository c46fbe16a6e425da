use Rattle.std.proofs.Common.{◌≡◌, ◌∙◌, ap, sym}
use Rattle.std.proofs.lemmas.Result.{IfOk-weaker}
use Rattle.thread_index.specs.Index.{members_of}
use Rattle.view_set.specs.Threads.{thread_in, keyed}
use Rattle.view_set.specs.Viewed.{Viewed}
use Rattle.view_set.proofs.Keyed.{thread-is}
use Rattle.view_set.proofs.views.Views.thread_of.Goals as goal

pub returns-clause-members : goal.returns-clause-members
returns-clause-members c =
    let threads = c.self.inside.threads.rows in
    IfOk-weaker c.members.result (λ ns. ns ≡ members_of threads c.args.n) (λ ns. ns ≡ thread_in c.args.self.now.rows c.args.n)
    (λ ns is. thread-is c.args.self.now.rows threads c.args.n ns (c.self.invariant.0 (sym c.is_whole.ensures ∙ c.if-not-is_whole.false) ∙ ap (λ (v : Viewed). keyed v.rows) c.self.view_is) is) c.members.ensures.members

pub members-requires : goal.members-requires
members-requires c = sym c.is_whole.ensures ∙ c.if-not-is_whole.false
