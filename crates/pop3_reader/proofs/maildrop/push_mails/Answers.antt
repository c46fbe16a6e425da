use Rattle.std.proofs.Common.{◌+◌, ◌++◌, ◌∷◌, [], ◌∙◌, sym, ap, rules}
use Rattle.arch_model.specs.Archives.{live}
use Rattle.pop3_reader.specs.declared.maildrop.MailSize.{MailSize}
use Rattle.pop3_reader.proofs.Sizes.{sizes-rest, sizes-none}
use Rattle.pop3_reader.proofs.maildrop.push_mails.Goals as goal

pub loop-next-preserved : goal.loop-next-preserved
loop-next-preserved g c = record {
  so_far = λ a held.
      let before = c.loop-next.invariant.so_far a held in
      let pushed = c.in-Ok.ensures ∙ ap (λ (m : MailSize). c.loop-next.mails ++ m ∷ []) (c.mail_size.ensures a held) in (
        c.in-Some.number + 1,
        c.live_after-next.ensures.number a held,
        sizes-rest a before.0 c.args.range.last c.in-Some.number c.loop-next.mails c.push.new.self _ (sym before.1 ∙ c.in-Some.is) pushed before.2,
      );
  within = search rules;
}

pub returns : goal.returns
returns g c = λ a held.
    let before = c.loop-next.invariant.so_far a held in
    sizes-none a before.0 c.args.range.last c.loop-next.mails _ (sym before.1 ∙ c.in_default.is) before.2
