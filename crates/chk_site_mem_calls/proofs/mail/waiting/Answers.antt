use Rattle.std.proofs.Common.{sym, ◌∙◌, ap}
use Rattle.chk_site_mem_store.proofs.PastLemmas.{past_step}
use Rattle.chk_site_mem_calls.specs.Mail.{with_mail}
use Rattle.chk_site_mem_calls.specs.declared.mail.Mail.{Mail}
use Rattle.chk_site_mem_calls.proofs.MessageLemmas.{waits_more}
use Rattle.chk_site_mem_calls.proofs.mail.waiting.Goals as goal

pub loop-act-preserved : goal.loop-act-preserved
loop-act-preserved c =
    let i = c.loop-act.act-index in
    let act = c.act-item.result in
    let past = past_step c.args.keeper.now.kept c.acts-acts.result.now i act c.acts-acts.ensures c.act-item.is c.loop-act-test.true in
    c.in_ok-deliver.ensures
    ∙ ap (λ (m : Mail). with_mail m c.loop-act.waiting.items) c.mail_in.ensures
    ∙ ap (with_mail _) c.loop-act.invariant
    ∙ sym (waits_more c.args.mailbox c.args.keeper.now.kept i act past)
