use Rattle.std.proofs.Common.{sym, ◌∙◌, ap}
use Rattle.chk_site.specs.Acts.{deed}
use Rattle.chk_site.specs.Messages.{taken_in}
use Rattle.chk_site_mem_store.proofs.PastLemmas.{past_step}
use Rattle.chk_site_mem_calls.proofs.MessageLemmas.{taken_more}
use Rattle.chk_site_mem_calls.proofs.messages.taken.Goals as goal

pub loop-act-preserved : goal.loop-act-preserved
loop-act-preserved c =
    let i = c.loop-act.act-index in
    let act = c.act-item.result in
    let past = past_step c.args.keeper.now.kept c.acts-acts.result.now i act c.acts-acts.ensures c.act-item.is c.loop-act-test.true in
    c.in_ok-took.ensures
    ∙ ap (taken_in c.args.number (deed act) act.answer act.who) c.loop-act.invariant
    ∙ sym (taken_more c.args.keeper.now.kept i act c.args.number past)
