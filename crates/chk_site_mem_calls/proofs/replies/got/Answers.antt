use Rattle.std.proofs.Common.{List, ℕ, Option, sym, ◌∙◌, ap}
use Rattle.chk_site.specs.Acts.{deed}
use Rattle.chk_site.specs.Honest.{is_sure}
use Rattle.chk_site.specs.Messages.{Reply}
use Rattle.chk_site_mem_store.proofs.PastLemmas.{past_step}
use Rattle.chk_site_mem_calls.specs.Replies.{noted, older_of, reply_seen, taker_at}
use Rattle.chk_site_mem_calls.proofs.MessageLemmas.{reply_more, taker_more}
use Rattle.chk_site_mem_calls.proofs.replies.got.Goals as goal

pub loop-act-preserved : goal.loop-act-preserved
loop-act-preserved c =
    let i = c.loop-act.act-index in
    let act = c.act-item.result in
    let kept = c.args.keeper.now.kept in
    let m = c.args.message in
    let inv = c.loop-act.invariant in
    let past = past_step kept c.acts-acts.result.now i act c.acts-acts.ensures c.act-item.is c.loop-act-test.true in
    let test = λ (r : Reply). r.done in
    record {
      takers = λ t.
          c.in_ok-note.ensures t
          ∙ ap (noted m t (deed act) act.answer act.who) (inv.takers t)
          ∙ sym (taker_more m t kept i act past);
      sure =
          c.older_sure-sure.ensures
          ∙ ap (λ (f : Option (List ℕ)). older_of is_sure f (reply_seen c.reply_in-reply.result)) inv.sure
          ∙ ap (older_of is_sure _) c.reply_in-reply.ensures
          ∙ sym (reply_more is_sure m kept i act (taker_at c.loop-act.takings) past inv.takers);
      done =
          c.older_done-done.ensures
          ∙ ap (λ (f : Option (List ℕ)). older_of test f (reply_seen c.reply_in-reply.result)) inv.done
          ∙ ap (older_of test _) c.reply_in-reply.ensures
          ∙ sym (reply_more test m kept i act (taker_at c.loop-act.takings) past inv.takers);
    }
