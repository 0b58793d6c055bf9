use Rattle.std.proofs.Common.{Err, ℕ, subst, ◌∙◌}
use Rattle.chk_site.specs.Site.{OutsideCause}
use Rattle.chk_tee.specs.Lent.{lent_teed}
use Rattle.chk_cmd_subscribe.proofs.Printing.{prints_next, prints_stop, prints_end}
use Rattle.chk_cmd_subscribe.proofs.message.print_chunks.Goals as goal

pub loop-teed-preserved : goal.loop-teed-preserved
loop-teed-preserved g c =
    let l = c.loop-teed in
    record {
      goes_on = prints_next c.args.who.now _ _ _ l.tee c.next.new.self (lent_teed c.in-Some.teed) l.watch c.print_fresh.new.watch _ _
          c.in-Some.ensures.first l.invariant.goes_on c.in-Ok.ensures.script;
      count = c.in-Ok.ensures.cause ∙ l.invariant.count;
    }

pub returns-in-Err-clause-script : goal.returns-in-Err-clause-script
returns-in-Err-clause-script g c =
    let l = c.loop-teed in
    prints_stop c.args.who.now _ _ _ l.tee c.next.new.self (lent_teed c.in-Some.teed) l.watch c.print_fresh.new.watch _ _ c.in-Err.fault
    c.in-Some.ensures.first l.invariant.goes_on c.in-Err.ensures.script

pub returns-in-Err-clause-cause : goal.returns-in-Err-clause-cause
returns-in-Err-clause-cause g c =
    subst (λ (n : ℕ). OutsideCause {T = Unit {0}} n (g.S.Site.fault_count c.print_fresh.new.site) (Err c.in-Err.fault))
    c.loop-teed.invariant.count c.in-Err.ensures.cause

pub returns-clause-script : goal.returns-clause-script
returns-clause-script g c =
    prints_end c.args.who.now _ _ _ c.loop-teed.tee c.loop-teed.watch _ c.in_default.ensures.first c.loop-teed.invariant.goes_on
