use Rattle.std.proofs.Common.{List, sym, ap, ◌∙◌}
use Rattle.chk_cmd_output.specs.Printing.{unprinted}
use Rattle.chk_tee.specs.Lent.{lent_teed}
use Rattle.chk_tee_sender.specs.declared.sieve.Mark.{Mark}
use Rattle.chk_cmd_subscribe.specs.declared.Watch.{Watch}
use Rattle.chk_cmd_subscribe.proofs.Printing.{fresh_no}
use Rattle.chk_cmd_subscribe.proofs.message.print_fresh.Goals as goal

pub returns-in-Ok-false-clause-script : goal.returns-in-Ok-false-clause-script
returns-in-Ok-false-clause-script g c =
    let w = c.args.watch.now in
    fresh_no c.args.who.now (lent_teed c.args.teed.now) w _ _ (sym c.in-Ok-false.ensures.fresh ∙ c.in-Ok-false.field-0-test)
    (ap (λ (m : List Mark). let v : Watch = record { sieve = m; printed = w.printed; refused = w.refused } in v) c.in-Ok-false.ensures.ok)

pub returns-in-Err-clause-script : goal.returns-in-Err-clause-script
returns-in-Err-clause-script g c = record { prints = unprinted; sees = tt }
