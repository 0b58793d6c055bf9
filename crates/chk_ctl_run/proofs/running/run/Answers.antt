use Rattle.std.proofs.Common.{map, refl}
use Rattle.chk_site.specs.History.{Every}
use Rattle.chk_site.proofs.Runs.{adds_none}
use Rattle.chk_ctl_line.specs.Asked.{asked}
use Rattle.chk_ctl_line.specs.Commands.{asked_of}
use Rattle.chk_ctl_run.specs.Calls.{IsOfRun}
use Rattle.chk_ctl_run.specs.Runs.{ran, unasked, unread}
use Rattle.chk_ctl_run.proofs.Checked.{no_cause_of, run_cause}
use Rattle.chk_ctl_run.proofs.Passed.{run_own}
use Rattle.chk_ctl_run.proofs.running.run.Goals as goal

pub returns-in-Ok : goal.returns-in-Ok
returns-in-Ok g c = record {
  ran = ran c.in-Ok.ensures.asked c.show.ensures.told;
  own = run_own (asked (map (λ w. w.now) c.args.words.now)) (asked_of c.in-Ok.command)
      c.in-Ok.ensures.asked c.show.ensures.own;
  cause = run_cause (asked (map (λ w. w.now) c.args.words.now)) (asked_of c.in-Ok.command)
      c.in-Ok.ensures.asked _ _ _ c.show.ensures.cause;
}

pub returns-in-Err-Usage : goal.returns-in-Err-Usage
returns-in-Err-Usage g c =
    let none = rw c.in-Err-Usage.field-0-is at c.in-Err-Usage.ensures.asked in
    rw c.usage_of.ensures
    (record {
      ran = unasked none;
      own = adds_none (g.S.Site.told c.args.site.now)
          (Every (IsOfRun (asked (map (λ w. w.now) c.args.words.now)))) (λ history. tt);
      cause = rw none refl;
    })

pub returns-in-Err-NoMemory : goal.returns-in-Err-NoMemory
returns-in-Err-NoMemory g c = record {
  ran = unread;
  own = adds_none (g.S.Site.told c.args.site.now)
      (Every (IsOfRun (asked (map (λ w. w.now) c.args.words.now)))) (λ history. tt);
  cause = no_cause_of (asked (map (λ w. w.now) c.args.words.now))
      (g.S.Site.fault_count c.args.site.now);
}
