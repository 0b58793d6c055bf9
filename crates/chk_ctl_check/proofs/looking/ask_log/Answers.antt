use Rattle.std.proofs.Common.{Bool, List, false, refl, subst, sym, true}
use Rattle.std.proofs.lemmas.Result.{IfOk-weaker}
use Rattle.chk_site.specs.declared.suffixes.Piece.{Piece}
use Rattle.chk_site.specs.History.{Every}
use Rattle.chk_site.specs.Site.{answered, piece_given}
use Rattle.chk_site.proofs.Runs.{adds_none}
use Rattle.chk_world.specs.JobSteps.{IsOf}
use Rattle.chk_ctl_check.specs.declared.trouble.Trouble.{Trouble}
use Rattle.chk_ctl_check.specs.Logs.{LogAsked, absent, read}
use Rattle.chk_ctl_check.specs.Looking.{AsksOfLogs, reads}
use Rattle.chk_ctl_check.proofs.OwnCalls.{call_own, count_of, count_same}
use Rattle.chk_ctl_check.proofs.looking.ask_log.Goals as goal

pub returns-then-not-is_there : goal.returns-then-not-is_there
returns-then-not-is_there g c =
    let t = g.S.Site.told c.args.site.now in
    record {
      told = IfOk-weaker c.one.result _ _
          (λ troubles is.
          subst (λ (b : Bool). LogAsked c.args.path.now b troubles.items t t)
          (sym c.if-not-is_there.true)
          (subst (λ (ts : List Trouble). LogAsked c.args.path.now false ts t t) (sym is) absent))
          c.one.ensures;
      own = adds_none t (Every (IsOf AsksOfLogs)) (λ history. tt);
      count = count_same refl;
    }

pub returns : goal.returns
returns g c =
    let t = g.S.Site.told c.args.site.now in
    let u = g.S.Site.told c.log_read-given.new.self in
    record {
      told = IfOk-weaker c.troubles_read.result _ _
          (λ troubles is.
          subst (λ (b : Bool). LogAsked c.args.path.now b troubles.items t u)
          (sym c.if-not-is_there.false)
          (subst (λ (ts : List Trouble). LogAsked c.args.path.now true ts t u) (sym is)
          (read c.log_read-given.result (rw c.requires.job at c.log_read-given.ensures.told))))
          c.troubles_read.ensures;
      own = call_own AsksOfLogs (answered piece_given c.log_read-given.result) c.requires.job
          (reads c.args.path.now _ 0 1) c.log_read-given.ensures.told;
      count = count_of Piece _ _ c.log_read-given.result c.log_read-given.ensures.cause;
    }
