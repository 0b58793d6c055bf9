use Rattle.std.proofs.Common.{Ok, subst, refl}
use Rattle.chk_control.specs.Lines.{meaning_of}
use Rattle.chk_agent.specs.Fits.{IsSound}
use Rattle.chk_agent.proofs.CommandingPlain.{runs_line, plain_told, plain_undamaged, plain_last}
use Rattle.chk_agent.proofs.CommandingPlain.{plain_cause}
use Rattle.chk_agent.proofs.agent.Agent.command.Goals as goal

pub returns-in-Ok : goal.returns-in-Ok
returns-in-Ok g c =
    let s = c.args.self.now in
    let t = c.run.new.self in
    let m = Ok c.in-Ok.command in
    record {
      state = runs_line c.args.line.now m s t c.run.result _ c.in-Ok.ensures.command c.run.ensures;
      told = λ stamped. plain_told m s t c.run.result c.run.ensures stamped
          (subst IsSound c.self.view_is c.self.invariant.sound) _;
      undamaged = plain_undamaged m s t c.run.result c.run.ensures;
      last = plain_last m s t c.run.result c.run.ensures _;
      cause = plain_cause m s t c.run.result c.run.ensures _;
    }

pub returns-in-Err : goal.returns-in-Err
returns-in-Err g c =
    let s = c.args.self.now in
    let m = meaning_of c.args.line.now in
    let ran = c.refuse.ensures m s c.in-Err.ensures.fault in
    record {
      state = runs_line c.args.line.now m s s c.refuse.result _ refl ran;
      told = λ stamped. plain_told m s s c.refuse.result ran stamped
          (subst IsSound c.self.view_is c.self.invariant.sound) _;
      undamaged = plain_undamaged m s s c.refuse.result ran;
      last = plain_last m s s c.refuse.result ran _;
      cause = plain_cause m s s c.refuse.result ran _;
    }
