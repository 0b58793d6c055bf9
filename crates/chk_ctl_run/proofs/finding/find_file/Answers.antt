use Rattle.std.proofs.Common.{Err, Ok}
use Rattle.chk_site.proofs.Leads.{leads_as}
use Rattle.chk_site.proofs.Runs.{adds_as}
use Rattle.std.proofs.Common.{take, drop}
use Rattle.chk_replace.specs.Load.{asks_at}
use Rattle.chk_ctl_run.specs.Finding.{ShowsMissed}
use Rattle.chk_ctl_run.proofs.Found.{missed_so, there_so}
use Rattle.chk_ctl_run.proofs.finding.find_file.Goals as goal

pub returns-in-Ok : goal.returns-in-Ok
returns-in-Ok g c =
    let given = c.in-Ok.given in
    let name = c.args.name.now in
    record {
      told = record {
        quiet = c.in-Ok.ensures.own c.requires.job;
        missed = adds_as (ShowsMissed name (Ok c.is_some.result)) c.in-Ok.ensures.shown
            (λ added history x. missed_so name 0 (asks_at 0) given c.is_some.result
            c.is_some.ensures added history x);
        there = λ file.
            leads_as (λ history x. x)
            (λ history x. there_so (λ bytes. take (asks_at 0) (drop 0 bytes)) file given
            c.is_some.result c.is_some.ensures x.1)
            (c.in-Ok.ensures.raw file);
      };
      cause = c.in-Ok.ensures.cause;
    }

pub returns-in-Err : goal.returns-in-Err
returns-in-Err g c = record {
  told = record {
    quiet = c.in-Err.ensures.own c.requires.job;
    missed = adds_as (ShowsMissed c.args.name.now (Err c.in-Err.fault))
        (c.in-Err.ensures.own c.requires.job)
        (λ added history x. tt);
    there = λ file. leads_as (λ history x. x) (λ history x. tt) (c.in-Err.ensures.raw file);
  };
  cause = c.in-Err.ensures.cause;
}
