use Rattle.std.proofs.Common.{Err, refl}
use Rattle.chk_site.specs.History.{Every}
use Rattle.chk_site.proofs.Leads.{leads_none}
use Rattle.chk_site.proofs.Runs.{adds_none}
use Rattle.chk_world.specs.JobSteps.{IsOf, ReadsFile}
use Rattle.chk_record_index.specs.declared.fault.JobFault.TheVariants.{NoMemory}
use Rattle.chk_ctl_audit.proofs.audits.audit_rests.Goals as goal

pub returns-in-Err : goal.returns-in-Err
returns-in-Err g c =
    let now = g.S.Site.told c.args.site.now in
    record {
      told = record {
        given = Err NoMemory;
        middle = now;
        summed = λ held settled. leads_none now (λ history x. tt);
        own = adds_none now (Every (IsOf ReadsFile)) (λ history. tt);
        compared = (refl, refl);
      };
      only = tt;
      cause = refl;
    }
