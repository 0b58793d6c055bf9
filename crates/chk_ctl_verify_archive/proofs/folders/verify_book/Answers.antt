use Rattle.std.proofs.Common.{ℕ, Err, refl}
use Rattle.chk_site.specs.History.{Every}
use Rattle.chk_site.proofs.Leads.{leads_none}
use Rattle.chk_site.proofs.Runs.{adds_none}
use Rattle.chk_world.specs.JobSteps.{IsOf, ReadsFile}
use Rattle.chk_record_index.specs.Faults.{FailsLast}
use Rattle.chk_record_index.specs.declared.fault.JobFault.TheVariants.{NoMemory}
use Rattle.chk_ctl_verify_archive.proofs.folders.verify_book.Goals as goal

pub returns-in-Err : goal.returns-in-Err
returns-in-Err g c = record {
  raw = λ held settled. leads_none (g.S.Site.told c.args.site.now) (λ history x. tt);
  own = adds_none (g.S.Site.told c.args.site.now) (Every (IsOf ReadsFile)) (λ history. tt);
  only = tt;
  last = adds_none (g.S.Site.told c.args.site.now) (FailsLast {T = ℕ} (Err NoMemory))
      (λ history. tt);
  cause = refl;
}
