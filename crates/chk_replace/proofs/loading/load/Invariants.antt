use Rattle.std.proofs.Common.{◌≡◌, ℕ, ◌-◌, ◌^◌, List, [], length, Option, Result}
use Rattle.chk_site.specs.declared.acts.OutsideFault.{OutsideFault}
use Rattle.chk_site.specs.Files.{File}
use Rattle.chk_site.specs.Effect.{IsSmallFile}
use Rattle.chk_site.specs.History.{History, Every}
use Rattle.chk_site.specs.Site.{Adds}
use Rattle.chk_site.specs.Runs.{anyhow, Leads}
use Rattle.chk_replace.specs.Replace.{LeavesFile}
use Rattle.chk_replace.specs.Load.{Has, HasFront, IsLook, ReadInTurn}
use Rattle.chk_replace.proofs.loading.load.Given as goal

abbrev pub invariant-loop-bytes : goal.invariant-loop-bytes
invariant-loop-bytes g l = record {
  whole : (file : Option File) → IsSmallFile file → Adds (g.S.Site.told l.fn.site) (g.S.Site.told l.site)
      (Leads (anyhow (LeavesFile l.name)) (Has l.name file) (HasFront l.name file l.bytes));
  script : (result : Result (Option (List ℕ)) OutsideFault) (new : Option History) → ReadInTurn l.who l.name l.bytes result (g.S.Site.told l.site) new
      → ReadInTurn l.who l.name [] result (g.S.Site.told l.fn.site) new;
  reads : Adds (g.S.Site.told l.fn.site) (g.S.Site.told l.site) (Every (IsLook l.who l.name));
  count : g.S.Site.fault_count l.site ≡ g.S.Site.fault_count l.fn.site;
}

abbrev pub decreases-loop-bytes : goal.decreases-loop-bytes
decreases-loop-bytes g l = 2 ^ 64 - length l.bytes
