use Rattle.std.proofs.Common.{◌≡◌, ℕ, drop, Ok}
use Rattle.std.specs.Prelude.{IsTrue}
use Rattle.chk_bytes.specs.Stems.{is_count}
use Rattle.chk_site.specs.Runs.{anyhow, Leads}
use Rattle.chk_replace.specs.Replace.{LeavesFile}
use Rattle.chk_join_sources.specs.Copying.{joined_segment}
use Rattle.chk_join.specs.Cleaned.{Pending}
use Rattle.chk_site.specs.Site.{Adds}
use Rattle.chk_world.specs.Books.{Book}
use Rattle.chk_world.proofs.Each.{Each}
use Rattle.chk_join.specs.Names.{IsStray}
use Rattle.chk_join.specs.Working.{Worked, TidiesBy}
use Rattle.chk_join.proofs.tidying.remove_all.Given as goal

abbrev pub invariant-loop-name : goal.invariant-loop-name
invariant-loop-name g l = record {
  works : (b : Book) → Each (IsStray b) l.names
      → Adds (g.S.Site.told l.fn.site) (g.S.Site.told l.site) (Worked {T = Unit {0}} (TidiesBy b) (Ok tt));
  gone : (k : ℕ) → IsTrue (is_count k) → Adds (g.S.Site.told l.fn.site) (g.S.Site.told l.site)
      (Leads (anyhow (LeavesFile (joined_segment k))) (Pending k l.names) (Pending k (drop l.name-index l.names)));
  count : g.S.Site.fault_count l.site ≡ g.S.Site.fault_count l.fn.site;
}
