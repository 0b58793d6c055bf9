use Rattle.std.proofs.Common.{subst}
use Rattle.std.specs.Prelude.{slice_index_or}
use Rattle.chk_site.specs.Site.{Adds}
use Rattle.chk_site.specs.Runs.{anyhow, Leads}
use Rattle.chk_site.proofs.Leads.{leads_none}
use Rattle.chk_world.specs.JobSteps.{SparesFile}
use Rattle.chk_record_index.specs.Order.{no_head}
use Rattle.chk_record_reader.specs.ReadBack.{CanRead, HasRead, IsHeld}
use Rattle.chk_record_reader.proofs.Fetching.{found_there}
use Rattle.chk_site.proofs.Runs.{adds_none}
use Rattle.chk_record_reader.proofs.reader.RecordReader.fetch_by_head.Goals as goal

pub returns-then-find-clause-raw : goal.returns-then-find-clause-raw
returns-then-find-clause-raw g c = λ most f few small.
    found_there most c.args.name.now f _ c.args.self.now c.find.new.self
    (g.S.Site.told c.args.site.now)
    (subst (λ h. IsHeld h c.args.self.now c.find.new.self) c.requires.head c.if-find.ensures)

pub returns-clause-raw : goal.returns-clause-raw
returns-clause-raw g c = λ most f few small.
    let name = c.args.name.now in
    let h = slice_index_or c.args.heads.now c.args.index no_head in
    subst
    (λ r. Adds (g.S.Site.told c.args.site.now) (g.S.Site.told c.refill.new.site)
    (Leads (anyhow (SparesFile name)) (CanRead most name f h r)
    (HasRead name f h c.refill.new.self c.refill.result)))
    c.if-find.ensures.same (c.refill.ensures.raw most f few small)

pub returns-then-find-clause-stays : goal.returns-then-find-clause-stays
returns-then-find-clause-stays g c = λ other file. leads_none _ (λ h x. x)

pub returns-then-find-clause-shown : goal.returns-then-find-clause-shown
returns-then-find-clause-shown g c = adds_none _ _ (λ history. tt)
