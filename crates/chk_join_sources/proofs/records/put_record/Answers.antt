use Rattle.std.proofs.Common.{subst}
use Rattle.std.specs.Prelude.{OnOk}
use Rattle.chk_site.specs.Site.{Adds}
use Rattle.chk_site.specs.Runs.{anyhow, Leads}
use Rattle.chk_site.proofs.Leads.{leads_none}
use Rattle.chk_chunk.specs.Lent.{lent_chunk}
use Rattle.chk_world.specs.JobSteps.{SparesFile}
use Rattle.chk_book.specs.Folders.{segment_name}
use Rattle.chk_book.specs.Segmenting.{HoldsSegment}
use Rattle.chk_book.specs.Written.{IsAt, taken, HasTaken}
use Rattle.chk_join_sources.proofs.CopySteps.{goes_on}
use Rattle.chk_join_sources.proofs.Segment.{own_writes}
use Rattle.std.proofs.Common.{ap, sym, ◌∙◌}
use Rattle.chk_chunk.specs.Keys.{chunk_begin}
use Rattle.chk_join_sources.proofs.Standing.{on_ok}
use Rattle.chk_join_sources.proofs.records.put_record.Goals as goal

pub returns-in_default-clause-raw : goal.returns-in_default-clause-raw
returns-in_default-clause-raw g c w at = leads_none (g.S.Site.told c.args.site.now) (λ h x. tt)

pub returns-clause-raw : goal.returns-clause-raw
returns-clause-raw g c w at =
    subst (λ x. Adds (g.S.Site.told c.args.site.now) (g.S.Site.told c.part.new.site)
    (Leads (anyhow (SparesFile (segment_name w.folder w.number))) (HoldsSegment w) (HasTaken c.args.segmenter.now w x c.part.result)))
    c.in-Some.ensures.is (c.part.ensures.raw w at)

pub returns-clause-at : goal.returns-clause-at
returns-clause-at g c w at =
    subst (λ x. OnOk c.part.result (IsAt c.part.new.self (taken c.args.segmenter.now w x))) c.in-Some.ensures.is
    (c.part.ensures.at w at)

pub returns-clause-on : goal.returns-clause-on
returns-clause-on g c =
    goes_on c.args.segmenter.now c.part.new.self (lent_chunk c.in-Some.chunk) c.part.result c.requires.segment c.part.ensures.at
    c.part.ensures.who

pub returns-clause-own : goal.returns-clause-own
returns-clause-own g c =
    own_writes c.args.segmenter.now c.requires.segment (λ w at. c.part.ensures.own w at c.requires.segment.who)

pub returns-clause-copy : goal.returns-clause-copy
returns-clause-copy g c = on_ok c.part.result (ap chunk_begin (sym c.in-Some.ensures.is) ∙ c.in-Some.ensures.begin)
