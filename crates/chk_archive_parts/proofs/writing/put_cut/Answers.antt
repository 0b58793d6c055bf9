use Rattle.std.proofs.Common.{◌++◌, ◌∷◌, [], subst}
use Rattle.chk_site.specs.Site.{Adds}
use Rattle.chk_site.specs.Runs.{Leads}
use Rattle.chk_chunk.specs.Lent.{lent_chunk}
use Rattle.chk_world.specs.Places.{As}
use Rattle.chk_world.specs.Sight.{job, AtJob}
use Rattle.chk_archive_parts.specs.Writes.{IsSoFar, PutSo}
use Rattle.chk_archive_parts.proofs.ForArchive.{still_for, number_stays, writes_it}
use Rattle.chk_archive_parts.proofs.OneSegment.{put_so}
use Rattle.chk_archive_parts.proofs.writing.put_cut.Goals as goal

pub returns-clause-told : goal.returns-clause-told
returns-clause-told g c stamped v files chunks free =
    let s = c.args.segmenter.now in
    let t = c.part.new.self in
    subst (λ x. Adds (g.S.Site.told c.args.site.now) (g.S.Site.told c.part.new.site)
    (Leads (As stamped job) (AtJob stamped (IsSoFar v chunks s))
    (PutSo stamped v (chunks ++ x ∷ []) t c.part.result)))
    c.in-Some.ensures.is
    (put_so stamped v files s t free chunks (lent_chunk c.in-Some.chunk) c.part.result c.part.ensures.raw
    c.part.ensures.at (writes_it s c.requires.segment c.part.ensures.own c.requires.job)
    c.part.ensures.only)

pub returns-clause-segment : goal.returns-clause-segment
returns-clause-segment g c =
    still_for c.args.segmenter.now c.part.new.self (lent_chunk c.in-Some.chunk) c.part.result
    c.requires.segment c.part.ensures.at

pub returns-clause-number : goal.returns-clause-number
returns-clause-number g c =
    number_stays c.args.segmenter.now c.part.new.self (lent_chunk c.in-Some.chunk) c.part.result
    c.requires.segment c.part.ensures.at

pub returns-clause-own : goal.returns-clause-own
returns-clause-own g c = writes_it c.args.segmenter.now c.requires.segment c.part.ensures.own c.requires.job
