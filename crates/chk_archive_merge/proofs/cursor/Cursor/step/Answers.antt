use Rattle.std.proofs.lemmas.Result.{err_from_is_err_and}
use Rattle.chk_site.proofs.Leads.{leads_as, leads_none}
use Rattle.chk_world.specs.JobSteps.{ReadsFile}
use Rattle.chk_record_index.specs.Pieces.{bytes_in}
use Rattle.chk_archive_merge.proofs.Going.{took_gone}
use Rattle.chk_book.proofs.Works.{works_none}
use Rattle.chk_archive_merge.proofs.cursor.Cursor.step.Goals as goal

pub returns-in-Record-clause-raw : goal.returns-in-Record-clause-raw
returns-in-Record-clause-raw g c names held one small =
    leads_none _
    (λ h x. (
      x,
      λ records gone.
          took_gone (bytes_in (held c.args.name.now)) c.args.self.now c.take.new.self records (rw c.in-Record.is at c.in_ok-take.ensures) gone,
    ))

pub returns-in-Record-clause-works : goal.returns-in-Record-clause-works
returns-in-Record-clause-works g c = works_none ReadsFile _ _

pub returns-in-Wrong-clause-raw : goal.returns-in-Wrong-clause-raw
returns-in-Wrong-clause-raw g c names held one small = leads_none _ (λ h x. x)

pub returns-in-Wrong-clause-works : goal.returns-in-Wrong-clause-works
returns-in-Wrong-clause-works g c = works_none ReadsFile _ _

pub returns-in-More-clause-raw : goal.returns-in-More-clause-raw
returns-in-More-clause-raw g c names held one small =
    leads_as (λ h x. x) (λ h x. x c.args.self.now (rw c.in-More.is at c.in_ok-take.ensures)) (c.read_on.ensures.raw names held one small)

pub returns-in_err-take-clause-raw : goal.returns-in_err-take-clause-raw
returns-in_err-take-clause-raw g c names held one small =
    let p = err_from_is_err_and c.from_residual.result c.from_residual.ensures.1 in
    rw (p.1, p.2) (leads_none _ (λ h x. tt))
