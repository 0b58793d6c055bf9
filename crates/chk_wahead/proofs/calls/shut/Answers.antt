use Rattle.chk_site.specs.Runs.{went_on, ended}
use Rattle.chk_wahead.proofs.Joining.{refused_by}
use Rattle.chk_wahead.proofs.calls.shut.Goals as goal

pub returns-in_err-done-clause-told : goal.returns-in_err-done-clause-told
returns-in_err-done-clause-told g c =
    rw (refused_by c.from_residual.ensures.1) (ended _ c.in_err-done.ensures c.rename-renamed.ensures.told)

pub returns-clause-told : goal.returns-clause-told
returns-clause-told g c = went_on _ c.in_ok-done.ensures c.rename-renamed.ensures.told c.remove.ensures.told
