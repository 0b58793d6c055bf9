use Rattle.chk_ctl_inspect.proofs.Told.{tells_one}
use Rattle.chk_ctl_inspect.proofs.reports.report_metrics.Goals as goal

pub returns-clause-told : goal.returns-clause-told
returns-clause-told g c =
    tells_one c.tell_metrics.result c.requires.job
    (rw (
      c.as_slice.ensures.value,
      c.as_slice-2.ensures.value,
      c.as_slice-3.ensures.value,
      c.as_slice-4.ensures.value,
    ) at c.tell_metrics.ensures.told)
