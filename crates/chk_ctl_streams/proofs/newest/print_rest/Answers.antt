use Rattle.chk_site.specs.History.{Every}
use Rattle.chk_site.proofs.Runs.{adds_then, every_join}
use Rattle.chk_world.specs.JobSteps.{IsOf}
use Rattle.chk_ctl_cat.specs.declared.stream.Came.{Came}
use Rattle.chk_ctl_cat.specs.Looking.{LooksOrSays}
use Rattle.chk_ctl_cat.proofs.StreamLemmas.{done_last}
use Rattle.chk_ctl_streams.specs.Newest.{to_end, refused, and_on}
use Rattle.chk_ctl_streams.proofs.newest.print_rest.Goals as goal

pub returns-in-Ok-true-clause-told : goal.returns-in-Ok-true-clause-told
returns-in-Ok-true-clause-told g c = to_end (rw c.in-Ok-true.field-0-test at c.in-Ok-true.ensures.told)

pub returns-in-Ok-false-clause-told : goal.returns-in-Ok-false-clause-told
returns-in-Ok-false-clause-told g c =
    and_on (rw c.in-Ok-false.field-0-test at c.in-Ok-false.ensures.told)
    c.print_further.ensures.told

pub returns-in-Ok-false-clause-own : goal.returns-in-Ok-false-clause-own
returns-in-Ok-false-clause-own g c =
    adds_then (Every (IsOf LooksOrSays)) c.in-Ok-false.ensures.own c.print_further.ensures.own
    (λ a b history p q. every_join (IsOf LooksOrSays) b a history p q)

pub returns-in-Ok-false-clause-last : goal.returns-in-Ok-false-clause-last
returns-in-Ok-false-clause-last g c =
    done_last Came c.print_further.result c.in-Ok-false.ensures.own c.print_further.ensures.last

pub returns-in-Err-clause-told : goal.returns-in-Err-clause-told
returns-in-Err-clause-told g c = refused c.in-Err.ensures.told
