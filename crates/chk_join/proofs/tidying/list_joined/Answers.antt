use Rattle.chk_site.specs.Site.{names_given}
use Rattle.chk_join.proofs.Tidied.{list_works, list_ends}
use Rattle.chk_join.proofs.StraysGone.{list_shown}
use Rattle.chk_join.proofs.tidying.list_joined.Goals as goal

pub returns-clause-works : goal.returns-clause-works
returns-clause-works g c b =
    list_works b c.list-given.result (λ v. names_given v.items) c.reached.result
    (rw c.requires at c.list-given.ensures.told)
    (list_ends c.list-given.result c.reached.result c.reached.ensures)

pub returns-clause-shown : goal.returns-clause-shown
returns-clause-shown g c =
    list_shown (λ v. v.items) c.list-given.result c.reached.result
    (rw c.requires at c.list-given.ensures.told) c.reached.ensures
