use Rattle.std.proofs.Common.{ℕ, List, subst, sym}
use Rattle.std.specs.Prelude.{IsTrue}
use Rattle.chk_world.specs.ArchiveRuns.{is_one_line}
use Rattle.chk_ctl_held.proofs.LineWords.{store_one}
use Rattle.chk_ctl_held.proofs.elsewhere.store_line.Goals as goal

pub returns-clause-one : goal.returns-clause-one
returns-clause-one c =
    subst (λ (l : List ℕ). IsTrue (is_one_line l)) (sym c.in_ok-text.ensures.ok)
    (store_one c.args.name.now c.requires)
