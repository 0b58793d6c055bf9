use Rattle.std.proofs.Common.{◌∙◌, ◌++◌, ℕ, List, ap, subst, sym}
use Rattle.std.specs.Fmt.{digits}
use Rattle.std.specs.Prelude.{IsTrue}
use Rattle.chk_world.specs.ArchiveRuns.{is_one_line}
use Rattle.chk_ctl_held.specs.Stores.{lent_gap}
use Rattle.chk_ctl_held.proofs.LineWords.{found_behind, found_one, found_spelled}
use Rattle.chk_ctl_held.proofs.found.found_line.Goals as goal

pub returns-clause-line : goal.returns-clause-line
unfolding digits
returns-clause-line c =
    c.in_ok-text.ensures.ok
    ∙ ap (λ (front : List ℕ). front
    ++ found_behind c.args.from c.args.to c.args.how.now c.args.name.now)
    c.in_ok-named.ensures
    ∙ found_spelled (lent_gap c.args.gap.now).stream c.args.from c.args.to c.args.how.now
    c.args.name.now

pub returns-clause-one : goal.returns-clause-one
returns-clause-one c =
    let gap = c.args.gap.now in
    subst (λ (l : List ℕ). IsTrue (is_one_line l)) (sym (returns-clause-line c))
    (found_one (lent_gap gap).stream c.args.from c.args.to c.args.how.now c.args.name.now
    gap.source gap.kind gap.name c.requires.how c.requires.name c.ranges.from.fits
    c.ranges.to.fits)
