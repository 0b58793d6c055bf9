use Rattle.std.proofs.Common.{◌∙◌, ◌++◌, ℕ, List, ap₂, subst, sym}
use Rattle.std.specs.Fmt.{digits}
use Rattle.std.specs.Prelude.{IsTrue}
use Rattle.chk_world.specs.ArchiveRuns.{is_one_line}
use Rattle.chk_ctl_held.proofs.LineWords.{words_one, counted, spelled}
use Rattle.chk_ctl_held.proofs.lines.line_with.Goals as goal

pub returns-clause-line : goal.returns-clause-line
unfolding digits
returns-clause-line c =
    c.in_ok-text.ensures.ok
    ∙ ap₂ (λ (front behind : List ℕ). front ++ (behind ++ counted c.args.count))
    c.in_ok-named.ensures c.in_ok-places.ensures
    ∙ spelled c.args.source.now c.args.kind.now c.args.name.now c.args.archived c.args.begin
    c.args.end c.args.count

pub returns-clause-one : goal.returns-clause-one
returns-clause-one c =
    subst (λ (l : List ℕ). IsTrue (is_one_line l)) (sym (returns-clause-line c))
    (words_one c.args.source.now c.args.kind.now c.args.name.now c.args.archived c.args.begin
    c.args.end c.args.count c.requires.source c.requires.kind c.requires.name
    c.ranges.archived.fits c.ranges.begin.fits c.ranges.end.fits c.ranges.count.fits)
