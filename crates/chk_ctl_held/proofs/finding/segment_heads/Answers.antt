use Rattle.std.proofs.Common.{Ok, Err}
use Rattle.chk_site.proofs.Runs.{adds_as}
use Rattle.chk_ctl_held.specs.Finding.{ShowsSegment}
use Rattle.chk_ctl_held.proofs.HeadPlaces.{rises_so}
use Rattle.chk_ctl_held.proofs.Sorted.{sorted_so, refused_so}
use Rattle.chk_ctl_held.proofs.finding.segment_heads.Goals as goal

pub returns-in-Ok-sort-clause-shown : goal.returns-in-Ok-sort-clause-shown
returns-in-Ok-sort-clause-shown g c =
    adds_as (ShowsSegment c.args.name.now (Ok c.sort.new.self)) c.in-Ok.ensures.shown
    (λ added history x. sorted_so c.as_str.ensures.text c.new-heads.ensures c.in-Ok-sort.ensures.ok
    x)

pub returns-in-Err-clause-shown : goal.returns-in-Err-clause-shown
returns-in-Err-clause-shown g c =
    adds_as (ShowsSegment c.args.name.now (Err c.in-Err.fault)) c.in-Err.ensures.shown
    (λ added history x. refused_so c.new-heads.result c.gather.new.self added history
    c.in-Err.fault c.as_str.ensures.text x)

pub returns-in-Ok-sort-clause-order : goal.returns-in-Ok-sort-clause-order
returns-in-Ok-sort-clause-order g c =
    rises_so c.gather.new.self c.sort.new.self c.in-Ok-sort.ensures.ok
