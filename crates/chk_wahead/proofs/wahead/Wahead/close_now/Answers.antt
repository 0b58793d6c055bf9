use Rattle.std.proofs.Common.{◌∙◌}
use Rattle.chk_site.specs.Runs.{unbegun}
use Rattle.chk_wahead.specs.Names.{buffer_name, mark_name, closed_name}
use Rattle.chk_wahead.specs.Scripts.{shutting}
use Rattle.chk_wahead.proofs.Joining.{refused_by, script_then, script_ended, script_as}
use Rattle.chk_wahead.proofs.Fields.{seen_as, shutting_by, closed_as}
use Rattle.chk_wahead.proofs.wahead.Wahead.close_now.Goals as goal

pub returns-in_err-closed-clause-told : goal.returns-in_err-closed-clause-told
returns-in_err-closed-clause-told g c = rw (refused_by c.from_residual.ensures.1) unbegun

pub returns-in_err-mark_all-clause-told : goal.returns-in_err-mark_all-clause-told
returns-in_err-mark_all-clause-told g c =
    let s = c.args.self.now in
    rw (refused_by c.from_residual-in_err-mark_all.ensures.1)
    (script_ended (shutting s.who (buffer_name s.who.name) (closed_name s.who.name s.number) (mark_name s.who.name)) c.in_err-mark_all.ensures.told)

pub returns-clause-told : goal.returns-clause-told
returns-clause-told g c =
    let s = c.args.self.now in
    let known = seen_as c.self.inside s c.self.view_is c.self.invariant in
    script_then c.in_ok-mark_all.ensures.told
    (script_as
    (shutting_by s c.self.inside.who c.as_str-2.result.now c.as_str-3.result.now c.as_str-4.result.now s.number known.who
    (c.as_str-2.ensures.value ∙ known.buffer)
    (c.as_str-3.ensures.value ∙ closed_as s c.self.inside c.as_str.result.now known c.as_str.ensures.text c.in_ok-closed.ensures)
    (c.as_str-4.ensures.value ∙ known.mark))
    c.shut.ensures.told)
