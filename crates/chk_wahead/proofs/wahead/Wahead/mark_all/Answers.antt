use Rattle.std.proofs.Common.{◌∙◌, sym}
use Rattle.chk_site.specs.Runs.{finished}
use Rattle.chk_wahead.specs.Fields.{held_of}
use Rattle.chk_wahead.proofs.Joining.{script_as}
use Rattle.chk_wahead.proofs.Fields.{seen_as, marking_by, commit_none, commit_some}
use Rattle.chk_wahead.proofs.wahead.Wahead.mark_all.Goals as goal

pub returns-then-buffer-clause-told : goal.returns-then-buffer-clause-told
returns-then-buffer-clause-told g c =
    script_as (sym (commit_none c.args.self.now.who (held_of c.args.buffer) c.if-buffer.true)) finished

pub returns-clause-told : goal.returns-clause-told
returns-clause-told g c =
    let s = c.args.self.now in
    let known = seen_as c.self.inside s c.self.view_is c.self.invariant in
    script_as
    (marking_by s c.self.inside.who c.as_str.result.now c.as_str-2.result.now c.args.buffer.length known.who
    (c.as_str.ensures.value ∙ known.buffer) (c.as_str-2.ensures.value ∙ known.mark)
    ∙ commit_some s.who (held_of c.args.buffer) c.if-buffer.false)
    c.publish.ensures.told
