use Rattle.std.proofs.Common.{◌∙◌, [], ◌∷◌}
use Rattle.chk_wahead.specs.Scripts.{adding, beginning}
use Rattle.chk_wahead.proofs.Joining.{refused_by, script_then, script_ended, script_as}
use Rattle.chk_wahead.proofs.Fields.{seen_as, first_by}
use Rattle.chk_wahead.proofs.wahead.Wahead.begin_with.Goals as goal

pub returns-in_err-begin-clause-told : goal.returns-in_err-begin-clause-told
returns-in_err-begin-clause-told g c =
    let s = c.args.self.now in
    let known = seen_as c.self.inside s c.self.view_is c.self.invariant in
    let buffer = c.as_str-2.ensures.value ∙ known.buffer in
    let calls = beginning c.self.inside.who c.as_str.result.now c.as_str-2.result.now c.args.number in
    rw (refused_by c.from_residual.ensures.1)
    (script_as (first_by s c.self.inside.who c.as_str.result.now c.as_str-2.result.now c.as_str-2.result.now c.args.payload.now c.args.number
    known.who (c.as_str.ensures.value ∙ known.next) buffer buffer)
    (script_ended {qs = calls} (adding c.self.inside.who c.as_str-2.result.now c.args.payload.now ∷ []) c.in_err-begin.ensures.told))

pub returns-clause-told : goal.returns-clause-told
returns-clause-told g c =
    let s = c.args.self.now in
    let known = seen_as c.self.inside s c.self.view_is c.self.invariant in
    script_as (first_by s c.self.inside.who c.as_str.result.now c.as_str-2.result.now c.as_str-3.result.now c.args.payload.now c.args.number
    known.who (c.as_str.ensures.value ∙ known.next) (c.as_str-2.ensures.value ∙ known.buffer) (c.as_str-3.ensures.value ∙ known.buffer))
    (script_then {qs = beginning c.self.inside.who c.as_str.result.now c.as_str-2.result.now c.args.number}
    {rs = adding c.self.inside.who c.as_str-3.result.now c.args.payload.now ∷ []} c.in_ok-begin.ensures.told c.add.ensures.told)
