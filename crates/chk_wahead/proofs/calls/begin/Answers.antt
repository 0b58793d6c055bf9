use Rattle.std.proofs.Common.{ap, [], ◌∷◌}
use Rattle.chk_site.specs.declared.acts.Call.TheVariants.{Create}
use Rattle.chk_site.specs.Site.{asked}
use Rattle.chk_replace.specs.Replace.{replacement}
use Rattle.chk_replace.proofs.OldAndNew.{last_call}
use Rattle.chk_wahead.proofs.Joining.{refused_by, script_then, script_ended, script_as}
use Rattle.chk_wahead.proofs.calls.begin.Goals as goal

pub returns-in_err-replace-clause-told : goal.returns-in_err-replace-clause-told
returns-in_err-replace-clause-told g c =
    rw (refused_by c.from_residual.ensures.1)
    (script_ended (asked c.args.who.now Create (c.args.buffer.now ∷ []) 0 0 ∷ [])
    (script_as (ap (replacement c.args.who.now c.args.next.now) c.to_be_bytes.ensures) c.in_err-replace.ensures.told))

pub returns-clause-told : goal.returns-clause-told
returns-clause-told g c =
    script_then (script_as (ap (replacement c.args.who.now c.args.next.now) c.to_be_bytes.ensures) c.in_ok-replace.ensures.told)
    (last_call c.done.result c.create-created.result c.done.ensures c.create-created.ensures.told)
