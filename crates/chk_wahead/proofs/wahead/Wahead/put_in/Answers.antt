use Rattle.std.proofs.Common.{Some, length}
use Rattle.chk_wahead.specs.States.{longer}
use Rattle.chk_wahead.specs.Fields.{held_of}
use Rattle.std.proofs.Common.{◌∙◌}
use Rattle.chk_wahead.proofs.Joining.{script_as}
use Rattle.chk_wahead.proofs.Fields.{seen_as, adding_by, left_at}
use Rattle.chk_wahead.proofs.wahead.Wahead.put_in.Goals as goal

pub returns-clause-told : goal.returns-clause-told
returns-clause-told g c =
    let s = c.args.self.now in
    let known = seen_as c.self.inside s c.self.view_is c.self.invariant in
    record {
      outside = c.add-done.result;
      result_is = c.finish-2.ensures.result;
      made =
          script_as (adding_by s c.self.inside.who c.as_str.result.now c.args.payload.now known.who (c.as_str.ensures.value ∙ known.buffer))
          c.add-done.ensures.told;
      state_is = left_at c.args.self.now c.finish.inside (Some (longer (length c.args.payload.now) (Some (held_of c.args.buffer)))) c.add-done.result c.finish.view_is c.finish-2.ensures.new;
    }
