use Rattle.std.proofs.Common.{Some}
use Rattle.chk_wahead.specs.States.{all_marked}
use Rattle.chk_wahead.specs.Fields.{held_of}
use Rattle.chk_wahead.proofs.Fields.{left_at}
use Rattle.chk_wahead.proofs.wahead.Wahead.commit_held.Goals as goal

pub returns-clause-told : goal.returns-clause-told
returns-clause-told g c =
    record {
      outside = c.mark_all-done.result;
      result_is = c.finish-2.ensures.result;
      made = c.mark_all-done.ensures.told;
      state_is = left_at c.args.self.now c.finish.inside (all_marked (Some (held_of c.args.buffer))) c.mark_all-done.result c.finish.view_is c.finish-2.ensures.new;
    }
