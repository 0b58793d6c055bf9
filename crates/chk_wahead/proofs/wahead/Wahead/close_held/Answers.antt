use Rattle.std.proofs.Common.{None}
use Rattle.chk_wahead.proofs.Fields.{left_at}
use Rattle.chk_wahead.proofs.wahead.Wahead.close_held.Goals as goal

pub returns-clause-told : goal.returns-clause-told
returns-clause-told g c =
    record {
      outside = c.close_now-done.result;
      result_is = c.finish-2.ensures.result;
      made = c.close_now-done.ensures.told;
      state_is = left_at c.args.self.now c.finish.inside None c.close_now-done.result c.finish.view_is c.finish-2.ensures.new;
    }
