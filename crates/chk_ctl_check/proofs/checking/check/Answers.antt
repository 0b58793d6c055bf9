use Rattle.std.proofs.Common.{Option, List, ℕ, refl}
use Rattle.chk_ctl_check.specs.declared.checking.Checked.{Checked}
use Rattle.chk_ctl_check.specs.Checking.{ChecksBy, no_file, read_whole, reads_file, unread}
use Rattle.chk_ctl_check.proofs.OwnCalls.{cause_after, cause_of, count_same, loads_own, own_then}
use Rattle.chk_ctl_check.proofs.checking.check.Goals as goal

pub returns-in-Ok-Some : goal.returns-in-Ok-Some
returns-in-Ok-Some g c = record {
  told = read_whole c.in-Ok-Some.text
      (rw (c.requires.job, c.in-Ok-Some.field-0-is) at c.in-Ok-Some.ensures.script)
      (rw c.as_slice.ensures at c.check_text.ensures.told);
  own = own_then ChecksBy (loads_own ChecksBy reads_file c.requires.job c.load.ensures.reads)
      c.check_text.ensures.own;
  cause = cause_after c.check_text.result (g.S.Site.fault_count c.args.site.now)
      (g.S.Site.fault_count c.load.new.site) (g.S.Site.fault_count c.check_text.new.site)
      (count_same c.in-Ok-Some.ensures.cause) c.check_text.ensures.cause;
}

pub returns-in-Ok-None : goal.returns-in-Ok-None
returns-in-Ok-None g c = record {
  told = no_file (rw (c.requires.job, c.in-Ok-None.field-0-is) at c.in-Ok-None.ensures.script);
  own = loads_own ChecksBy reads_file c.requires.job c.load.ensures.reads;
  cause = count_same c.in-Ok-None.ensures.cause;
}

pub returns-in-Err : goal.returns-in-Err
returns-in-Err g c = record {
  told = unread (rw c.requires.job at c.in-Err.ensures.script);
  own = loads_own ChecksBy reads_file c.requires.job c.load.ensures.reads;
  cause = cause_of Checked (Option (List ℕ)) c.in-Err.fault (g.S.Site.fault_count c.args.site.now)
      (g.S.Site.fault_count c.args.site.now) (g.S.Site.fault_count c.load.new.site)
      (count_same refl) c.in-Err.ensures.cause;
}
