use Rattle.std.proofs.Common.{◌++◌, subst}
use Rattle.sha2.specs.Hashers.{Holds256}
use Rattle.chk_ctl_sum.specs.declared.rests.Skipping.{Skipping}
use Rattle.chk_ctl_sum.proofs.Skipped.{fed}
use Rattle.chk_ctl_sum.proofs.rests.Skipping.update.Goals as goal

pub returns : goal.returns
returns c skip taken h =
    let new : Skipping = record {
      hasher = c.update.new.self;
      left = c.saturating_sub-self.result;
    } in
    fed c.args.self.now new c.args.bytes.now c.saturating_sub-self.ensures
    (λ m holds. subst (λ v. Holds256 c.update.new.self (m ++ v)) c.behind.ensures
    (c.update.ensures m holds)) skip taken h
