use Rattle.std.proofs.Common.{◌++◌, subst}
use Rattle.chk_join_sources.specs.Comparing.{value_there}
use Rattle.chk_ctl_sum.specs.Rests.{HoldsRest}
use Rattle.chk_ctl_sum.proofs.Steps.{taken_so, taken_not}
use Rattle.chk_ctl_sum.proofs.summing.take_record.Goals as goal

pub returns-in-Ok-clause-raw : goal.returns-in-Ok-clause-raw
returns-in-Ok-clause-raw g c most all held skip taken few settled side =
    taken_so all held c.args.side.now c.args.reader.now c.fetch.new.reader c.args.hasher.now
    c.update.new.self skip taken c.args.index c.in-Ok.ensures.own
    (λ windows. c.in-Ok.ensures.raw most all held few settled side.among side.known windows)
    (λ m holds. subst (λ v. HoldsRest skip c.update.new.self (m ++ v)) c.value.ensures
    (c.update.ensures skip m holds))

pub returns-in-Err-clause-raw : goal.returns-in-Err-clause-raw
returns-in-Err-clause-raw g c most all held skip taken few settled side =
    taken_not all held c.args.side.now c.args.reader.now c.fetch.new.reader c.args.hasher.now
    c.args.hasher.now skip taken
    (taken ++ value_there c.args.side.now held c.args.index) c.args.index c.in-Err.fault
    c.in-Err.ensures.own
    (λ windows. c.in-Err.ensures.raw most all held few settled side.among side.known windows)
