use Rattle.std.proofs.Common.{ap, ◌∙◌, option_map, refl, string_bytes}
use Rattle.chk_ctl_machine.specs.Locks.{asked, unasked}
use Rattle.chk_ctl_machine.proofs.Causes.{numbered}
use Rattle.chk_ctl_machine.proofs.locks.holder_of.Goals as goal

pub returns-in_default : goal.returns-in_default
returns-in_default g c = unasked

pub returns-in_default-format : goal.returns-in_default-format
returns-in_default-format g c = unasked

pub returns-in-Some-numbers_of : goal.returns-in-Some-numbers_of
returns-in-Some-numbers_of g c =
    asked c.numbers_of.result (ap (option_map string_bytes) c.in-Some.is)
    (numbered _ _ c.numbers_of.result _ _ (c.as_str.ensures.value ∙ c.in-Ok.ensures.ok)
    c.numbers_of.ensures) (rw c.in-Some-numbers_of.is
    (rw c.as_str-in-Some-numbers_of.ensures.value at c.holder_at.ensures))

pub returns : goal.returns
returns g c =
    asked c.numbers_of.result (ap (option_map string_bytes) c.in-Some.is)
    (numbered _ _ c.numbers_of.result _ _ (c.as_str.ensures.value ∙ c.in-Ok.ensures.ok)
    c.numbers_of.ensures) (rw c.in-None.is refl)
