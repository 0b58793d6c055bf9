use Rattle.std.proofs.Common.{sym, subst, ◌∙◌}
use Rattle.chk_exchange.specs.declared.fault.ExchangeFault.TheVariants.{Damaged}
use Rattle.chk_sink.specs.declared.fault.SinkFault.TheVariants.{Damaged as sink_damaged}
use Rattle.chk_exchange.specs.Faults.{IsTold}
use Rattle.chk_exchange.proofs.Telling.{word_told}
use Rattle.chk_exchange.proofs.made.damage_in.Goals as goal

pub returns-in-Ok : goal.returns-in-Ok
returns-in-Ok c name number same =
    let at = c.in-Some-take_plain_decimal.at in
    subst (λ w. IsTold (sink_damaged name number) (Damaged w at)) (sym c.in-Ok.ensures.text)
    (word_told c.args.place.now c.in-Some.name.now c.in-Some.number.now at
    (rw c.in-Ok.ensures.text at c.in-Ok.ensures.word) c.in-Some.ensures
    (sym c.take_plain_decimal.ensures ∙ c.in-Some-take_plain_decimal.is) name number same)
