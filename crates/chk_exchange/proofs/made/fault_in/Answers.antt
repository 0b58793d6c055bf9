use Rattle.std.proofs.Common.{Some, None, sym, ◌∙◌}
use Rattle.std.specs.Prelude.{codes}
use Rattle.std.proofs.lemmas.Bool.Decides.{Decides-eqb}
use Rattle.std.proofs.lemmas.Slice.Eq.{strip_prefix_is, strip_suffix_is}
use Rattle.chk_collector.specs.Outcomes.{sink_fault_text}
use Rattle.chk_exchange.proofs.Telling.{text_same, outside_told, outside_untold, spent_told, spent_untold, damaged_told, damaged_untold, none_untold}
use Rattle.chk_exchange.proofs.made.fault_in.Goals as goal

pub returns-in-Some-take_plain_decimal-clause-told :
    goal.returns-in-Some-take_plain_decimal-clause-told
returns-in-Some-take_plain_decimal-clause-told c fault same =
    let text = c.in-Some.text.now in
    let ends = strip_suffix_is Decides-eqb c.args.bytes.now (codes "\n") (Some c.in-Some.text)
    (rw c.as_slice.ensures at c.in-Some.ensures.cases) in
    let begins =
    strip_prefix_is Decides-eqb text (codes "spent ") (Some c.in-Some-strip_prefix-2.number)
    (rw c.as_slice-3.ensures at c.in-Some-strip_prefix-2.ensures.cases) in
    spent_told c.in-Some-strip_prefix-2.number.now c.in-Some-take_plain_decimal.number
    (sym c.take_plain_decimal.ensures ∙ c.in-Some-take_plain_decimal.is) fault
    (sym begins ∙ text_same c.args.bytes.now text fault ends same)

pub returns-in-None-take_plain_decimal-clause-untold :
    goal.returns-in-None-take_plain_decimal-clause-untold
returns-in-None-take_plain_decimal-clause-untold c fault same =
    let text = c.in-Some.text.now in
    let ends = strip_suffix_is Decides-eqb c.args.bytes.now (codes "\n") (Some c.in-Some.text)
    (rw c.as_slice.ensures at c.in-Some.ensures.cases) in
    let begins = strip_prefix_is Decides-eqb text (codes "spent ")
    (Some c.in-Some-strip_prefix-2.number)
    (rw c.as_slice-3.ensures at c.in-Some-strip_prefix-2.ensures.cases) in
    spent_untold c.in-Some-strip_prefix-2.number.now
    (sym c.take_plain_decimal.ensures ∙ c.in-None-take_plain_decimal.is) fault
    (sym begins ∙ text_same c.args.bytes.now text fault ends same)

pub returns-in_default-clause-untold : goal.returns-in_default-clause-untold
returns-in_default-clause-untold c fault same =
    absurd (strip_suffix_is Decides-eqb c.args.bytes.now (codes "\n") None
    (rw c.as_slice.ensures at c.in_default.ensures.cases) (sink_fault_text fault) same)

pub returns-in-Some-call_named-clause-told : goal.returns-in-Some-call_named-clause-told
returns-in-Some-call_named-clause-told c fault same =
    let text = c.in-Some.text.now in
    let ends = strip_suffix_is Decides-eqb c.args.bytes.now (codes "\n") (Some c.in-Some.text)
    (rw c.as_slice.ensures at c.in-Some.ensures.cases) in
    let begins = strip_prefix_is Decides-eqb text (codes "outside ")
    (Some c.in-Some-strip_prefix.name)
    (rw c.as_slice-2.ensures at c.in-Some-strip_prefix.ensures.cases) in
    outside_told c.in-Some-strip_prefix.name.now c.in-Some-call_named.call
    (sym c.call_named.ensures ∙ c.in-Some-call_named.is) fault
    (sym begins ∙ text_same c.args.bytes.now text fault ends same)

pub returns-in-None-clause-untold : goal.returns-in-None-clause-untold
returns-in-None-clause-untold c fault same =
    let text = c.in-Some.text.now in
    let ends = strip_suffix_is Decides-eqb c.args.bytes.now (codes "\n") (Some c.in-Some.text)
    (rw c.as_slice.ensures at c.in-Some.ensures.cases) in
    let begins = strip_prefix_is Decides-eqb text (codes "outside ")
    (Some c.in-Some-strip_prefix.name)
    (rw c.as_slice-2.ensures at c.in-Some-strip_prefix.ensures.cases) in
    outside_untold c.in-Some-strip_prefix.name.now (sym c.call_named.ensures ∙ c.in-None.is) fault
    (sym begins ∙ text_same c.args.bytes.now text fault ends same)

pub returns-in-Some-strip_prefix-3-clause-told : goal.returns-in-Some-strip_prefix-3-clause-told
returns-in-Some-strip_prefix-3-clause-told c fault same =
    let text = c.in-Some.text.now in
    let ends = strip_suffix_is Decides-eqb c.args.bytes.now (codes "\n") (Some c.in-Some.text)
    (rw c.as_slice.ensures at c.in-Some.ensures.cases) in
    let begins = strip_prefix_is Decides-eqb text (codes "damaged ")
    (Some c.in-Some-strip_prefix-3.place)
    (rw c.as_slice-4.ensures at c.in-Some-strip_prefix-3.ensures.cases) in
    damaged_told c.in-Some-strip_prefix-3.place.now c.damage_in.result c.damage_in.ensures fault
    (sym begins ∙ text_same c.args.bytes.now text fault ends same)

pub returns-in-Some-strip_prefix-3-clause-untold :
    goal.returns-in-Some-strip_prefix-3-clause-untold
returns-in-Some-strip_prefix-3-clause-untold c fault same =
    let text = c.in-Some.text.now in
    let ends = strip_suffix_is Decides-eqb c.args.bytes.now (codes "\n") (Some c.in-Some.text)
    (rw c.as_slice.ensures at c.in-Some.ensures.cases) in
    let begins = strip_prefix_is Decides-eqb text (codes "damaged ")
    (Some c.in-Some-strip_prefix-3.place)
    (rw c.as_slice-4.ensures at c.in-Some-strip_prefix-3.ensures.cases) in
    damaged_untold c.in-Some-strip_prefix-3.place.now c.damage_in.result fault
    (sym begins ∙ text_same c.args.bytes.now text fault ends same)

pub returns-in-None-strip_prefix-clause-untold : goal.returns-in-None-strip_prefix-clause-untold
returns-in-None-strip_prefix-clause-untold c fault same =
    let text = c.in-Some.text.now in
    let ends = strip_suffix_is Decides-eqb c.args.bytes.now (codes "\n") (Some c.in-Some.text)
    (rw c.as_slice.ensures at c.in-Some.ensures.cases) in
    none_untold text
    (strip_prefix_is Decides-eqb text (codes "outside ") None
    (rw c.as_slice-2.ensures at c.in_default-strip_prefix.ensures.cases))
    (strip_prefix_is Decides-eqb text (codes "spent ") None
    (rw c.as_slice-3.ensures at c.in_default-strip_prefix-2.ensures.cases)) fault
    (text_same c.args.bytes.now text fault ends same)
