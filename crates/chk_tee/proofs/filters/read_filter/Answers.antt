use Rattle.std.proofs.Common.{◌<◌, ◌-◌, length, drop, take, sym, ap, ◌∙◌, Ok, arith, true≢false}
use Rattle.std.proofs.lemmas.List.{length-drop}
use Rattle.std.proofs.lemmas.Slice.Eq.{bytes_eq-Decides}
use Rattle.chk_bytes.specs.Words.{parts_at}
use Rattle.chk_tee.specs.Filters.{filter_from}
use Rattle.chk_tee.specs.declared.filters.Filter.{Filter}
use Rattle.chk_tee.proofs.FilterLemmas.{filter_all, filter_whole, next_step, bad_step, last_step, last_bad, rest_sliced}
use Rattle.chk_tee.proofs.filters.read_filter.Goals as goal

pub returns-then-eq-clause-filter : goal.returns-then-eq-clause-filter
returns-then-eq-clause-filter c =
    filter_all c.args.text.now ((bytes_eq-Decides _ _).0 (sym c.if-eq.ensures) ∙ c.as_slice.ensures)
    ∙ ap (λ (f : Filter). Ok f) (sym c.everything-filter.ensures)

pub loop-size-init : goal.loop-size-init
loop-size-init c =
    let text = c.args.text.now in
    record {
      same =
          ap (λ (f : Filter). filter_from 0 f (parts_at 38 text)) c.everything-filter.ensures
          ∙ filter_whole text
          (λ all. true≢false (sym ((bytes_eq-Decides text _).1 (all ∙ sym c.as_slice.ensures)) ∙ sym c.if-eq.ensures));
      within = omega arith;
    }

pub returns-in-Err-clause-fault : goal.returns-in-Err-clause-fault
returns-in-Err-clause-fault c =
    let l = c.loop-size in
    bad_step l.at c.in-Some.size l.filter c.args.text.now c.in-Err.fault c.in-Some.ensures.place l.invariant.same c.in-Err.ensures.err

pub loop-size-preserved : goal.loop-size-preserved
loop-size-preserved c =
    let l = c.loop-size in
    let text = c.args.text.now in
    let within : c.in-Some.size < length (take (length text - l.at) (drop l.at text)) = c.in-Some.ensures.within in
    record {
      same = next_step l.at c.in-Some.size l.filter _ text c.in-Some.ensures.place c.in-Ok.ensures.ok ∙ l.invariant.same;
      within = omega (arith, within, ap length (rest_sliced l.at text), length-drop l.at text);
    }

pub returns-in-Err-add-clause-fault : goal.returns-in-Err-add-clause-fault
returns-in-Err-add-clause-fault c =
    let l = c.loop-size in
    last_bad l.at l.filter c.args.text.now c.in-Err-add.fault c.in_default.ensures.place l.invariant.same c.in-Err-add.ensures.err

pub returns-in-Ok-add-clause-filter : goal.returns-in-Ok-add-clause-filter
returns-in-Ok-add-clause-filter c =
    let l = c.loop-size in
    last_step l.at l.filter _ c.args.text.now c.in_default.ensures.place l.invariant.same c.in-Ok-add.ensures.ok
