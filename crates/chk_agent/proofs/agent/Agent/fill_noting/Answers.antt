use Rattle.std.proofs.Common.{◌≡◌, ◌-◌, ◌<◌, Some, Ok, Err, length, [], ap, sym, subst, ◌∙◌, refl}
use Rattle.std.proofs.Common.{arith}
use Rattle.std.specs.Prelude.{slice_get}
use Rattle.std.proofs.lemmas.Result.{err_from_is_err_and}
use Rattle.chk_queue.specs.Queues.{data_size}
use Rattle.chk_agent.specs.declared.answers.Filled.TheVariants.{Shrank}
use Rattle.chk_agent.specs.declared.answers.Stepped.TheVariants.{Read as step_read}
use Rattle.chk_agent.specs.declared.answers.Stepped.TheVariants.{AtEnd as step_at_end}
use Rattle.chk_agent.specs.declared.answers.Stepped.TheVariants.{Held as step_held}
use Rattle.chk_agent.specs.declared.answers.Stepped.TheVariants.{Shrank as step_shrank}
use Rattle.chk_agent.specs.States.{State, to_step, is_read_on}
use Rattle.chk_agent.specs.Fills.{IsFilled, IsOneStepped}
use Rattle.chk_agent.proofs.FillingPieces.{noted_begun, noted_read, noted_none}
use Rattle.chk_agent.proofs.FillingOn.{at_place, fill_begun, fill_skips, fill_steps, fill_ends}
use Rattle.chk_agent.proofs.FillingOn.{last_on, last_none, last_none_then, place_is, read_one}
use Rattle.chk_agent.proofs.FillingOn.{held_sum, held_out, shrank_out, err_out, told_out}
use Rattle.chk_agent.proofs.agent.Agent.fill_noting.Goals as goal
use Rattle.chk_agent.proofs.agent.Agent.fill_noting.Goals.{then-is_read_on+in_ok-bytes+in-Read}
use Rattle.chk_agent.proofs.agent.Agent.fill_noting.Goals.{then-is_read_on+in_ok-bytes+in-AtEnd}
use Rattle.chk_agent.proofs.agent.Agent.fill_noting.Goals.{else-is_read_on}

pub loop-place-init : goal.loop-place-init
loop-place-init g c = record {
  way = fill_begun c.args.self.now (g.S.Site.told c.args.site.now) c.requires.ready;
  noted = noted_begun c.args.self.now c.args.full.now;
  count = omega arith;
}

pub is_read_on-requires : goal.is_read_on-requires
is_read_on-requires g c =
    let many = c.loop-place.invariant.way.many in
    let there = c.number_at-adaptor.ensures.there in
    let count_is : length c.as_slice.result.now ≡ length c.args.self.now.adaptors =
    ap length c.as_slice.ensures ∙ ap (λ (s : State). length s.adaptors) c.self.view_is in
    omega (arith, many, there, count_is)

pub step-requires-clause-ready : goal.step-requires-clause-ready
step-requires-clause-ready g c = c.loop-place.invariant.way.ready

pub step-requires-clause-read_on : goal.step-requires-clause-read_on
step-requires-clause-read_on g c = read_one (slice_get c.loop-place.self.adaptors c.number_at-adaptor.result) (sym c.if-is_read_on.ensures)

pub loop-place-preserved : goal.loop-place-preserved
loop-place-preserved g c =
    let s = c.args.self.now in
    let t = c.loop-place.self in
    let k = c.loop-place.place in
    let f = c.loop-place.invariant.way in
    let n = c.number_at-adaptor.result in
    let count_is : length c.as_slice.result.now ≡ length s.adaptors =
    ap length c.as_slice.ensures ∙ ap (λ (s : State). length s.adaptors) c.self.view_is in
    let here = c.loop-place-test.true in
    let below : k < length s.adaptors = omega (arith, here, count_is) in
    let place = place_is s n (length c.as_slice.result.now) c.first_of-first.result c.self.inside.last k c.number_at-adaptor.ensures.number count_is
    c.first_of-first.ensures.first (ap (λ (s : State). s.last) c.self.view_is) in
    elim c.if-is_read_on.branch [
      | then-is_read_on+in_ok-bytes+in-Read w ↦
          let r = read_one (slice_get t.adaptors n) (sym w.if-is_read_on.ensures) in
          let at : slice_get t.adaptors (at_place s k) ≡ Some r.0 = ap (slice_get t.adaptors) (sym place) ∙ r.1 in
          let u = w.step.new.self in
          let st = subst (λ x. IsOneStepped x r.0 t w.step.result u (g.S.Site.told c.loop-place.site) (g.S.Site.told w.step.new.site)) place
          (w.step.ensures.state r.0 r.1) in
          let so_far = c.loop-place.invariant.count in
          rw (w.self-is, w.site-is, w.full-is)
          (record {
            way = fill_steps s k t u r.0 (step_read w.in-Read.bytes) w.in-Read.bytes w.step.result f below at r.2 st
                (w.in_ok-bytes.was ∙ ap Ok w.in-Read.is) refl n w.step.ensures.told;
            noted = noted_read _ s t u r.0 w.step.result w.in-Read.bytes st (w.in_ok-bytes.was ∙ ap Ok w.in-Read.is)
                c.loop-place.invariant.noted w.note.new.full w.note.ensures;
            count = (let cause = w.in_ok-bytes.ensures.cause in omega (arith, cause, so_far));
          })
      | then-is_read_on+in_ok-bytes+in-AtEnd w ↦
          let r = read_one (slice_get t.adaptors n) (sym w.if-is_read_on.ensures) in
          let at : slice_get t.adaptors (at_place s k) ≡ Some r.0 = ap (slice_get t.adaptors) (sym place) ∙ r.1 in
          let u = w.step.new.self in
          let st = subst (λ x. IsOneStepped x r.0 t w.step.result u (g.S.Site.told c.loop-place.site) (g.S.Site.told w.step.new.site)) place
          (w.step.ensures.state r.0 r.1) in
          let so_far = c.loop-place.invariant.count in
          rw (w.self-is, w.site-is, w.full-is)
          (record {
            way = fill_steps s k t u r.0 step_at_end 0 w.step.result f below at r.2 st
                (w.in_ok-bytes.was ∙ ap Ok w.in-AtEnd.is) refl n w.step.ensures.told;
            noted = noted_none _ s t u r.0 step_at_end tt w.step.result st (w.in_ok-bytes.was ∙ ap Ok w.in-AtEnd.is) c.loop-place.invariant.noted;
            count = (let cause = w.in_ok-bytes.ensures.cause in omega (arith, cause, so_far));
          })
      | else-is_read_on w ↦
          rw (w.self-is, w.site-is, w.full-is)
          (record {
            way = fill_skips s k t _ _ f below (ap (λ n. is_read_on (slice_get t.adaptors n)) (sym place) ∙ sym w.if-is_read_on.ensures);
            noted = c.loop-place.invariant.noted;
            count = c.loop-place.invariant.count;
          })
    ]

pub returns-in_err-bytes-clause-state : goal.returns-in_err-bytes-clause-state
returns-in_err-bytes-clause-state g c =
    let s = c.args.self.now in
    let t = c.loop-place.self in
    let k = c.loop-place.place in
    let f = c.loop-place.invariant.way in
    let n = c.number_at-adaptor.result in
    let count_is : length c.as_slice.result.now ≡ length s.adaptors =
    ap length c.as_slice.ensures ∙ ap (λ (s : State). length s.adaptors) c.self.view_is in
    let here = c.loop-place-test.true in
    let below : k < length s.adaptors = omega (arith, here, count_is) in
    let place = place_is s n (length c.as_slice.result.now) c.first_of-first.result c.self.inside.last k c.number_at-adaptor.ensures.number count_is
    c.first_of-first.ensures.first (ap (λ (s : State). s.last) c.self.view_is) in
    let r = read_one (slice_get t.adaptors n) (sym c.if-is_read_on.ensures) in
    let at : slice_get t.adaptors (at_place s k) ≡ Some r.0 = ap (slice_get t.adaptors) (sym place) ∙ r.1 in
    let u = c.step.new.self in
    let st = subst (λ x. IsOneStepped x r.0 t c.step.result u (g.S.Site.told c.loop-place.site) (g.S.Site.told c.step.new.site)) place
    (c.step.ensures.state r.0 r.1) in
    let p = err_from_is_err_and c.from_residual.result c.from_residual.ensures.1 in
    rw (p.1, p.2) (err_out s k t u f below r.0 at r.2 c.step.result st c.in_err-bytes.field-0.0 c.in_err-bytes.was)

pub returns-in_err-bytes-clause-told : goal.returns-in_err-bytes-clause-told
returns-in_err-bytes-clause-told g c stamped =
    let s = c.args.self.now in
    let t = c.loop-place.self in
    let k = c.loop-place.place in
    let f = c.loop-place.invariant.way in
    let n = c.number_at-adaptor.result in
    let count_is : length c.as_slice.result.now ≡ length s.adaptors =
    ap length c.as_slice.ensures ∙ ap (λ (s : State). length s.adaptors) c.self.view_is in
    let here = c.loop-place-test.true in
    let below : k < length s.adaptors = omega (arith, here, count_is) in
    let place = place_is s n (length c.as_slice.result.now) c.first_of-first.result c.self.inside.last k c.number_at-adaptor.ensures.number count_is
    c.first_of-first.ensures.first (ap (λ (s : State). s.last) c.self.view_is) in
    let r = read_one (slice_get t.adaptors n) (sym c.if-is_read_on.ensures) in
    let at : slice_get t.adaptors (at_place s k) ≡ Some r.0 = ap (slice_get t.adaptors) (sym place) ∙ r.1 in
    let u = c.step.new.self in
    let st = subst (λ x. IsOneStepped x r.0 t c.step.result u (g.S.Site.told c.loop-place.site) (g.S.Site.told c.step.new.site)) place
    (c.step.ensures.state r.0 r.1) in
    told_out s k t u f below r.0 at r.2 c.step.result st stamped (c.step.ensures.told stamped)

pub returns-in_err-bytes-clause-last : goal.returns-in_err-bytes-clause-last
returns-in_err-bytes-clause-last g c =
    let p = err_from_is_err_and c.from_residual.result c.from_residual.ensures.1 in
    last_on c.step.result c.from_residual.result c.in_err-bytes.field-0.0
    (c.loop-place.invariant.way.told []) c.in_err-bytes.was
    (p.1 ∙ ap Err p.2) c.step.ensures.last

pub overflow_sub-used : goal.overflow_sub-used
overflow_sub-used g c =
    let s = c.args.self.now in
    let t = c.loop-place.self in
    let k = c.loop-place.place in
    let f = c.loop-place.invariant.way in
    let n = c.number_at-adaptor.result in
    let count_is : length c.as_slice.result.now ≡ length s.adaptors =
    ap length c.as_slice.ensures ∙ ap (λ (s : State). length s.adaptors) c.self.view_is in
    let here = c.loop-place-test.true in
    let below : k < length s.adaptors = omega (arith, here, count_is) in
    let place = place_is s n (length c.as_slice.result.now) c.first_of-first.result c.self.inside.last k c.number_at-adaptor.ensures.number count_is
    c.first_of-first.ensures.first (ap (λ (s : State). s.last) c.self.view_is) in
    let r = read_one (slice_get t.adaptors n) (sym c.if-is_read_on.ensures) in
    let at : slice_get t.adaptors (at_place s k) ≡ Some r.0 = ap (slice_get t.adaptors) (sym place) ∙ r.1 in
    let u = c.step.new.self in
    let st = subst (λ x. IsOneStepped x r.0 t c.step.result u (g.S.Site.told c.loop-place.site) (g.S.Site.told c.step.new.site)) place
    (c.step.ensures.state r.0 r.1) in
    let before : c.used-before.result ≡ data_size s.delivery.queue.chunks =
    c.used-before.ensures.used ∙ ap (λ (s : State). data_size s.delivery.queue.chunks) c.self.view_is in
    let sum = held_sum s k t u f below r.0 at r.2 c.step.result st c.in-Held.used (c.in_ok-bytes.was ∙ ap Ok c.in-Held.is) in
    omega (arith, before, sum)

pub returns-in-Held-clause-state : goal.returns-in-Held-clause-state
returns-in-Held-clause-state g c =
    let s = c.args.self.now in
    let t = c.loop-place.self in
    let k = c.loop-place.place in
    let f = c.loop-place.invariant.way in
    let n = c.number_at-adaptor.result in
    let count_is : length c.as_slice.result.now ≡ length s.adaptors =
    ap length c.as_slice.ensures ∙ ap (λ (s : State). length s.adaptors) c.self.view_is in
    let here = c.loop-place-test.true in
    let below : k < length s.adaptors = omega (arith, here, count_is) in
    let place = place_is s n (length c.as_slice.result.now) c.first_of-first.result c.self.inside.last k c.number_at-adaptor.ensures.number count_is
    c.first_of-first.ensures.first (ap (λ (s : State). s.last) c.self.view_is) in
    let r = read_one (slice_get t.adaptors n) (sym c.if-is_read_on.ensures) in
    let at : slice_get t.adaptors (at_place s k) ≡ Some r.0 = ap (slice_get t.adaptors) (sym place) ∙ r.1 in
    let u = c.step.new.self in
    let st = subst (λ x. IsOneStepped x r.0 t c.step.result u (g.S.Site.told c.loop-place.site) (g.S.Site.told c.step.new.site)) place
    (c.step.ensures.state r.0 r.1) in
    let before : c.used-before.result ≡ data_size s.delivery.queue.chunks =
    c.used-before.ensures.used ∙ ap (λ (s : State). data_size s.delivery.queue.chunks) c.self.view_is in
    let is = c.in_ok-bytes.was ∙ ap Ok c.in-Held.is in
    subst (λ r. IsFilled (to_step s) 0 s (Ok r) u (g.S.Site.told c.args.site.now) (g.S.Site.told c.step.new.site)) (sym c.held.ensures)
    (held_out s k t u f below r.0 at r.2 c.step.result st c.in-Held.used _ is (ap (λ k. c.in-Held.used - k) before))

pub returns-in-Held-clause-told : goal.returns-in-Held-clause-told
returns-in-Held-clause-told g c stamped =
    let s = c.args.self.now in
    let t = c.loop-place.self in
    let k = c.loop-place.place in
    let f = c.loop-place.invariant.way in
    let n = c.number_at-adaptor.result in
    let count_is : length c.as_slice.result.now ≡ length s.adaptors =
    ap length c.as_slice.ensures ∙ ap (λ (s : State). length s.adaptors) c.self.view_is in
    let here = c.loop-place-test.true in
    let below : k < length s.adaptors = omega (arith, here, count_is) in
    let place = place_is s n (length c.as_slice.result.now) c.first_of-first.result c.self.inside.last k c.number_at-adaptor.ensures.number count_is
    c.first_of-first.ensures.first (ap (λ (s : State). s.last) c.self.view_is) in
    let r = read_one (slice_get t.adaptors n) (sym c.if-is_read_on.ensures) in
    let at : slice_get t.adaptors (at_place s k) ≡ Some r.0 = ap (slice_get t.adaptors) (sym place) ∙ r.1 in
    let u = c.step.new.self in
    let st = subst (λ x. IsOneStepped x r.0 t c.step.result u (g.S.Site.told c.loop-place.site) (g.S.Site.told c.step.new.site)) place
    (c.step.ensures.state r.0 r.1) in
    told_out s k t u f below r.0 at r.2 c.step.result st stamped (c.step.ensures.told stamped)

pub returns-in-Held-clause-last : goal.returns-in-Held-clause-last
returns-in-Held-clause-last g c = last_none_then c.held.result (c.loop-place.invariant.way.told []) c.step.ensures.last

pub returns-in-Shrank-clause-state : goal.returns-in-Shrank-clause-state
returns-in-Shrank-clause-state g c =
    let s = c.args.self.now in
    let t = c.loop-place.self in
    let k = c.loop-place.place in
    let f = c.loop-place.invariant.way in
    let n = c.number_at-adaptor.result in
    let count_is : length c.as_slice.result.now ≡ length s.adaptors =
    ap length c.as_slice.ensures ∙ ap (λ (s : State). length s.adaptors) c.self.view_is in
    let here = c.loop-place-test.true in
    let below : k < length s.adaptors = omega (arith, here, count_is) in
    let place = place_is s n (length c.as_slice.result.now) c.first_of-first.result c.self.inside.last k c.number_at-adaptor.ensures.number count_is
    c.first_of-first.ensures.first (ap (λ (s : State). s.last) c.self.view_is) in
    let r = read_one (slice_get t.adaptors n) (sym c.if-is_read_on.ensures) in
    let at : slice_get t.adaptors (at_place s k) ≡ Some r.0 = ap (slice_get t.adaptors) (sym place) ∙ r.1 in
    let u = c.step.new.self in
    let st = subst (λ x. IsOneStepped x r.0 t c.step.result u (g.S.Site.told c.loop-place.site) (g.S.Site.told c.step.new.site)) place
    (c.step.ensures.state r.0 r.1) in
    let is = c.in_ok-bytes.was ∙ ap Ok c.in-Shrank.is in
    subst (λ n. IsFilled (to_step s) 0 s (Ok (Shrank n c.in-Shrank.had c.in-Shrank.is')) u
    (g.S.Site.told c.args.site.now) (g.S.Site.told c.step.new.site)) (sym place)
    (shrank_out s k t u f below r.0 at r.2 c.step.result st c.in-Shrank.had c.in-Shrank.is' is)

pub returns-in-Shrank-clause-told : goal.returns-in-Shrank-clause-told
returns-in-Shrank-clause-told g c stamped =
    let s = c.args.self.now in
    let t = c.loop-place.self in
    let k = c.loop-place.place in
    let f = c.loop-place.invariant.way in
    let n = c.number_at-adaptor.result in
    let count_is : length c.as_slice.result.now ≡ length s.adaptors =
    ap length c.as_slice.ensures ∙ ap (λ (s : State). length s.adaptors) c.self.view_is in
    let here = c.loop-place-test.true in
    let below : k < length s.adaptors = omega (arith, here, count_is) in
    let place = place_is s n (length c.as_slice.result.now) c.first_of-first.result c.self.inside.last k c.number_at-adaptor.ensures.number count_is
    c.first_of-first.ensures.first (ap (λ (s : State). s.last) c.self.view_is) in
    let r = read_one (slice_get t.adaptors n) (sym c.if-is_read_on.ensures) in
    let at : slice_get t.adaptors (at_place s k) ≡ Some r.0 = ap (slice_get t.adaptors) (sym place) ∙ r.1 in
    let u = c.step.new.self in
    let st = subst (λ x. IsOneStepped x r.0 t c.step.result u (g.S.Site.told c.loop-place.site) (g.S.Site.told c.step.new.site)) place
    (c.step.ensures.state r.0 r.1) in
    told_out s k t u f below r.0 at r.2 c.step.result st stamped (c.step.ensures.told stamped)

pub returns-in-Shrank-clause-last : goal.returns-in-Shrank-clause-last
returns-in-Shrank-clause-last g c = last_none_then
    (Shrank c.number_at-adaptor.result c.in-Shrank.had c.in-Shrank.is')
    (c.loop-place.invariant.way.told []) c.step.ensures.last

pub returns-clause-state : goal.returns-clause-state
returns-clause-state g c =
    let s = c.args.self.now in
    let t = c.loop-place.self in
    let f = c.loop-place.invariant.way in
    let past = c.loop-place-test.false in
    let size = f.size in
    let count_is : length c.as_slice.result.now ≡ length s.adaptors =
    ap length c.as_slice.ensures ∙ ap (λ (s : State). length s.adaptors) c.self.view_is in
    let before : c.used-before.result ≡ data_size s.delivery.queue.chunks =
    c.used-before.ensures.used ∙ ap (λ (s : State). data_size s.delivery.queue.chunks) c.self.view_is in
    let now : c.used.result ≡ data_size t.delivery.queue.chunks =
    c.used.ensures.used ∙ ap (λ (s : State). data_size s.delivery.queue.chunks) c.self-2.view_is in
    subst (λ r. IsFilled (to_step s) 0 s (Ok r) t (g.S.Site.told c.args.site.now) (g.S.Site.told c.loop-place.site)) (sym c.filled.ensures)
    (fill_ends s c.loop-place.place t _ _ f (omega (arith, past, count_is)) (c.used.result - c.used-before.result) (omega (arith, before, now, size)))

pub returns-clause-told : goal.returns-clause-told
returns-clause-told g c stamped = c.loop-place.invariant.way.told stamped

pub returns-clause-last : goal.returns-clause-last
returns-clause-last g c = last_none c.filled.result (c.loop-place.invariant.way.told [])

pub returns-in-Held-clause-full : goal.returns-in-Held-clause-full
returns-in-Held-clause-full g c =
    let t = c.loop-place.self in
    let n = c.number_at-adaptor.result in
    let r = read_one (slice_get t.adaptors n) (sym c.if-is_read_on.ensures) in
    (noted_none n c.args.self.now t c.step.new.self r.0 (step_held c.in-Held.used) tt c.step.result
    (c.step.ensures.state r.0 r.1) (c.in_ok-bytes.was ∙ ap Ok c.in-Held.is) c.loop-place.invariant.noted).full

pub returns-in-Shrank-clause-full : goal.returns-in-Shrank-clause-full
returns-in-Shrank-clause-full g c =
    let t = c.loop-place.self in
    let n = c.number_at-adaptor.result in
    let r = read_one (slice_get t.adaptors n) (sym c.if-is_read_on.ensures) in
    (noted_none n c.args.self.now t c.step.new.self r.0 (step_shrank c.in-Shrank.had c.in-Shrank.is') tt c.step.result
    (c.step.ensures.state r.0 r.1) (c.in_ok-bytes.was ∙ ap Ok c.in-Shrank.is) c.loop-place.invariant.noted).full

pub returns-clause-full : goal.returns-clause-full
returns-clause-full g c = c.loop-place.invariant.noted.full
