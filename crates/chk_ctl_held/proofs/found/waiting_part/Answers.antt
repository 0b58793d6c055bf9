use Rattle.std.proofs.Common.{◌≡◌, ◌∙◌, ◌<◌, ℕ, ap, drop, sym, subst, arith, false}
use Rattle.chk_chunk.specs.Keys.{same_stream}
use Rattle.chk_ctl_held.specs.declared.spans.Span.{Span}
use Rattle.chk_ctl_held.specs.Elsewhere.{no_span, waiting_from}
use Rattle.chk_ctl_held.specs.Order.{stream_in}
use Rattle.chk_ctl_held.specs.Stores.{lent_gap}
use Rattle.chk_ctl_held.proofs.HeadPlaces.{none_behind, none_left, skipped}
use Rattle.chk_ctl_held.proofs.found.waiting_part.Goals as goal

pub loop-index-init : goal.loop-index-init
loop-index-init c =
    let gap = lent_gap c.args.gap.now in
    let heads = c.args.heads.now in
    let first : ℕ = c.place_in-first.result in
    let place = c.place_in-first.ensures in
    record {
      from = omega arith;
      place = place;
      is = ap (λ (a : Span). waiting_from gap a (drop first heads)) c.no_span-all.ensures
          ∙ skipped gap no_span heads first place.before place.within;
    }

pub returns-then-not-is_of : goal.returns-then-not-is_of
returns-then-not-is_of c =
    let l = c.loop-index in
    let gap = lent_gap c.args.gap.now in
    let heads = c.args.heads.now in
    let within = subst (λ (n : ℕ). l.index < n) c.len-index-end.ensures c.loop-index-test.true in
    let other : same_stream gap.stream (stream_in heads l.index) ≡ false =
    sym c.is_of.ensures ∙ c.if-not-is_of.true in
    sym (none_left gap l.all heads l.index
    (none_behind heads gap.stream c.place_in-first.result l.index c.requires l.invariant.place
    l.invariant.from within other))
    ∙ l.invariant.is
