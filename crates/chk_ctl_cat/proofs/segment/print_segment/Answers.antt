use Rattle.std.proofs.Common.{◌≡◌, ℕ, ◌+◌, ◌<◌, List, length, Option, Err, refl, sym, ◌∙◌, arith}
use Rattle.std.proofs.lemmas.Result.{err_from_is_err_and}
use Rattle.chk_site.proofs.Runs.{adds_as}
use Rattle.chk_salvage.specs.Feeding.{fed_place}
use Rattle.chk_ctl_cat.specs.declared.fault.LookFault.TheVariants.{NoMemory}
use Rattle.chk_ctl_cat.specs.Faults.{FailsLast}
use Rattle.chk_ctl_cat.proofs.CourseLemmas.{keeps_then}
use Rattle.chk_ctl_cat.proofs.SegmentLemmas.{begins, follow_failed, follow_stopped, follow_past, look_failed, feed_failed, room_fed, goes_on, some_ended, is_ended, fails_then, looks_last, caused, looks_cause, no_call, no_cause, ends_last, ends_cause}
use Rattle.chk_ctl_cat.proofs.segment.print_segment.Goals as goal

pub loop-out-init : goal.loop-out-init
loop-out-init g c = record {
  so = begins (g.S.Site.told c.args.site.now) c.args.most c.args.name.now c.args.course.now c.new-pieces.result c.new-pieces.ensures.limit c.new-pieces.ensures.fed;
  count = refl;
}

pub follow-requires-clause-fed : goal.follow-requires-clause-fed
follow-requires-clause-fed g c = (c.loop-out.invariant.so.some, c.loop-out.invariant.so.has.state)

-- the file is damaged
pub returns-in-Some : goal.returns-in-Some
returns-in-Some g c =
    let old = g.S.Site.told c.args.site.now in
    let so = c.loop-out.invariant.so in
    let told =
    follow_stopped old (g.S.Site.told c.loop-out.site) c.args.most c.args.name.now c.args.course.now c.loop-out.course
    c.loop-out.pieces c.loop-out.at so c.follow.new.course c.follow.new.pieces c.in-Some.place c.damaged.result
    c.follow.ensures.keeps c.damaged.ensures (rw c.in-Some.is at c.in_ok-place.ensures.told) in
    record {
      told = told;
      keeps = keeps_then c.args.course.now c.loop-out.course c.follow.new.course so.keeps c.follow.ensures.keeps;
      last = no_call c.args.name.now c.in-Some.place c.damaged.result c.damaged.ensures told;
      cause = no_cause c.args.name.now c.in-Some.place c.damaged.result (g.S.Site.fault_count c.args.site.now) (g.S.Site.fault_count c.follow.new.site)
          c.damaged.ensures (c.in_ok-place.ensures.cause ∙ c.loop-out.invariant.count);
    }

-- a print or the memory failed
pub returns-in_err-place : goal.returns-in_err-place
returns-in_err-place g c =
    let so = c.loop-out.invariant.so in
    let fault = c.in_err-place.field-0.0 in
    let p = err_from_is_err_and c.from_residual.result c.from_residual.ensures.1 in
    rw (p.1, p.2)
    (record {
      told = follow_failed (g.S.Site.told c.args.site.now) (g.S.Site.told c.loop-out.site) c.args.most c.args.name.now c.args.course.now
          c.loop-out.course c.loop-out.pieces c.loop-out.at so c.follow.new.course c.follow.new.course c.follow.new.pieces fault
          c.in_err-place.ensures.told;
      keeps = keeps_then c.args.course.now c.loop-out.course c.follow.new.course so.keeps c.follow.ensures.keeps;
      last = fails_then (Unit {0}) (Option ℕ) fault so.told c.in_err-place.ensures.last;
      cause = caused (Unit {0}) (Option ℕ) fault (g.S.Site.fault_count c.args.site.now) (g.S.Site.fault_count c.loop-out.site)
          (g.S.Site.fault_count c.follow.new.site) c.loop-out.invariant.count c.in_err-place.ensures.cause;
    })

-- a read failed, or the segment went
pub returns-in_err-piece : goal.returns-in_err-piece
returns-in_err-piece g c =
    let so = c.loop-out.invariant.so in
    let fault = c.in_err-piece.field-0.0 in
    let p = err_from_is_err_and c.from_residual-in_err-piece.result c.from_residual-in_err-piece.ensures.1 in
    rw (p.1, p.2)
    (record {
      told = look_failed (g.S.Site.told c.args.site.now) (g.S.Site.told c.loop-out.site) c.args.most c.args.name.now c.args.course.now
          c.loop-out.course c.loop-out.pieces c.loop-out.at so c.follow.new.course c.follow.new.pieces c.follow.ensures.keeps
          c.follow.ensures.limit (rw c.in_default.is at c.in_ok-place.ensures.over) (rw c.in_default.is at c.in_ok-place.ensures.told) fault
          c.in_err-piece.ensures.told;
      keeps = keeps_then c.args.course.now c.loop-out.course c.follow.new.course so.keeps c.follow.ensures.keeps;
      last = looks_last (Unit {0}) (List ℕ) fault
          (follow_past (g.S.Site.told c.args.site.now) (g.S.Site.told c.loop-out.site) c.args.most c.args.name.now c.args.course.now
          c.loop-out.course c.loop-out.pieces c.loop-out.at so c.follow.new.course c.follow.new.pieces c.follow.ensures.keeps
          c.follow.ensures.limit (rw c.in_default.is at c.in_ok-place.ensures.over) (rw c.in_default.is at c.in_ok-place.ensures.told))
          c.in_err-piece.ensures.last;
      cause = looks_cause (Unit {0}) (List ℕ) fault (g.S.Site.fault_count c.args.site.now) (g.S.Site.fault_count c.follow.new.site)
          (g.S.Site.fault_count c.look.new.site) (c.in_ok-place.ensures.cause ∙ c.loop-out.invariant.count) c.in_err-piece.ensures.cause;
    })

-- the end
pub returns-then-len-eq0 : goal.returns-then-len-eq0
returns-then-len-eq0 g c =
    let so = c.loop-out.invariant.so in
    let empty : length c.in_ok-piece.piece ≡ 0 = sym c.len.ensures ∙ c.if-len-eq0.true in
    let over = rw c.in_default.is at c.in_ok-place.ensures.over in
    let followed = rw c.in_default.is at c.in_ok-place.ensures.told in
    let told =
    is_ended (g.S.Site.told c.args.site.now) (g.S.Site.told c.loop-out.site) c.args.most c.args.name.now c.args.course.now
    c.loop-out.course c.loop-out.pieces c.loop-out.at so c.follow.new.course c.follow.new.pieces c.follow.ensures.keeps
    c.follow.ensures.limit over followed c.in_ok-piece.piece c.in_ok-piece.ensures.told c.ended.result empty c.ended.ensures in
    let ends =
    some_ended (g.S.Site.told c.args.site.now) (g.S.Site.told c.loop-out.site) c.args.most c.args.name.now c.args.course.now
    c.loop-out.course c.loop-out.pieces c.loop-out.at so c.follow.new.course c.follow.new.pieces c.follow.ensures.keeps
    c.follow.ensures.limit over followed c.in_ok-piece.piece c.in_ok-piece.ensures.told c.ended.result c.ended.ensures in
    record {
      told = told;
      keeps = keeps_then c.args.course.now c.loop-out.course c.follow.new.course so.keeps c.follow.ensures.keeps;
      last = ends_last c.args.name.now so.some (fed_place c.follow.new.pieces) c.ended.result ends told;
      cause = ends_cause c.args.name.now so.some (fed_place c.follow.new.pieces) c.ended.result (g.S.Site.fault_count c.args.site.now)
          (g.S.Site.fault_count c.look.new.site) ends
          (c.in_ok-piece.ensures.cause ∙ c.in_ok-place.ensures.cause ∙ c.loop-out.invariant.count);
    }

-- what was read is fed
pub feed-requires : goal.feed-requires
feed-requires g c =
    rw c.as_slice.ensures
    (room_fed (g.S.Site.told c.args.site.now) (g.S.Site.told c.loop-out.site) c.args.most c.args.name.now c.args.course.now
    c.loop-out.course c.loop-out.pieces c.loop-out.at c.loop-out.invariant.so c.follow.new.course c.follow.new.pieces c.follow.ensures.keeps
    c.follow.ensures.limit (rw c.in_default.is at c.in_ok-place.ensures.over) (rw c.in_default.is at c.in_ok-place.ensures.told)
    c.in_ok-piece.piece c.in_ok-piece.ensures.told c.in_ok-piece.ensures.few)

-- no memory for it
pub returns-in_err-feed : goal.returns-in_err-feed
returns-in_err-feed g c =
    let so = c.loop-out.invariant.so in
    let p = err_from_is_err_and c.from_residual-in_err-feed.result c.from_residual-in_err-feed.ensures.1 in
    let told =
    feed_failed (g.S.Site.told c.args.site.now) (g.S.Site.told c.loop-out.site) c.args.most c.args.name.now c.args.course.now
    c.loop-out.course c.loop-out.pieces c.loop-out.at so c.follow.new.course c.follow.new.pieces c.follow.ensures.keeps
    c.follow.ensures.limit (rw c.in_default.is at c.in_ok-place.ensures.over) (rw c.in_default.is at c.in_ok-place.ensures.told)
    c.in_ok-piece.piece c.in_ok-piece.ensures.told in
    rw (p.1, p.2)
    (record {
      told = told;
      keeps = keeps_then c.args.course.now c.loop-out.course c.follow.new.course so.keeps c.follow.ensures.keeps;
      last = adds_as (FailsLast {T = Unit {0}} (Err NoMemory)) told (λ added history x. tt);
      cause = c.in_ok-piece.ensures.cause ∙ c.in_ok-place.ensures.cause ∙ c.loop-out.invariant.count;
    })

-- a piece more
pub loop-out-smaller : goal.loop-out-smaller
loop-out-smaller g c =
    let some : 0 < length c.in_ok-piece.piece = let a = c.len.ensures in let b = c.if-len-eq0.false in omega arith in
    omega (arith, some, c.len-in-loop-out.ensures, c.loop-out.invariant.so.small)

pub loop-out-preserved : goal.loop-out-preserved
loop-out-preserved g c =
    let some : 0 < length c.in_ok-piece.piece = let a = c.len.ensures in let b = c.if-len-eq0.false in omega arith in
    record {
      so = goes_on (g.S.Site.told c.args.site.now) (g.S.Site.told c.loop-out.site) c.args.most c.args.name.now c.args.course.now
          c.loop-out.course c.loop-out.pieces c.loop-out.at c.loop-out.invariant.so c.follow.new.course c.follow.new.pieces
          c.follow.ensures.keeps c.follow.ensures.limit (rw c.in_default.is at c.in_ok-place.ensures.over)
          (rw c.in_default.is at c.in_ok-place.ensures.told) c.in_ok-piece.piece c.in_ok-piece.ensures.told
          c.feed.new.self (c.loop-out.at + c.len-in-loop-out.result) c.in_ok-piece.ensures.few some c.feed.ensures.same
          (rw c.as_slice.ensures at c.in_ok-feed.ensures.fed) (omega (arith, c.len-in-loop-out.ensures));
      count = c.in_ok-piece.ensures.cause ∙ c.in_ok-place.ensures.cause ∙ c.loop-out.invariant.count;
    }
