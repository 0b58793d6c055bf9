use Rattle.std.proofs.Common.{map, subst, arith, ◌<◌}
use Rattle.chk_salvage.specs.Views.{placed_of}
use Rattle.chk_salvage.specs.Feeding.{Answered}
use Rattle.chk_book.specs.Views.{end_view}
use Rattle.chk_demux_scan.specs.Looking.{LookedIf}
use Rattle.chk_demux_scan.proofs.FedLooks.{looked_begin, looked_entry, looked_further, looked_all, looked_record, looked_header, looked_damage, looked_long}
use Rattle.chk_demux_scan.proofs.looking.look_fed.Goals as goal

pub loop-found-init : goal.loop-found-init
loop-found-init c = record {
  so = looked_begin (map end_view c.args.ends.now) c.args.places.now c.args.file
      c.args.pieces.now c.args.heads.now c.args.look.now c.place-place.result c.place-place.ensures
      c.requires.fed;
  same = c.requires.spans;
}

pub returns-then-not-branch-clause-ok : goal.returns-then-not-branch-clause-ok
returns-then-not-branch-clause-ok c =
    let es = map end_view c.args.ends.now in
    looked_record es c.args.places.now c.args.file c.args.pieces.now c.loop-found.pieces
    c.next.follows.lender-at-none c.args.heads.now c.args.look.now c.loop-found.heads
    c.loop-found.look c.loop-found.place c.loop-found.invariant.so c.in-Entry.found
    c.look_record.new.heads c.look_record.new.look
    (subst (λ answer. Answered c.loop-found.pieces c.next.follows.lender-at-none answer)
    c.in-Entry.is c.next.follows.holds-at-none)
    (subst (λ b. LookedIf b es c.args.places.now c.args.file (placed_of c.in-Entry.found)
    c.loop-found.heads c.loop-found.look c.look_record.new.heads c.look_record.new.look)
    c.if-not-branch.true c.in_ok-look_record-in-Entry.ensures.ok)

pub loop-found-smaller : goal.loop-found-smaller
loop-found-smaller c =
    let further : c.loop-found.place < c.in-Entry.found.end =
    looked_further (map end_view c.args.ends.now) c.args.places.now c.args.file
    c.args.pieces.now c.loop-found.pieces c.next.follows.lender-at-none c.args.heads.now
    c.args.look.now c.loop-found.heads c.loop-found.look c.loop-found.place
    c.loop-found.invariant.so c.in-Entry.found
    (subst (λ answer. Answered c.loop-found.pieces c.next.follows.lender-at-none answer)
    c.in-Entry.is c.next.follows.holds-at-none) in
    omega (arith, further, c.loop-found.pieces.fits, c.loop-found.invariant.so.over.here)

pub loop-found-preserved : goal.loop-found-preserved
loop-found-preserved c =
    let es = map end_view c.args.ends.now in
    record {
      so = looked_entry es c.args.places.now c.args.file c.args.pieces.now
          c.loop-found.pieces c.next.follows.lender-at-none c.args.heads.now c.args.look.now
          c.loop-found.heads c.loop-found.look c.loop-found.place c.loop-found.invariant.so
          c.in-Entry.found c.look_record.new.heads c.look_record.new.look
          (subst (λ answer. Answered c.loop-found.pieces c.next.follows.lender-at-none answer)
          c.in-Entry.is c.next.follows.holds-at-none)
          (subst (λ b. LookedIf b es c.args.places.now c.args.file (placed_of c.in-Entry.found)
          c.loop-found.heads c.loop-found.look c.look_record.new.heads c.look_record.new.look)
          c.if-not-branch.false c.in_ok-look_record-in-Entry.ensures.ok);
      same = c.look_record.ensures.same;
    }

pub returns-in-More-clause-ok : goal.returns-in-More-clause-ok
returns-in-More-clause-ok c =
    looked_all (map end_view c.args.ends.now) c.args.places.now c.args.file c.args.pieces.now
    c.loop-found.pieces c.next.follows.lender-at-none c.args.heads.now c.args.look.now
    c.loop-found.heads c.loop-found.look c.loop-found.place c.loop-found.invariant.so
    (subst (λ answer. Answered c.loop-found.pieces c.next.follows.lender-at-none answer)
    c.in-More.is c.next.follows.holds-at-none)

pub returns-in-Header-clause-ok : goal.returns-in-Header-clause-ok
returns-in-Header-clause-ok c =
    looked_header (map end_view c.args.ends.now) c.args.places.now c.args.file c.args.pieces.now
    c.loop-found.pieces c.next.follows.lender-at-none c.args.heads.now c.args.look.now
    c.loop-found.heads c.loop-found.look c.loop-found.place c.loop-found.invariant.so
    c.in-Header.field-0
    (subst (λ answer. Answered c.loop-found.pieces c.next.follows.lender-at-none answer)
    c.in-Header.is c.next.follows.holds-at-none)

pub returns-in-Damaged-clause-ok : goal.returns-in-Damaged-clause-ok
returns-in-Damaged-clause-ok c =
    looked_damage (map end_view c.args.ends.now) c.args.places.now c.args.file c.args.pieces.now
    c.loop-found.pieces c.next.follows.lender-at-none c.args.heads.now c.args.look.now
    c.loop-found.heads c.loop-found.look c.loop-found.place c.loop-found.invariant.so
    c.in-Damaged.at c.in-Damaged.why
    (subst (λ answer. Answered c.loop-found.pieces c.next.follows.lender-at-none answer)
    c.in-Damaged.is c.next.follows.holds-at-none)

pub returns-in-Long-clause-ok : goal.returns-in-Long-clause-ok
returns-in-Long-clause-ok c =
    looked_long (map end_view c.args.ends.now) c.args.places.now c.args.file c.args.pieces.now
    c.loop-found.pieces c.next.follows.lender-at-none c.args.heads.now c.args.look.now
    c.loop-found.heads c.loop-found.look c.loop-found.place c.loop-found.invariant.so
    c.in-Long.at c.in-Long.need
    (subst (λ answer. Answered c.loop-found.pieces c.next.follows.lender-at-none answer)
    c.in-Long.is c.next.follows.holds-at-none)
