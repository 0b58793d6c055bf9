use Rattle.std.proofs.Common.{subst, sym, arith, ◌<◌}
use Rattle.chk_salvage.specs.Views.{placed_of}
use Rattle.chk_salvage.specs.Feeding.{Answered}
use Rattle.chk_ctl_cat.specs.Courses.{TookRecord}
use Rattle.chk_ctl_cat.specs.Recents.{IsRecent}
use Rattle.chk_ctl_cat.proofs.FedCourses.{goes_entry, goes_further, wrong_record, wrong_header, wrong_entry, wrong_long}
use Rattle.chk_ctl_cat.proofs.course.Course.take_fed.Goals as goal

pub returns-then-not-branch-clause-ok : goal.returns-then-not-branch-clause-ok
returns-then-not-branch-clause-ok c =
    wrong_record c.args.most c.args.pieces.now c.loop-found.pieces c.next.follows.lender-at-none c.args.self.now c.loop-found.self
    c.args.out.now c.loop-found.out c.loop-found.place c.loop-found.invariant.along c.in-Entry.found c.take_record.new.self c.take_record.new.out
    (subst (λ answer. Answered c.loop-found.pieces c.next.follows.lender-at-none answer) c.in-Entry.is c.next.follows.holds-at-none)
    c.take_record.ensures.keeps
    (subst (λ b. TookRecord b c.args.most (placed_of c.in-Entry.found) c.loop-found.self c.take_record.new.self c.loop-found.out c.take_record.new.out)
    c.if-not-branch.true c.in_ok-take_record-in-Entry.ensures.ok)

pub loop-found-smaller : goal.loop-found-smaller
loop-found-smaller c =
    let further : c.loop-found.place < c.in-Entry.found.end =
    goes_further c.args.most c.args.pieces.now c.loop-found.pieces c.next.follows.lender-at-none c.args.self.now c.loop-found.self
    c.args.out.now c.loop-found.out c.loop-found.place c.loop-found.invariant.along c.in-Entry.found
    (subst (λ answer. Answered c.loop-found.pieces c.next.follows.lender-at-none answer) c.in-Entry.is c.next.follows.holds-at-none) in
    omega (arith, further, c.loop-found.pieces.fits, c.loop-found.invariant.along.here)

pub loop-found-preserved : goal.loop-found-preserved
loop-found-preserved c = record {
  along =
      goes_entry c.args.most c.args.pieces.now c.loop-found.pieces c.next.follows.lender-at-none c.args.self.now c.loop-found.self
      c.args.out.now c.loop-found.out c.loop-found.place c.loop-found.invariant.along c.in-Entry.found c.take_record.new.self c.take_record.new.out
      (subst (λ answer. Answered c.loop-found.pieces c.next.follows.lender-at-none answer) c.in-Entry.is c.next.follows.holds-at-none)
      c.take_record.ensures.keeps
      (subst (λ b. TookRecord b c.args.most (placed_of c.in-Entry.found) c.loop-found.self c.take_record.new.self c.loop-found.out c.take_record.new.out)
      c.if-not-branch.false c.in_ok-take_record-in-Entry.ensures.ok);
  recent = subst (λ s. IsRecent s c.take_record.new.recent) (sym c.take_record.ensures.keeps.stream) c.take_record.ensures.recent;
}

pub returns-in-Header-clause-ok : goal.returns-in-Header-clause-ok
returns-in-Header-clause-ok c =
    wrong_header c.args.most c.args.pieces.now c.loop-found.pieces c.next.follows.lender-at-none c.args.self.now c.loop-found.self
    c.args.out.now c.loop-found.out c.loop-found.place c.loop-found.invariant.along c.in-Header.field-0
    (subst (λ answer. Answered c.loop-found.pieces c.next.follows.lender-at-none answer) c.in-Header.is c.next.follows.holds-at-none)

pub returns-in-Damaged-clause-ok : goal.returns-in-Damaged-clause-ok
returns-in-Damaged-clause-ok c =
    wrong_entry c.args.most c.args.pieces.now c.loop-found.pieces c.next.follows.lender-at-none c.args.self.now c.loop-found.self
    c.args.out.now c.loop-found.out c.loop-found.place c.loop-found.invariant.along c.in-Damaged.at c.in-Damaged.why
    (subst (λ answer. Answered c.loop-found.pieces c.next.follows.lender-at-none answer) c.in-Damaged.is c.next.follows.holds-at-none)

pub returns-in-Long-clause-ok : goal.returns-in-Long-clause-ok
returns-in-Long-clause-ok c =
    wrong_long c.args.most c.args.pieces.now c.loop-found.pieces c.next.follows.lender-at-none c.args.self.now c.loop-found.self
    c.args.out.now c.loop-found.out c.loop-found.place c.loop-found.invariant.along c.in-Long.at c.in-Long.need
    (subst (λ answer. Answered c.loop-found.pieces c.next.follows.lender-at-none answer) c.in-Long.is c.next.follows.holds-at-none)
