use Rattle.std.proofs.Common.{subst, arith, ◌<◌}
use Rattle.chk_salvage.specs.Views.{placed_of}
use Rattle.chk_salvage.specs.Feeding.{Answered}
use Rattle.chk_record_index.specs.Heads.{IsTaken}
use Rattle.chk_record_index.proofs.FedRecords.{goes_entry, goes_further, spoiled_record, spoiled_header, spoiled_entry, spoiled_long}
use Rattle.chk_record_index.proofs.gather.Heads.take_fed.Goals as goal

pub returns-then-not-branch-clause-ok : goal.returns-then-not-branch-clause-ok
returns-then-not-branch-clause-ok c =
    spoiled_record c.args.most c.args.file c.args.pieces.now c.loop-found.pieces c.next.follows.lender-at-none c.args.self.now c.loop-found.self c.loop-found.place
    c.loop-found.invariant c.in-Entry.found
    (subst (λ answer. Answered c.loop-found.pieces c.next.follows.lender-at-none answer) c.in-Entry.is c.next.follows.holds-at-none)
    (subst (λ b. IsTaken b c.args.most c.args.file (placed_of c.in-Entry.found) c.loop-found.self c.take_record.new.self)
    c.if-not-branch.true c.in_ok-take_record-in-Entry.ensures.ok).0

pub loop-found-smaller : goal.loop-found-smaller
loop-found-smaller c =
    let further : c.loop-found.place < c.in-Entry.found.end =
    goes_further c.args.most c.args.file c.args.pieces.now c.loop-found.pieces c.next.follows.lender-at-none c.args.self.now c.loop-found.self c.loop-found.place
    c.loop-found.invariant c.in-Entry.found
    (subst (λ answer. Answered c.loop-found.pieces c.next.follows.lender-at-none answer) c.in-Entry.is c.next.follows.holds-at-none) in
    omega (arith, further, c.loop-found.pieces.fits, c.loop-found.invariant.here)

pub loop-found-preserved : goal.loop-found-preserved
loop-found-preserved c =
    goes_entry c.args.most c.args.file c.args.pieces.now c.loop-found.pieces c.next.follows.lender-at-none c.args.self.now c.loop-found.self c.loop-found.place
    c.loop-found.invariant c.in-Entry.found c.take_record.new.self
    (subst (λ answer. Answered c.loop-found.pieces c.next.follows.lender-at-none answer) c.in-Entry.is c.next.follows.holds-at-none)
    (subst (λ b. IsTaken b c.args.most c.args.file (placed_of c.in-Entry.found) c.loop-found.self c.take_record.new.self)
    c.if-not-branch.false c.in_ok-take_record-in-Entry.ensures.ok)

pub returns-in-Header-clause-ok : goal.returns-in-Header-clause-ok
returns-in-Header-clause-ok c =
    spoiled_header c.args.most c.args.file c.args.pieces.now c.loop-found.pieces c.next.follows.lender-at-none c.args.self.now c.loop-found.self c.loop-found.place
    c.loop-found.invariant c.in-Header.field-0
    (subst (λ answer. Answered c.loop-found.pieces c.next.follows.lender-at-none answer) c.in-Header.is c.next.follows.holds-at-none)

pub returns-in-Damaged-clause-ok : goal.returns-in-Damaged-clause-ok
returns-in-Damaged-clause-ok c =
    spoiled_entry c.args.most c.args.file c.args.pieces.now c.loop-found.pieces c.next.follows.lender-at-none c.args.self.now c.loop-found.self c.loop-found.place
    c.loop-found.invariant c.in-Damaged.at c.in-Damaged.why
    (subst (λ answer. Answered c.loop-found.pieces c.next.follows.lender-at-none answer) c.in-Damaged.is c.next.follows.holds-at-none)

pub returns-in-Long-clause-ok : goal.returns-in-Long-clause-ok
returns-in-Long-clause-ok c =
    spoiled_long c.args.most c.args.file c.args.pieces.now c.loop-found.pieces c.next.follows.lender-at-none c.args.self.now c.loop-found.self c.loop-found.place
    c.loop-found.invariant c.in-Long.at c.in-Long.need
    (subst (λ answer. Answered c.loop-found.pieces c.next.follows.lender-at-none answer) c.in-Long.is c.next.follows.holds-at-none)
