use Rattle.std.proofs.Common.{◌≡◌, ◌∙◌, ap, sym, subst}
use Rattle.std.proofs.lemmas.List.{take-map}
use Rattle.chk_tail.proofs.WalkLast.{walk_last}
use Rattle.chk_rotate.specs.Marks.{RiseTo}
use Rattle.chk_rotate.specs.Readers.{Reader, IsRising}
use Rattle.chk_rotate.specs.ReaderFields.{marks_of, mark_spot}
use Rattle.chk_rotate.proofs.Fields.{seen, newest_offset}
use Rattle.chk_rotate.proofs.Walking.{restored, on_err, refused}
use Rattle.chk_rotate.proofs.reader.RotTail.step.Goals as goal
use Rattle.chk_rotate.proofs.reader.RotTail.step.Given.{Over}

-- the reader is as it was once the new marks are dropped
is_old : (g : Over) (c : goal.After-truncate g)
    → seen c.self.inside.path c.self.inside.lines
    (marks_of c.truncate.new.self.items) c.self.inside.offset ≡ c.args.self.now
is_old g c =
    let r = c.self.inside in
    let w = c.walk-result.ensures.told in
    let rises = c.marks-passed.ensures.rises in
    let cut = ap marks_of c.truncate.ensures.items
    ∙ sym (take-map mark_spot c.marks-passed.result r.marks.items) in
    restored c.args.self.now c.walk-result.new.self r.path r.lines (marks_of r.marks.items)
    (marks_of c.truncate.new.self.items) r.offset w.marks w.next
    c.marks-passed.result c.self.view_is w.is
    (on_err c.walk-result.result c.if-is_err.ensures.value c.walk-result.ensures.offset)
    rises.newest
    c.marks-passed.ensures.count cut

pub invariant_of-self : goal.invariant_of-self
invariant_of-self g c =
    let kept = marks_of c.truncate.new.self.items in
    subst (λ k. RiseTo kept k) (newest_offset kept c.self.inside.offset)
    (subst (λ (r : Reader). RiseTo r.marks r.read.offset)
    (sym (is_old g c)) c.marks-passed.ensures.rises.rises)

pub returns-then-is_err-clause-told : goal.returns-then-is_err-clause-told
returns-then-is_err-clause-told g c =
    let new = seen c.self.inside.path c.self.inside.lines
    (marks_of c.truncate.new.self.items) c.self.inside.offset in
    refused c.args.who.now c.args.self.now c.walk-result.new.self new c.walk-result.result
    c.if-is_err.ensures.value c.walk-result.ensures.told (is_old g c)

pub returns-then-is_err-clause-rises : goal.returns-then-is_err-clause-rises
returns-then-is_err-clause-rises g c =
    subst (λ (r : Reader). IsRising r) (sym (is_old g c)) c.marks-passed.ensures.rises

pub returns-then-is_err-clause-last : goal.returns-then-is_err-clause-last
returns-then-is_err-clause-last g c = walk_last c.walk-result.ensures.told.walks

pub returns-else-is_err-clause-last : goal.returns-else-is_err-clause-last
returns-else-is_err-clause-last g c = walk_last c.walk-result.ensures.told.walks
