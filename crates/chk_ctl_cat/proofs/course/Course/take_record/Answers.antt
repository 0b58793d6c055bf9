use Rattle.std.proofs.Common.{inl, refl, sym, ap, ◌≡◌, ◌∙◌}
use Rattle.std.proofs.lemmas.Result.{IfOk-weaker}
use Rattle.chk_chunk.specs.Keys.{Key}
use Rattle.chk_salvage.specs.Views.{placed_of}
use Rattle.chk_record_index.proofs.Records.{no_key, no_value, is_chunk}
use Rattle.chk_ctl_cat.specs.Courses.{chunk_with, stream_of, TookChunk, TookRecord}
use Rattle.chk_ctl_cat.specs.Recents.{row_of}
use Rattle.chk_ctl_cat.proofs.CourseLemmas.{took_record}
use Rattle.chk_ctl_cat.proofs.course.Course.take_record.Goals as goal

pub returns-in-None-clause-ok : goal.returns-in-None-clause-ok
returns-in-None-clause-ok c = (inl (no_key c.args.most (placed_of c.args.found.now) (rw c.in-None.is at c.in_ok-row.ensures.row)), refl, refl)

pub returns-then-not-is_size-clause-ok : goal.returns-then-not-is_size-clause-ok
returns-then-not-is_size-clause-ok c =
    let read = rw c.in-Some.is at c.in_ok-row.ensures.row in (
      inl (no_value c.args.most (placed_of c.args.found.now) read.0 read.1
          (sym (c.is_size.ensures read.0 c.args.found.now.value.now (sym (ap (λ r. r.start) read.2)) (sym (ap (λ r. r.seq) read.2)) refl)
          ∙ c.if-not-is_size.true)),
      refl,
      refl,
    )

pub returns-clause-ok : goal.returns-clause-ok
returns-clause-ok c =
    let read = rw c.in-Some.is at c.in_ok-row.ensures.row in
    let r = placed_of c.args.found.now in
    let k = chunk_with read.0 c.args.found.now.value.now in
    IfOk-weaker c.take_chunk.result
    (λ is. (key : Key) → c.in-Some.row ≡ row_of (stream_of c.args.self.now) key
    → TookChunk is (chunk_with key c.args.found.now.value.now) c.args.self.now c.take_chunk.new.self c.args.out.now c.take_chunk.new.out)
    (λ is. TookRecord is c.args.most r c.args.self.now c.take_chunk.new.self c.args.out.now c.take_chunk.new.out)
    (λ is p. took_record c.args.most r k c.args.self.now c.take_chunk.new.self c.args.out.now c.take_chunk.new.out
    (is_chunk c.args.most r read.0 read.1
    (sym (c.is_size.ensures read.0 c.args.found.now.value.now (sym (ap (λ x. x.start) read.2)) (sym (ap (λ x. x.seq) read.2)) refl)
    ∙ c.if-not-is_size.false)) is (p read.0 read.2))
    c.take_chunk.ensures.ok
