use Rattle.std.proofs.Common.{◌≡◌, ◌<◌, length, false, subst, sym}
use Rattle.chk_chunk.specs.Keys.{Stream, same_stream}
use Rattle.chk_world.proofs.NameTests.{streams_same}
use Rattle.chk_archive_plan.specs.Passes.{head_in}
use Rattle.chk_record_reader.specs.Courses.{is_head_of}
use Rattle.chk_book.specs.Views.{end_view}
use Rattle.chk_demux.proofs.HeadsInOrder.{holds_all}
use Rattle.chk_demux.proofs.blocks.block_of.Goals as goal

pub returns-clause-holds : goal.returns-clause-holds
returns-clause-holds c rise =
    let heads = c.args.heads.now in
    let s : Stream = (end_view c.args.end.now).stream in
    let first = c.args.next.now in
    let past = c.span_end-past.result in
    let stands = c.begins_at.ensures c.if-not-begins_at.false in
    let next : past < length heads → is_head_of s (head_in heads past) ≡ false =
    subst (λ (t : Stream). past < length heads → same_stream t (head_in heads past).key.stream ≡ false)
    (sym (streams_same s (head_in heads first).key.stream stands.own)) c.span_end-past.ensures.next in
    holds_all heads rise s first past stands c.span_end-past.ensures.beyond next
