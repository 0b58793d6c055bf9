use Rattle.chk_world.proofs.Working.{works_then}
use Rattle.chk_sink.proofs.Owning.{made_as, made_none, fails_of, refused_by}
use Rattle.std.proofs.Common.{Ok, Err, None}
use Rattle.chk_chunk.specs.Lent.{lent_chunk}
use Rattle.chk_collector.proofs.PutLoop.{put_begins, put_on, put_fails, own_on, put_leaves, put_unwritten, puts_end, lines_end, full_end}
use Rattle.chk_collector.proofs.collector.Collector.put_all.Goals as goal

pub loop-chunk-init : goal.loop-chunk-init
loop-chunk-init g c =
    put_begins (g.S.Site.told c.args.site.now) (g.S.Site.fault_count c.args.site.now) c.args.self.now c.self.inside.sinks c.args.post.left c.args.lines.now
    c.self.view_is c.requires

pub loop-chunk-preserved : goal.loop-chunk-preserved
loop-chunk-preserved g c =
    put_on c.loop-chunk.invariant (lent_chunk c.in-Some.chunk) c.next.new.self.left c.in_ok-stem.stem c.in_ok-stem.end (g.S.Site.fault_count c.put.new.site)
    c.put.new.self c.put_line.new.lines c.in-Some.ensures.first c.in_ok-put_line.ensures.ok c.put_line.ensures.short c.put_line.ensures.of_sink c.put_line.ensures.wide c.in_ok-stem.ensures.told
    c.in_ok-stem.ensures.same c.in_ok-stem.ensures.goes_on c.in_ok-stem.ensures.placed c.in_ok-stem.ensures.own
    c.in_ok-stem.ensures.cause

pub returns-in_err-stem-clause-told : goal.returns-in_err-stem-clause-told
returns-in_err-stem-clause-told g c stamped handled posted =
    rw (refused_by c.from_residual.ensures.1) (put_fails c.loop-chunk.invariant (lent_chunk c.in-Some.chunk) c.next.new.self.left (Err c.in_err-stem.field-0.0) _ c.put.new.self c.loop-chunk.lines
    c.in-Some.ensures.first c.in_err-stem.ensures.told stamped handled posted)

pub returns-in_err-put_line-clause-told : goal.returns-in_err-put_line-clause-told
returns-in_err-put_line-clause-told g c stamped handled posted =
    rw (refused_by c.from_residual-in_err-put_line.ensures.1) (put_fails c.loop-chunk.invariant (lent_chunk c.in-Some.chunk) c.next.new.self.left c.put.result _ c.put.new.self c.put_line.new.lines
    c.in-Some.ensures.first c.put.ensures.told stamped handled posted)

pub returns-in_err-stem-clause-leaves : goal.returns-in_err-stem-clause-leaves
returns-in_err-stem-clause-leaves g c =
    rw (refused_by c.from_residual.ensures.1) (put_leaves c.loop-chunk.invariant (lent_chunk c.in-Some.chunk) c.next.new.self.left c.in-Some.ensures.first c.put.new.self
    c.in_err-stem.field-0.0 c.in_err-stem.ensures.refused c.in_err-stem.ensures.spent)

pub returns-in_err-stem-clause-own : goal.returns-in_err-stem-clause-own
returns-in_err-stem-clause-own g c =
    made_as c.put.result c.from_residual.result _ c.in_err-stem.was (refused_by c.from_residual.ensures.1) (own_on c.loop-chunk.invariant c.put.ensures.own)

pub returns-in_err-put_line-clause-leaves : goal.returns-in_err-put_line-clause-leaves
returns-in_err-put_line-clause-leaves g c =
    rw (refused_by c.from_residual-in_err-put_line.ensures.1) (put_unwritten c.loop-chunk.invariant (lent_chunk c.in-Some.chunk) c.next.new.self.left c.in-Some.ensures.first
    c.put.new.self c.in_ok-stem.ensures.goes_on)

pub returns-in_err-put_line-clause-own : goal.returns-in_err-put_line-clause-own
returns-in_err-put_line-clause-own g c =
    works_then (own_on c.loop-chunk.invariant {fault = None} c.in_ok-stem.ensures.own) (made_none c.from_residual-in_err-put_line.result _ (refused_by c.from_residual-in_err-put_line.ensures.1))

pub returns-clause-puts : goal.returns-clause-puts
returns-clause-puts g c = puts_end c.loop-chunk.invariant c.in_default.ensures.first

pub returns-clause-full : goal.returns-clause-full
returns-clause-full g c = full_end c.loop-chunk.invariant c.in_default.ensures.first

pub returns-clause-lines : goal.returns-clause-lines
returns-clause-lines g c = lines_end c.loop-chunk.invariant c.in_default.ensures.first

pub returns-clause-own : goal.returns-clause-own
returns-clause-own g c = c.loop-chunk.invariant.own

pub returns-in_err-stem-clause-last : goal.returns-in_err-stem-clause-last
returns-in_err-stem-clause-last g c = fails_of _ (returns-in_err-stem-clause-own g c)

pub returns-in_err-put_line-clause-last : goal.returns-in_err-put_line-clause-last
returns-in_err-put_line-clause-last g c = fails_of _ (returns-in_err-put_line-clause-own g c)

pub returns-clause-last : goal.returns-clause-last
returns-clause-last g c = fails_of {T = Unit {0}} (Ok tt) c.loop-chunk.invariant.own
