use Rattle.std.proofs.Common.{sym, ◌∙◌, arith}
use Rattle.std.specs.Prelude.{slice_get}
use Rattle.chk_agent.proofs.FillingOn.{read_one}
use Rattle.chk_agent_drain.specs.Drains.{begun}
use Rattle.chk_agent_drain.proofs.PostingRest.{begun_fresh}
use Rattle.chk_agent_drain.proofs.ReadingOn.{begun_unread}
use Rattle.chk_agent_drain.proofs.ReadingAll.{all_part, all_told, reading_begun, reading_ends, reading_next, reading_ready, reading_size, reading_skips, reads_end}
use Rattle.chk_agent_drain.proofs.reading.read_all.Goals as goal
use Rattle.chk_agent_drain.proofs.reading.read_all.Goals.{then-is_read_on+in_default, else-is_read_on}

pub loop-adaptor-init : goal.loop-adaptor-init
loop-adaptor-init g c =
    reading_begun c.args.now c.args.reads c.args.polls c.args.agent.now
    (g.S.Site.told c.args.site.now)
    (g.S.Site.fault_count c.args.site.now)

pub is_read_on-requires : goal.is_read_on-requires
is_read_on-requires g c =
    let size = reading_size c.args.now c.args.reads c.args.polls c.loop-adaptor.adaptor
    c.args.agent.now c.loop-adaptor.agent
    c.loop-adaptor.invariant in
    let below = c.loop-adaptor-test.true in
    let all = c.adaptors-count.ensures in
    omega (arith, size, below, all)

pub read_out-requires : goal.read_out-requires
read_out-requires g c = record {
  ready = reading_ready c.args.now c.args.reads c.args.polls c.loop-adaptor.adaptor
      c.args.agent.now c.loop-adaptor.agent
      c.loop-adaptor.invariant ∙ c.requires.ready;
  some = c.requires.some;
  read_on = read_one (slice_get c.loop-adaptor.agent.adaptors c.loop-adaptor.adaptor)
      (sym c.if-is_read_on.ensures);
}

pub loop-adaptor-preserved : goal.loop-adaptor-preserved
loop-adaptor-preserved g c =
    elim c.if-is_read_on.branch [
      | then-is_read_on+in_default w ↦
          rw (w.agent-is, w.site-is)
          (reading_next c.args.now c.args.reads c.args.polls c.loop-adaptor.adaptor
          c.args.agent.now c.loop-adaptor.agent
          c.loop-adaptor.invariant
          w.read_out.new.agent w.read_out.result w.read_out.ensures.part w.read_out.ensures.told
          w.in_default.is)
      | else-is_read_on w ↦
          rw (w.agent-is, w.site-is)
          (reading_skips c.args.now c.args.reads c.args.polls c.loop-adaptor.adaptor
          c.args.agent.now c.loop-adaptor.agent
          c.loop-adaptor.invariant
          (sym w.if-is_read_on.ensures))
    ]

pub returns-in-Some-clause-part : goal.returns-in-Some-clause-part
returns-in-Some-clause-part g c =
    reading_ends c.args.now c.args.reads c.args.polls c.loop-adaptor.adaptor c.args.agent.now
    c.loop-adaptor.agent
    c.loop-adaptor.invariant
    c.read_out.new.agent c.read_out.result c.read_out.ensures.part c.read_out.ensures.told
    c.in-Some.end c.in-Some.is

pub returns-in-Some-clause-told : goal.returns-in-Some-clause-told
returns-in-Some-clause-told g c =
    reads_end c.args.agent.now c.read_out.new.agent c.in-Some.end
    (returns-in-Some-clause-part g c begun begun_fresh begun_unread).talks

pub returns-clause-part : goal.returns-clause-part
returns-clause-part g c =
    all_part c.args.now c.args.reads c.args.polls c.loop-adaptor.adaptor c.args.agent.now
    c.loop-adaptor.agent
    c.loop-adaptor.invariant
    c.adaptors-count.result c.adaptors-count.ensures c.loop-adaptor-test.false

pub returns-clause-told : goal.returns-clause-told
returns-clause-told g c =
    all_told c.args.now c.args.reads c.args.polls c.loop-adaptor.adaptor c.args.agent.now
    c.loop-adaptor.agent
    c.loop-adaptor.invariant
    c.adaptors-count.result c.adaptors-count.ensures c.loop-adaptor-test.false
