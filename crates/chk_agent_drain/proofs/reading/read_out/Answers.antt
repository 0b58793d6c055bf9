use Rattle.std.proofs.Common.{Ok, Err, ap, ◌∙◌, arith}
use Rattle.chk_agent_drain.specs.declared.answers.Drained.TheVariants.{Growing, Shrank}
use Rattle.chk_agent_drain.specs.Drains.{begun}
use Rattle.chk_agent_drain.proofs.PostingRest.{begun_fresh}
use Rattle.chk_agent_drain.proofs.ReadingOn.{begun_unread, came_told, ended_told, held_ends, held_next, held_ready, held_smaller, held_waiting, read_smaller, step_talks, stepping_begun, stepping_ended, stepping_fails, stepping_grows, stepping_read, stepping_ready, stepping_shrank, stepping_source, stepping_talks}
use Rattle.chk_agent_drain.proofs.reading.read_out.Goals as goal

pub reads-init : goal.reads-init
reads-init g c =
    stepping_begun c.args.now c.args.reads c.args.polls c.args.adaptor c.args.agent.now
    (g.S.Site.told c.args.site.now) (g.S.Site.fault_count c.args.site.now) c.requires.some
    c.requires.read_on

pub step-requires : goal.step-requires
step-requires g c = record {
  ready = stepping_ready c.args.now c.args.reads c.args.polls c.args.adaptor c.reads.count
      c.args.agent.now c.reads.agent
      c.reads.invariant ∙ c.requires.ready;
  read_on = c.reads.invariant.here;
}

pub post_next-requires : goal.post_next-requires
post_next-requires g c = record {
  ready = held_ready c.args.now c.args.reads c.args.polls c.args.adaptor c.reads.count
      c.args.agent.now c.reads.agent
      c.reads.invariant c.step.new.self _ c.step.result c.step.ensures.state
      (step_talks c.reads.agent c.step.new.self c.args.adaptor c.step.result c.step.ensures.told)
      c.step.ensures.cause
      c.in-Ok-Held.field-0-0 (c.in-Ok-Held.is ∙ ap Ok c.in-Ok-Held.field-0-is) ∙ c.requires.ready;
  waiting = held_waiting c.args.now c.args.reads c.args.polls c.args.adaptor c.reads.count
      c.args.agent.now c.reads.agent
      c.reads.invariant c.step.new.self _ c.step.result c.step.ensures.state
      (step_talks c.reads.agent c.step.new.self c.args.adaptor c.step.result c.step.ensures.told)
      c.step.ensures.cause
      c.in-Ok-Held.field-0-0 (c.in-Ok-Held.is ∙ ap Ok c.in-Ok-Held.field-0-is)
      c.free_rows-sound.ensures.sound;
}

pub overflow_add-count : goal.overflow_add-count
overflow_add-count g c =
    let few = c.reads.invariant.few in let fits = c.ranges.reads.fits in omega (arith, few, fits)

pub reads-preserved : goal.reads-preserved
reads-preserved g c =
    stepping_read c.args.now c.args.reads c.args.polls c.args.adaptor c.reads.count
    c.args.agent.now c.reads.agent
    c.reads.invariant c.step.new.self _ c.step.result c.step.ensures.state
    (step_talks c.reads.agent c.step.new.self c.args.adaptor c.step.result c.step.ensures.told)
    c.step.ensures.cause
    c.in-Ok-Read.field-0-0 (c.in-Ok-Read.is ∙ ap Ok c.in-Ok-Read.field-0-is) c.if-count-reads.false

pub reads-smaller : goal.reads-smaller
reads-smaller g c =
    read_smaller c.args.now c.args.reads c.args.polls c.args.adaptor c.reads.count c.args.agent.now
    c.reads.agent
    c.reads.invariant c.step.new.self _ c.step.result c.step.ensures.state
    (step_talks c.reads.agent c.step.new.self c.args.adaptor c.step.result c.step.ensures.told)
    c.step.ensures.cause
    c.in-Ok-Read.field-0-0 (c.in-Ok-Read.is ∙ ap Ok c.in-Ok-Read.field-0-is)

pub reads-preserved-in_default : goal.reads-preserved-in_default
reads-preserved-in_default g c =
    held_next c.args.now c.args.reads c.args.polls c.args.adaptor c.reads.count c.args.agent.now
    c.reads.agent
    c.reads.invariant c.step.new.self _ c.step.result c.step.ensures.state
    (step_talks c.reads.agent c.step.new.self c.args.adaptor c.step.result c.step.ensures.told)
    c.step.ensures.cause
    c.in-Ok-Held.field-0-0 (c.in-Ok-Held.is ∙ ap Ok c.in-Ok-Held.field-0-is)
    c.free_rows-sound.ensures.sound c.post_next.new.agent c.post_next.result
    (λ reads. c.post_next.ensures reads)
    c.in_default.is

pub reads-smaller-in_default : goal.reads-smaller-in_default
reads-smaller-in_default g c =
    let less = held_smaller c.args.now c.args.reads c.args.polls c.args.adaptor c.reads.count
    c.args.agent.now c.reads.agent
    c.reads.invariant c.step.new.self _ c.step.result c.step.ensures.state
    (step_talks c.reads.agent c.step.new.self c.args.adaptor c.step.result c.step.ensures.told)
    c.step.ensures.cause
    c.in-Ok-Held.field-0-0 (c.in-Ok-Held.is ∙ ap Ok c.in-Ok-Held.field-0-is)
    c.free_rows-sound.ensures.sound c.post_next.new.agent c.post_next.result
    (λ reads. c.post_next.ensures reads)
    c.in_default.is in
    omega (arith, less)

pub returns-in-Ok-AtEnd-clause-part : goal.returns-in-Ok-AtEnd-clause-part
returns-in-Ok-AtEnd-clause-part g c =
    stepping_ended c.args.now c.args.reads c.args.polls c.args.adaptor c.reads.count
    c.args.agent.now c.reads.agent
    c.reads.invariant c.step.new.self _ c.step.result c.step.ensures.state
    (step_talks c.reads.agent c.step.new.self c.args.adaptor c.step.result c.step.ensures.told)
    c.step.ensures.cause
    (c.in-Ok-AtEnd.is ∙ ap Ok c.in-Ok-AtEnd.field-0-is)

pub returns-in-Ok-AtEnd-clause-told : goal.returns-in-Ok-AtEnd-clause-told
returns-in-Ok-AtEnd-clause-told g c =
    came_told c.args.agent.now c.reads.agent c.step.new.self c.args.adaptor c.step.result
    (c.in-Ok-AtEnd.is ∙ ap Ok c.in-Ok-AtEnd.field-0-is)
    (stepping_source c.args.now c.args.reads c.args.polls c.args.adaptor c.reads.count
    c.args.agent.now c.reads.agent
    c.reads.invariant)
    (stepping_talks c.args.now c.args.reads c.args.polls c.args.adaptor c.reads.count
    c.args.agent.now c.reads.agent
    c.reads.invariant) c.step.ensures.told

pub returns-in-Some-clause-part : goal.returns-in-Some-clause-part
returns-in-Some-clause-part g c =
    held_ends c.args.now c.args.reads c.args.polls c.args.adaptor c.reads.count c.args.agent.now
    c.reads.agent
    c.reads.invariant c.step.new.self _ c.step.result c.step.ensures.state
    (step_talks c.reads.agent c.step.new.self c.args.adaptor c.step.result c.step.ensures.told)
    c.step.ensures.cause
    c.in-Ok-Held.field-0-0 (c.in-Ok-Held.is ∙ ap Ok c.in-Ok-Held.field-0-is)
    c.free_rows-sound.ensures.sound c.post_next.new.agent c.post_next.result
    (λ reads. c.post_next.ensures reads)
    c.in-Some.end c.in-Some.is

pub returns-in-Some-clause-told : goal.returns-in-Some-clause-told
returns-in-Some-clause-told g c =
    ended_told c.args.agent.now c.post_next.new.agent c.args.adaptor c.in-Some.end
    (returns-in-Some-clause-part g c begun begun_fresh (begun_unread c.args.adaptor)).talks

pub returns-then-count-reads-clause-part : goal.returns-then-count-reads-clause-part
returns-then-count-reads-clause-part g c =
    stepping_grows c.args.now c.args.reads c.args.polls c.args.adaptor c.reads.count
    c.args.agent.now c.reads.agent
    c.reads.invariant c.step.new.self _ c.step.result c.step.ensures.state
    (step_talks c.reads.agent c.step.new.self c.args.adaptor c.step.result c.step.ensures.told)
    c.step.ensures.cause
    c.in-Ok-Read.field-0-0 (c.in-Ok-Read.is ∙ ap Ok c.in-Ok-Read.field-0-is) c.if-count-reads.true

pub returns-then-count-reads-clause-told : goal.returns-then-count-reads-clause-told
returns-then-count-reads-clause-told g c =
    ended_told c.args.agent.now c.step.new.self c.args.adaptor
    (Ok (Growing c.args.adaptor c.args.reads))
    (returns-then-count-reads-clause-part g c begun begun_fresh (begun_unread c.args.adaptor)).talks

pub returns-in-Ok-Shrank-clause-part : goal.returns-in-Ok-Shrank-clause-part
returns-in-Ok-Shrank-clause-part g c =
    stepping_shrank c.args.now c.args.reads c.args.polls c.args.adaptor c.reads.count
    c.args.agent.now c.reads.agent
    c.reads.invariant c.step.new.self _ c.step.result c.step.ensures.state
    (step_talks c.reads.agent c.step.new.self c.args.adaptor c.step.result c.step.ensures.told)
    c.step.ensures.cause
    c.in-Ok-Shrank.had c.in-Ok-Shrank.is' (c.in-Ok-Shrank.is ∙ ap Ok c.in-Ok-Shrank.field-0-is)
    c.step.ensures.told

pub returns-in-Ok-Shrank-clause-told : goal.returns-in-Ok-Shrank-clause-told
returns-in-Ok-Shrank-clause-told g c =
    ended_told c.args.agent.now c.step.new.self c.args.adaptor
    (Ok (Shrank c.args.adaptor c.in-Ok-Shrank.had c.in-Ok-Shrank.is'))
    (returns-in-Ok-Shrank-clause-part g c begun begun_fresh (begun_unread c.args.adaptor)).talks

pub returns-in-Err-clause-part : goal.returns-in-Err-clause-part
returns-in-Err-clause-part g c =
    stepping_fails c.args.now c.args.reads c.args.polls c.args.adaptor c.reads.count
    c.args.agent.now c.reads.agent
    c.reads.invariant c.step.new.self _ c.step.result c.step.ensures.state
    (step_talks c.reads.agent c.step.new.self c.args.adaptor c.step.result c.step.ensures.told)
    c.step.ensures.cause
    c.in-Err.fault c.in-Err.is c.step.ensures.last c.step.ensures.undamaged

pub returns-in-Err-clause-told : goal.returns-in-Err-clause-told
returns-in-Err-clause-told g c =
    ended_told c.args.agent.now c.step.new.self c.args.adaptor (Err c.in-Err.fault)
    (returns-in-Err-clause-part g c begun begun_fresh (begun_unread c.args.adaptor)).talks
