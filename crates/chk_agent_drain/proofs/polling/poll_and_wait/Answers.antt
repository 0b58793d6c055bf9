use Rattle.std.proofs.Common.{subst, sym, ◌∙◌}
use Rattle.chk_agent_drain.specs.Parts.{PollsOn}
use Rattle.chk_agent_drain.proofs.Joining.{part_ends}
use Rattle.chk_agent_drain.proofs.PollingRest.{polled_ready, polls_pending, polls_unpaused, polls_waited, waits_by}
use Rattle.chk_agent_drain.proofs.polling.poll_and_wait.Goals as goal

pub pause_between-requires : goal.pause_between-requires
pause_between-requires g c =
    let m = c.requires.may in
    record {
      ready = polled_ready c.args.agent.now c.in-Ok.below c.poll_on.new.agent c.requires.waiting
          (subst (λ r. PollsOn 0 0 0 m.0 c.args.agent.now r c.poll_on.new.agent
          (g.S.Site.told c.args.site.now)
          (g.S.Site.told c.poll_on.new.site) (g.S.Site.fault_count c.args.site.now)
          (g.S.Site.fault_count c.poll_on.new.site)) c.in-Ok.is
          (c.poll_on.ensures 0 0 0 m.0 m.1 m.2))
          ∙ c.requires.ready;
    }

pub returns-in-Some : goal.returns-in-Some
returns-in-Some g c now reads polls p untried may so =
    polls_pending now reads polls c.args.left p c.args.agent.now may so c.in-Ok.below
    c.poll_on.new.agent
    (subst (λ r. PollsOn now reads polls p c.args.agent.now r c.poll_on.new.agent
    (g.S.Site.told c.args.site.now)
    (g.S.Site.told c.poll_on.new.site) (g.S.Site.fault_count c.args.site.now)
    (g.S.Site.fault_count c.poll_on.new.site)) c.in-Ok.is
    (c.poll_on.ensures now reads polls p untried may))
    c.in-Some.answer (sym c.in-Some.is ∙ c.pending.ensures)

pub returns-in-Ok-pause_between : goal.returns-in-Ok-pause_between
returns-in-Ok-pause_between g c now reads polls p untried may so =
    polls_waited now reads polls c.args.left p c.args.agent.now may so c.in-Ok.below
    c.poll_on.new.agent
    (subst (λ r. PollsOn now reads polls p c.args.agent.now r c.poll_on.new.agent
    (g.S.Site.told c.args.site.now)
    (g.S.Site.told c.poll_on.new.site) (g.S.Site.fault_count c.args.site.now)
    (g.S.Site.fault_count c.poll_on.new.site)) c.in-Ok.is
    (c.poll_on.ensures now reads polls p untried may))
    (waits_by c.args.left c.in-Ok.below (sym c.in-None.is ∙ c.pending.ensures)) _
    c.pause_between.ensures.talks
    c.requires.waiting c.in-Ok-pause_between.ensures.state c.in-Ok-pause_between.ensures.cause

pub returns-in-Err-pause_between : goal.returns-in-Err-pause_between
returns-in-Err-pause_between g c now reads polls p untried may so =
    polls_unpaused now reads polls c.args.left p c.args.agent.now may so c.in-Ok.below
    c.poll_on.new.agent
    (subst (λ r. PollsOn now reads polls p c.args.agent.now r c.poll_on.new.agent
    (g.S.Site.told c.args.site.now)
    (g.S.Site.told c.poll_on.new.site) (g.S.Site.fault_count c.args.site.now)
    (g.S.Site.fault_count c.poll_on.new.site)) c.in-Ok.is
    (c.poll_on.ensures now reads polls p untried may))
    (waits_by c.args.left c.in-Ok.below (sym c.in-None.is ∙ c.pending.ensures)) _
    c.pause_between.ensures.talks
    c.in-Err-pause_between.fault c.requires.waiting c.in-Err-pause_between.ensures.state c.in-Err-pause_between.ensures.last
    c.in-Err-pause_between.ensures.cause c.in-Err-pause_between.ensures.undamaged

pub returns-in-Err : goal.returns-in-Err
returns-in-Err g c now reads polls p untried may so =
    part_ends
    (subst (λ r. PollsOn now reads polls p c.args.agent.now r c.poll_on.new.agent
    (g.S.Site.told c.args.site.now)
    (g.S.Site.told c.poll_on.new.site) (g.S.Site.fault_count c.args.site.now)
    (g.S.Site.fault_count c.poll_on.new.site)) c.in-Err.is
    (c.poll_on.ensures now reads polls p untried may))
