use Rattle.std.proofs.Common.{◌+◌, ◌<◌, sym, subst, ◌∙◌, arith}
use Rattle.chk_agent_delivery.specs.States.{free_rows}
use Rattle.chk_agent_drain.specs.Parts.{unmarked_in}
use Rattle.chk_agent_drain.proofs.PollingRest.{Freeing, freeing_begun, freeing_done, freeing_ends, freeing_may, freeing_next, freeing_ready, freeing_smaller, freeing_some}
use Rattle.chk_agent_drain.proofs.Unmarked.{some_asked}
use Rattle.chk_agent_drain.proofs.polling.poll_until_free.Goals as goal

pub polls-init : goal.polls-init
polls-init g c =
    freeing_begun c.args.polls c.args.wanted c.args.agent.now (g.S.Site.told c.args.site.now)
    (g.S.Site.fault_count c.args.site.now)

pub poll_and_wait-requires : goal.poll_and_wait-requires
poll_and_wait-requires g c =
    let on = c.polls.invariant in
    let free = c.free_rows.ensures.free in
    let test = c.polls-test.true in
    let short : free_rows c.polls.agent.delivery < c.args.wanted = omega (arith, free, test) in
    record {
      ready = freeing_ready c.args.polls c.polls.left c.args.wanted c.args.agent.now c.polls.agent
          c.requires.wants on
          ∙ c.requires.ready;
      waiting = some_asked c.polls.agent.delivery.table c.free_rows.ensures.table
          (freeing_some c.args.polls c.polls.left c.args.wanted c.args.agent.now c.polls.agent
          c.requires.wants on
          c.requires.few c.free_rows.ensures.table short);
      may = freeing_may c.args.polls c.polls.left c.args.wanted c.args.agent.now c.polls.agent
          c.requires.wants on short;
    }

pub returns-in-Some : goal.returns-in-Some
returns-in-Some g c now reads p fresh wants =
    let free = c.free_rows.ensures.free in
    let test = c.polls-test.true in
    let short : free_rows c.polls.agent.delivery < c.args.wanted = omega (arith, free, test) in
    freeing_ends c.args.polls c.polls.left c.args.wanted c.args.agent.now c.polls.agent
    c.requires.wants
    c.polls.invariant short c.poll_and_wait.new.agent c.poll_and_wait.result c.poll_and_wait.ensures
    now reads p fresh wants c.in-Some.is

pub polls-smaller : goal.polls-smaller
polls-smaller g c =
    let free = c.free_rows.ensures.free in
    let test = c.polls-test.true in
    let short : free_rows c.polls.agent.delivery < c.args.wanted = omega (arith, free, test) in
    let less = freeing_smaller c.args.polls c.polls.left c.args.wanted c.args.agent.now
    c.polls.agent c.requires.wants
    c.polls.invariant short c.poll_and_wait.new.agent c.poll_and_wait.result c.poll_and_wait.ensures
    c.in_default.is in
    subst (λ n. unmarked_in c.poll_and_wait.new.agent + n < unmarked_in c.polls.agent +
    c.polls.left)
    (sym c.saturating_sub-left.ensures) less

pub polls-preserved : goal.polls-preserved
polls-preserved g c =
    let free = c.free_rows.ensures.free in
    let test = c.polls-test.true in
    let short : free_rows c.polls.agent.delivery < c.args.wanted = omega (arith, free, test) in
    subst (λ n. Freeing c.args.polls n c.args.wanted c.args.agent.now c.poll_and_wait.new.agent
    (g.S.Site.told c.args.site.now) (g.S.Site.told c.poll_and_wait.new.site)
    (g.S.Site.fault_count c.args.site.now) (g.S.Site.fault_count c.poll_and_wait.new.site))
    (sym c.saturating_sub-left.ensures)
    (freeing_next c.args.polls c.polls.left c.args.wanted c.args.agent.now c.polls.agent
    c.requires.wants
    c.polls.invariant short c.poll_and_wait.new.agent c.poll_and_wait.result c.poll_and_wait.ensures
    c.in_default.is)

pub returns : goal.returns
returns g c =
    let free = c.free_rows.ensures.free in
    let test = c.polls-test.false in
    freeing_done c.args.polls c.polls.left c.args.wanted c.args.agent.now c.polls.agent
    c.requires.wants
    c.polls.invariant (omega (arith, free, test)) c.free_rows.ensures.sound
    c.free_rows.ensures.table
