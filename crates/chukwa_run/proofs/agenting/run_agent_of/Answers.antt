use Rattle.std.proofs.Common.{◌∙◌, ℕ, List, map, Ok, Err, Option, ap}
use Rattle.std.specs.Prelude.{option_map}
use Rattle.std.specs.Borrow.{Bor}
use Rattle.chk_failover.specs.Turns.{Turns}
use Rattle.chk_agent_run.specs.declared.run.Work.{Work}
use Rattle.chk_cmd_line.specs.Commands.{Agent}
use Rattle.chk_cmd_line.specs.Commands.{agent_of}
use Rattle.chukwa_run.proofs.AgentRun.{run_of, causes, told, went_well, went_wrong}
use Rattle.chukwa_run.proofs.AgentFaults.{no_bad_line, has_file}
use Rattle.chukwa_run.proofs.Unbegun.{unbegun, caused_nothing}
use Rattle.chukwa_run.proofs.Statuses.{agent_status}
use Rattle.chukwa_run.proofs.agenting.run_agent_of.Goals as goal

-- the ring of these addresses
abbrev ring : List (Bor (List ℕ)) → Turns
ring l = record { addresses = map {A = Bor (List ℕ)} {B = List ℕ} (λ a. a.now) l; place = 0; failures = 0 }

pub returns-in_default-clause-told : goal.returns-in_default-clause-told
returns-in_default-clause-told g c stamped earlier =
    unbegun stamped (Agent (agent_of c.args.given.now)) earlier (g.S.Site.told c.args.site.now)

pub returns-in_default-clause-causes : goal.returns-in_default-clause-causes
returns-in_default-clause-causes g c = caused_nothing (Agent (agent_of c.args.given.now)) (g.S.Site.told c.args.site.now)

pub returns-in_default-writer-clause-told : goal.returns-in_default-writer-clause-told
returns-in_default-writer-clause-told g c stamped earlier =
    unbegun stamped (Agent (agent_of c.args.given.now)) earlier (g.S.Site.told c.args.site.now)

pub returns-in_default-writer-clause-causes : goal.returns-in_default-writer-clause-causes
returns-in_default-writer-clause-causes g c = caused_nothing (Agent (agent_of c.args.given.now)) (g.S.Site.told c.args.site.now)

pub returns-in_default-ring-clause-told : goal.returns-in_default-ring-clause-told
returns-in_default-ring-clause-told g c stamped earlier =
    unbegun stamped (Agent (agent_of c.args.given.now)) earlier (g.S.Site.told c.args.site.now)

pub returns-in_default-ring-clause-causes : goal.returns-in_default-ring-clause-causes
returns-in_default-ring-clause-causes g c = caused_nothing (Agent (agent_of c.args.given.now)) (g.S.Site.told c.args.site.now)

pub returns-in_default-rules-clause-told : goal.returns-in_default-rules-clause-told
returns-in_default-rules-clause-told g c stamped earlier =
    unbegun stamped (Agent (agent_of c.args.given.now)) earlier (g.S.Site.told c.args.site.now)

pub returns-in_default-rules-clause-causes : goal.returns-in_default-rules-clause-causes
returns-in_default-rules-clause-causes g c = caused_nothing (Agent (agent_of c.args.given.now)) (g.S.Site.told c.args.site.now)

pub returns-in_default-work-clause-told : goal.returns-in_default-work-clause-told
returns-in_default-work-clause-told g c stamped earlier =
    unbegun stamped (Agent (agent_of c.args.given.now)) earlier (g.S.Site.told c.args.site.now)

pub returns-in_default-work-clause-causes : goal.returns-in_default-work-clause-causes
returns-in_default-work-clause-causes g c = caused_nothing (Agent (agent_of c.args.given.now)) (g.S.Site.told c.args.site.now)

pub returns-in-Ok-run_agent-clause-told : goal.returns-in-Ok-run_agent-clause-told
returns-in-Ok-run_agent-clause-told g c stamped earlier =
    let w = agent_of c.args.given.now in
    let s = c.in-Ok-run_agent.ensures in
    told w stamped earlier _ (Ok tt) went_well
    (run_of w _ c.in-Ok.who c.in-Ok-writer.writer c.in-Ok-ring.ring c.in-Ok-rules.rules c.in-Ok-work.work
    c.in-Ok.ensures c.in-Ok-writer.ensures (c.in-Ok-ring.ensures ∙ ap ring c.as_slice.ensures.value) c.in-Ok-rules.ensures c.in-Ok-work.ensures
    (record { ran = s.ran; told = s.told; last = s.last; some = c.requires.good.5.0 }))

pub returns-in-Ok-run_agent-clause-causes : goal.returns-in-Ok-run_agent-clause-causes
returns-in-Ok-run_agent-clause-causes g c =
    let w = agent_of c.args.given.now in
    let s = c.in-Ok-run_agent.ensures in
    causes w _ (Ok tt) went_well
    (run_of w _ c.in-Ok.who c.in-Ok-writer.writer c.in-Ok-ring.ring c.in-Ok-rules.rules c.in-Ok-work.work
    c.in-Ok.ensures c.in-Ok-writer.ensures (c.in-Ok-ring.ensures ∙ ap ring c.as_slice.ensures.value) c.in-Ok-rules.ensures c.in-Ok-work.ensures
    (record { ran = s.ran; told = s.told; last = s.last; some = c.requires.good.5.0 }))

pub returns-clause-told : goal.returns-clause-told
returns-clause-told g c stamped earlier =
    let w = agent_of c.args.given.now in
    let s = c.in-Err.ensures in
    told w stamped earlier (Err c.in-Err.fault) (Err c.ending_of.result) (went_wrong c.ending_of.ensures)
    (run_of w (Err c.in-Err.fault) c.in-Ok.who c.in-Ok-writer.writer c.in-Ok-ring.ring c.in-Ok-rules.rules c.in-Ok-work.work
    c.in-Ok.ensures c.in-Ok-writer.ensures (c.in-Ok-ring.ensures ∙ ap ring c.as_slice.ensures.value) c.in-Ok-rules.ensures c.in-Ok-work.ensures
    (record { ran = s.ran; told = s.told; last = s.last; some = c.requires.good.5.0 }))

pub returns-clause-causes : goal.returns-clause-causes
returns-clause-causes g c =
    let w = agent_of c.args.given.now in
    let s = c.in-Err.ensures in
    causes w (Err c.in-Err.fault) (Err c.ending_of.result) (went_wrong c.ending_of.ensures)
    (run_of w (Err c.in-Err.fault) c.in-Ok.who c.in-Ok-writer.writer c.in-Ok-ring.ring c.in-Ok-rules.rules c.in-Ok-work.work
    c.in-Ok.ensures c.in-Ok-writer.ensures (c.in-Ok-ring.ensures ∙ ap ring c.as_slice.ensures.value) c.in-Ok-rules.ensures c.in-Ok-work.ensures
    (record { ran = s.ran; told = s.told; last = s.last; some = c.requires.good.5.0 }))

pub ending_of-requires-clause-initial : goal.ending_of-requires-clause-initial
ending_of-requires-clause-initial g c k is =
    has_file c.args.given.now.initial c.in-Err.fault
    (λ none. no_bad_line c.in-Ok.who c.in-Ok-writer.writer c.in-Ok-ring.ring c.in-Ok-rules.rules c.in-Ok-work.work
    (Err c.in-Err.fault) _ _ c.in-Err.ensures.ran
    (ap (λ (x : Work). x.initial) c.in-Ok-work.ensures
    ∙ ap (λ (o : Option (Bor (List ℕ))). option_map {T = Bor (List ℕ)} {U = List ℕ} (λ t. t.now) o) none))
    k is

pub returns-clause-status : goal.returns-clause-status
returns-clause-status g c = agent_status (agent_of c.args.given.now) c.in-Err.fault c.ending_of.result c.ending_of.ensures
