use Rattle.std.proofs.Common.{◌≡◌, ◌∙◌, ◌<◌, ◌≤◌, ap, sym, subst, length, map, true, arith, Some}
use Rattle.std.specs.Prelude.{slice_get, slice_set}
use Rattle.std.proofs.lemmas.Option.{slice_get-get_or}
use Rattle.chk_checkpoint.specs.declared.CheckLine.{CheckLine}
use Rattle.chk_checkpoint.specs.Lines.{shown}
use Rattle.chk_agent.specs.States.{State, lines_at, lines_of}
use Rattle.chk_agent.specs.Fields.{agent_view}
use Rattle.chk_agent.specs.Adds.{revived_at}
use Rattle.chk_agent.proofs.Soundness.{size_map, size_lines}
use Rattle.chk_agent.proofs.SettlingExits.{ends_from, ends_to}
use Rattle.chk_agent.proofs.AddingLines.{lines_revived}
use Rattle.chk_agent.proofs.agent.Agent.lines_revived.Goals as goal

pub lines_now-requires-clause-from : goal.lines_now-requires-clause-from
lines_now-requires-clause-from c i a at =
    ends_from (agent_view c.self.inside) c.self.invariant.sound i a
    (ap (λ xs. slice_get xs i) (sym c.as_slice.ensures) ∙ at)

pub lines_now-requires-clause-to : goal.lines_now-requires-clause-to
lines_now-requires-clause-to c i a at =
    ends_to (agent_view c.self.inside) c.self.invariant.sound i a
    (ap (λ xs. slice_get xs i) (sym c.as_slice.ensures) ∙ at)

pub index_mut-line-requires : goal.index_mut-line-requires
index_mut-line-requires c =
    let s = agent_view c.self.inside in
    let lines = c.in_ok-check.check.lines in
    let there : c.args.place < length s.adaptors = subst (λ (t : State). c.args.place < length t.adaptors) (sym c.self.view_is) c.requires in
    let first = size_map shown lines.items in
    let second = ap length (c.in_ok-check.ensures
    ∙ ap (λ xs. lines_at xs s.delivery.table.committed) c.as_slice.ensures) in
    let third = size_lines s.adaptors s.delivery.table.committed in
    let held = lines.ok.0 in
    omega (arith, there, first, second, third, held)

pub returns : goal.returns
returns c a at =
    let s = agent_view c.self.inside in
    let ends = s.delivery.table.committed in
    let lines = c.in_ok-check.check.lines in
    let y = c.index_mut-line.result.now in
    let few : length s.adaptors ≤ length ends =
    (let few = c.self.invariant.sound.few in let known = c.self.invariant.sound.known in omega (arith, few, known)) in
    let are : map shown lines.items ≡ lines_at s.adaptors ends = c.in_ok-check.ensures
    ∙ ap (λ xs. lines_at xs ends) c.as_slice.ensures in
    let there : c.args.place < length s.adaptors = subst (λ (t : State). c.args.place < length t.adaptors) (sym c.self.view_is) c.requires in
    let first = size_map shown lines.items in
    let second = ap length are in
    let third = size_lines s.adaptors ends in
    let below : c.args.place < length lines.items = omega (arith, there, first, second, third) in
    let got : slice_get lines.items c.args.place ≡ Some y =
    slice_get-get_or lines.items c.args.place y below ∙ ap (λ z. Some z) (sym c.index_mut-line.ensures.value) in
    let z : CheckLine = record y { name = c.in_ok-name.name; live = true } in
    subst (λ (t : State). map shown (slice_set lines.items c.args.place z) ≡ lines_of (revived_at t c.args.place c.args.name.now a)) c.self.view_is
    (lines_revived lines.items y z s.adaptors ends c.args.place a c.args.name.now are few got
    (ap (λ (t : State). slice_get t.adaptors c.args.place) c.self.view_is ∙ at)
    (ap (λ name. record (shown y) { live = true; name = name }) c.in_ok-name.ensures))
