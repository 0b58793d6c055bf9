use Rattle.std.proofs.Common.{◌≡◌, ◌≤◌, ◌∙◌, ap, sym, subst, map, length, List, arith}
use Rattle.std.specs.Prelude.{slice_get}
use Rattle.chk_site.specs.declared.acts.Who.{Who}
use Rattle.chk_checkpoint.specs.Lines.{shown}
use Rattle.chk_agent_adaptor.specs.Adaptors.{Adaptor}
use Rattle.chk_agent.specs.States.{State, lines_at}
use Rattle.chk_agent.specs.Fits.{IsSound}
use Rattle.chk_agent.specs.Starts.{begun_state}
use Rattle.chk_agent.proofs.SettlingExits.{ends_from, ends_to}
use Rattle.chk_agent.proofs.starting.agent_with.Goals as goal

pub lines_now-requires-clause-known : goal.lines_now-requires-clause-known
lines_now-requires-clause-known c =
    let few = c.requires.sound.few in
    let known = c.requires.sound.known in
    let many : length c.args.adaptors.items ≤ length c.args.delivery.table.committed = omega
    (arith, few, known) in
    subst (λ (xs : List Adaptor). length xs ≤ length c.args.delivery.table.committed)
    (sym c.as_slice.ensures) many

pub lines_now-requires-clause-from : goal.lines_now-requires-clause-from
lines_now-requires-clause-from c i a at =
    let t : State = begun_state c.args.who.now.name c.args.cluster c.args.adaptors.items
    c.args.delivery in
    ends_from t c.requires.sound i a (ap (λ xs. slice_get xs i) (sym c.as_slice.ensures) ∙ at)

pub lines_now-requires-clause-to : goal.lines_now-requires-clause-to
lines_now-requires-clause-to c i a at =
    let t : State = begun_state c.args.who.now.name c.args.cluster c.args.adaptors.items
    c.args.delivery in
    ends_to t c.requires.sound i a (ap (λ xs. slice_get xs i) (sym c.as_slice.ensures) ∙ at)

pub invariant_of-result : goal.invariant_of-result
invariant_of-result c =
    let xs = c.args.adaptors.items in
    let d = c.args.delivery in
    let saved : map shown c.in_ok-saved.saved.lines.items ≡ lines_at xs d.table.committed =
    c.in_ok-saved.ensures ∙ ap (λ xs. lines_at xs d.table.committed) c.as_slice.ensures in
    let named = ap (λ (w : Who). w.name) c.in_ok-copy.ensures in
    record {
      role = ap (λ (w : Who). w.role) c.in_ok-copy.ensures ∙ c.requires.role;
      sound =
          subst IsSound (sym (λ k. record (begun_state (named k) c.args.cluster xs d)
          { saved = saved k })) c.requires.sound;
    }

pub returns : goal.returns
returns c =
    let xs = c.args.adaptors.items in
    let d = c.args.delivery in
    let saved : map shown c.in_ok-saved.saved.lines.items ≡ lines_at xs d.table.committed =
    c.in_ok-saved.ensures ∙ ap (λ xs. lines_at xs d.table.committed) c.as_slice.ensures in
    let named = ap (λ (w : Who). w.name) c.in_ok-copy.ensures in
    λ k. record (begun_state (named k) c.args.cluster xs d) { saved = saved k }
