use Rattle.std.proofs.Common.{◌≡◌, ◌≤◌, length, map, ap, sym, subst, ◌∙◌, refl, arith}
use Rattle.std.specs.Prelude.{slice_get, slice_index}
use Rattle.std.proofs.lemmas.List.{with_items_is}
use Rattle.std.proofs.lemmas.Result.{err_from_is_err_and}
use Rattle.chk_site.proofs.Leads.{leads_as}
use Rattle.chk_rotate.specs.Marks.{BeginsBelow}
use Rattle.chk_checkpoint.specs.Lines.{shown}
use Rattle.chk_agent.specs.States.{lines_at}
use Rattle.chk_agent.specs.Settles.{settled_all, gone_at, wanting}
use Rattle.chk_agent.specs.Fields.{agent_view}
use Rattle.chk_agent.specs.Within.{Rising}
use Rattle.chk_agent.proofs.SettlingExits.{gone_rise, gone_few, ends_from, ends_to, went_back}
use Rattle.chk_agent.proofs.SettlingExits.{back_lines, back_sound, back_matches, reset_is}
use Rattle.chk_agent.proofs.agent.Agent.settle.Goals as goal

pub lines_now-requires-clause-from : goal.lines_now-requires-clause-from
lines_now-requires-clause-from g c i a at =
    ends_from (agent_view c.self.inside) c.self.invariant.sound i a
    (ap (λ xs. slice_get xs i) (sym c.as_slice.ensures) ∙ at)

pub lines_now-requires-clause-to : goal.lines_now-requires-clause-to
lines_now-requires-clause-to g c i a at =
    ends_to (agent_view c.self.inside) c.self.invariant.sound i a
    (ap (λ xs. slice_get xs i) (sym c.as_slice.ensures) ∙ at)

pub returns-in_err-check-clause-state : goal.returns-in_err-check-clause-state
returns-in_err-check-clause-state g c =
    let p = err_from_is_err_and c.from_residual.result c.from_residual.ensures.1 in
    rw (p.1, p.2) wanting

pub returns-in_err-gone-clause-state : goal.returns-in_err-gone-clause-state
returns-in_err-gone-clause-state g c =
    let p = err_from_is_err_and c.from_residual-in_err-gone.result c.from_residual-in_err-gone.ensures.1 in
    rw (← c.self.view_is, p.1, p.2, c.in_err-gone.ensures.err) wanting

pub overflow_cast-reset : goal.overflow_cast-reset
overflow_cast-reset g c =
    let s = agent_view c.self.inside in
    let many : length c.as_slice-2.result.now ≡ length (gone_at c.args.now s) = ap length (c.as_slice-2.ensures.value ∙ c.in_ok-gone.ensures.gone) in
    let few = gone_few c.args.now s c.self.invariant.sound in
    omega (arith, many, few)

pub send_back-requires-clause-from : goal.send_back-requires-clause-from
send_back-requires-clause-from g c i a at =
    let s = agent_view c.self.inside in
    subst (λ ends. BeginsBelow (slice_index ends i) a.marks) (sym (ap (λ d. d.table.committed) c.in_ok-gone.ensures.ok))
    (ends_from s c.self.invariant.sound i a at)

pub send_back-requires-clause-to : goal.send_back-requires-clause-to
send_back-requires-clause-to g c i a at =
    let s = agent_view c.self.inside in
    subst (λ ends. slice_index ends i ≤ a.read.offset) (sym (ap (λ d. d.table.committed) c.in_ok-gone.ensures.ok))
    (ends_to s c.self.invariant.sound i a at)

pub send_back-requires-clause-rising : goal.send_back-requires-clause-rising
send_back-requires-clause-rising g c =
    subst (Rising 0) (sym (c.as_slice-3.ensures.value ∙ c.in_ok-gone.ensures.gone)) (gone_rise c.args.now (agent_view c.self.inside))

pub note_ended-requires-clause-few : goal.note_ended-requires-clause-few
note_ended-requires-clause-few g c =
    let s = agent_view c.self.inside in
    let sound = c.self.invariant.sound in
    let d = c.expire.new.self in
    let back = c.send_back.new.adaptors.items in
    let w = went_back c.args.now s d back c.in_ok-gone.gone.items c.as_slice-3.result.now s.adaptors
    c.in_ok-gone.ensures.ok
    c.in_ok-gone.ensures.gone c.as_slice-3.ensures.value refl c.send_back.ensures
    c.used-sound.ensures.sound
    c.used-sound.ensures.table in
    let good = back_sound c.args.now s sound d back w in
    let few = good.few in
    let size = ap length c.as_slice-4.ensures in
    omega (arith, few, size)

pub note_ended-requires-clause-known : goal.note_ended-requires-clause-known
note_ended-requires-clause-known g c =
    let s = agent_view c.self.inside in
    let sound = c.self.invariant.sound in
    let d = c.expire.new.self in
    let back = c.send_back.new.adaptors.items in
    let w = went_back c.args.now s d back c.in_ok-gone.gone.items c.as_slice-3.result.now s.adaptors
    c.in_ok-gone.ensures.ok
    c.in_ok-gone.ensures.gone c.as_slice-3.ensures.value refl c.send_back.ensures
    c.used-sound.ensures.sound
    c.used-sound.ensures.table in
    let good = back_sound c.args.now s sound d back w in
    let few = good.few in
    let size = ap length c.as_slice-4.ensures in
    let known = good.known in
    omega (arith, few, known, size)

pub note_ended-requires-clause-lines : goal.note_ended-requires-clause-lines
note_ended-requires-clause-lines g c =
    let s = agent_view c.self.inside in
    let sound = c.self.invariant.sound in
    let d = c.expire.new.self in
    let back = c.send_back.new.adaptors.items in
    let w = went_back c.args.now s d back c.in_ok-gone.gone.items c.as_slice-3.result.now
    s.adaptors c.in_ok-gone.ensures.ok
    c.in_ok-gone.ensures.gone c.as_slice-3.ensures.value refl c.send_back.ensures
    c.used-sound.ensures.sound
    c.used-sound.ensures.table in
    ap (map shown) c.as_mut_slice.ensures.value
    ∙ (c.in_ok-check.ensures ∙ (ap (λ xs. lines_at xs s.delivery.table.committed) c.as_slice.ensures
    ∙ (sym (back_lines c.args.now s sound d back w)
    ∙ ap (λ xs. lines_at xs d.table.committed) (sym c.as_slice-4.ensures))))

pub invariant_of-self-2 : goal.invariant_of-self-2
invariant_of-self-2 g c =
    let s = agent_view c.self.inside in
    let sound = c.self.invariant.sound in
    let d = c.expire.new.self in
    let back = c.send_back.new.adaptors.items in
    let w = went_back c.args.now s d back c.in_ok-gone.gone.items c.as_slice-3.result.now
    s.adaptors c.in_ok-gone.ensures.ok
    c.in_ok-gone.ensures.gone c.as_slice-3.ensures.value refl c.send_back.ensures
    c.used-sound.ensures.sound
    c.used-sound.ensures.table in
    record { role = c.self.invariant.role; sound = back_sound c.args.now s sound d back w }

pub write_changed-requires-clause-lines : goal.write_changed-requires-clause-lines
write_changed-requires-clause-lines g c =
    let d = c.expire.new.self in
    let lines_are = with_items_is c.in_ok-check.check.lines c.note_ended.new.lines
    (c.note_ended.auto.lines ∙ c.as_mut_slice.ensures.len) in
    ap (map shown) lines_are
    ∙ (c.note_ended.ensures ∙ ap (λ xs. lines_at
    (settled_all xs d.table.committed) d.table.committed) c.as_slice-4.ensures)

pub returns-clause-state : goal.returns-clause-state
returns-clause-state g c =
    let s = agent_view c.self.inside in
    let sound = c.self.invariant.sound in
    let d = c.expire.new.self in
    let back = c.send_back.new.adaptors.items in
    let w = went_back c.args.now s d back c.in_ok-gone.gone.items c.as_slice-3.result.now
    s.adaptors c.in_ok-gone.ensures.ok
    c.in_ok-gone.ensures.gone c.as_slice-3.ensures.value refl c.send_back.ensures
    c.used-sound.ensures.sound
    c.used-sound.ensures.table in
    let many : length c.as_slice-2.result.now ≡ length (gone_at c.args.now s) = ap length (c.as_slice-2.ensures.value ∙ c.in_ok-gone.ensures.gone) in
    rw (← c.self.view_is) (c.write_changed.ensures.state c.args.now s (reset_is c.args.now s sound d back w) many)

pub returns-clause-told : goal.returns-clause-told
returns-clause-told g c stamped =
    let s = agent_view c.self.inside in
    let sound = c.self.invariant.sound in
    let d = c.expire.new.self in
    let back = c.send_back.new.adaptors.items in
    let w = went_back c.args.now s d back c.in_ok-gone.gone.items c.as_slice-3.result.now
    s.adaptors c.in_ok-gone.ensures.ok
    c.in_ok-gone.ensures.gone c.as_slice-3.ensures.value refl c.send_back.ensures
    c.used-sound.ensures.sound
    c.used-sound.ensures.table in
    rw (← c.self.view_is)
    (leads_as (back_matches c.args.now s sound d back w stamped) (λ h x. x) (c.write_changed.ensures.told stamped))
