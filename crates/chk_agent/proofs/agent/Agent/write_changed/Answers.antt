use Rattle.std.proofs.Common.{◌≡◌, Ok, Err, true, false, map, ap, sym, subst, ◌∙◌, refl, arith}
use Rattle.chk_site.proofs.Runs.{adds_none}
use Rattle.chk_checkpoint.specs.Lines.{shown}
use Rattle.chk_agent.specs.declared.answers.Settled.{Settled}
use Rattle.chk_agent.specs.States.{State, lines_of}
use Rattle.chk_agent.specs.Settles.{settled}
use Rattle.chk_agent.specs.Faults.{FailsLast}
use Rattle.chk_agent.specs.Fields.{agent_view}
use Rattle.chk_agent.proofs.TurningFaults.{last_ok}
use Rattle.chk_site.specs.declared.acts.OutsideFault.TheVariants.{Outside as site_failed}
use Rattle.chk_site.specs.declared.acts.OutsideFault.TheVariants.{NoMemory as no_memory}
use Rattle.chk_agent.proofs.AddingLines.{last_by, cause_by}
use Rattle.chk_agent.proofs.SettlingExits.{writes_as, good_lines, sound_after, sound_written}
use Rattle.chk_agent.proofs.SettlingExits.{same_state, same_told, written_state, written_told}
use Rattle.chk_agent.proofs.SettlingExits.{failed_state, failed_told, unmade_state, unmade_told}
use Rattle.chk_agent.proofs.agent.Agent.write_changed.Goals as goal

pub invariant_of-self : goal.invariant_of-self
invariant_of-self g c =
    let s = agent_view c.self.inside in
    let lines = map shown c.args.check.lines.items in
    let are = subst (λ (t : State). lines ≡ lines_of (settled t)) (sym c.self.view_is)
    c.requires.lines in
    let xs = c.settle_all.new.adaptors.items in
    let after_is = c.settle_all.ensures in
    record {
      role = c.self.invariant.role;
      sound = sound_after s c.self.invariant.sound lines are xs after_is;
    }

pub returns-then-are_same-clause-state : goal.returns-then-are_same-clause-state
returns-then-are_same-clause-state g c now was is many =
    let s = agent_view c.self.inside in
    let lines = map shown c.args.check.lines.items in
    let are = subst (λ (t : State). lines ≡ lines_of (settled t)) (sym c.self.view_is)
    c.requires.lines in
    let xs = c.settle_all.new.adaptors.items in
    let after_is = c.settle_all.ensures in
    let same = sym (ap (map shown) c.as_slice.ensures.value) ∙
    (c.if-are_same.ensures.same refl ∙ ap (map shown) c.as_slice-2.ensures.value) in
    same_state s c.self.invariant.sound lines are xs after_is same now was
    (c.self.view_is ∙ is) c.args.back many
    (g.S.Site.told c.args.site.now)

pub returns-then-are_same-clause-told : goal.returns-then-are_same-clause-told
returns-then-are_same-clause-told g c stamped =
    let s = agent_view c.self.inside in
    let lines = map shown c.args.check.lines.items in
    let are = subst (λ (t : State). lines ≡ lines_of (settled t)) (sym c.self.view_is)
    c.requires.lines in
    let xs = c.settle_all.new.adaptors.items in
    let after_is = c.settle_all.ensures in
    rw (← c.self.view_is) (same_told s c.self.invariant.sound lines are xs
    after_is stamped (g.S.Site.told c.args.site.now))

pub write_checkpoint-requires : goal.write_checkpoint-requires
write_checkpoint-requires g c =
    let s = agent_view c.self.inside in
    let lines = map shown c.args.check.lines.items in
    let are = subst (λ (t : State). lines ≡ lines_of (settled t)) (sym c.self.view_is)
    c.requires.lines in
    record { lines = good_lines s c.self.invariant.sound lines are }

pub invariant_of-self-in-Ok : goal.invariant_of-self-in-Ok
invariant_of-self-in-Ok g c =
    let s = agent_view c.self.inside in
    let lines = map shown c.args.check.lines.items in
    let are = subst (λ (t : State). lines ≡ lines_of (settled t)) (sym c.self.view_is)
    c.requires.lines in
    let xs = c.settle_all-in-Ok.new.adaptors.items in
    let after_is = c.settle_all-in-Ok.ensures in
    record {
      role = c.self.invariant.role;
      sound = sound_written s c.self.invariant.sound lines are xs after_is;
    }

pub returns-in-Ok-clause-state : goal.returns-in-Ok-clause-state
returns-in-Ok-clause-state g c now was is many =
    let s = agent_view c.self.inside in
    let lines = map shown c.args.check.lines.items in
    let are = subst (λ (t : State). lines ≡ lines_of (settled t)) (sym c.self.view_is)
    c.requires.lines in
    let xs = c.settle_all-in-Ok.new.adaptors.items in
    let after_is = c.settle_all-in-Ok.ensures in
    let other = λ (e : lines ≡ s.saved).
    c.if-are_same.ensures.other refl
    (ap (map shown) c.as_slice.ensures.value ∙
    (e ∙ sym (ap (map shown) c.as_slice-2.ensures.value))) in
    let script = writes_as c.self.inside.who s lines (Ok tt) c.self.invariant.role refl
    c.in-Ok.ensures.told in
    written_state s c.self.invariant.sound lines are xs after_is other script
    now was (c.self.view_is ∙ is)
    c.args.back many

pub returns-in-Ok-clause-told : goal.returns-in-Ok-clause-told
returns-in-Ok-clause-told g c stamped =
    let s = agent_view c.self.inside in
    let lines = map shown c.args.check.lines.items in
    let are = subst (λ (t : State). lines ≡ lines_of (settled t)) (sym c.self.view_is)
    c.requires.lines in
    let xs = c.settle_all-in-Ok.new.adaptors.items in
    let after_is = c.settle_all-in-Ok.ensures in
    let script = writes_as c.self.inside.who s lines (Ok tt) c.self.invariant.role refl
    c.in-Ok.ensures.told in
    let ready = ap (λ (s : State). s.ready) c.self.view_is ∙ c.requires.ready in
    rw (← c.self.view_is)
    (written_told s c.self.invariant.sound lines are xs after_is ready
    c.in-Ok.ensures.read stamped script)

pub returns-in-Err-NoMemory-clause-state : goal.returns-in-Err-NoMemory-clause-state
returns-in-Err-NoMemory-clause-state g c now was is many =
    let s = agent_view c.self.inside in
    let lines = map shown c.args.check.lines.items in
    let are = subst (λ (t : State). lines ≡ lines_of (settled t)) (sym c.self.view_is)
    c.requires.lines in
    let other = λ (e : lines ≡ s.saved).
    c.if-are_same.ensures.other refl
    (ap (map shown) c.as_slice.ensures.value ∙
    (e ∙ sym (ap (map shown) c.as_slice-2.ensures.value))) in
    let script = writes_as c.self.inside.who s lines (Err no_memory) c.self.invariant.role refl
    (rw c.in-Err-NoMemory.field-0-is at c.in-Err-NoMemory.ensures.told) in
    rw (← c.self.view_is)
    (unmade_state s c.self.invariant.sound lines are other script now was (c.self.view_is ∙ is))

pub returns-in-Err-NoMemory-clause-told : goal.returns-in-Err-NoMemory-clause-told
returns-in-Err-NoMemory-clause-told g c stamped =
    let s = agent_view c.self.inside in
    let lines = map shown c.args.check.lines.items in
    let are = subst (λ (t : State). lines ≡ lines_of (settled t)) (sym c.self.view_is)
    c.requires.lines in
    let script = writes_as c.self.inside.who s lines (Err no_memory) c.self.invariant.role refl
    (rw c.in-Err-NoMemory.field-0-is at c.in-Err-NoMemory.ensures.told) in
    let ready = ap (λ (s : State). s.ready) c.self.view_is ∙ c.requires.ready in
    rw (← c.self.view_is) (unmade_told s c.self.invariant.sound lines are ready
    c.in-Err-NoMemory.ensures.read stamped script
    (rw c.in-Err-NoMemory.field-0-is at c.in-Err-NoMemory.ensures.unmade))

pub returns-in-Err-NoMemory-clause-last : goal.returns-in-Err-NoMemory-clause-last
returns-in-Err-NoMemory-clause-last g c =
    last_by (Unit {0}) Settled no_memory
    (rw c.in-Err-NoMemory.field-0-is at c.in-Err-NoMemory.ensures.last)

pub returns-clause-state : goal.returns-clause-state
returns-clause-state g c now was is many =
    let s = agent_view c.self.inside in
    let lines = map shown c.args.check.lines.items in
    let are = subst (λ (t : State). lines ≡ lines_of (settled t)) (sym c.self.view_is)
    c.requires.lines in
    let other = λ (e : lines ≡ s.saved).
    c.if-are_same.ensures.other refl
    (ap (map shown) c.as_slice.ensures.value ∙
    (e ∙ sym (ap (map shown) c.as_slice-2.ensures.value))) in
    let script = writes_as c.self.inside.who s lines (Err (site_failed c.in-Err-Outside.call))
    c.self.invariant.role refl
    (rw c.in-Err-Outside.field-0-is at c.in-Err-Outside.ensures.told) in
    failed_state s c.self.invariant.sound lines are other c.in-Err-Outside.call script
    now was (c.self.view_is ∙ is)

pub returns-clause-told : goal.returns-clause-told
returns-clause-told g c stamped =
    let s = agent_view c.self.inside in
    let lines = map shown c.args.check.lines.items in
    let are = subst (λ (t : State). lines ≡ lines_of (settled t)) (sym c.self.view_is)
    c.requires.lines in
    let script = writes_as c.self.inside.who s lines (Err (site_failed c.in-Err-Outside.call))
    c.self.invariant.role refl
    (rw c.in-Err-Outside.field-0-is at c.in-Err-Outside.ensures.told) in
    let ready = ap (λ (s : State). s.ready) c.self.view_is ∙ c.requires.ready in
    rw (← c.self.view_is) (failed_told s c.self.invariant.sound lines are ready
    c.in-Err-Outside.ensures.read stamped c.in-Err-Outside.call script)

pub returns-clause-last : goal.returns-clause-last
returns-clause-last g c =
    last_by (Unit {0}) Settled (site_failed c.in-Err-Outside.call)
    (rw c.in-Err-Outside.field-0-is at c.in-Err-Outside.ensures.last)

pub returns-clause-cause : goal.returns-clause-cause
returns-clause-cause g c =
    cause_by (Unit {0}) Settled (site_failed c.in-Err-Outside.call) _ _
    (rw c.in-Err-Outside.field-0-is at c.in-Err-Outside.ensures.cause)

pub returns-then-are_same-clause-undamaged : goal.returns-then-are_same-clause-undamaged
returns-then-are_same-clause-undamaged g c =
    tt

pub returns-then-are_same-clause-last : goal.returns-then-are_same-clause-last
returns-then-are_same-clause-last g c =
    adds_none (g.S.Site.told c.args.site.now)
    (FailsLast {T = Settled} (Ok (record { reset = c.args.back; written = false }))) (λ h. tt)

pub returns-then-are_same-clause-cause : goal.returns-then-are_same-clause-cause
returns-then-are_same-clause-cause g c =
    omega arith

pub returns-in-Ok-clause-undamaged : goal.returns-in-Ok-clause-undamaged
returns-in-Ok-clause-undamaged g c =
    tt

pub returns-in-Ok-clause-last : goal.returns-in-Ok-clause-last
returns-in-Ok-clause-last g c =
    last_ok {T = Settled} (record { reset = c.args.back; written = true }) c.in-Ok.ensures.last

pub returns-in-Ok-clause-cause : goal.returns-in-Ok-clause-cause
returns-in-Ok-clause-cause g c =
    let same = c.in-Ok.ensures.cause in omega (arith, same)

pub returns-in-Err-NoMemory-clause-cause : goal.returns-in-Err-NoMemory-clause-cause
returns-in-Err-NoMemory-clause-cause g c =
    cause_by (Unit {0}) Settled no_memory _ _
    (rw c.in-Err-NoMemory.field-0-is at c.in-Err-NoMemory.ensures.cause)

pub returns-in-Err-NoMemory-clause-undamaged : goal.returns-in-Err-NoMemory-clause-undamaged
returns-in-Err-NoMemory-clause-undamaged g c =
    tt

pub returns-clause-undamaged : goal.returns-clause-undamaged
returns-clause-undamaged g c =
    tt
