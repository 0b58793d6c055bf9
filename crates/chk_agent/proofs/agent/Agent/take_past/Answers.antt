use Rattle.std.proofs.Common.{◌≡◌, ◌∙◌, ap, sym, subst, map, length, arith, Some, None, Err}
use Rattle.std.specs.Prelude.{position, slice_get, slice_set}
use Rattle.std.proofs.lemmas.Result.{err_from_is_err_and}
use Rattle.chk_site.specs.declared.acts.OutsideFault.TheVariants.{Outside as site_failed}
use Rattle.chk_site.specs.declared.acts.OutsideFault.TheVariants.{NoMemory as no_memory}
use Rattle.chk_checkpoint.specs.Lines.{shown}
use Rattle.chk_agent_adaptor.specs.Adaptors.{revived}
use Rattle.chk_agent_table.specs.Adaptors.{is_named}
use Rattle.chk_agent.specs.declared.answers.AgentFault.TheVariants.{NoMemory}
use Rattle.chk_agent.specs.States.{State, lines_of}
use Rattle.chk_agent.specs.Fields.{agent_view}
use Rattle.chk_agent.specs.Adds.{named_in, revived_at}
use Rattle.chk_agent.specs.Takes.{Keeps, wanting}
use Rattle.chk_agent.proofs.TurningFaults.{last_ok}
use Rattle.chk_agent.proofs.Soundness.{below_at}
use Rattle.chk_agent.proofs.TableFound.{none_named}
use Rattle.chk_agent.proofs.AddingKept.{same_room}
use Rattle.chk_agent.proofs.AddingLines.{last_none, last_by, cause_by}
use Rattle.chk_agent.proofs.AddingAgain.{good_again, sound_again, kept_again, told_again}
use Rattle.chk_agent.proofs.AddingAgain.{sound_left, unmade_left, told_left, sound_lost}
use Rattle.chk_agent.proofs.AddingAgain.{failed_lost, told_lost}
use Rattle.chk_agent.proofs.agent.Agent.take_past.Goals as goal

pub returns-in_err-check-clause-state : goal.returns-in_err-check-clause-state
returns-in_err-check-clause-state g c a at =
    let p = err_from_is_err_and c.from_residual.result c.from_residual.ensures.1 in rw
    (p.1, p.2) wanting

pub returns-in_err-check-clause-undamaged : goal.returns-in_err-check-clause-undamaged
returns-in_err-check-clause-undamaged g c =
    let p = err_from_is_err_and c.from_residual.result c.from_residual.ensures.1 in rw (p.1, p.2) tt

pub returns-in_err-check-clause-last : goal.returns-in_err-check-clause-last
returns-in_err-check-clause-last g c =
    let p = err_from_is_err_and c.from_residual.result c.from_residual.ensures.1 in
    rw (p.1, p.2) (last_none (Unit {0}) (g.S.Site.told c.args.site.now))

pub returns-in_err-check-clause-cause : goal.returns-in_err-check-clause-cause
returns-in_err-check-clause-cause g c =
    let p = err_from_is_err_and c.from_residual.result c.from_residual.ensures.1 in rw (p.1, p.2)
    (omega arith)

pub returns-in_err-key-clause-state : goal.returns-in_err-key-clause-state
returns-in_err-key-clause-state g c a at =
    let s = agent_view c.self.inside in
    let old = c.args.self.now in
    let now = g.S.Site.told c.args.site.now in
    let xs = c.room_for_name.new.self.items in
    let p = err_from_is_err_and c.from_residual-in_err-key.result
    c.from_residual-in_err-key.ensures.1 in
    rw (p.1, p.2)
    (subst (λ u. Keeps old (revived_at old c.args.place c.args.name a) (Err NoMemory) u now now)
    (sym c.self.view_is ∙ sym (same_room s xs c.room_for_name.ensures.items)) wanting)

pub returns-in_err-key-clause-undamaged : goal.returns-in_err-key-clause-undamaged
returns-in_err-key-clause-undamaged g c =
    let p = err_from_is_err_and c.from_residual-in_err-key.result
    c.from_residual-in_err-key.ensures.1 in rw (p.1, p.2) tt

pub returns-in_err-key-clause-last : goal.returns-in_err-key-clause-last
returns-in_err-key-clause-last g c =
    let p = err_from_is_err_and c.from_residual-in_err-key.result
    c.from_residual-in_err-key.ensures.1 in
    rw (p.1, p.2) (last_none (Unit {0}) (g.S.Site.told c.args.site.now))

pub returns-in_err-key-clause-cause : goal.returns-in_err-key-clause-cause
returns-in_err-key-clause-cause g c =
    let p = err_from_is_err_and c.from_residual-in_err-key.result
    c.from_residual-in_err-key.ensures.1 in rw (p.1, p.2) (omega arith)

pub write_lines-requires : goal.write_lines-requires
write_lines-requires g c =
    let s = agent_view c.self.inside in
    let n = c.args.place in
    let name = c.args.name in
    let lines = map shown c.in_ok-check.check.lines.items in
    let here : slice_get s.adaptors n ≡ Some c.requires.there.0 =
    ap (λ (t : State). slice_get t.adaptors n) c.self.view_is ∙ c.requires.there.1 in
    let free : named_in name 0 s.adaptors ≡ None =
    subst (λ (t : State). named_in name 0 t.adaptors ≡ None) (sym c.self.view_is) c.requires.free in
    let are : lines ≡ lines_of (revived_at s n name c.requires.there.0) =
    subst (λ (t : State). lines ≡ lines_of (revived_at t n name c.requires.there.0))
    (sym c.self.view_is)
    (c.in_ok-check.ensures c.requires.there.0 c.requires.there.1) in
    let room : c.room_for_name.new.self.items ≡ s.adaptors = c.room_for_name.ensures.items in
    good_again s c.self.invariant.sound n c.requires.there.0 here name c.requires.name free lines
    are

pub revive-requires-clause-there : goal.revive-requires-clause-there
revive-requires-clause-there g c =
    let s = agent_view c.self.inside in
    let r = c.requires.there in
    let here : slice_get s.adaptors c.args.place ≡ Some r.0 =
    ap (λ (t : State). slice_get t.adaptors c.args.place) c.self.view_is ∙ r.1 in
    let below = below_at s.adaptors c.args.place r.0 here in
    let size = ap length c.room_for_name.ensures.items in
    omega (arith, below, size)

pub revive-requires-clause-free : goal.revive-requires-clause-free
revive-requires-clause-free g c =
    let s = agent_view c.self.inside in
    ap (position (is_named c.args.name)) c.room_for_name.ensures.items
    ∙ none_named c.args.name s.adaptors
    (subst (λ (t : State). named_in c.args.name 0 t.adaptors ≡ None) (sym c.self.view_is)
    c.requires.free)

pub returns-in-Ok-clause-state : goal.returns-in-Ok-clause-state
returns-in-Ok-clause-state g c a at =
    let s = agent_view c.self.inside in
    let n = c.args.place in
    let name = c.args.name in
    let lines = map shown c.in_ok-check.check.lines.items in
    let here : slice_get s.adaptors n ≡ Some a =
    ap (λ (t : State). slice_get t.adaptors n) c.self.view_is ∙ at in
    let free : named_in name 0 s.adaptors ≡ None =
    subst (λ (t : State). named_in name 0 t.adaptors ≡ None) (sym c.self.view_is) c.requires.free in
    let are : lines ≡ lines_of (revived_at s n name a) =
    subst (λ (t : State). lines ≡ lines_of (revived_at t n name a)) (sym c.self.view_is)
    (c.in_ok-check.ensures a at) in
    let room : c.room_for_name.new.self.items ≡ s.adaptors = c.room_for_name.ensures.items in
    let is : c.revive.new.self.items ≡ slice_set s.adaptors n (revived name a) =
    c.revive.ensures.items a (ap (λ xs. slice_get xs n) room ∙ here)
    ∙ ap (λ xs. slice_set xs n (revived name a)) room in
    rw (← c.self.view_is)
    (kept_again s c.self.invariant.sound n a here name c.requires.name free lines are
    c.revive.new.self.items is c.in-Ok.ensures.told)

pub invariant_of-self-in-Ok : goal.invariant_of-self-in-Ok
invariant_of-self-in-Ok g c =
    let s = agent_view c.self.inside in
    let n = c.args.place in
    let name = c.args.name in
    let lines = map shown c.in_ok-check.check.lines.items in
    let here : slice_get s.adaptors n ≡ Some c.requires.there.0 =
    ap (λ (t : State). slice_get t.adaptors n) c.self.view_is ∙ c.requires.there.1 in
    let free : named_in name 0 s.adaptors ≡ None =
    subst (λ (t : State). named_in name 0 t.adaptors ≡ None) (sym c.self.view_is) c.requires.free in
    let are : lines ≡ lines_of (revived_at s n name c.requires.there.0) =
    subst (λ (t : State). lines ≡ lines_of (revived_at t n name c.requires.there.0))
    (sym c.self.view_is)
    (c.in_ok-check.ensures c.requires.there.0 c.requires.there.1) in
    let room : c.room_for_name.new.self.items ≡ s.adaptors = c.room_for_name.ensures.items in
    let is : c.revive.new.self.items ≡ slice_set s.adaptors n (revived name c.requires.there.0) =
    c.revive.ensures.items c.requires.there.0 (ap (λ xs. slice_get xs n) room ∙ here)
    ∙ ap (λ xs. slice_set xs n (revived name c.requires.there.0)) room in
    record {
      role = c.self.invariant.role;
      sound =
          sound_again s c.self.invariant.sound n c.requires.there.0 here name c.requires.name free
          lines are
          c.revive.new.self.items is;
    }

pub returns-in-Ok-clause-told : goal.returns-in-Ok-clause-told
returns-in-Ok-clause-told g c stamped =
    let s = agent_view c.self.inside in
    let n = c.args.place in
    let name = c.args.name in
    let lines = map shown c.in_ok-check.check.lines.items in
    let here : slice_get s.adaptors n ≡ Some c.requires.there.0 =
    ap (λ (t : State). slice_get t.adaptors n) c.self.view_is ∙ c.requires.there.1 in
    let free : named_in name 0 s.adaptors ≡ None =
    subst (λ (t : State). named_in name 0 t.adaptors ≡ None) (sym c.self.view_is) c.requires.free in
    let are : lines ≡ lines_of (revived_at s n name c.requires.there.0) =
    subst (λ (t : State). lines ≡ lines_of (revived_at t n name c.requires.there.0))
    (sym c.self.view_is)
    (c.in_ok-check.ensures c.requires.there.0 c.requires.there.1) in
    let room : c.room_for_name.new.self.items ≡ s.adaptors = c.room_for_name.ensures.items in
    let is : c.revive.new.self.items ≡ slice_set s.adaptors n (revived name c.requires.there.0) =
    c.revive.ensures.items c.requires.there.0 (ap (λ xs. slice_get xs n) room ∙ here)
    ∙ ap (λ xs. slice_set xs n (revived name c.requires.there.0)) room in
    rw (← c.self.view_is)
    (told_again s c.self.invariant.sound n c.requires.there.0 here name c.requires.name free lines
    are
    c.revive.new.self.items is stamped
    (ap (λ (t : State). t.ready) c.self.view_is ∙ c.requires.ready) c.in-Ok.ensures.read
    c.in-Ok.ensures.told)

pub returns-in-Ok-clause-undamaged : goal.returns-in-Ok-clause-undamaged
returns-in-Ok-clause-undamaged g c =
    tt

pub returns-in-Ok-clause-last : goal.returns-in-Ok-clause-last
returns-in-Ok-clause-last g c =
    last_ok {T = Unit {0}} tt c.in-Ok.ensures.last

pub returns-in-Ok-clause-cause : goal.returns-in-Ok-clause-cause
returns-in-Ok-clause-cause g c =
    let same = c.in-Ok.ensures.cause in omega (arith, same)

pub invariant_of-self-in-Err-NoMemory : goal.invariant_of-self-in-Err-NoMemory
invariant_of-self-in-Err-NoMemory g c =
    let s = agent_view c.self.inside in
    let n = c.args.place in
    let name = c.args.name in
    let lines = map shown c.in_ok-check.check.lines.items in
    let here : slice_get s.adaptors n ≡ Some c.requires.there.0 =
    ap (λ (t : State). slice_get t.adaptors n) c.self.view_is ∙ c.requires.there.1 in
    let free : named_in name 0 s.adaptors ≡ None =
    subst (λ (t : State). named_in name 0 t.adaptors ≡ None) (sym c.self.view_is) c.requires.free in
    let are : lines ≡ lines_of (revived_at s n name c.requires.there.0) =
    subst (λ (t : State). lines ≡ lines_of (revived_at t n name c.requires.there.0))
    (sym c.self.view_is)
    (c.in_ok-check.ensures c.requires.there.0 c.requires.there.1) in
    let room : c.room_for_name.new.self.items ≡ s.adaptors = c.room_for_name.ensures.items in
    record {
      role = c.self.invariant.role;
      sound = sound_left s c.self.invariant.sound n c.requires.there.0 here name c.requires.name
          free lines are
          c.room_for_name.new.self.items room;
    }

pub returns-in-Err-NoMemory-clause-state : goal.returns-in-Err-NoMemory-clause-state
returns-in-Err-NoMemory-clause-state g c a at =
    let s = agent_view c.self.inside in
    let n = c.args.place in
    let name = c.args.name in
    let lines = map shown c.in_ok-check.check.lines.items in
    let here : slice_get s.adaptors n ≡ Some a =
    ap (λ (t : State). slice_get t.adaptors n) c.self.view_is ∙ at in
    let free : named_in name 0 s.adaptors ≡ None =
    subst (λ (t : State). named_in name 0 t.adaptors ≡ None) (sym c.self.view_is) c.requires.free in
    let are : lines ≡ lines_of (revived_at s n name a) =
    subst (λ (t : State). lines ≡ lines_of (revived_at t n name a)) (sym c.self.view_is)
    (c.in_ok-check.ensures a at) in
    let room : c.room_for_name.new.self.items ≡ s.adaptors = c.room_for_name.ensures.items in
    rw (← c.self.view_is)
    (unmade_left s c.self.invariant.sound n a here name c.requires.name free lines are
    c.room_for_name.new.self.items room
    (rw c.in-Err-NoMemory.field-0-is at c.in-Err-NoMemory.ensures.told))

pub returns-in-Err-NoMemory-clause-told : goal.returns-in-Err-NoMemory-clause-told
returns-in-Err-NoMemory-clause-told g c stamped =
    let s = agent_view c.self.inside in
    let n = c.args.place in
    let name = c.args.name in
    let lines = map shown c.in_ok-check.check.lines.items in
    let here : slice_get s.adaptors n ≡ Some c.requires.there.0 =
    ap (λ (t : State). slice_get t.adaptors n) c.self.view_is ∙ c.requires.there.1 in
    let free : named_in name 0 s.adaptors ≡ None =
    subst (λ (t : State). named_in name 0 t.adaptors ≡ None) (sym c.self.view_is) c.requires.free in
    let are : lines ≡ lines_of (revived_at s n name c.requires.there.0) =
    subst (λ (t : State). lines ≡ lines_of (revived_at t n name c.requires.there.0))
    (sym c.self.view_is)
    (c.in_ok-check.ensures c.requires.there.0 c.requires.there.1) in
    let room : c.room_for_name.new.self.items ≡ s.adaptors = c.room_for_name.ensures.items in
    rw (← c.self.view_is)
    (told_left s c.self.invariant.sound n c.requires.there.0 here name c.requires.name free lines
    are
    c.room_for_name.new.self.items room stamped
    (ap (λ (t : State). t.ready) c.self.view_is ∙ c.requires.ready)
    c.in-Err-NoMemory.ensures.read
    (rw c.in-Err-NoMemory.field-0-is at c.in-Err-NoMemory.ensures.told)
    (rw c.in-Err-NoMemory.field-0-is at c.in-Err-NoMemory.ensures.unmade))

pub returns-in-Err-NoMemory-clause-undamaged : goal.returns-in-Err-NoMemory-clause-undamaged
returns-in-Err-NoMemory-clause-undamaged g c =
    tt

pub returns-in-Err-NoMemory-clause-last : goal.returns-in-Err-NoMemory-clause-last
returns-in-Err-NoMemory-clause-last g c =
    last_by (Unit {0}) (Unit {0}) no_memory
    (rw c.in-Err-NoMemory.field-0-is at c.in-Err-NoMemory.ensures.last)

pub returns-in-Err-NoMemory-clause-cause : goal.returns-in-Err-NoMemory-clause-cause
returns-in-Err-NoMemory-clause-cause g c =
    cause_by (Unit {0}) (Unit {0}) no_memory _ _
    (rw c.in-Err-NoMemory.field-0-is at c.in-Err-NoMemory.ensures.cause)

pub invariant_of-self-in-Err-Outside : goal.invariant_of-self-in-Err-Outside
invariant_of-self-in-Err-Outside g c =
    let s = agent_view c.self.inside in
    let n = c.args.place in
    let name = c.args.name in
    let lines = map shown c.in_ok-check.check.lines.items in
    let here : slice_get s.adaptors n ≡ Some c.requires.there.0 =
    ap (λ (t : State). slice_get t.adaptors n) c.self.view_is ∙ c.requires.there.1 in
    let free : named_in name 0 s.adaptors ≡ None =
    subst (λ (t : State). named_in name 0 t.adaptors ≡ None) (sym c.self.view_is) c.requires.free in
    let are : lines ≡ lines_of (revived_at s n name c.requires.there.0) =
    subst (λ (t : State). lines ≡ lines_of (revived_at t n name c.requires.there.0))
    (sym c.self.view_is)
    (c.in_ok-check.ensures c.requires.there.0 c.requires.there.1) in
    let room : c.room_for_name.new.self.items ≡ s.adaptors = c.room_for_name.ensures.items in
    record {
      role = c.self.invariant.role;
      sound = sound_lost s c.self.invariant.sound n c.requires.there.0 here name c.requires.name
          free lines are
          c.room_for_name.new.self.items room;
    }

pub returns-clause-state : goal.returns-clause-state
returns-clause-state g c a at =
    let s = agent_view c.self.inside in
    let n = c.args.place in
    let name = c.args.name in
    let lines = map shown c.in_ok-check.check.lines.items in
    let here : slice_get s.adaptors n ≡ Some a =
    ap (λ (t : State). slice_get t.adaptors n) c.self.view_is ∙ at in
    let free : named_in name 0 s.adaptors ≡ None =
    subst (λ (t : State). named_in name 0 t.adaptors ≡ None) (sym c.self.view_is) c.requires.free in
    let are : lines ≡ lines_of (revived_at s n name a) =
    subst (λ (t : State). lines ≡ lines_of (revived_at t n name a)) (sym c.self.view_is)
    (c.in_ok-check.ensures a at) in
    let room : c.room_for_name.new.self.items ≡ s.adaptors = c.room_for_name.ensures.items in
    rw (← c.self.view_is)
    (failed_lost s c.self.invariant.sound n a here name c.requires.name free lines are
    c.room_for_name.new.self.items room c.in-Err-Outside.call
    (rw c.in-Err-Outside.field-0-is at c.in-Err-Outside.ensures.told))

pub returns-clause-told : goal.returns-clause-told
returns-clause-told g c stamped =
    let s = agent_view c.self.inside in
    let n = c.args.place in
    let name = c.args.name in
    let lines = map shown c.in_ok-check.check.lines.items in
    let here : slice_get s.adaptors n ≡ Some c.requires.there.0 =
    ap (λ (t : State). slice_get t.adaptors n) c.self.view_is ∙ c.requires.there.1 in
    let free : named_in name 0 s.adaptors ≡ None =
    subst (λ (t : State). named_in name 0 t.adaptors ≡ None) (sym c.self.view_is) c.requires.free in
    let are : lines ≡ lines_of (revived_at s n name c.requires.there.0) =
    subst (λ (t : State). lines ≡ lines_of (revived_at t n name c.requires.there.0))
    (sym c.self.view_is)
    (c.in_ok-check.ensures c.requires.there.0 c.requires.there.1) in
    let room : c.room_for_name.new.self.items ≡ s.adaptors = c.room_for_name.ensures.items in
    rw (← c.self.view_is)
    (told_lost s c.self.invariant.sound n c.requires.there.0 here name c.requires.name free lines
    are
    c.room_for_name.new.self.items room stamped
    (ap (λ (t : State). t.ready) c.self.view_is ∙ c.requires.ready)
    c.in-Err-Outside.ensures.read c.in-Err-Outside.call
    (rw c.in-Err-Outside.field-0-is at c.in-Err-Outside.ensures.told))

pub returns-clause-undamaged : goal.returns-clause-undamaged
returns-clause-undamaged g c =
    tt

pub returns-clause-last : goal.returns-clause-last
returns-clause-last g c =
    last_by (Unit {0}) (Unit {0}) (site_failed c.in-Err-Outside.call)
    (rw c.in-Err-Outside.field-0-is at c.in-Err-Outside.ensures.last)

pub returns-clause-cause : goal.returns-clause-cause
returns-clause-cause g c =
    cause_by (Unit {0}) (Unit {0}) (site_failed c.in-Err-Outside.call) _ _
    (rw c.in-Err-Outside.field-0-is at c.in-Err-Outside.ensures.cause)
