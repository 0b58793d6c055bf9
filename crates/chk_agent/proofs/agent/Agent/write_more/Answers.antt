use Rattle.std.proofs.Common.{◌≡◌, ◌∙◌, ap, sym, subst, length, map, arith, [], ◌∷◌, ◌++◌, None}
use Rattle.std.proofs.Common.{Err}
use Rattle.std.specs.Prelude.{position}
use Rattle.std.proofs.lemmas.Result.{err_from_is_err_and}
use Rattle.chk_checkpoint.specs.Lines.{shown}
use Rattle.chk_world.specs.Checkpoints.{Line}
use Rattle.chk_agent_adaptor.specs.Adaptors.{Adaptor, adaptor_of}
use Rattle.chk_agent_table.specs.Adaptors.{is_named, is_of}
use Rattle.chk_agent_delivery.specs.Turns.{begun_at}
use Rattle.chk_agent.specs.declared.answers.AgentFault.TheVariants.{NoMemory}
use Rattle.chk_agent.specs.Fields.{agent_view}
use Rattle.chk_agent.specs.Adds.{with_added}
use Rattle.chk_agent.specs.Takes.{Keeps, wanting}
use Rattle.chk_agent.proofs.TurningFaults.{last_ok}
use Rattle.chk_agent.proofs.TableFound.{none_found, none_named}
use Rattle.chk_site.specs.declared.acts.OutsideFault.TheVariants.{Outside as site_failed}
use Rattle.chk_site.specs.declared.acts.OutsideFault.TheVariants.{NoMemory as no_memory}
use Rattle.chk_agent.proofs.AddingLines.{last_none, last_by, cause_by}
use Rattle.chk_agent.proofs.AddingKept.{same_room, kept_from, good_new, free_new, sound_more}
use Rattle.chk_agent.proofs.AddingKept.{kept_more, told_more, sound_kept, sound_room, failed_room}
use Rattle.chk_agent.proofs.AddingKept.{told_room, told_unmade, unmade_room, newest_left}
use Rattle.chk_agent.proofs.agent.Agent.write_more.Goals as goal

pub returns-in_err-keys-clause-state : goal.returns-in_err-keys-clause-state
returns-in_err-keys-clause-state g c l m =
    let s = c.args.self.now in
    let now = g.S.Site.told c.args.site.now in
    let p = err_from_is_err_and c.from_residual.result c.from_residual.ensures.1 in
    rw (p.1, p.2)
    (subst (λ u. Keeps s (with_added s None l) (Err NoMemory) u now now)
    (sym c.self.view_is ∙ sym (same_room (agent_view c.self.inside) c.room_for.new.self.items
    c.room_for.ensures.items)) wanting)

pub returns-in_err-keys-clause-told : goal.returns-in_err-keys-clause-told
returns-in_err-keys-clause-told g c stamped l m =
    let s = agent_view c.self.inside in
    newest_left stamped c.args.self.now (record s { adaptors = c.room_for.new.self.items }) l
    (sym c.self.view_is ∙ sym (same_room s c.room_for.new.self.items c.room_for.ensures.items))
    (g.S.Site.told c.args.site.now)

pub write_lines-requires : goal.write_lines-requires
write_lines-requires g c =
    let s = agent_view c.self.inside in
    let l : Line = c.requires.more.0 in
    let lines = map shown c.args.check.lines.items in
    let k = kept_from s c.args.self.now c.self.view_is c.self.invariant.sound l c.args.start
    c.args.adaptor lines c.requires.more.1
    c.used-sound.ensures.table.as_many in
    good_new s l lines k

pub add-requires-clause-stream : goal.add-requires-clause-stream
add-requires-clause-stream g c =
    let s = agent_view c.self.inside in
    let l : Line = c.requires.more.0 in
    let m = c.requires.more.1 in
    let xs = c.room_for.new.self.items in
    let k = kept_from s c.args.self.now c.self.view_is c.self.invariant.sound l c.args.start
    c.args.adaptor (map shown c.args.check.lines.items) m
    c.used-sound.ensures.table.as_many in
    subst (λ (a : Adaptor). position (is_of a.kind a.path) xs ≡ None) (sym m.adaptor)
    (ap (position (is_of l.kind l.path)) c.room_for.ensures.items
    ∙ none_found l.kind l.path s.adaptors k.new.stream)

pub add-requires-clause-name : goal.add-requires-clause-name
add-requires-clause-name g c live =
    let s = agent_view c.self.inside in
    let l : Line = c.requires.more.0 in
    let m = c.requires.more.1 in
    let xs = c.room_for.new.self.items in
    let k = kept_from s c.args.self.now c.self.view_is c.self.invariant.sound l c.args.start
    c.args.adaptor (map shown c.args.check.lines.items) m
    c.used-sound.ensures.table.as_many in
    subst (λ (a : Adaptor). position (is_named a.name) xs ≡ None) (sym m.adaptor)
    (ap (position (is_named l.name)) c.room_for.ensures.items
    ∙ none_named l.name s.adaptors k.new.name)

pub begin-requires-clause-none : goal.begin-requires-clause-none
begin-requires-clause-none g c =
    let s = agent_view c.self.inside in
    let l : Line = c.requires.more.0 in
    let lines = map shown c.args.check.lines.items in
    let k = kept_from s c.args.self.now c.self.view_is c.self.invariant.sound l c.args.start
    c.args.adaptor lines c.requires.more.1
    c.used-sound.ensures.table.as_many in
    let number : c.len-number.result ≡ length s.adaptors =
    c.len-number.ensures.len in
    free_new s l lines k c.len-number.result number

pub invariant_of-self-3 : goal.invariant_of-self-3
invariant_of-self-3 g c =
    let s = agent_view c.self.inside in
    let l : Line = c.requires.more.0 in
    let m = c.requires.more.1 in
    let lines = map shown c.args.check.lines.items in
    let k = kept_from s c.args.self.now c.self.view_is c.self.invariant.sound l c.args.start
    c.args.adaptor lines m
    c.used-sound.ensures.table.as_many in
    let number : c.len-number.result ≡ length s.adaptors =
    c.len-number.ensures.len in
    let more : c.add.new.self.items ≡ s.adaptors ++ adaptor_of l ∷ [] =
    c.add.ensures.items ∙ (ap (λ ys. ys ++ c.args.adaptor ∷ []) c.room_for.ensures.items
    ∙ ap (λ b. s.adaptors ++ b ∷ []) m.adaptor) in
    let begun : c.begin.new.self ≡ begun_at (length s.adaptors) l.start s.delivery =
    c.begin.ensures ∙ (λ i. begun_at (number i) (m.start i) s.delivery) in
    record {
      role = c.self.invariant.role;
      sound = sound_more s l lines k c.add.new.self.items more c.begin.new.self begun
          c.used-sound_begun.ensures.sound;
    }

pub returns-clause-state : goal.returns-clause-state
returns-clause-state g c l m =
    let s = agent_view c.self.inside in
    let lines = map shown c.args.check.lines.items in
    let k = kept_from s c.args.self.now c.self.view_is c.self.invariant.sound l c.args.start
    c.args.adaptor lines m
    c.used-sound.ensures.table.as_many in
    let number : c.len-number.result ≡ length s.adaptors =
    c.len-number.ensures.len in
    let more : c.add.new.self.items ≡ s.adaptors ++ adaptor_of l ∷ [] =
    c.add.ensures.items ∙ (ap (λ ys. ys ++ c.args.adaptor ∷ []) c.room_for.ensures.items
    ∙ ap (λ b. s.adaptors ++ b ∷ []) m.adaptor) in
    let begun : c.begin.new.self ≡ begun_at (length s.adaptors) l.start s.delivery =
    c.begin.ensures ∙ (λ i. begun_at (number i) (m.start i) s.delivery) in
    rw (← c.self.view_is) (kept_more s l lines k c.add.new.self.items more
    c.begin.new.self begun c.in-Ok.ensures.told)

pub returns-clause-told : goal.returns-clause-told
returns-clause-told g c stamped l m =
    let s = agent_view c.self.inside in
    let lines = map shown c.args.check.lines.items in
    let k = kept_from s c.args.self.now c.self.view_is c.self.invariant.sound l c.args.start
    c.args.adaptor lines m
    c.used-sound.ensures.table.as_many in
    let number : c.len-number.result ≡ length s.adaptors =
    c.len-number.ensures.len in
    let more : c.add.new.self.items ≡ s.adaptors ++ adaptor_of l ∷ [] =
    c.add.ensures.items ∙ (ap (λ ys. ys ++ c.args.adaptor ∷ []) c.room_for.ensures.items
    ∙ ap (λ b. s.adaptors ++ b ∷ []) m.adaptor) in
    let begun : c.begin.new.self ≡ begun_at (length s.adaptors) l.start s.delivery =
    c.begin.ensures ∙ (λ i. begun_at (number i) (m.start i) s.delivery) in
    rw (← c.self.view_is)
    (told_more s l lines k c.add.new.self.items more c.begin.new.self begun stamped
    c.in-Ok.ensures.read c.in-Ok.ensures.told)

pub invariant_of-self-in-Err-NoMemory : goal.invariant_of-self-in-Err-NoMemory
invariant_of-self-in-Err-NoMemory g c =
    let s = agent_view c.self.inside in
    let l : Line = c.requires.more.0 in
    let lines = map shown c.args.check.lines.items in
    let k = kept_from s c.args.self.now c.self.view_is c.self.invariant.sound l c.args.start
    c.args.adaptor lines c.requires.more.1
    c.used-sound.ensures.table.as_many in
    record {
      role = c.self.invariant.role;
      sound = sound_kept s l lines k c.room_for.new.self.items c.room_for.ensures.items;
    }

pub returns-in-Err-NoMemory-clause-state : goal.returns-in-Err-NoMemory-clause-state
returns-in-Err-NoMemory-clause-state g c l m =
    let s = agent_view c.self.inside in
    let lines = map shown c.args.check.lines.items in
    let k = kept_from s c.args.self.now c.self.view_is c.self.invariant.sound l c.args.start
    c.args.adaptor lines m
    c.used-sound.ensures.table.as_many in
    rw (← c.self.view_is)
    (unmade_room s l lines k c.room_for.new.self.items c.room_for.ensures.items
    (rw c.in-Err-NoMemory.field-0-is at c.in-Err-NoMemory.ensures.told))

pub returns-in-Err-NoMemory-clause-told : goal.returns-in-Err-NoMemory-clause-told
returns-in-Err-NoMemory-clause-told g c stamped l m =
    let s = agent_view c.self.inside in
    let lines = map shown c.args.check.lines.items in
    let k = kept_from s c.args.self.now c.self.view_is c.self.invariant.sound l c.args.start
    c.args.adaptor lines m
    c.used-sound.ensures.table.as_many in
    rw (← c.self.view_is)
    (told_unmade s l lines k c.room_for.new.self.items c.room_for.ensures.items stamped
    c.in-Err-NoMemory.ensures.read (rw c.in-Err-NoMemory.field-0-is at
    c.in-Err-NoMemory.ensures.told) (rw c.in-Err-NoMemory.field-0-is at
    c.in-Err-NoMemory.ensures.unmade))

pub returns-in-Err-NoMemory-clause-last : goal.returns-in-Err-NoMemory-clause-last
returns-in-Err-NoMemory-clause-last g c =
    last_by (Unit {0}) (Unit {0}) no_memory (rw c.in-Err-NoMemory.field-0-is at
    c.in-Err-NoMemory.ensures.last)

pub invariant_of-self-in-Err-Outside : goal.invariant_of-self-in-Err-Outside
invariant_of-self-in-Err-Outside g c =
    let s = agent_view c.self.inside in
    let l : Line = c.requires.more.0 in
    let lines = map shown c.args.check.lines.items in
    let k = kept_from s c.args.self.now c.self.view_is c.self.invariant.sound l c.args.start
    c.args.adaptor lines c.requires.more.1
    c.used-sound.ensures.table.as_many in
    record {
      role = c.self.invariant.role;
      sound = sound_room s l lines k c.room_for.new.self.items c.room_for.ensures.items;
    }

pub returns-in-Err-Outside-clause-state : goal.returns-in-Err-Outside-clause-state
returns-in-Err-Outside-clause-state g c l m =
    let s = agent_view c.self.inside in
    let lines = map shown c.args.check.lines.items in
    let k = kept_from s c.args.self.now c.self.view_is c.self.invariant.sound l c.args.start
    c.args.adaptor lines m
    c.used-sound.ensures.table.as_many in
    rw (← c.self.view_is)
    (failed_room s l lines k c.room_for.new.self.items c.room_for.ensures.items
    c.in-Err-Outside.call
    (rw c.in-Err-Outside.field-0-is at c.in-Err-Outside.ensures.told))

pub returns-in-Err-Outside-clause-told : goal.returns-in-Err-Outside-clause-told
returns-in-Err-Outside-clause-told g c stamped l m =
    let s = agent_view c.self.inside in
    let lines = map shown c.args.check.lines.items in
    let k = kept_from s c.args.self.now c.self.view_is c.self.invariant.sound l c.args.start
    c.args.adaptor lines m
    c.used-sound.ensures.table.as_many in
    rw (← c.self.view_is)
    (told_room s l lines k c.room_for.new.self.items c.room_for.ensures.items stamped
    c.in-Err-Outside.call
    c.in-Err-Outside.ensures.read
    (rw c.in-Err-Outside.field-0-is at c.in-Err-Outside.ensures.told))

pub returns-in-Err-Outside-clause-last : goal.returns-in-Err-Outside-clause-last
returns-in-Err-Outside-clause-last g c =
    last_by (Unit {0}) (Unit {0}) (site_failed c.in-Err-Outside.call)
    (rw c.in-Err-Outside.field-0-is at c.in-Err-Outside.ensures.last)

pub returns-in-Err-Outside-clause-cause : goal.returns-in-Err-Outside-clause-cause
returns-in-Err-Outside-clause-cause g c =
    cause_by (Unit {0}) (Unit {0}) (site_failed c.in-Err-Outside.call) _ _
    (rw c.in-Err-Outside.field-0-is at c.in-Err-Outside.ensures.cause)

pub returns-in_err-keys-clause-undamaged : goal.returns-in_err-keys-clause-undamaged
returns-in_err-keys-clause-undamaged g c =
    let p = err_from_is_err_and c.from_residual.result c.from_residual.ensures.1 in
    rw (p.1, p.2) tt

pub returns-in_err-keys-clause-last : goal.returns-in_err-keys-clause-last
returns-in_err-keys-clause-last g c =
    let p = err_from_is_err_and c.from_residual.result c.from_residual.ensures.1 in
    rw (p.1, p.2) (last_none (Unit {0}) (g.S.Site.told c.args.site.now))

pub returns-in_err-keys-clause-cause : goal.returns-in_err-keys-clause-cause
returns-in_err-keys-clause-cause g c =
    let p = err_from_is_err_and c.from_residual.result c.from_residual.ensures.1 in
    rw (p.1, p.2) (omega arith)

pub returns-clause-undamaged : goal.returns-clause-undamaged
returns-clause-undamaged g c =
    tt

pub returns-clause-last : goal.returns-clause-last
returns-clause-last g c =
    last_ok {T = Unit {0}} tt c.in-Ok.ensures.last

pub returns-clause-cause : goal.returns-clause-cause
returns-clause-cause g c =
    let same = c.in-Ok.ensures.cause in omega (arith, same)

pub returns-in-Err-NoMemory-clause-cause : goal.returns-in-Err-NoMemory-clause-cause
returns-in-Err-NoMemory-clause-cause g c =
    cause_by (Unit {0}) (Unit {0}) no_memory _ _
    (rw c.in-Err-NoMemory.field-0-is at c.in-Err-NoMemory.ensures.cause)

pub returns-in-Err-NoMemory-clause-undamaged : goal.returns-in-Err-NoMemory-clause-undamaged
returns-in-Err-NoMemory-clause-undamaged g c =
    tt

pub returns-in-Err-Outside-clause-undamaged : goal.returns-in-Err-Outside-clause-undamaged
returns-in-Err-Outside-clause-undamaged g c =
    tt
