use Rattle.std.proofs.Common.{◌≡◌, ◌+◌, Some, Ok, Err, length, ap, sym, subst, ◌∙◌, refl, true}
use Rattle.std.proofs.Common.{is_ok, arith}
use Rattle.std.specs.Prelude.{IfOk, slice_get, slice_index}
use Rattle.std.proofs.lemmas.Option.{same_Some}
use Rattle.std.proofs.lemmas.Result.{err_from_is_err_and}
use Rattle.chk_site.proofs.Runs.{adds_none}
use Rattle.chk_site.proofs.Leads.{leads_as, leads_none}
use Rattle.chk_rotate.proofs.Walking.{on_err}
use Rattle.chk_chunk.specs.Keys.{is_chunk}
use Rattle.chk_chunk.specs.Lent.{chunk_of}
use Rattle.chk_tail.specs.declared.step.Step.{Step}
use Rattle.chk_tail.specs.declared.step.Step.TheVariants.{Bytes, AtEnd, Shrank as is_short}
use Rattle.chk_tail.specs.Given.{IsGiven}
use Rattle.chk_agent_adaptor.specs.Adaptors.{before_of}
use Rattle.chk_agent_delivery.specs.Sound.{next_begins}
use Rattle.chk_agent_delivery.specs.Turns.{with_chunk}
use Rattle.chk_agent_delivery.proofs.Putting.{by_ok}
use Rattle.chk_agent.specs.declared.answers.Stepped.{Stepped}
use Rattle.chk_agent.specs.declared.answers.Stepped.TheVariants.{AtEnd as step_at_end}
use Rattle.chk_agent.specs.declared.answers.Stepped.TheVariants.{Shrank as step_shrank}
use Rattle.chk_agent.specs.Faults.{FailsLast}
use Rattle.chk_agent.specs.declared.answers.AgentFault.TheVariants.{NoMemory}
use Rattle.chk_agent.specs.declared.answers.Stepped.TheVariants.{Read as step_read}
use Rattle.chk_agent.specs.declared.answers.Stepped.TheVariants.{Held as step_held}
use Rattle.chk_agent.specs.Faults.{fault_of}
use Rattle.chk_agent.specs.States.{State, chunk_given}
use Rattle.chk_agent.specs.Fills.{IsOneStepped, held, refused}
use Rattle.chk_agent.specs.Facts.{Matches}
use Rattle.chk_agent.specs.Fits.{IsSound}
use Rattle.chk_agent.specs.Fields.{agent_view}
use Rattle.chk_agent.specs.Within.{chunk_made}
use Rattle.chk_agent.proofs.AddingLines.{last_unmade, undamaged_by, last_by, cause_by}
use Rattle.chk_agent.proofs.TurningFaults.{last_ok}
use Rattle.chk_agent.proofs.Soundness.{below_at}
use Rattle.chk_agent_table.specs.Adaptors.{Held}
use Rattle.chk_agent.proofs.SteppingTold.{kept_told}
use Rattle.chk_agent.proofs.SteppingExits.{if_ok, stepped_at, put_is, undone_is}
use Rattle.chk_agent.proofs.SteppingExits.{own_state, made_sound, made_state, made_on, undone_state}
use Rattle.chk_agent.proofs.SteppingExits.{chunk_is, chunk_valid, chunk_next, chunk_known, end_on}
use Rattle.chk_agent.proofs.SteppingExits.{short_on, after_of}
use Rattle.chk_agent.proofs.agent.Agent.step.Goals as goal

pub at-requires : goal.at-requires
at-requires g c =
    let s = agent_view c.self.inside in
    let i = c.args.adaptor in
    let a = c.requires.read_on.0 in
    let at = ap (λ (s : State). slice_get s.adaptors i) c.self.view_is ∙ c.requires.read_on.1 in
    below_at s.adaptors i a at

pub step-requires : goal.step-requires
step-requires g c =
    let i = c.args.adaptor in
    let a = c.requires.read_on.0 in
    let at = ap (λ (s : State). slice_get s.adaptors i) c.self.view_is ∙ c.requires.read_on.1 in
    record { read_on = (a, at, c.requires.read_on.2) }

pub at-requires-in-Bytes : goal.at-requires-in-Bytes
at-requires-in-Bytes g c =
    let i = c.args.adaptor in
    let a = c.requires.read_on.0 in
    let at = ap (λ (s : State). slice_get s.adaptors i) c.self.view_is ∙ c.requires.read_on.1 in
    let st = c.in_ok-step.ensures.state a at in
    below_at c.step.new.self.items i st.adaptor st.there

pub undo-requires : goal.undo-requires
undo-requires g c =
    let s = agent_view c.self.inside in
    let sound = c.self.invariant.sound in
    let i = c.args.adaptor in
    let a = c.requires.read_on.0 in
    let at = ap (λ (s : State). slice_get s.adaptors i) c.self.view_is ∙ c.requires.read_on.1 in
    let st = stepped_at c.self.inside.who s i a c.self.inside.adaptors c.step.new.self
    (Ok c.in_ok-step.step) (Ok (Bytes c.in-Bytes.bytes c.in-Bytes.end)) c.self.invariant.role refl
    refl
    (ap Ok c.in-Bytes.is) (c.in_ok-step.ensures.state a at) (c.in_ok-step.ensures.named a at)
    c.in_ok-step.ensures.placed in
    let was = same_Some c.at.result.now a (sym c.at.ensures ∙ at) in (
      st.b,
      st.there,
      record {
        old = a;
        marks = st.was.step.marks;
        next = st.was.step.next;
        step = Bytes c.in-Bytes.bytes c.in-Bytes.end;
        placed = (sound.each i a at).place.marked.placed;
        before_is = c.before-before.ensures ∙ ap before_of was;
        now_is = st.was.step.is;
      },
    )

pub keep-requires-clause-room : goal.keep-requires-clause-room
keep-requires-clause-room g c = sym c.if-is_held.ensures

pub keep-requires-clause-valid : goal.keep-requires-clause-valid
keep-requires-clause-valid g c =
    let s = agent_view c.self.inside in
    let sound = c.self.invariant.sound in
    let i = c.args.adaptor in
    let a = c.requires.read_on.0 in
    let at = ap (λ (s : State). slice_get s.adaptors i) c.self.view_is ∙ c.requires.read_on.1 in
    let st = stepped_at c.self.inside.who s i a c.self.inside.adaptors c.step.new.self
    (Ok c.in_ok-step.step) (Ok (Bytes c.in-Bytes.bytes c.in-Bytes.end)) c.self.invariant.role refl
    refl
    (ap Ok c.in-Bytes.is) (c.in_ok-step.ensures.state a at) (c.in_ok-step.ensures.named a at)
    c.in_ok-step.ensures.placed in
    let xs = c.step.new.self.items in
    let b = st.b in
    let m = st.was in
    let bytes = c.in-Bytes.bytes in
    let end = c.in-Bytes.end in
    let given = subst IsGiven c.in-Bytes.is c.in_ok-step.ensures.given in
    let here = same_Some c.at-in-Bytes.result.now b (sym c.at-in-Bytes.ensures ∙ st.there) in
    let is = ap (λ x. chunk_made s.source s.cluster x bytes end) here ∙ chunk_is s sound i a b at xs
    st.set
    bytes end m.step given in
    let valid = chunk_valid s sound i a b at xs st.set bytes end m.step given
    c.as_str-sound_name.ensures.word
    c.as_str-sound_word.ensures.word in
    if_ok c.chunk_of-chunk.result _ (λ k. is_chunk (chunk_of k) ≡ true)
    (λ k e. subst (λ k. is_chunk (chunk_of k) ≡ true) (sym (e ∙ is)) valid)
    c.chunk_of-chunk.ensures

pub keep-requires-clause-known : goal.keep-requires-clause-known
keep-requires-clause-known g c =
    let s = agent_view c.self.inside in
    let sound = c.self.invariant.sound in
    let i = c.args.adaptor in
    let a = c.requires.read_on.0 in
    let at = ap (λ (s : State). slice_get s.adaptors i) c.self.view_is ∙ c.requires.read_on.1 in
    let st = stepped_at c.self.inside.who s i a c.self.inside.adaptors c.step.new.self
    (Ok c.in_ok-step.step) (Ok (Bytes c.in-Bytes.bytes c.in-Bytes.end)) c.self.invariant.role refl
    refl
    (ap Ok c.in-Bytes.is) (c.in_ok-step.ensures.state a at) (c.in_ok-step.ensures.named a at)
    c.in_ok-step.ensures.placed in
    let xs = c.step.new.self.items in
    let b = st.b in
    let m = st.was in
    let given = subst IsGiven c.in-Bytes.is c.in_ok-step.ensures.given in
    chunk_known s sound i a b at xs st.set c.in-Bytes.bytes c.in-Bytes.end m.step given
    c.used-sound.ensures.table

pub keep-requires-clause-next : goal.keep-requires-clause-next
keep-requires-clause-next g c =
    let s = agent_view c.self.inside in
    let sound = c.self.invariant.sound in
    let i = c.args.adaptor in
    let a = c.requires.read_on.0 in
    let at = ap (λ (s : State). slice_get s.adaptors i) c.self.view_is ∙ c.requires.read_on.1 in
    let st = stepped_at c.self.inside.who s i a c.self.inside.adaptors c.step.new.self
    (Ok c.in_ok-step.step) (Ok (Bytes c.in-Bytes.bytes c.in-Bytes.end)) c.self.invariant.role refl
    refl
    (ap Ok c.in-Bytes.is) (c.in_ok-step.ensures.state a at) (c.in_ok-step.ensures.named a at)
    c.in_ok-step.ensures.placed in
    let xs = c.step.new.self.items in
    let b = st.b in
    let m = st.was in
    let bytes = c.in-Bytes.bytes in
    let end = c.in-Bytes.end in
    let given = subst IsGiven c.in-Bytes.is c.in_ok-step.ensures.given in
    let here = same_Some c.at-in-Bytes.result.now b (sym c.at-in-Bytes.ensures ∙ st.there) in
    let is = ap (λ x. chunk_made s.source s.cluster x bytes end) here ∙ chunk_is s sound i a b at xs
    st.set
    bytes end m.step given in
    let next = chunk_next s sound i a b at xs st.set bytes end m.step given in
    if_ok c.chunk_of-chunk.result _ (λ k. k.seq ≡ slice_index (next_begins s.delivery) i + length
    k.body)
    (λ k e. subst (λ k. k.seq ≡ slice_index (next_begins s.delivery) i + length k.body)
    (sym (e ∙ is)) next) c.chunk_of-chunk.ensures

pub returns-then-is_held-clause-state : goal.returns-then-is_held-clause-state
returns-then-is_held-clause-state g c a there =
    rw (← c.self.view_is) (subst (λ k. IsOneStepped c.args.adaptor a (agent_view c.self.inside)
    (Ok (step_held k)) (agent_view c.self.inside) (g.S.Site.told c.args.site.now)
    (g.S.Site.told c.args.site.now))
    (sym c.used-used.ensures.used) (held (sym c.if-is_held.ensures)))

pub returns-then-is_held-clause-told : goal.returns-then-is_held-clause-told
returns-then-is_held-clause-told g c stamped =
    after_of stamped c.args.self.now c.args.self.now c.args.adaptor _ (λ h. tt)
    (leads_none _ (λ h x. x))

pub invariant_of-self : goal.invariant_of-self
invariant_of-self g c =
    let s = agent_view c.self.inside in
    let sound = c.self.invariant.sound in
    let i = c.args.adaptor in
    let a = c.requires.read_on.0 in
    let at = ap (λ (s : State). slice_get s.adaptors i) c.self.view_is ∙ c.requires.read_on.1 in
    let st = stepped_at c.self.inside.who s i a c.self.inside.adaptors c.step.new.self
    (Err c.in_err-step.field-0.0) (Err c.in_err-step.field-0.0) c.self.invariant.role refl refl
    refl (c.in_err-step.ensures.state a at) (c.in_err-step.ensures.named a at)
    c.in_err-step.ensures.placed in
    record {
      role = c.self.invariant.role;
      sound =
          subst IsSound
          (sym (own_state s sound i a st.b at c.step.new.self.items st.set st.was.step.is)) sound;
    }

pub returns-in_err-step-clause-state : goal.returns-in_err-step-clause-state
returns-in_err-step-clause-state g c a there =
    let s = agent_view c.self.inside in
    let sound = c.self.invariant.sound in
    let i = c.args.adaptor in
    let at = ap (λ (s : State). slice_get s.adaptors i) c.self.view_is ∙ there in
    let st = stepped_at c.self.inside.who s i a c.self.inside.adaptors c.step.new.self
    (Err c.in_err-step.field-0.0) (Err c.in_err-step.field-0.0) c.self.invariant.role refl refl
    refl (c.in_err-step.ensures.state a at) (c.in_err-step.ensures.named a at)
    c.in_err-step.ensures.placed in
    let xs = c.step.new.self.items in
    let b = st.b in
    let m = st.was in
    let room = sym c.if-is_held.ensures in
    let p = err_from_is_err_and c.from_residual.result c.from_residual.ensures.1 in
    rw (← c.self.view_is, p.1, p.2)
    (subst (λ t. IsOneStepped i a s (Err (fault_of c.in_err-step.field-0.0)) t
    (g.S.Site.told c.args.site.now) (g.S.Site.told c.step.new.site))
    (sym (own_state s sound i a b at xs st.set m.step.is))
    (refused b c.in_err-step.field-0.0 room m.step))

pub returns-in_err-step-clause-told : goal.returns-in_err-step-clause-told
returns-in_err-step-clause-told g c stamped =
    let s = agent_view c.self.inside in
    let sound = c.self.invariant.sound in
    let i = c.args.adaptor in
    let a = c.requires.read_on.0 in
    let at = ap (λ (s : State). slice_get s.adaptors i) c.self.view_is ∙ c.requires.read_on.1 in
    let st = stepped_at c.self.inside.who s i a c.self.inside.adaptors c.step.new.self
    (Err c.in_err-step.field-0.0) (Err c.in_err-step.field-0.0) c.self.invariant.role refl refl
    refl (c.in_err-step.ensures.state a at) (c.in_err-step.ensures.named a at)
    c.in_err-step.ensures.placed in
    let xs = c.step.new.self.items in
    let b = st.b in
    let m = st.was in
    let ready = ap (λ (s : State). s.ready) c.self.view_is ∙ c.requires.ready in
    let p = err_from_is_err_and c.from_residual.result c.from_residual.ensures.1 in
    let told = kept_told stamped s sound ready i a b at m.named m.placed
    (Err c.in_err-step.field-0.0) m.step in
    rw (← c.self.view_is, p.1, p.2)
    (after_of stamped s _ i _ (λ h. tt) (leads_as (λ h x. x)
    (λ h x. subst (λ t. Matches stamped t h) (sym (own_state s sound i a b at xs st.set m.step.is))
    x)
    told))

pub returns-then-is_err-clause-state : goal.returns-then-is_err-clause-state
returns-then-is_err-clause-state g c a there =
    let s = agent_view c.self.inside in
    let sound = c.self.invariant.sound in
    let i = c.args.adaptor in
    let at = ap (λ (s : State). slice_get s.adaptors i) c.self.view_is ∙ there in
    let st = stepped_at c.self.inside.who s i a c.self.inside.adaptors c.step.new.self
    (Ok c.in_ok-step.step) (Ok (Bytes c.in-Bytes.bytes c.in-Bytes.end)) c.self.invariant.role refl
    refl
    (ap Ok c.in-Bytes.is) (c.in_ok-step.ensures.state a at) (c.in_ok-step.ensures.named a at)
    c.in_ok-step.ensures.placed in
    let xs = c.step.new.self.items in
    let b = st.b in
    let m = st.was in
    let d = c.keep.new.delivery in
    let kept = on_err c.keep.result c.if-is_err.ensures.value c.keep.ensures.err in
    let was = same_Some c.at.result.now a (sym c.at.ensures ∙ at) in
    let back = c.undo.ensures b a m.step.marks m.step.next (Bytes c.in-Bytes.bytes c.in-Bytes.end)
    st.there (sound.each i a at).place.marked.placed (c.before-before.ensures ∙ ap before_of was)
    m.step.is in
    let same_state = undone_is s i a b xs c.undo.new.self.items d at st.set
    (ap (λ (h : Held). h.items) back) kept in
    let room = sym c.if-is_held.ensures in
    rw (← c.self.view_is)
    (subst (λ t. IsOneStepped i a s (Err NoMemory) t (g.S.Site.told c.args.site.now)
    (g.S.Site.told c.step.new.site)) (sym same_state)
    (undone_state s sound i a b at xs st.set (Bytes c.in-Bytes.bytes c.in-Bytes.end) m.step room))

pub returns-then-is_err-clause-told : goal.returns-then-is_err-clause-told
returns-then-is_err-clause-told g c stamped =
    let s = agent_view c.self.inside in
    let sound = c.self.invariant.sound in
    let i = c.args.adaptor in
    let a = c.requires.read_on.0 in
    let at = ap (λ (s : State). slice_get s.adaptors i) c.self.view_is ∙ c.requires.read_on.1 in
    let st = stepped_at c.self.inside.who s i a c.self.inside.adaptors c.step.new.self
    (Ok c.in_ok-step.step) (Ok (Bytes c.in-Bytes.bytes c.in-Bytes.end)) c.self.invariant.role refl
    refl
    (ap Ok c.in-Bytes.is) (c.in_ok-step.ensures.state a at) (c.in_ok-step.ensures.named a at)
    c.in_ok-step.ensures.placed in
    let xs = c.step.new.self.items in
    let b = st.b in
    let m = st.was in
    let d = c.keep.new.delivery in
    let kept = on_err c.keep.result c.if-is_err.ensures.value c.keep.ensures.err in
    let was = same_Some c.at.result.now a (sym c.at.ensures ∙ at) in
    let back = c.undo.ensures b a m.step.marks m.step.next (Bytes c.in-Bytes.bytes c.in-Bytes.end)
    st.there (sound.each i a at).place.marked.placed (c.before-before.ensures ∙ ap before_of was)
    m.step.is in
    let same_state = undone_is s i a b xs c.undo.new.self.items d at st.set
    (ap (λ (h : Held). h.items) back) kept in
    let ready = ap (λ (s : State). s.ready) c.self.view_is ∙ c.requires.ready in
    let told = kept_told stamped s sound ready i a b at m.named m.placed
    (Ok (Bytes c.in-Bytes.bytes c.in-Bytes.end)) m.step in
    rw (← c.self.view_is)
    (after_of stamped s _ i _ (λ h. tt) (leads_as (λ h x. x)
    (λ h x. subst (λ t. Matches stamped t h) (sym same_state) x) told))

pub invariant_of-self-then-is_err : goal.invariant_of-self-then-is_err
invariant_of-self-then-is_err g c =
    let s = agent_view c.self.inside in
    let sound = c.self.invariant.sound in
    let i = c.args.adaptor in
    let a = c.requires.read_on.0 in
    let at = ap (λ (s : State). slice_get s.adaptors i) c.self.view_is ∙ c.requires.read_on.1 in
    let st = stepped_at c.self.inside.who s i a c.self.inside.adaptors c.step.new.self
    (Ok c.in_ok-step.step) (Ok (Bytes c.in-Bytes.bytes c.in-Bytes.end)) c.self.invariant.role refl
    refl
    (ap Ok c.in-Bytes.is) (c.in_ok-step.ensures.state a at) (c.in_ok-step.ensures.named a at)
    c.in_ok-step.ensures.placed in
    let xs = c.step.new.self.items in
    let b = st.b in
    let m = st.was in
    let d = c.keep.new.delivery in
    let kept = on_err c.keep.result c.if-is_err.ensures.value c.keep.ensures.err in
    let was = same_Some c.at.result.now a (sym c.at.ensures ∙ at) in
    let back = c.undo.ensures b a m.step.marks m.step.next (Bytes c.in-Bytes.bytes c.in-Bytes.end)
    st.there (sound.each i a at).place.marked.placed (c.before-before.ensures ∙ ap before_of was)
    m.step.is in
    let same_state = undone_is s i a b xs c.undo.new.self.items d at st.set
    (ap (λ (h : Held). h.items) back) kept in
    record { role = c.self.invariant.role; sound = subst IsSound (sym same_state) sound }

pub returns-else-is_err-clause-state : goal.returns-else-is_err-clause-state
returns-else-is_err-clause-state g c a there =
    let s = agent_view c.self.inside in
    let sound = c.self.invariant.sound in
    let i = c.args.adaptor in
    let at = ap (λ (s : State). slice_get s.adaptors i) c.self.view_is ∙ there in
    let st = stepped_at c.self.inside.who s i a c.self.inside.adaptors c.step.new.self
    (Ok c.in_ok-step.step) (Ok (Bytes c.in-Bytes.bytes c.in-Bytes.end)) c.self.invariant.role refl
    refl
    (ap Ok c.in-Bytes.is) (c.in_ok-step.ensures.state a at) (c.in_ok-step.ensures.named a at)
    c.in_ok-step.ensures.placed in
    let xs = c.step.new.self.items in
    let b = st.b in
    let m = st.was in
    let bytes = c.in-Bytes.bytes in
    let end = c.in-Bytes.end in
    let given = subst IsGiven c.in-Bytes.is c.in_ok-step.ensures.given in
    let here = same_Some c.at-in-Bytes.result.now b (sym c.at-in-Bytes.ensures ∙ st.there) in
    let is = ap (λ x. chunk_made s.source s.cluster x bytes end) here ∙ chunk_is s sound i a b at xs
    st.set
    bytes end m.step given in
    let d = c.keep.new.delivery in
    let chunk = chunk_given s a bytes end in
    let no_err = c.if-is_err.ensures.value in
    let made = by_ok c.keep.result (is_ok c.chunk_of-chunk.result ≡ true) no_err
    c.keep.ensures.made in
    let put = put_is c.chunk_of-chunk.result chunk i s.delivery d made
    (if_ok c.chunk_of-chunk.result _ (λ k. k ≡ chunk) (λ k e. e ∙ is) c.chunk_of-chunk.ensures)
    (by_ok c.keep.result (IfOk c.chunk_of-chunk.result (λ k. d ≡ with_chunk i k s.delivery))
    no_err c.keep.ensures.ok) in
    let room = sym c.if-is_held.ensures in
    rw (← c.self.view_is)
    (subst (λ k. IsOneStepped i a s (Ok (step_read k))
    (record s { adaptors = xs; last = Some i; delivery = d })
    (g.S.Site.told c.args.site.now) (g.S.Site.told c.step.new.site))
    (sym (ap length c.as_slice.ensures)) (made_state s sound i a b at xs st.set (Bytes bytes end)
    m.step d
    put room))

pub returns-else-is_err-clause-told : goal.returns-else-is_err-clause-told
returns-else-is_err-clause-told g c stamped =
    let s = agent_view c.self.inside in
    let sound = c.self.invariant.sound in
    let i = c.args.adaptor in
    let a = c.requires.read_on.0 in
    let at = ap (λ (s : State). slice_get s.adaptors i) c.self.view_is ∙ c.requires.read_on.1 in
    let st = stepped_at c.self.inside.who s i a c.self.inside.adaptors c.step.new.self
    (Ok c.in_ok-step.step) (Ok (Bytes c.in-Bytes.bytes c.in-Bytes.end)) c.self.invariant.role refl
    refl
    (ap Ok c.in-Bytes.is) (c.in_ok-step.ensures.state a at) (c.in_ok-step.ensures.named a at)
    c.in_ok-step.ensures.placed in
    let xs = c.step.new.self.items in
    let b = st.b in
    let m = st.was in
    let bytes = c.in-Bytes.bytes in
    let end = c.in-Bytes.end in
    let given = subst IsGiven c.in-Bytes.is c.in_ok-step.ensures.given in
    let here = same_Some c.at-in-Bytes.result.now b (sym c.at-in-Bytes.ensures ∙ st.there) in
    let is = ap (λ x. chunk_made s.source s.cluster x bytes end) here ∙ chunk_is s sound i a b at xs
    st.set
    bytes end m.step given in
    let d = c.keep.new.delivery in
    let chunk = chunk_given s a bytes end in
    let no_err = c.if-is_err.ensures.value in
    let made = by_ok c.keep.result (is_ok c.chunk_of-chunk.result ≡ true) no_err
    c.keep.ensures.made in
    let put = put_is c.chunk_of-chunk.result chunk i s.delivery d made
    (if_ok c.chunk_of-chunk.result _ (λ k. k ≡ chunk) (λ k e. e ∙ is) c.chunk_of-chunk.ensures)
    (by_ok c.keep.result (IfOk c.chunk_of-chunk.result (λ k. d ≡ with_chunk i k s.delivery))
    no_err c.keep.ensures.ok) in
    let ready = ap (λ (s : State). s.ready) c.self.view_is ∙ c.requires.ready in
    let valid = chunk_valid s sound i a b at xs st.set bytes end m.step given
    c.as_str-sound_name.ensures.word
    c.as_str-sound_word.ensures.word in
    rw (← c.self.view_is)
    (after_of stamped s _ i _ (λ h. tt) (made_on s sound i a b at xs st.set (Bytes bytes end) m.step
    stamped
    ready m.named m.placed valid d put))

pub invariant_of-self-in-Bytes : goal.invariant_of-self-in-Bytes
invariant_of-self-in-Bytes g c =
    let s = agent_view c.self.inside in
    let sound = c.self.invariant.sound in
    let i = c.args.adaptor in
    let a = c.requires.read_on.0 in
    let at = ap (λ (s : State). slice_get s.adaptors i) c.self.view_is ∙ c.requires.read_on.1 in
    let st = stepped_at c.self.inside.who s i a c.self.inside.adaptors c.step.new.self
    (Ok c.in_ok-step.step) (Ok (Bytes c.in-Bytes.bytes c.in-Bytes.end)) c.self.invariant.role refl
    refl
    (ap Ok c.in-Bytes.is) (c.in_ok-step.ensures.state a at) (c.in_ok-step.ensures.named a at)
    c.in_ok-step.ensures.placed in
    let xs = c.step.new.self.items in
    let b = st.b in
    let m = st.was in
    let bytes = c.in-Bytes.bytes in
    let end = c.in-Bytes.end in
    let given = subst IsGiven c.in-Bytes.is c.in_ok-step.ensures.given in
    let here = same_Some c.at-in-Bytes.result.now b (sym c.at-in-Bytes.ensures ∙ st.there) in
    let is = ap (λ x. chunk_made s.source s.cluster x bytes end) here ∙ chunk_is s sound i a b at xs
    st.set
    bytes end m.step given in
    let d = c.keep.new.delivery in
    let chunk = chunk_given s a bytes end in
    let no_err = c.if-is_err.ensures.value in
    let made = by_ok c.keep.result (is_ok c.chunk_of-chunk.result ≡ true) no_err
    c.keep.ensures.made in
    let put = put_is c.chunk_of-chunk.result chunk i s.delivery d made
    (if_ok c.chunk_of-chunk.result _ (λ k. k ≡ chunk) (λ k e. e ∙ is) c.chunk_of-chunk.ensures)
    (by_ok c.keep.result (IfOk c.chunk_of-chunk.result (λ k. d ≡ with_chunk i k s.delivery))
    no_err c.keep.ensures.ok) in
    record {
      role = c.self.invariant.role;
      sound = made_sound s sound i a b at xs st.set (Bytes bytes end) m.step given
          c.requires.read_on.2
          m.placed d put c.used-sound.ensures.table
          c.used-sound_still.ensures.sound;
    }

pub returns-in-AtEnd-clause-state : goal.returns-in-AtEnd-clause-state
returns-in-AtEnd-clause-state g c a there =
    let s = agent_view c.self.inside in
    let sound = c.self.invariant.sound in
    let i = c.args.adaptor in
    let at = ap (λ (s : State). slice_get s.adaptors i) c.self.view_is ∙ there in
    let st = stepped_at c.self.inside.who s i a c.self.inside.adaptors c.step.new.self
    (Ok c.in_ok-step.step) (Ok AtEnd) c.self.invariant.role refl refl
    (ap Ok c.in-AtEnd.is) (c.in_ok-step.ensures.state a at) (c.in_ok-step.ensures.named a at)
    c.in_ok-step.ensures.placed in
    let xs = c.step.new.self.items in
    let b = st.b in
    let m = st.was in
    let room = sym c.if-is_held.ensures in
    rw (← c.self.view_is) (made_state s sound i a b at xs st.set AtEnd m.step s.delivery refl room)

pub returns-in-AtEnd-clause-told : goal.returns-in-AtEnd-clause-told
returns-in-AtEnd-clause-told g c stamped =
    let s = agent_view c.self.inside in
    let sound = c.self.invariant.sound in
    let i = c.args.adaptor in
    let a = c.requires.read_on.0 in
    let at = ap (λ (s : State). slice_get s.adaptors i) c.self.view_is ∙ c.requires.read_on.1 in
    let st = stepped_at c.self.inside.who s i a c.self.inside.adaptors c.step.new.self
    (Ok c.in_ok-step.step) (Ok AtEnd) c.self.invariant.role refl refl
    (ap Ok c.in-AtEnd.is) (c.in_ok-step.ensures.state a at) (c.in_ok-step.ensures.named a at)
    c.in_ok-step.ensures.placed in
    let xs = c.step.new.self.items in
    let b = st.b in
    let m = st.was in
    let ready = ap (λ (s : State). s.ready) c.self.view_is ∙ c.requires.ready in
    rw (← c.self.view_is) (end_on s sound i a b at xs st.set m.step stamped ready m.named m.placed)

pub invariant_of-self-in-AtEnd : goal.invariant_of-self-in-AtEnd
invariant_of-self-in-AtEnd g c =
    let s = agent_view c.self.inside in
    let sound = c.self.invariant.sound in
    let i = c.args.adaptor in
    let a = c.requires.read_on.0 in
    let at = ap (λ (s : State). slice_get s.adaptors i) c.self.view_is ∙ c.requires.read_on.1 in
    let st = stepped_at c.self.inside.who s i a c.self.inside.adaptors c.step.new.self
    (Ok c.in_ok-step.step) (Ok AtEnd) c.self.invariant.role refl refl
    (ap Ok c.in-AtEnd.is) (c.in_ok-step.ensures.state a at) (c.in_ok-step.ensures.named a at)
    c.in_ok-step.ensures.placed in
    let xs = c.step.new.self.items in
    let b = st.b in
    let m = st.was in
    record {
      role = c.self.invariant.role;
      sound = made_sound s sound i a b at xs st.set AtEnd m.step tt c.requires.read_on.2 m.placed
          s.delivery
          refl c.used-sound.ensures.table c.used-sound.ensures.sound;
    }

pub returns-in-Shrank-clause-state : goal.returns-in-Shrank-clause-state
returns-in-Shrank-clause-state g c a there =
    let s = agent_view c.self.inside in
    let sound = c.self.invariant.sound in
    let i = c.args.adaptor in
    let at = ap (λ (s : State). slice_get s.adaptors i) c.self.view_is ∙ there in
    let st = stepped_at c.self.inside.who s i a c.self.inside.adaptors c.step.new.self
    (Ok c.in_ok-step.step) (Ok (is_short c.in-Shrank.had c.in-Shrank.is')) c.self.invariant.role
    refl refl
    (ap Ok c.in-Shrank.is) (c.in_ok-step.ensures.state a at) (c.in_ok-step.ensures.named a at)
    c.in_ok-step.ensures.placed in
    let xs = c.step.new.self.items in
    let b = st.b in
    let m = st.was in
    let room = sym c.if-is_held.ensures in
    rw (← c.self.view_is) (made_state s sound i a b at xs st.set
    (is_short c.in-Shrank.had c.in-Shrank.is')
    m.step s.delivery refl room)

pub returns-in-Shrank-clause-told : goal.returns-in-Shrank-clause-told
returns-in-Shrank-clause-told g c stamped =
    let s = agent_view c.self.inside in
    let sound = c.self.invariant.sound in
    let i = c.args.adaptor in
    let a = c.requires.read_on.0 in
    let at = ap (λ (s : State). slice_get s.adaptors i) c.self.view_is ∙ c.requires.read_on.1 in
    let st = stepped_at c.self.inside.who s i a c.self.inside.adaptors c.step.new.self
    (Ok c.in_ok-step.step) (Ok (is_short c.in-Shrank.had c.in-Shrank.is')) c.self.invariant.role
    refl refl
    (ap Ok c.in-Shrank.is) (c.in_ok-step.ensures.state a at) (c.in_ok-step.ensures.named a at)
    c.in_ok-step.ensures.placed in
    let xs = c.step.new.self.items in
    let b = st.b in
    let m = st.was in
    let ready = ap (λ (s : State). s.ready) c.self.view_is ∙ c.requires.ready in
    rw (← c.self.view_is)
    (short_on s sound i a b at xs st.set c.in-Shrank.had c.in-Shrank.is' m.step stamped ready
    m.named
    m.placed)

pub invariant_of-self-in-Shrank : goal.invariant_of-self-in-Shrank
invariant_of-self-in-Shrank g c =
    let s = agent_view c.self.inside in
    let sound = c.self.invariant.sound in
    let i = c.args.adaptor in
    let a = c.requires.read_on.0 in
    let at = ap (λ (s : State). slice_get s.adaptors i) c.self.view_is ∙ c.requires.read_on.1 in
    let st = stepped_at c.self.inside.who s i a c.self.inside.adaptors c.step.new.self
    (Ok c.in_ok-step.step) (Ok (is_short c.in-Shrank.had c.in-Shrank.is')) c.self.invariant.role
    refl refl
    (ap Ok c.in-Shrank.is) (c.in_ok-step.ensures.state a at) (c.in_ok-step.ensures.named a at)
    c.in_ok-step.ensures.placed in
    let xs = c.step.new.self.items in
    let b = st.b in
    let m = st.was in
    record {
      role = c.self.invariant.role;
      sound = made_sound s sound i a b at xs st.set (is_short c.in-Shrank.had c.in-Shrank.is')
          m.step tt
          c.requires.read_on.2 m.placed s.delivery refl c.used-sound.ensures.table
          c.used-sound.ensures.sound;
    }

pub returns-then-is_held-clause-undamaged : goal.returns-then-is_held-clause-undamaged
returns-then-is_held-clause-undamaged g c =
    tt

pub returns-then-is_held-clause-last : goal.returns-then-is_held-clause-last
returns-then-is_held-clause-last g c =
    adds_none (g.S.Site.told c.args.site.now)
    (FailsLast {T = Stepped} (Ok (step_held c.used-used.result))) (λ h. tt)

pub returns-then-is_held-clause-cause : goal.returns-then-is_held-clause-cause
returns-then-is_held-clause-cause g c =
    omega arith

pub returns-in_err-step-clause-undamaged : goal.returns-in_err-step-clause-undamaged
returns-in_err-step-clause-undamaged g c =
    let p = err_from_is_err_and c.from_residual.result c.from_residual.ensures.1 in
    rw (p.1, p.2) (undamaged_by Stepped c.in_err-step.field-0.0)

pub returns-in_err-step-clause-last : goal.returns-in_err-step-clause-last
returns-in_err-step-clause-last g c =
    let p = err_from_is_err_and c.from_residual.result c.from_residual.ensures.1 in
    rw (p.1, p.2) (last_by Step Stepped c.in_err-step.field-0.0 c.in_err-step.ensures.last)

pub returns-in_err-step-clause-cause : goal.returns-in_err-step-clause-cause
returns-in_err-step-clause-cause g c =
    let p = err_from_is_err_and c.from_residual.result c.from_residual.ensures.1 in
    rw (p.1, p.2) (cause_by Step Stepped c.in_err-step.field-0.0 _ _ c.in_err-step.ensures.cause)

pub returns-then-is_err-clause-undamaged : goal.returns-then-is_err-clause-undamaged
returns-then-is_err-clause-undamaged g c =
    tt

pub returns-then-is_err-clause-last : goal.returns-then-is_err-clause-last
returns-then-is_err-clause-last g c =
    last_unmade Stepped c.in_ok-step.ensures.last

pub returns-then-is_err-clause-cause : goal.returns-then-is_err-clause-cause
returns-then-is_err-clause-cause g c =
    let same = c.in_ok-step.ensures.cause in omega (arith, same)

pub returns-else-is_err-clause-undamaged : goal.returns-else-is_err-clause-undamaged
returns-else-is_err-clause-undamaged g c =
    tt

pub returns-else-is_err-clause-last : goal.returns-else-is_err-clause-last
returns-else-is_err-clause-last g c =
    last_ok (step_read (length c.as_slice.result.now)) c.in_ok-step.ensures.last

pub returns-else-is_err-clause-cause : goal.returns-else-is_err-clause-cause
returns-else-is_err-clause-cause g c =
    let same = c.in_ok-step.ensures.cause in omega (arith, same)

pub returns-in-AtEnd-clause-undamaged : goal.returns-in-AtEnd-clause-undamaged
returns-in-AtEnd-clause-undamaged g c =
    tt

pub returns-in-AtEnd-clause-last : goal.returns-in-AtEnd-clause-last
returns-in-AtEnd-clause-last g c =
    last_ok step_at_end c.in_ok-step.ensures.last

pub returns-in-AtEnd-clause-cause : goal.returns-in-AtEnd-clause-cause
returns-in-AtEnd-clause-cause g c =
    let same = c.in_ok-step.ensures.cause in omega (arith, same)

pub returns-in-Shrank-clause-undamaged : goal.returns-in-Shrank-clause-undamaged
returns-in-Shrank-clause-undamaged g c =
    tt

pub returns-in-Shrank-clause-last : goal.returns-in-Shrank-clause-last
returns-in-Shrank-clause-last g c =
    last_ok (step_shrank c.in-Shrank.had c.in-Shrank.is') c.in_ok-step.ensures.last

pub returns-in-Shrank-clause-cause : goal.returns-in-Shrank-clause-cause
returns-in-Shrank-clause-cause g c =
    let same = c.in_ok-step.ensures.cause in omega (arith, same)
