-- What the end of a collector's work leads to.
use Rattle.chk_sink.specs.Works.{OfClose, OfTick, commit_calls, close_calls}
use Rattle.chk_sink.specs.Faults.{IsOutside}
use Rattle.chk_world.proofs.Working.{works_as}
use Rattle.chk_world.specs.Works.{Works, IsOneOf}
use Rattle.chk_site.specs.declared.acts.OutsideFault.{OutsideFault}
use Rattle.chk_site.specs.Acts.{Deed}
use Rattle.std.proofs.Common.{◌≡◌, ◌⊎◌, inl, inr, ℕ, Bool, true, false, List, Option, Some, None, Result, Ok, Err, refl, sym, subst, if◌then◌else◌, ap, ◌∙◌}
use Rattle.std.specs.Prelude.{OnOk, IfErr, OnErr}
use Rattle.chk_bytes.specs.Stems.{Stem}
use Rattle.chk_site.specs.History.{History}
use Rattle.chk_site.specs.Site.{Adds}
use Rattle.chk_site.specs.Runs.{Leads}
use Rattle.chk_site.proofs.Leads.{leads_then, leads_as}
use Rattle.chk_world.specs.Places.{As}
use Rattle.chk_sink.specs.declared.fault.SinkFault.{SinkFault}
use Rattle.chk_sink.specs.States.{State, Writing, process, last_stem, with_current, ticked_state, ticked, is_closed_at, seen_first, let_go}
use Rattle.chk_sink.specs.Held.{Holds, Matches}
use Rattle.chk_sink.specs.Ticking.{is_due_in}
use Rattle.chk_sink.specs.Closes.{IsMarked, IsIdleAt, WasClosed, Ticked, Closed}
use Rattle.chk_collector.specs.Finishing.{Finished, LeavesAfterFinish, IsAtEnd}
use Rattle.chk_sink.proofs.Holding.{told_by}

-- without a sink that is written to, the state is as it was
same_state : (s : State) → s.current ≡ None → s ≡ with_current s None
same_state s none = λ i. record {
  collector = s.collector;
  born = s.born;
  number = s.number;
  rotate = s.rotate;
  current = none i;
  abandoned = s.abandoned;
}

-- what was closed once the tick left it, was closed
abbrev ClosedLate : ℕ → Option Writing → Type 0
ClosedLate rotate current = (x : Stem) (h : History) → WasClosed x (ticked rotate 0 current) h → WasClosed x current h

-- the tick closed it, or the close does
closed_by : (rotate : ℕ) (current : Option Writing) → (ticked rotate 0 current ≡ None) ⊎ ClosedLate rotate current
closed_by rotate None = inl refl
closed_by rotate (Some o) = go (is_closed_at rotate 0 o)
  where
    ticked_writing : Writing
    ticked_writing = record { size = o.size; sync_end = o.sync_end; marked = o.size; seen = Some (seen_first o.seen 0) }

    go : (b : Bool) → ((if b then None else Some ticked_writing) ≡ None)
        ⊎ ((x : Stem) (h : History) → WasClosed x (if b then None else Some ticked_writing) h → WasClosed x (Some o) h)
    go true = inl refl
    go false = inr (λ x h w. w)

module _ (stamped : List (List ℕ)) (s : State) where
  abbrev After : State
  After = ticked_state 0 s

  ticked_holds : (h : History) → Ticked stamped s After (Ok tt) h → Matches stamped After h
  ticked_holds h x = told_by h (λ t. t.holds) x

  -- the tick closed it
  closed_early : After.current ≡ None → (h : History) → Ticked stamped s After (Ok tt) h → Finished stamped s (with_current After None) (Ok tt) h
  closed_early none h x =
      told_by h (λ t. record {
        holds = subst (λ (a : State). Holds a h) (same_state After none) t.holds;
        closed = t.closed none;
        sound = λ name at e. cc;
      }) x

  -- the close refused
  refused : (new : State) (fault : SinkFault) → IsOutside fault → (h : History) → Closed stamped After new (Err fault) h → Finished stamped s new (Err fault) h
  refused new fault only h x =
      told_by h (λ c. record { holds = c.holds; closed = tt; sound = λ name at e. subst (λ r. IfErr r IsOutside) e only }) x

  -- the close closed it
  closed_late : (new : State) → ClosedLate s.rotate s.current → (h : History) → Closed stamped After new (Ok tt) h → Finished stamped s new (Ok tt) h
  closed_late new late h x =
      told_by h (λ c. record { holds = c.holds; closed = late (last_stem s) h c.closed; sound = λ name at e. cc }) x

  pub finish_told : (new : State) (result : Result (Unit {0}) SinkFault) {old mid end : Option History}
      → OnOk result (new ≡ with_current After None) → IfErr result IsOutside
      → Adds old mid (Leads (As stamped (process s)) (Matches stamped s) (Ticked stamped s After (Ok tt)))
      → (After.current ≡ None → end ≡ mid)
      → Adds mid end (Leads (As stamped (process s)) (Matches stamped After) (Closed stamped After new result))
      → Adds old end (Leads (As stamped (process s)) (Matches stamped s) (Finished stamped s new result))
  finish_told new (Err fault) is only tick idle close =
      leads_as (λ h x. x) (refused new fault only) (leads_then (leads_as (λ h x. x) ticked_holds tick) close)
  finish_told new (Ok value) {old = old} {end = end} is only tick idle close = by (closed_by s.rotate s.current)
    where
      by : (After.current ≡ None) ⊎ ClosedLate s.rotate s.current
          → Adds old end (Leads (As stamped (process s)) (Matches stamped s) (Finished stamped s new (Ok tt)))
      by (inl none) = rw (is, idle none) (leads_as (λ h x. x) (closed_early none) tick)
      by (inr late) = leads_as (λ h x. x) (closed_late new late) (leads_then (leads_as (λ h x. x) ticked_holds tick) close)

  -- the same of the state that the tick left
  pub finish_as : (after new : State) (result : Result (Unit {0}) SinkFault) {old mid end : Option History}
      → after ≡ After → OnOk result (new ≡ with_current after None) → IfErr result IsOutside
      → Adds old mid (Leads (As stamped (process s)) (Matches stamped s) (Ticked stamped s after (Ok tt)))
      → (after.current ≡ None → end ≡ mid)
      → Adds mid end (Leads (As stamped (process after)) (Matches stamped after) (Closed stamped after new result))
      → Adds old end (Leads (As stamped (process s)) (Matches stamped s) (Finished stamped s new result))
  finish_as after new result same ok only tick idle close =
      let leaves = rw same at ok in
      let rests = rw same at idle in
      finish_told new result leaves only (rw same at tick) rests (rw same at close)

-- ---- the calls, and what a refusal leaves

-- the close refused
pub finish_leaves : (s mid st : State) (result : Result (Unit {0}) SinkFault) (before after : Option History) → mid ≡ ticked_state 0 s
    → IfErr result IsOutside → OnErr result (st ≡ let_go mid) → IfErr result (λ fault. LeavesAfterFinish s st fault before after)
finish_leaves s mid st (Ok value) before after e only gone = tt
finish_leaves s mid st (Err fault) before after e only gone = inr (only, gone ∙ ap let_go e)

-- once a tick was done, a close calls for the same
ticked_closes : (s : State) (call : Deed) → OfClose (ticked_state 0 s) call → OfClose s call
ticked_closes s call = go s.current
  where
    by : (o : Writing) (b : Bool)
        → IsOneOf (commit_calls (ticked_state 0 s) (if b then None else Some (record { size = o.size; sync_end = o.sync_end; marked = o.size; seen = Some (seen_first o.seen 0) }))) call
        ⊎ IsOneOf (close_calls (ticked_state 0 s) (if b then None else Some (record { size = o.size; sync_end = o.sync_end; marked = o.size; seen = Some (seen_first o.seen 0) }))) call
        → IsOneOf (commit_calls s (Some o)) call ⊎ IsOneOf (close_calls s (Some o)) call
    by o true (inl one) = absurd one
    by o true (inr one) = absurd one
    by o false one = one

    go : (k : Option Writing)
        → IsOneOf (commit_calls (ticked_state 0 s) (ticked s.rotate 0 k)) call ⊎ IsOneOf (close_calls (ticked_state 0 s) (ticked s.rotate 0 k)) call
        → IsOneOf (commit_calls s k) call ⊎ IsOneOf (close_calls s k) call
    go None one = one
    go (Some o) one = by o (is_closed_at s.rotate 0 o) one

pub finish_works : (s mid : State) {f : Option OutsideFault} {old new : Option History} → mid ≡ ticked_state 0 s
    → Works (process mid) (OfClose mid) f old new → Works (process s) (OfTick s) f old new
finish_works s mid {f = f} {old = old} {new = new} is told =
    works_as (OfTick s) (λ call one. inr (ticked_closes s call one)) (subst (λ (m : State). Works (process m) (OfClose m) f old new) is told)

-- with nothing abandoned before, they are only those of a commit and a close
pub finish_closes : (s mid : State) {f : Option OutsideFault} {old new : Option History} → mid ≡ ticked_state 0 s
    → Works (process mid) (OfClose mid) f old new → Works (process s) (OfClose s) f old new
finish_closes s mid {f = f} {old = old} {new = new} is told =
    works_as (OfClose s) (ticked_closes s) (subst (λ (m : State). Works (process m) (OfClose m) f old new) is told)

-- ---- nothing is to be done

pub idle_tick : (s : State) → IsAtEnd s → IsIdleAt 0 s
idle_tick s end = record {
  settled = end.settled;
  marked = subst IsMarked (sym end.current) tt;
  early = subst (λ o. is_due_in s.rotate 0 o ≡ false) (sym end.current) refl;
}

pub none_ticked : (s mid : State) → IsAtEnd s → mid ≡ ticked_state 0 s → mid.current ≡ None
none_ticked s mid end is = ap (λ (t : State). t.current) is ∙ ap (λ o. ticked s.rotate 0 o) end.current
