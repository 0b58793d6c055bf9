-- A commit and a close, over the sinks' fields.
use Rattle.std.proofs.Common.{◌≡◌, ℕ, ◌≤◌, List, Option, Some, None, option_map, Result, Ok, Err, ap, sym, subst, ◌∙◌, refl}
use Rattle.std.specs.Prelude.{IsTrue}
use Rattle.std.proofs.lemmas.Option.{same_Some}
use Rattle.chk_bytes.specs.Stems.{Stem, is_stem, is_collector}
use Rattle.chk_site.specs.declared.acts.Who.{Who}
use Rattle.chk_site.specs.declared.acts.OutsideFault.{OutsideFault}
use Rattle.chk_site.specs.History.{History, files_after}
use Rattle.chk_site.specs.Site.{Adds}
use Rattle.chk_site.specs.Runs.{Leads, MadeInTurn}
use Rattle.chk_site.proofs.Leads.{leads_none, leads_as, leads_then}
use Rattle.chk_world.specs.Places.{As}
use Rattle.chk_sink.specs.declared.fault.SinkFault.{SinkFault}
use Rattle.chk_sink.specs.States.{State, Writing, process, last_stem, all_marked, kept_where_done, committed_state}
use Rattle.chk_sink.specs.Held.{Matches}
use Rattle.chk_sink.specs.Faults.{sink_result}
use Rattle.chk_sink.specs.Closes.{IsCommitted, Committed, OnceDone, WasClosed, Closed}
use Rattle.chk_sink.specs.Closing.{publishing, closing, left_where_done}
use Rattle.chk_sink.proofs.Holding.{told_by, leads_by, writing_kept}
use Rattle.chk_sink.proofs.Committing.{marked_commit, published}
use Rattle.chk_sink.proofs.DoneSinks.{closed_so}

module _ (stamped : List (List ℕ)) (s : State) (o : Writing) (some : s.current ≡ Some o) (good : IsTrue (is_stem (last_stem s))) (begun : 96 ≤ o.size) where
  -- the sink hasn't grown
  pub commit_same : (now : Option History) → o.size ≡ o.marked
      → Adds now now (Leads (As stamped (process s)) (Matches stamped s) (Committed stamped s (Ok tt)))
  commit_same now e =
      leads_none now
      (λ h x. told_by h (λ holds. record {
        holds = holds;
        committed = subst (IsCommitted (last_stem s) (files_after h)) (sym some)
            (marked_commit stamped h (last_stem s) o.size x.legal good begun ((writing_kept s o some h holds).marked ∙ sym e));
      }) x)

  -- it was synced, and its mark replaced
  pub commit_made : IsTrue (is_collector s.collector) → (who : Who) → who ≡ process s → (x : Stem) → x ≡ last_stem s
      → {made : Result (Unit {0}) OutsideFault} {old new : Option History} → MadeInTurn (publishing who x o.size) made old new
      → (st : State) (next : Writing) → st ≡ kept_where_done s next made → next ≡ all_marked o
      → (result : Result (Unit {0}) SinkFault) → result ≡ sink_result made
      → Adds old new (Leads (As stamped (process s)) (Matches stamped s) (Committed stamped st result))
  commit_made named who who_is x x_is {made = made} {old = old} {new = new} script st next st_is next_is result result_is =
      rw (st_is, next_is, result_is)
      (published stamped s o named some good begun
      (subst (λ qs. MadeInTurn qs made old new) (λ i. publishing (who_is i) (x_is i) o.size) script))

-- ---- a close

-- its commit was refused
pub close_refused : (stamped : List (List ℕ)) (s st : State) (made result : Result (Unit {0}) SinkFault) (fault told_as : SinkFault)
    {old new : Option History} → made ≡ Err fault → result ≡ Err told_as
    → Adds old new (Leads (As stamped (process s)) (Matches stamped s) (Committed stamped st made))
    → Adds old new (Leads (As stamped (process s)) (Matches stamped s) (Closed stamped s st result))
close_refused stamped s st made result fault told_as made_is result_is told =
    rw result_is (leads_by (λ h c. record { holds = c.holds; closed = tt }) told)

-- what was committed has a mark that says all of it
said_all : (before : Option Writing) (o : Writing) → option_map all_marked before ≡ Some o → o.marked ≡ o.size
said_all None o e = absurd (cc)
said_all (Some was) o e = subst (λ (p : Writing). p.marked ≡ p.size) (same_Some (all_marked was) o e) refl

closed_before : (x : Stem) (before : Option Writing) (result : Result (Unit {0}) SinkFault) (h : History)
    → OnceDone result (WasClosed x (option_map all_marked before) h) → OnceDone result (WasClosed x before h)
closed_before x before (Err fault) h was = tt
closed_before x None (Ok value) h was = tt
closed_before x (Some o) (Ok value) h was = was

module _ (stamped : List (List ℕ)) (s mid_state : State) (o : Writing) (named : IsTrue (is_collector mid_state.collector))
    (some : mid_state.current ≡ Some o) (good : IsTrue (is_stem (last_stem mid_state))) (begun : 96 ≤ o.size)
    (is : mid_state ≡ committed_state s) (who : Who) (who_is : who ≡ process mid_state) (x : Stem) (x_is : x ≡ last_stem mid_state) where
  closed_as : (st : State) (result : Result (Unit {0}) SinkFault) (h : History) → Closed stamped mid_state st result h → Closed stamped s st result h
  closed_as st result h =
      subst (λ (m : State). Closed stamped m st result h → Closed stamped s st result h) (sym is)
      (told_by h (λ c. record { holds = c.holds; closed = closed_before (last_stem s) s.current result h c.closed }))

  -- and then the sink became a done one, or was abandoned
  pub close_made : {made : Result (Unit {0}) OutsideFault} {old mid new : Option History} (first : Result (Unit {0}) SinkFault) (value : Unit {0})
      → first ≡ Ok value
      → Adds old mid (Leads (As stamped (process s)) (Matches stamped s) (Committed stamped mid_state first))
      → MadeInTurn (closing who x) made mid new → (st : State) → st ≡ left_where_done mid_state made
      → (result : Result (Unit {0}) SinkFault) → result ≡ sink_result made
      → Adds old new (Leads (As stamped (process s)) (Matches stamped s) (Closed stamped s st result))
  close_made {made = made} {old = old} {mid = mid} {new = new} first value first_is told script st st_is result result_is =
      leads_then told
      (leads_as (λ h c. told_by h (λ x. x.holds) c) (closed_as st result)
      (subst (λ (k : Who). Adds mid new (Leads (As stamped k) (Matches stamped mid_state) (Closed stamped mid_state st result)))
      (ap process is)
      (rw (st_is, result_is)
      (closed_so stamped mid_state o named some good begun (said_all s.current o (sym (ap (λ (m : State). m.current) is) ∙ some))
      (subst (λ qs. MadeInTurn qs made mid new) (λ i. closing (who_is i) (x_is i)) script)))))
