-- What the parts of a tick lead to.
use Rattle.std.proofs.Common.{◌≡◌, ℕ, Bool, false, ◌&&◌, List, Option, Some, None, option_map, Result, Ok, Err, ap, sym, subst, ◌∙◌, refl, is_some}
use Rattle.std.specs.Prelude.{IfErr, OnOk}
use Rattle.chk_bytes.specs.Stems.{Stem, same_stem}
use Rattle.chk_site.specs.Files.{Files}
use Rattle.chk_site.specs.History.{History, files_after}
use Rattle.chk_site.specs.Site.{Adds}
use Rattle.chk_site.specs.Runs.{Leads}
use Rattle.chk_site.proofs.Leads.{leads_then, leads_as, leads_none}
use Rattle.chk_world.specs.Collectors.{View, view}
use Rattle.chk_world.specs.Places.{As}
use Rattle.chk_sink.specs.declared.fault.SinkFault.{SinkFault}
use Rattle.chk_sink.specs.declared.fault.SinkFault.TheVariants.{Outside, Damaged, Spent, NoMemory}
use Rattle.chk_sink.specs.declared.current.Current.{Current}
use Rattle.chk_sink.specs.declared.sinks.Sinks.TheInside.{Inside}
use Rattle.chk_sink.specs.SinkFields.{sinks_view, writing_of}
use Rattle.chk_sink.specs.States.{State, Writing, process, last_stem, with_current, all_marked, committed_state, settled_state}
use Rattle.chk_sink.specs.Held.{IsAsKept, Holds, Matches}
use Rattle.chk_sink.specs.Closes.{IsCommitted, WasClosed, Committed, Closed, CloseHolds, Settled, TickHolds, Ticked}
use Rattle.chk_sink.specs.Faults.{IsOutside}
use Rattle.chk_sink.specs.Ticking.{seen_writing, seen_state}
use Rattle.chk_sink.proofs.Holding.{told_by, leads_by}

-- no sink is written to
none_mapped : (o : Option Current) → is_some o ≡ false → option_map writing_of o ≡ None
none_mapped None e = refl
none_mapped (Some c) e = absurd (cc)

pub none_seen : (i : Inside) (s : State) → sinks_view i ≡ s → is_some i.current ≡ false → s.current ≡ None
none_seen i s e none = subst (λ (s : State). s.current ≡ None) e (none_mapped i.current none)

pub is_seen : (i : Inside) (s : State) (b : Bool) → sinks_view i ≡ s → is_some i.current ≡ b → is_some s.current ≡ b
is_seen i s b e is = subst (λ (s : State). is_some s.current ≡ b) e (mapped i.current ∙ is)
  where
    mapped : (o : Option Current) → is_some (option_map writing_of o) ≡ is_some o
    mapped None = refl
    mapped (Some c) = refl

-- where no sink is written to, nothing is called
pub none_ticks : (stamped : List (List ℕ)) (s : State) (now : Option History) → s.current ≡ None
    → Adds now now (Leads (As stamped (process s)) (Matches stamped s) (Ticked stamped s s (Ok tt)))
none_ticks stamped s now none =
    leads_none now
    (λ h x. told_by h (λ holds. record {
      holds = holds;
      committed = subst (IsCommitted (last_stem s) (files_after h)) (sym none) tt;
      closed = λ e. subst (λ o. WasClosed (last_stem s) o h) (sym none) tt;
      sound = λ name at e. cc;
    }) x)

-- ---- the sink was committed, and is closed

was_closed : (x : Stem) (o : Option Writing) (h : History) → WasClosed x (option_map all_marked o) h → WasClosed x o h
was_closed x None h w = tt
was_closed x (Some o) h w = w

outside_sound : (fault : SinkFault) → IsOutside fault → (name : List ℕ) (at : ℕ) → Path (Result (Unit {0}) SinkFault) (Err fault) (Err (Damaged name at)) → ⊥
outside_sound (Outside call) only name at e = cc
outside_sound (Damaged n a) only name at e = only
outside_sound (Spent born) only name at e = only
outside_sound NoMemory only name at e = cc

-- the commit was refused
pub unmarked_ticks : (stamped : List (List ℕ)) (s st : State) (fault : SinkFault) {old new : Option History} → IsOutside fault
    → Adds old new (Leads (As stamped (process s)) (Matches stamped s) (Committed stamped st (Err fault)))
    → Adds old new (Leads (As stamped (process s)) (Matches stamped s) (Ticked stamped s st (Err fault)))
unmarked_ticks stamped s st fault only commit =
    leads_by (λ h x. record { holds = x.holds; committed = tt; closed = tt; sound = outside_sound fault only }) commit

closed_holds : (s st : State) (result : Result (Unit {0}) SinkFault) (h : History) → IfErr result IsOutside → OnOk result (st ≡ with_current (committed_state s) None)
    → CloseHolds (committed_state s) st result h → TickHolds s st result h
closed_holds s st (Ok u) h only ok x = record {
  holds = x.holds;
  committed = subst (λ o. IsCommitted (last_stem st) (files_after h) o) (sym (ap (λ (t : State). t.current) ok)) tt;
  closed = λ e. was_closed (last_stem s) s.current h x.closed;
  sound = λ name at e. cc;
}
closed_holds s st (Err fault) h only ok x = record {
  holds = x.holds;
  committed = tt;
  closed = tt;
  sound = outside_sound fault only;
}

pub close_ticks : (stamped : List (List ℕ)) (s mid st : State) (result : Result (Unit {0}) SinkFault) {old more new : Option History} → mid ≡ committed_state s
    → IfErr result IsOutside → OnOk result (st ≡ with_current mid None)
    → Adds old more (Leads (As stamped (process s)) (Matches stamped s) (Committed stamped mid (Ok tt)))
    → Adds more new (Leads (As stamped (process mid)) (Matches stamped mid) (Closed stamped mid st result))
    → Adds old new (Leads (As stamped (process s)) (Matches stamped s) (Ticked stamped s st result))
close_ticks stamped s mid st result mid_is only ok commit close =
    let done = rw mid_is at ok in
    leads_then (leads_by (λ h x. x.holds) (rw mid_is at commit)) (leads_by (λ h x. closed_holds s st result h only done x) (rw mid_is at close))

-- ---- the sink was committed, and is seen

kept_seen : (now : ℕ) (x : Stem) (v : View) (files : Files) (o : Option Writing) → IsAsKept x v files o → IsAsKept x v files (option_map (seen_writing now) o)
kept_seen now x v files None kept = tt
kept_seen now x v files (Some o) kept = record { current = kept.current; size = kept.size; marked = kept.marked }

some_seen : (now : ℕ) (o : Option Writing) → is_some (option_map (seen_writing now) o) ≡ is_some o
some_seen now None = refl
some_seen now (Some o) = refl

seen_holds : (now : ℕ) (s : State) (h : History) → Holds s h → Holds (seen_state now s) h
seen_holds now s h x = record {
  born = x.born;
  made = x.made;
  writing = kept_seen now (last_stem s) (view (process s) h) (files_after h) s.current x.writing;
  tidy = λ none y other. x.tidy none y (record {
    own = other.own;
    stem = other.stem;
    other = subst (λ b. (b && same_stem y (last_stem s)) ≡ false) (some_seen now s.current) other.other;
  });
}

committed_seen : (now : ℕ) (x : Stem) (files : Files) (o : Option Writing) → IsCommitted x files o → IsCommitted x files (option_map (seen_writing now) o)
committed_seen now x files None committed = tt
committed_seen now x files (Some o) committed = committed

none_before : (now : ℕ) (x : Stem) (o : Option Writing) (h : History) → option_map (seen_writing now) (option_map all_marked o) ≡ None → WasClosed x o h
none_before now x None h e = tt
none_before now x (Some o) h e = absurd (cc)

pub see_ticks : (stamped : List (List ℕ)) (now : ℕ) (s mid st : State) {old new : Option History} → mid ≡ committed_state s → st ≡ seen_state now mid
    → Adds old new (Leads (As stamped (process s)) (Matches stamped s) (Committed stamped mid (Ok tt)))
    → Adds old new (Leads (As stamped (process s)) (Matches stamped s) (Ticked stamped s st (Ok tt)))
see_ticks stamped now s mid st mid_is st_is commit =
    rw (st_is, mid_is)
    (leads_by (λ h x. record {
      holds = seen_holds now (committed_state s) h x.holds;
      committed = committed_seen now (last_stem s) (files_after h) (committed_state s).current x.committed;
      closed = λ e. none_before now (last_stem s) s.current h e;
      sound = λ name at e. cc;
    })
    (rw mid_is at commit))

-- ---- sinks are settled before

unsettled_holds : (stamped : List (List ℕ)) (s st : State) (fault : SinkFault) (h : History) → st ≡ s → Settled stamped st (Err fault) h
    → Ticked stamped s st (Err fault) h
unsettled_holds stamped s st (Damaged name at) h e x = told_by h (λ never. absurd never) x
unsettled_holds stamped s st fault h e x =
    told_by h (λ holds. record { holds = holds; committed = tt; closed = tt; sound = λ name at e. cc }) x

pub unsettled_ticks : (stamped : List (List ℕ)) (s st : State) (fault : SinkFault) {old new : Option History} → st ≡ s
    → Adds old new (Leads (As stamped (process s)) (Matches stamped s) (Settled stamped st (Err fault)))
    → Adds old new (Leads (As stamped (process s)) (Matches stamped s) (Ticked stamped s st (Err fault)))
unsettled_ticks stamped s st fault e settle = leads_as (λ h x. x) (λ h x. unsettled_holds stamped s st fault h e x) settle

pub settle_ticks : (stamped : List (List ℕ)) (s mid st : State) (result : Result (Unit {0}) SinkFault) {old more new : Option History} → mid ≡ settled_state s
    → Adds old more (Leads (As stamped (process s)) (Matches stamped s) (Matches stamped mid))
    → Adds more new (Leads (As stamped (process mid)) (Matches stamped mid) (Ticked stamped mid st result))
    → Adds old new (Leads (As stamped (process s)) (Matches stamped s) (Ticked stamped s st result))
settle_ticks stamped s mid st result mid_is settle tick =
    leads_then (rw mid_is at settle)
    (leads_by (λ h x. record { holds = x.holds; committed = x.committed; closed = x.closed; sound = x.sound }) (rw mid_is at tick))
