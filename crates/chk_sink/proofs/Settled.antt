-- The whole settling, over the sinks' fields.
use Rattle.std.proofs.Common.{◌≡◌, ℕ, true, List, Option, Some, None, option_map, Result, Ok, Err, sym, subst, ◌∙◌, refl, is_some}
use Rattle.std.specs.Prelude.{IsTrue}
use Rattle.chk_bytes.specs.Stems.{Stem, is_stem}
use Rattle.chk_site.specs.History.{History}
use Rattle.chk_site.specs.Site.{Adds}
use Rattle.chk_site.specs.Runs.{Leads}
use Rattle.chk_site.proofs.Leads.{leads_as}
use Rattle.chk_world.specs.Places.{As}
use Rattle.chk_sink.specs.declared.fault.SinkFault.{SinkFault}
use Rattle.chk_sink.specs.declared.fault.SinkFault.TheVariants.{Damaged}
use Rattle.chk_sink.specs.declared.current.Current.{Current}
use Rattle.chk_sink.specs.declared.sinks.Sinks.TheInside.{Inside}
use Rattle.chk_sink.specs.States.{State, process, last_stem, settled_state}
use Rattle.chk_sink.specs.Held.{Holds, Matches}
use Rattle.chk_sink.specs.Closes.{Settled}
use Rattle.chk_sink.specs.SinkFields.{sinks_view, writing_of, IsSoundCurrent, IsSound}
use Rattle.chk_sink.specs.Settling.{IsSettling, Found, HoldsBut, none_left}
use Rattle.chk_sink.proofs.Fields.{seen_as}
use Rattle.chk_sink.proofs.Holding.{leads_by}

good_current : (x : Stem) (o : Option Current) → IsSoundCurrent x o → is_some (option_map writing_of o) ≡ true → IsTrue (is_stem x)
good_current x None h some = absurd (cc)
good_current x (Some k) h some = h.good

-- the fields of sinks that are settled
pub settling_as : (i : Inside) (s : State) → sinks_view i ≡ s → IsSound i → i.abandoned ≡ true → IsSettling s i.who
settling_as i s e sound left =
    let known = seen_as i s e sound in
    record {
      writer = known.who;
      named = known.named;
      abandoned = sym known.abandoned ∙ left;
      good = subst (λ (s : State). is_some s.current ≡ true → IsTrue (is_stem (last_stem s))) e
          (good_current (record { collector = i.who.name; born = i.born; number = i.number }) i.current sound.current);
    }

all_tidy : (s : State) (h : History) → HoldsBut s none_left h → Holds (settled_state s) h
all_tidy s h b = record {
  born = b.holds.born;
  made = b.holds.made;
  writing = b.holds.writing;
  tidy = λ e x o. b.others x (record { own = o.own; stem = o.stem; other = o.other }) refl;
}

module _ (stamped : List (List ℕ)) (s st : State) (result : Result (Unit {0}) SinkFault) where
  -- each other sink was settled
  pub settled_whole : (part : Result (Unit {0}) SinkFault) (value : Unit {0}) {old new : Option History} → part ≡ Ok value → result ≡ Ok value
      → st ≡ settled_state s
      → Adds old new (Leads (As stamped (process s)) (Matches stamped s) (Found stamped s (λ v. HoldsBut s none_left) part))
      → Adds old new (Leads (As stamped (process s)) (Matches stamped s) (Settled stamped st result))
  settled_whole part value e f st_is told =
      rw (st_is, f) (leads_by (all_tidy s) (rw e at told))

  -- it was refused
  pub settled_refused : (part : Result (Unit {0}) SinkFault) (fault : SinkFault) {old new : Option History} → part ≡ Err fault → result ≡ Err fault
      → st ≡ s → Adds old new (Leads (As stamped (process s)) (Matches stamped s) (Found stamped s (λ v. HoldsBut s none_left) part))
      → Adds old new (Leads (As stamped (process s)) (Matches stamped s) (Settled stamped st result))
  settled_refused part fault e f st_is told =
      rw (st_is, f) (leads_as (λ h x. x) (as_refused fault) (rw e at told))
    where
      as_refused : (fault : SinkFault) (h : History) → Found stamped s (λ (v : Unit {0}). HoldsBut s none_left) (Err fault) h → Settled stamped s (Err fault) h
      as_refused (Damaged name at) h x = x
      as_refused fault h x = x
