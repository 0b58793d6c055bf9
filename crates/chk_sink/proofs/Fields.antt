-- What is known of the sinks' fields, and what a refused put leaves.
use Rattle.std.proofs.Common.{◌≡◌, ℕ, List, Option, Some, option_map, Result, Ok, Err, ap, sym, subst, refl}
use Rattle.std.specs.Prelude.{IsTrue}
use Rattle.chk_bytes.specs.Stems.{Stem, is_collector}
use Rattle.chk_site.specs.declared.acts.CallFault.{CallFault}
use Rattle.chk_site.specs.declared.acts.CallFault.TheVariants.{Failed, NoMemory}
use Rattle.chk_site.specs.declared.acts.OutsideFault.{OutsideFault}
use Rattle.chk_site.specs.History.{History}
use Rattle.chk_site.specs.Site.{Adds, IsDone}
use Rattle.chk_site.specs.Runs.{Leads}
use Rattle.chk_site.proofs.Leads.{leads_none}
use Rattle.chk_chunk.specs.Keys.{Chunk}
use Rattle.chk_world.specs.Collectors.{Handling}
use Rattle.chk_world.specs.Places.{As}
use Rattle.chk_sink.specs.declared.fault.SinkFault.{SinkFault}
use Rattle.chk_sink.specs.declared.current.Current.{Current}
use Rattle.chk_sink.specs.declared.sinks.Sinks.TheInside.{Inside}
use Rattle.chk_sink.specs.States.{State, Writing, process, last_stem, grown_where_done, counted, one_more}
use Rattle.chk_sink.specs.Held.{Ready}
use Rattle.chk_sink.specs.Faults.{sink_result}
use Rattle.chk_sink.specs.Puts.{Wrote, IsPlaced}
use Rattle.chk_sink.specs.SinkFields.{sinks_view, writing_of, IsOfStem, IsSoundCurrent, IsSound}
use Rattle.chk_sink.proofs.Putting.{the_collector, put_failed}

-- the fields of a value with this state
pub record IsSeenAs (s : State) (i : Inside) : Type 0 where
  pub named : IsTrue (is_collector s.collector)
  pub who : i.who ≡ process s
  pub abandoned : i.abandoned ≡ s.abandoned

pub seen_as : (i : Inside) (s : State) → sinks_view i ≡ s → IsSound i → IsSeenAs s i
seen_as i s e sound =
    subst (λ s. IsSeenAs s i) e
    (record { named = sound.name; who = the_collector i.who i.who.name sound.role refl; abandoned = refl })

-- and with this sink that is written to
pub record IsOpenAs (s : State) (c : Current) : Type 0 where
  pub some : s.current ≡ Some (writing_of c)
  pub of_stem : IsOfStem (last_stem s) c

pub open_as : (i : Inside) (s : State) (c : Current) → sinks_view i ≡ s → IsSound i → i.current ≡ Some c → IsOpenAs s c
open_as i s c e sound is =
    subst (λ s. IsOpenAs s c) e
    (record {
      some = ap (option_map writing_of) is;
      of_stem = subst (IsSoundCurrent (record { collector = i.who.name; born = i.born; number = i.number })) is sound.current;
    })

-- a put that called nothing
pub put_refused : (stamped : List (List ℕ)) (s : State) (messages : List Handling) (c : Chunk) (result : Result (Stem × ℕ) SinkFault)
    (fault : SinkFault) → result ≡ Err fault → (now : Option History)
    → Adds now now (Leads (As stamped (process s)) (Ready stamped s messages) (Wrote stamped s messages c result))
put_refused stamped s messages c result fault e now =
    subst (λ r. Adds now now (Leads (As stamped (process s)) (Ready stamped s messages) (Wrote stamped s messages c r))) (sym e)
    (leads_none now (put_failed stamped s messages c fault))

-- where the call was done, the sink that is written to ends where it is said
pub placed_kept : (s st : State) (next : Writing) (made : Result (Unit {0}) OutsideFault) (u : Unit {0}) → sink_result made ≡ Ok u
    → st ≡ grown_where_done s next made → (x : Stem) (n : ℕ) → x ≡ last_stem s → next.size ≡ n → IsPlaced st (x, n)
placed_kept s st next (Ok v) u e st_is x n x_is n_is = subst (λ t. IsPlaced t (x, n)) (sym st_is) (x_is, n_is)
placed_kept s st next (Err f) u e st_is x n x_is n_is = absurd (cc)

pub counted_collector : (s : State) (given : Result (Unit {0}) CallFault) → (counted s given).collector ≡ s.collector
counted_collector s (Ok v) = refl
counted_collector s (Err NoMemory) = refl
counted_collector s (Err fault) = refl

pub counted_done : (s : State) (given : Result (Unit {0}) CallFault) → IsDone given → counted s given ≡ one_more s
counted_done s (Ok v) is = refl
counted_done s (Err Failed) is = absurd is
counted_done s (Err NoMemory) is = absurd is
counted_done s (Err fault) is = refl
