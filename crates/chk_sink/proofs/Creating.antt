-- The creation of the next sink.
use Rattle.std.proofs.Common.{◌≡◌, inr, ℕ, ◌+◌, Bool, true, false, ◌&&◌, List, [], ◌∷◌, Option, Some, None, Result, Ok, Err, ap, sym, subst, ◌∙◌, refl, arith, is_some, true≢false}
use Rattle.std.specs.Prelude.{IsTrue, length}
use Rattle.std.proofs.lemmas.Bool.{and_from}
use Rattle.chk_bytes.specs.Stems.{Stem, is_stem, is_collector, same_stem}
use Rattle.chk_site.specs.declared.acts.Call.TheVariants.{Create}
use Rattle.chk_site.specs.declared.acts.CallFault.{CallFault}
use Rattle.chk_site.specs.declared.acts.CallFault.TheVariants.{Failed, NoMemory}
use Rattle.chk_site.specs.declared.acts.OutsideFault.{OutsideFault}
use Rattle.chk_site.specs.declared.acts.OutsideFault.TheVariants.{Outside, NoMemory as no_memory}
use Rattle.chk_site.specs.declared.acts.ActAnswer.TheVariants.{Refused}
use Rattle.chk_site.specs.Files.{File, made}
use Rattle.chk_site.specs.Acts.{Creates, is_done}
use Rattle.chk_site.specs.History.{History, files_after}
use Rattle.chk_site.specs.Site.{Adds, Asked, asked, own_step, plain, Ends, WasDone}
use Rattle.chk_site.specs.Runs.{Leads}
use Rattle.chk_site.proofs.Leads.{leads_as}
use Rattle.chk_world.specs.Names.{SinkFile, MarkFile, read, spell, file}
use Rattle.chk_world.specs.Committed.{HasFile, IsAbsent, number_in}
use Rattle.chk_world.specs.Collectors.{View, Handling, view, created, still, sink_of, next_mark_of, made_by, SinkNamesFresh}
use Rattle.chk_world.specs.Places.{As, AtTold}
use Rattle.chk_world.proofs.Ends.{bytes_self}
use Rattle.chk_world.proofs.NameLemmas.{read-spell}
use Rattle.chk_world.proofs.Law.{holds_always}
use Rattle.chk_world.proofs.OwnSteps.{known_stem}
use Rattle.chk_world.proofs.OwnFiles.{done_file, done_absent}
use Rattle.chk_world.proofs.ToldCalls.{GoesOn, MayCall, LeavesCall, goes_on_done, told_done, told_ends}
use Rattle.chk_world.proofs.CollectorCalls.{own_sight, collector_rule}
use Rattle.chk_sink.specs.States.{State, Writing, process, last_stem, next_stem, one_more, counted}
use Rattle.chk_sink.specs.Held.{Handles, Ready}
use Rattle.chk_sink.proofs.Holding.{changed_by, WasMade, HasEnded, both_absent, handles_stays}
use Rattle.chk_world.proofs.DoneSinks.{none_is as absent_none}

-- the next sink, made and empty
abbrev pub empty_writing : Writing
empty_writing = record { size = 0; sync_end = 0; marked = 0; seen = None }

abbrev pub with_empty : State → State
with_empty s = record {
  collector = s.collector;
  born = s.born;
  number = s.number + 1;
  rotate = s.rotate;
  current = Some empty_writing;
  abandoned = s.abandoned;
}

absent_number : (o : Option File) → IsAbsent o → number_in o ≡ 0
absent_number None h = refl
absent_number (Some f) h = absurd h

none_other : (o : Option Writing) (b : Bool) → o ≡ None → (is_some o && b) ≡ false
none_other None b e = refl
none_other (Some o) b e = absurd (cc)

module _ (stamped : List (List ℕ)) (s : State) (messages : List Handling) (named : IsTrue (is_collector s.collector))
    (none : s.current ≡ None) (good : IsTrue (is_stem (next_stem s))) where
  abbrev X : Stem
  X = next_stem s

  abbrev w : List ℕ
  w = spell (SinkFile X)

  abbrev Q : Asked
  Q = asked (process s) Create (w ∷ []) 0 0

  reads : read w ≡ SinkFile X
  reads = read-spell (SinkFile X) good

  create_may : MayCall stamped Q named (Handles s messages)
  create_may before answer files logs legal h = record {
    own_files = rw reads (and_from _ _ (bytes_self s.collector) refl);
    logs = tt;
    requests = tt;
    rule = collector_rule stamped (process s) before (own_step Q answer files logs) (Creates w) refl refl refl
        (subst (λ n. SinkNamesFresh (view (process s) before) n) (sym reads)
        (h.holds.born, ap (λ n. n + 1) (sym h.holds.made)));
  }

  create_leaves : LeavesCall stamped Q named (Handles s messages) WasDone (Handles (with_empty s) messages)
  create_leaves before answer files logs was legal h =
      let step = own_step Q answer files logs in
      let v = view (process s) before in
      let honest = legal.1.honest in
      let inv = holds_always X (known_stem X good) stamped before legal.0 in
      let fresh = inv.unused (inr (h.holds.born, omega (arith, h.holds.made))) in
      let is = done_absent answer (files_after before w) was honest.agrees (absent_none _ fresh.0) in
      let sight = own_sight (process s) before step refl (goes_on_done answer was) in
      let on = changed_by (SinkFile X) w refl good made (files_after before) files (λ n k. done_file before step n honest is k) in
      let sink : file files (SinkFile X) ≡ Some (record { bytes = []; synced = 0 }) = on.there ∙ ap made (absent_none _ fresh.0) in
      record {
        holds = record {
          born = ap (λ (v : View). v.born) sight ∙ h.holds.born;
          made = ap (λ (v : View). v.made) sight ∙ (ap (λ n. made_by (sink_of n) v.made) reads ∙ ap (λ n. n + 1) h.holds.made);
          writing = record {
            current = ap (λ (v : View). v.current) sight
                ∙ (ap (λ n. created (sink_of n) (is_done answer) (still (is_done answer) (next_mark_of (read w)) v.current)) reads
                ∙ ap (λ b. created (Some X) b (still (is_done answer) (next_mark_of (read w)) v.current)) is);
            size = subst (λ o. HasFile o (λ f. length f.bytes ≡ 0)) (sym sink) refl;
            marked = ap number_in (on.others (MarkFile X) good refl) ∙ absent_number _ fresh.1;
          };
          tidy = λ tidy y other. both_absent (on.others (SinkFile y) other.stem other.other) (on.others (MarkFile y) other.stem refl)
              (h.holds.tidy tidy y (record { own = other.own; stem = other.stem; other = none_other s.current (same_stem y (last_stem s)) none }));
        };
        handled = ap (λ (v : View). v.handled) sight ∙ h.handled;
      }

  create_fails : LeavesCall stamped Q named (Handles s messages) (λ a. a ≡ Refused Failed) (Handles (one_more s) messages)
  create_fails before answer files logs failed legal h =
      let step = own_step Q answer files logs in
      let v = view (process s) before in
      let sight = own_sight (process s) before step refl (subst GoesOn (sym failed) tt) in
      record {
        holds = record {
          born = ap (λ (v : View). v.born) sight ∙ h.holds.born;
          made = ap (λ (v : View). v.made) sight ∙ (ap (λ n. made_by (sink_of n) v.made) reads ∙ ap (λ n. n + 1) h.holds.made);
          writing = tt;
          tidy = λ e. absurd (true≢false e);
        };
        handled = ap (λ (v : View). v.handled) sight ∙ h.handled;
      }

  no_stem : is_some s.current ≡ true → IsTrue (is_stem (last_stem s))
  no_stem e = absurd (cc)

  -- the creation was done
  pub create_done : {old new : Option History} → WasMade Q old new
      → Adds old new (Leads (As stamped (process s)) (Ready stamped s messages) (Ready stamped (with_empty s) messages))
  create_done m =
      told_done stamped Q named (Handles s messages) (Handles (with_empty s) messages) m.given (handles_stays stamped s messages no_stem)
      create_may create_leaves m.fine m.told

  -- the creations that count, by what ended them
  abbrev Uncreated : OutsideFault → History → Type 0
  Uncreated (Outside call) history = Handles (one_more s) messages history
  Uncreated no_memory history = Handles s messages history

  by_count : (given : Result (Unit {0}) CallFault) (fault : OutsideFault) → Ends Create given fault → (history : History)
      → AtTold stamped (process s) (Uncreated fault) history → Ready stamped (counted s given) messages history
  by_count (Ok value) fault ends history h = absurd ends
  by_count (Err Failed) fault ends history h = subst (λ f. AtTold stamped (process s) (Uncreated f) history) ends h
  by_count (Err NoMemory) fault ends history h = subst (λ f. AtTold stamped (process s) (Uncreated f) history) ends h
  by_count (Err other) fault ends history h = absurd ends

  -- it ended the work
  pub create_ends : {fault : OutsideFault} {old new : Option History} (m : HasEnded Q fault old new)
      → Adds old new (Leads (As stamped (process s)) (Ready stamped s messages) (Ready stamped (counted s m.given) messages))
  create_ends {fault = fault} m =
      leads_as (λ h x. x) (by_count m.given fault m.ends)
      (told_ends stamped Q named (Handles s messages) Uncreated plain m.given fault (handles_stays stamped s messages no_stem)
      create_may create_fails (λ history h. h) m.ends m.told)
