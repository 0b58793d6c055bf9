-- A close, over the sinks' state: the sink becomes a done one, and its mark is removed.
use Rattle.std.proofs.Common.{◌≡◌, inl, inr, ℕ, ◌≤◌, Bool, true, false, List, [], ◌∷◌, length, Option, Some, None, Result, Ok, Err, ap, sym, subst, ◌∙◌, refl, arith, is_some, if◌then◌else◌}
use Rattle.std.specs.Prelude.{IsTrue}
use Rattle.std.proofs.lemmas.Bool.{and_from}
use Rattle.chk_bytes.specs.Numbers.{spelled}
use Rattle.chk_bytes.specs.Stems.{Stem, is_stem, is_collector, same_stem}
use Rattle.chk_site.specs.declared.acts.Call.TheVariants.{Rename, Remove}
use Rattle.chk_site.specs.declared.acts.CallFault.TheVariants.{Failed}
use Rattle.chk_site.specs.declared.acts.OutsideFault.{OutsideFault}
use Rattle.chk_site.specs.declared.acts.OutsideFault.TheVariants.{NoMemory as no_memory}
use Rattle.chk_site.specs.declared.acts.ActAnswer.TheVariants.{Refused}
use Rattle.chk_site.specs.Files.{File, Files}
use Rattle.chk_site.specs.Acts.{Renames, Removes}
use Rattle.chk_site.specs.History.{History, files_after}
use Rattle.chk_site.specs.Site.{Adds, Asked, asked, own_step, plain, WasDone}
use Rattle.chk_site.specs.Runs.{Leads, MadeInTurn}
use Rattle.chk_site.proofs.Leads.{leads_as, script_then, script_end}
use Rattle.chk_world.specs.Names.{Name, SinkFile, MarkFile, DoneFile, read, spell, file, is_known}
use Rattle.chk_world.specs.Committed.{OnFile, HasFile, IsAbsent, number_in}
use Rattle.chk_world.specs.Collectors.{View, view, born_after, IsCommitted, MayRemove, DoneAtItsMark}
use Rattle.chk_world.specs.Places.{As, AtTold}
use Rattle.chk_world.proofs.Ends.{bytes_self}
use Rattle.chk_world.proofs.NameLemmas.{read-spell}
use Rattle.chk_world.proofs.NameTests.{same_name, stem_self, stem_same, moved_named}
use Rattle.chk_world.proofs.Kept.{Kept, there}
use Rattle.chk_world.proofs.Law.{holds_always}
use Rattle.chk_world.proofs.OwnSteps.{known_stem}
use Rattle.chk_world.proofs.Frames.{files_stay, view_stays}
use Rattle.chk_world.proofs.OwnFiles.{done_file, done_present}
use Rattle.chk_world.proofs.PlacesStay.{Stays}
use Rattle.chk_world.proofs.ToldCalls.{GoesOn, MayCall, LeavesCall, goes_on_done, told_done, told_ends}
use Rattle.chk_world.proofs.CollectorCalls.{own_sight, collector_rule}
use Rattle.chk_sink.specs.States.{State, Writing, process, last_stem, with_current, given_up}
use Rattle.chk_sink.specs.Held.{IsTidy, Holds, Matches}
use Rattle.chk_sink.specs.Faults.{sink_fault, sink_result}
use Rattle.chk_sink.specs.Closes.{WasClosed, CloseHolds, Closed}
use Rattle.chk_sink.specs.Closing.{closing, left_where_done}
use Rattle.chk_sink.proofs.Holding.{told_by, own_sink, absent_as, both_absent, holds_stays, writing_kept, given_up_with, given_up_holds}
use Rattle.chk_sink.proofs.LeftCalls.{removal_leaves}
use Rattle.chk_sink.proofs.Tidying.{other_stem, stem_other, foreign_tidy}

-- a sink of which the mark says all is synced
at_mark : (wr : List ℕ) (sink mark shut : Option File) (n : ℕ) → Kept wr sink mark shut → 96 ≤ n → HasFile sink (λ f. length f.bytes ≡ n)
    → number_in mark ≡ n → OnFile sink (λ f. HasFile mark (λ m. IsCommitted (spelled m.bytes) f))
at_mark wr None mark shut n kept some size is = tt
at_mark wr (Some f) None shut n kept some size is = absurd (let z : ⊥ = omega (arith, is, some) in z)
at_mark wr (Some f) (Some m) shut n kept some size is =
    let within : f.synced ≤ length f.bytes = kept.of_sink in
    let safe : spelled m.bytes ≤ f.synced = kept.of_mark.on_sink.synced in
    (omega (arith, size, is), omega (arith, size, is, within, safe))

absent_none : (o : Option File) → o ≡ None → IsAbsent o
absent_none o e = subst IsAbsent (sym e) tt

module _ (stamped : List (List ℕ)) (s : State) (o : Writing) (named : IsTrue (is_collector s.collector))
    (some : s.current ≡ Some o) (good : IsTrue (is_stem (last_stem s))) (begun : 96 ≤ o.size) (marked : o.marked ≡ o.size) where
  abbrev X : Stem
  X = last_stem s

  abbrev Renaming : Asked
  Renaming = asked (process s) Rename (spell (SinkFile X) ∷ spell (DoneFile X) ∷ []) 0 0

  abbrev Removing : Asked
  Removing = asked (process s) Remove (spell (MarkFile X) ∷ []) 0 0

  reads : read (spell (SinkFile X)) ≡ SinkFile X
  reads = read-spell (SinkFile X) good

  reads_done : read (spell (DoneFile X)) ≡ DoneFile X
  reads_done = read-spell (DoneFile X) good

  reads_mark : read (spell (MarkFile X)) ≡ MarkFile X
  reads_mark = read-spell (MarkFile X) good

  -- the sink is a done one, and its mark may be left
  pub record Renamed (history : History) : Type 0 where
    pub born : (view (process s) history).born ≡ Some s.born
    pub made : (view (process s) history).made ≡ s.number
    pub tidy : s.abandoned ≡ false → IsTidy s (files_after history)
    pub gone : IsAbsent (file (files_after history) (SinkFile X))
    pub closed : WasClosed X (Some o) history

  renamed_stays : Stays stamped (process s) Renamed
  renamed_stays history step legal f h =
      let sight = view_stays stamped (process s) history step f in
      record {
        born = ap (λ (v : View). v.born) sight ∙ h.born;
        made = ap (λ (v : View). v.made) sight ∙ h.made;
        tidy = λ e. foreign_tidy stamped s X (λ y other. other_stem s o some y other) history step f (h.tidy e);
        gone = absent_as _ _ (files_stay stamped (process s) history step (SinkFile X) f (own_sink s X refl good)) h.gone;
        closed = inr h.closed;
      }

  -- less is known
  given_up_renamed : (history : History) → Renamed history → Holds (given_up s) history
  given_up_renamed history h = given_up_with s history h.born h.made

  -- ---- the rename

  rename_may : MayCall stamped Renaming named (Holds s)
  rename_may before answer files logs legal h = record {
    own_files = rw (reads, reads_done) (and_from _ _ (bytes_self s.collector) (bytes_self s.collector), refl);
    logs = tt;
    requests = tt;
    rule = collector_rule stamped (process s) before (own_step Renaming answer files logs) (Renames (spell (SinkFile X)) (spell (DoneFile X))) refl refl refl
        (rw (reads, reads_done) rule);
  }
    where
      rule : DoneAtItsMark (files_after before) X X
      rule =
          let kept = writing_kept s o some before h in (
            refl,
            at_mark _ (file (files_after before) (SinkFile X)) (file (files_after before) (MarkFile X)) (file (files_after before) (DoneFile X)) o.size
                (holds_always X (known_stem X good) stamped before legal).files begun kept.size (kept.marked ∙ marked),
          )

  -- it publishes no number of starts
  no_born : (before after : Files) (born : Option ℕ) → born_after before after (Renames (spell (SinkFile X)) (spell (DoneFile X))) born ≡ born
  no_born before after born = rw reads_done refl

  rename_leaves : LeavesCall stamped Renaming named (Holds s) WasDone Renamed
  rename_leaves before answer files logs was legal h =
      let step = own_step Renaming answer files logs in
      let fb : Name → Option File = file (files_after before) in
      let honest = legal.1.honest in
      let t = there (fb (SinkFile X)) (writing_kept s o some before h).size in
      let is = done_present answer (fb (SinkFile X)) was honest.agrees t.0 t.1 in
      let sight = own_sight (process s) before step refl (goes_on_done answer was) in
      let moves : (n : Name) → IsTrue (is_known n) → file files n ≡ moved_named (Some t.0) (SinkFile X) (DoneFile X) fb n =
      λ n k. done_file before step n honest is k
      ∙ (ap (λ m. moved_named (fb m) m (read (spell (DoneFile X))) fb n) reads
      ∙ (ap (λ m. moved_named (fb (SinkFile X)) (SinkFile X) m fb n) reads_done ∙ ap (λ f. moved_named f (SinkFile X) (DoneFile X) fb n) t.1)) in
      record {
        born = ap (λ (v : View). v.born) sight ∙ (no_born (files_after before) files _ ∙ h.born);
        made = ap (λ (v : View). v.made) sight ∙ h.made;
        tidy = λ e y other.
            both_absent (moves (SinkFile y) other.stem ∙ ap (λ b. if b then None else fb (SinkFile y)) (other_stem s o some y other))
            (moves (MarkFile y) other.stem) (h.tidy e y other);
        gone = absent_none _ (moves (SinkFile X) good ∙ ap (λ b. if b then None else fb (SinkFile X)) (stem_self X));
        closed = inl
            (subst (λ f. HasFile f (λ f. length f.bytes ≡ o.size))
            (sym (moves (DoneFile X) good ∙ ap (λ b. if b then Some t.0 else fb (DoneFile X)) (stem_self X))) t.2);
      }

  rename_fails : LeavesCall stamped Renaming named (Holds s) (λ a. a ≡ Refused Failed) (Holds (given_up s))
  rename_fails before answer files logs failed legal h =
      let step = own_step Renaming answer files logs in
      let sight = own_sight (process s) before step refl (subst GoesOn (sym failed) tt) in
      given_up_with s (step ∷ before) (ap (λ (v : View). v.born) sight ∙ (no_born (files_after before) files _ ∙ h.born))
      (ap (λ (v : View). v.made) sight ∙ h.made)

  -- ---- the removal

  remove_may : MayCall stamped Removing named Renamed
  remove_may before answer files logs legal h = record {
    own_files = rw reads_mark (bytes_self s.collector);
    logs = tt;
    requests = tt;
    rule = collector_rule stamped (process s) before (own_step Removing answer files logs) (Removes (spell (MarkFile X))) refl refl refl
        (subst (MayRemove (files_after before)) (sym reads_mark) h.gone);
  }

  -- without it, of all the collector's sinks none is under writing
  all_tidy : (before : History) (files : Files) → Renamed before
      → ((n : Name) → IsTrue (is_known n) → same_name n (MarkFile X) ≡ false → file files n ≡ file (files_after before) n)
      → file files (MarkFile X) ≡ None → s.abandoned ≡ false → IsTidy (with_current s None) files
  all_tidy before files h same gone e y other = go (same_stem y X) refl
    where
      go : (b : Bool) → same_stem y X ≡ b → IsAbsent (file files (SinkFile y)) × IsAbsent (file files (MarkFile y))
      go true q =
          subst (λ (z : Stem). IsAbsent (file files (SinkFile z)) × IsAbsent (file files (MarkFile z))) (sym (stem_same y X q))
          (absent_as _ _ (same (SinkFile X) good refl) h.gone, absent_none _ gone)
      go false q =
          both_absent (same (SinkFile y) other.stem refl) (same (MarkFile y) other.stem q) (h.tidy e y (stem_other s o some y other.own other.stem q))

  remove_leaves : LeavesCall stamped Removing named Renamed WasDone (CloseHolds s (with_current s None) (Ok tt))
  remove_leaves before answer files logs was legal h =
      let step = own_step Removing answer files logs in
      let sight = own_sight (process s) before step refl (goes_on_done answer was) in
      let r = removal_leaves (process s) (MarkFile X) (spell (MarkFile X)) refl good before answer files logs was legal.1.honest in
      record {
        holds = record {
          born = ap (λ (v : View). v.born) sight ∙ h.born;
          made = ap (λ (v : View). v.made) sight ∙ h.made;
          writing = tt;
          tidy = λ e. all_tidy before files h r.others r.there e;
        };
        closed = subst (λ (c : Option Writing). WasClosed X c (step ∷ before)) (sym some) (inr h.closed);
      }

  remove_fails : LeavesCall stamped Removing named Renamed (λ a. a ≡ Refused Failed) (Holds (given_up s))
  remove_fails before answer files logs failed legal h =
      let step = own_step Removing answer files logs in
      let sight = own_sight (process s) before step refl (subst GoesOn (sym failed) tt) in
      given_up_with s (step ∷ before) (ap (λ (v : View). v.born) sight ∙ h.born) (ap (λ (v : View). v.made) sight ∙ h.made)

  has_stem : is_some s.current ≡ true → IsTrue (is_stem (last_stem s))
  has_stem e = good

  given_up_closed : (fault : OutsideFault) (history : History) → Matches stamped (given_up s) history
      → Closed stamped s (given_up s) (Err (sink_fault fault)) history
  given_up_closed fault history x = told_by history (λ holds. record { holds = holds; closed = tt }) x

  renamed_closed : (fault : OutsideFault) (history : History) → AtTold stamped (process s) Renamed history
      → Closed stamped s (given_up s) (Err (sink_fault fault)) history
  renamed_closed fault history x = given_up_closed fault history (told_by history (given_up_renamed history) x)

  abbrev After : Result (Unit {0}) OutsideFault → History → Type 0
  After result history = Closed stamped s (left_where_done s result) (sink_result result) history

  -- the calls of a close in turn
  pub closed_so : {result : Result (Unit {0}) OutsideFault} {old new : Option History} → MadeInTurn (closing (process s) X) result old new
      → Adds old new (Leads (As stamped (process s)) (Matches stamped s)
      (Closed stamped s (left_where_done s result) (sink_result result)))
  closed_so script =
      script_then (AtTold stamped (process s) Renamed) After
      (λ given mid is told. told_done stamped Renaming named (Holds s) Renamed given (holds_stays stamped s has_stem) rename_may rename_leaves is told)
      (λ given fault is told. leads_as (λ h x. x) (given_up_closed fault)
      (told_ends stamped Renaming named (Holds s) (λ f. Holds (given_up s)) plain given fault (holds_stays stamped s has_stem) rename_may rename_fails
      (λ history h. given_up_holds s history h) is told))
      (λ h x. given_up_closed no_memory h (told_by h (given_up_holds s h) x))
      (λ mid. script_then (After (Ok tt)) After
      (λ given mid is told. told_done stamped Removing named Renamed (CloseHolds s (with_current s None) (Ok tt)) given renamed_stays remove_may remove_leaves is told)
      (λ given fault is told. leads_as (λ h x. x) (given_up_closed fault)
      (told_ends stamped Removing named Renamed (λ f. Holds (given_up s)) plain given fault renamed_stays remove_may remove_fails
      given_up_renamed is told))
      (renamed_closed no_memory)
      (λ mid. script_end After
      (λ h x. given_up_closed no_memory h (told_by h (λ c. given_up_with s h c.holds.born c.holds.made) x))
      (λ h x. x))) script
