-- A commit, over the sinks' state: the sink is synced, and its mark is replaced.
use Rattle.std.proofs.Common.{◌≡◌, ℕ, ◌≤◌, ◌<◌, Bool, true, false, List, [], ◌∷◌, ◌++◌, length, Option, Some, None, option_map, Result, Ok, Err, ap, sym, subst, ◌∙◌, refl, arith, is_some, nat_lt}
use Rattle.std.specs.Prelude.{IsTrue}
use Rattle.std.proofs.lemmas.Bool.{ltb-true, ltb-false}
use Rattle.chk_bytes.specs.Numbers.{limit, be64, spelled}
use Rattle.chk_bytes.specs.Stems.{Stem, is_stem, is_collector}
use Rattle.chk_site.specs.declared.acts.Call.TheVariants.{Sync}
use Rattle.chk_site.specs.declared.acts.CallFault.TheVariants.{Failed}
use Rattle.chk_site.specs.declared.acts.OutsideFault.{OutsideFault}
use Rattle.chk_site.specs.declared.acts.OutsideFault.TheVariants.{NoMemory as no_memory}
use Rattle.chk_site.specs.declared.acts.ActAnswer.TheVariants.{Refused}
use Rattle.chk_site.specs.Files.{File, secured}
use Rattle.chk_site.specs.Acts.{Syncs}
use Rattle.chk_site.specs.Effect.{IsSmallFile}
use Rattle.chk_site.specs.History.{History, AllModelled, files_after, is_stopped}
use Rattle.chk_site.specs.Site.{Adds, Asked, asked, own_step, plain, WasDone}
use Rattle.chk_site.specs.Runs.{Leads, MadeInTurn}
use Rattle.chk_site.proofs.Runs.{adds_both}
use Rattle.chk_site.proofs.Leads.{leads_as, script_then, script_owned}
use Rattle.chk_site.proofs.Small.{all_small}
use Rattle.chk_replace.specs.Replace.{replacement}
use Rattle.chk_world.specs.Names.{Name, SinkFile, MarkFile, DoneFile, Temporary, read, spell, file}
use Rattle.chk_world.specs.Committed.{OnFile, HasFile, number_in, committed_of, committed_length}
use Rattle.chk_world.specs.Collectors.{View, Current, view, still, sink_of, next_mark_of, either, IsCommitted}
use Rattle.chk_world.specs.Rules.{Legal}
use Rattle.chk_world.specs.Places.{As, AtTold}
use Rattle.chk_world.proofs.Ends.{bytes_self}
use Rattle.chk_world.proofs.NameLemmas.{read-spell}
use Rattle.chk_world.proofs.Kept.{there}
use Rattle.chk_world.proofs.Law.{shape}
use Rattle.chk_world.proofs.OwnFiles.{done_file, done_present}
use Rattle.chk_world.proofs.Replacing.{Target, anything, Next, EndedAt, replacement_owned}
use Rattle.chk_world.proofs.ToldCalls.{GoesOn, MayCall, LeavesCall, goes_on_done, told_done, told_ends}
use Rattle.chk_world.proofs.CollectorCalls.{own_sight, collector_rule, collector_target, still_well, Marking, Marked, Started, mark_replaced}
use Rattle.chk_sink.specs.States.{State, Writing, process, last_stem, given_up, all_marked, kept_where_done}
use Rattle.chk_sink.specs.Held.{IsAsKept, IsTidy, Holds, Matches}
use Rattle.chk_sink.specs.Faults.{sink_fault, sink_result}
use Rattle.chk_sink.specs.Closes.{Committed}
use Rattle.chk_sink.specs.Closing.{publishing}
use Rattle.chk_sink.proofs.Holding.{changed_by, told_by, both_absent, own_sink, own_mark, holds_stays, writing_kept, given_up_with, given_up_holds}
use Rattle.chk_sink.proofs.Scripts.{StaysStopped, stopped_script}
use Rattle.chk_sink.proofs.Tidying.{other_stem, stem_other, replacement_marks, stays_tidy}
use Rattle.chk_sink.proofs.Appending.{current_of}
use Rattle.chk_world.proofs.LogEnds.{legal_modelled}

-- ---- lengths

-- a file of a legal history is shorter than 2^63 bytes
short : (stamped : List (List ℕ)) (history : History) (w : List ℕ) (n : ℕ) → Legal stamped history
    → HasFile (files_after history w) (IsCommitted n) → n < limit
short stamped history w n legal h = go (files_after history w) ((all_small history (legal_modelled stamped history legal)).files w) h
  where
    go : (o : Option File) → IsSmallFile o → HasFile o (IsCommitted n) → n < limit
    go None small h = absurd h
    go (Some f) small h = subst (λ k. k < limit) h.0 small

-- the mark's number is the committed length
pub marked_length : (done mark : Option File) (n : ℕ) → OnFile mark (λ m. OnFile done (λ f. spelled m.bytes ≡ length f.bytes)) → 96 ≤ n
    → number_in mark ≡ n → committed_of done mark ≡ n
marked_length None mark n within some is = is
marked_length (Some d) None n within some is = absurd (omega (arith, is, some))
marked_length (Some d) (Some m) n within some is = sym within ∙ is

pub marked_commit : (stamped : List (List ℕ)) (history : History) (x : Stem) (n : ℕ) → Legal stamped history → IsTrue (is_stem x) → 96 ≤ n
    → number_in (file (files_after history) (MarkFile x)) ≡ n → committed_length (files_after history) x ≡ n
marked_commit stamped history x n legal good some is =
    marked_length (file (files_after history) (DoneFile x)) (file (files_after history) (MarkFile x)) n
    (shape stamped history legal x good).mark_of_done some is

module _ (stamped : List (List ℕ)) (s : State) (o : Writing) (named : IsTrue (is_collector s.collector))
    (some : s.current ≡ Some o) (good : IsTrue (is_stem (last_stem s))) (begun : 96 ≤ o.size) where
  abbrev X : Stem
  X = last_stem s

  -- ---- the sync

  abbrev Q : Asked
  Q = asked (process s) Sync (spell (SinkFile X) ∷ []) 0 0

  -- the sinks are held, and all of the one that is written to is synced
  pub record Synced (history : History) : Type 0 where
    pub holds : Holds s history
    pub synced : HasFile (file (files_after history) (SinkFile X)) (IsCommitted o.size)

  reads : read (spell (SinkFile X)) ≡ SinkFile X
  reads = read-spell (SinkFile X) good

  sync_may : MayCall stamped Q named (Holds s)
  sync_may before answer files logs legal h = record {
    own_files = rw reads (bytes_self s.collector);
    logs = tt;
    requests = tt;
    rule = collector_rule stamped (process s) before (own_step Q answer files logs) (Syncs (spell (SinkFile X))) refl refl refl tt;
  }

  sync_leaves : LeavesCall stamped Q named (Holds s) WasDone Synced
  sync_leaves before answer files logs was legal h =
      let step = own_step Q answer files logs in
      let v = view (process s) before in
      let fb : Name → Option File = file (files_after before) in
      let honest = legal.1.honest in
      let kept = writing_kept s o some before h in
      let t = there (fb (SinkFile X)) kept.size in
      let is = done_present answer (fb (SinkFile X)) was honest.agrees t.0 t.1 in
      let sight = own_sight (process s) before step refl (goes_on_done answer was) in
      let on = changed_by (SinkFile X) _ refl good (option_map secured) (files_after before) files (λ n k. done_file before step n honest is k) in
      let sink : file files (SinkFile X) ≡ Some (secured t.0) = on.there ∙ ap (option_map secured) t.1 in
      record {
        holds = record {
          born = ap (λ (v : View). v.born) sight ∙ h.born;
          made = ap (λ (v : View). v.made) sight ∙ h.made;
          writing = subst (IsAsKept X (view (process s) (step ∷ before)) files) (sym some) (record {
            current = ap (λ (v : View). v.current) sight
                ∙ (ap (λ d. still d (either (sink_of (read (spell (SinkFile X)))) (next_mark_of (read (spell (SinkFile X))))) v.current) is
                ∙ (still_well _ v.current ∙ kept.current));
            size = subst (λ f. HasFile f (λ f. length f.bytes ≡ o.size)) (sym sink) t.2;
            marked = ap number_in (on.others (MarkFile X) good refl) ∙ kept.marked;
          });
          tidy = λ tidy y other. both_absent (on.others (SinkFile y) other.stem (other_stem s o some y other)) (on.others (MarkFile y) other.stem refl)
              (h.tidy tidy y other);
        };
        synced = subst (λ f. HasFile f (IsCommitted o.size)) (sym sink) (t.2, t.2);
      }

  sync_fails : LeavesCall stamped Q named (Holds s) (λ a. a ≡ Refused Failed) (Holds (given_up s))
  sync_fails before answer files logs failed legal h =
      let step = own_step Q answer files logs in
      let sight = own_sight (process s) before step refl (subst GoesOn (sym failed) tt) in
      given_up_with s (step ∷ before) (ap (λ (v : View). v.born) sight ∙ h.born) (ap (λ (v : View). v.made) sight ∙ h.made)

  has_stem : is_some s.current ≡ true → IsTrue (is_stem (last_stem s))
  has_stem e = good

  -- ---- the replacement

  abbrev cur : Current
  cur = current_of s o

  mark_target : Target stamped (process s) (view (process s)) (SinkFile X) (MarkFile X)
  mark_target =
      collector_target stamped (process s) (SinkFile X) (MarkFile X)
      (record { named = named; first = own_sink s X refl good; second = record { own = refl; known = good }; third = own_mark s X refl good })
      refl refl

  abbrev Ended : Result (Unit {0}) OutsideFault → History → Type 0
  Ended result history = EndedAt (process s) (view (process s)) (SinkFile X) (MarkFile X) (Started (Some s.born) s.number) (Marked (Some s.born) s.number cur o.size) result history

  abbrev IsTidyStill : History → Type 0
  IsTidyStill history = s.abandoned ≡ false → IsTidy s (files_after history)

  abbrev Replaced : Result (Unit {0}) OutsideFault → History → Type 0
  Replaced result history = AtTold stamped (process s) (λ h. Ended result h × IsTidyStill h) history

  -- what the replacement leads to
  at_end : (result : Result (Unit {0}) OutsideFault) (history : History) → Replaced result history
      → Committed stamped (kept_where_done s (all_marked o) result) (sink_result result) history
  at_end (Err fault) history h = told_by history (λ e. record { holds = given_up_with s history e.0.born_is e.0.made_is; committed = tt }) h
  at_end (Ok value) history h =
      told_by history (λ e. record {
        holds = record {
          born = e.0.marking.born_is;
          made = e.0.marking.made_is;
          writing = record { current = e.0.marking.current; size = lengths (file (files_after history) (SinkFile X)) e.0.marking.synced; marked = e.0.mark };
          tidy = λ none y other. e.1 none y (stem_other s o some y other.own other.stem other.other);
        };
        committed = marked_commit stamped history X o.size h.legal good begun e.0.mark;
      }) h
    where
      lengths : (f : Option File) → HasFile f (IsCommitted o.size) → HasFile f (λ f. length f.bytes ≡ o.size)
      lengths None h = absurd h
      lengths (Some f) h = h.0

  module _ {result : Result (Unit {0}) OutsideFault} {mid new : Option History}
      (script : MadeInTurn (replacement (process s) (spell (MarkFile X)) (be64 o.size)) result mid new) where
    -- where the sink isn't too long for a mark
    fitting : o.size < limit → Adds mid new (Leads (As stamped (process s)) (AtTold stamped (process s) Synced) (Replaced result))
    fitting small =
        adds_both (Leads (As stamped (process s)) (AtTold stamped (process s) Synced) (Replaced result))
        (mark_replaced stamped X mark_target (Some s.born) s.number cur refl o.size begun small (spell (MarkFile X)) refl script)
        (replacement_marks X good s (be64 o.size) script)
        (λ added history led marks. record {
          leads =
              λ theirs h.
              let end = led.leads theirs (told_by history (as_marking history) h) in
              record {
                legal = end.legal;
                may_act = end.may_act;
                alive = λ r. (
                  end.alive r,
                  λ none. stays_tidy stamped s X (λ y other. other_stem s o some y other) added history marks theirs (λ r. (h.alive r).holds.tidy none) r,
                );
              };
          own = led.own;
        })
      where
        as_marking : (history : History) → Synced history
            → Next (Marking (Some s.born) s.number cur o.size) anything (view (process s) history) (file (files_after history) (SinkFile X))
            (file (files_after history) (Temporary (MarkFile X))) (file (files_after history) (MarkFile X))
        as_marking history h = record {
          base = record { born_is = h.holds.born; made_is = h.holds.made; current = (writing_kept s o some history h.holds).current; synced = h.synced };
          next = tt;
        }

    -- no sink is too long for a mark: then the site was stopped, and nothing was called
    too_long : limit ≤ o.size → Adds mid new (Leads (As stamped (process s)) (AtTold stamped (process s) Synced) (Replaced result))
    too_long large =
        adds_both (Leads (As stamped (process s)) (AtTold stamped (process s) Synced) (Replaced result)) (stopped_script script)
        (script_owned (As stamped (process s)).own
        (replacement_owned stamped (process s) named (spell (MarkFile X)) (be64 o.size)) script)
        (λ added history stays own. record { leads = λ theirs h. stopped added history stays h (is_stopped history) refl; own = own })
      where
        no_room : (history : History) → AtTold stamped (process s) Synced history → is_stopped history ≡ false → ⊥
        no_room history h r =
            let small = short stamped history (spell (SinkFile X)) o.size h.legal (h.alive r).synced in
            let z : ⊥ = omega (arith, small, large) in
            z

        stopped : (added history : History) → StaysStopped added history → AtTold stamped (process s) Synced history
            → (b : Bool) → is_stopped history ≡ b → Replaced result (added ++ history)
        stopped added history stays h false e = absurd (no_room history h e)
        stopped added history stays h true e =
            subst (λ (a : History). Replaced result (a ++ history)) (sym (stays e))
            (record { legal = h.legal; may_act = h.may_act; alive = λ r. absurd (no_room history h r) })

    replaced_so : Adds mid new (Leads (As stamped (process s)) (AtTold stamped (process s) Synced)
        (Committed stamped (kept_where_done s (all_marked o) result) (sink_result result)))
    replaced_so = leads_as (λ h x. x) (at_end result) (go (nat_lt o.size limit) refl)
      where
        go : (b : Bool) → nat_lt o.size limit ≡ b
            → Adds mid new (Leads (As stamped (process s)) (AtTold stamped (process s) Synced) (Replaced result))
        go true e = fitting (ltb-true o.size limit e)
        go false e = too_long (ltb-false o.size limit e)

  -- the calls of a commit in turn
  pub published : {result : Result (Unit {0}) OutsideFault} {old new : Option History} → MadeInTurn (publishing (process s) X o.size) result old new
      → Adds old new (Leads (As stamped (process s)) (Matches stamped s)
      (Committed stamped (kept_where_done s (all_marked o) result) (sink_result result)))
  published script =
      script_then (AtTold stamped (process s) Synced)
      (λ result h. Committed stamped (kept_where_done s (all_marked o) result) (sink_result result) h)
      (λ given mid is told. told_done stamped Q named (Holds s) Synced given (holds_stays stamped s has_stem) sync_may sync_leaves is told)
      (λ given fault is told. leads_as (λ h x. x) (given_up_committed fault)
      (told_ends stamped Q named (Holds s) (λ f. Holds (given_up s)) plain given fault (holds_stays stamped s has_stem) sync_may sync_fails
      (λ history h. given_up_holds s history h) is told))
      (λ h x. given_up_committed no_memory h (told_by h (given_up_holds s h) x))
      (λ mid rest. replaced_so rest) script
    where
      given_up_committed : (fault : OutsideFault) (history : History) → Matches stamped (given_up s) history
          → Committed stamped (given_up s) (Err (sink_fault fault)) history
      given_up_committed fault history x = told_by history (λ holds. record { holds = holds; committed = tt }) x
