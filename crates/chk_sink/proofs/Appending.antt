-- An append to the sink that is written to.
use Rattle.std.proofs.Common.{◌≡◌, ℕ, ◌+◌, Bool, true, false, ◌&&◌, List, [], ◌∷◌, ◌++◌, map, length, length-append, Option, Some, None, option_map, ap, sym, subst, ◌∙◌, refl, is_some, if◌then◌else◌}
use Rattle.std.specs.Prelude.{IsTrue}
use Rattle.std.proofs.lemmas.Bool.{and_from}
use Rattle.chk_bytes.specs.Stems.{Stem, is_stem, is_collector, same_stem}
use Rattle.chk_site.specs.declared.acts.Call.TheVariants.{Append}
use Rattle.chk_site.specs.declared.acts.CallFault.TheVariants.{Failed}
use Rattle.chk_site.specs.declared.acts.OutsideFault.{OutsideFault}
use Rattle.chk_site.specs.declared.acts.OutsideFault.TheVariants.{Outside as site_failed, NoMemory as no_memory}
use Rattle.chk_site.specs.declared.acts.ActAnswer.{ActAnswer}
use Rattle.chk_site.specs.declared.acts.ActAnswer.TheVariants.{Done, Refused}
use Rattle.chk_site.specs.Files.{File, Files, grown}
use Rattle.chk_site.specs.Acts.{Appends, is_done}
use Rattle.chk_site.specs.History.{History, files_after}
use Rattle.chk_site.specs.Site.{Adds, Asked, asked, own_step, plain, WasDone}
use Rattle.chk_site.specs.Runs.{Leads}
use Rattle.chk_world.specs.Names.{Name, SinkFile, MarkFile, read, spell, file}
use Rattle.chk_world.specs.Committed.{HasFile, number_in}
use Rattle.chk_world.specs.Collectors.{View, Current, Handling, Appended, view, still, sink_of, next_mark_of, size_in, appended_to, appended_at, sync_end_after, handled_after, with_appends, AppendsOnlyToCleanSink, IsCurrent, IsNextPiece}
use Rattle.chk_world.specs.Places.{As, AtTold}
use Rattle.chk_world.proofs.Ends.{bytes_self}
use Rattle.chk_world.proofs.NameLemmas.{read-spell}
use Rattle.chk_world.proofs.NameTests.{stem_self}
use Rattle.chk_world.proofs.Kept.{there}
use Rattle.chk_world.proofs.OwnFiles.{done_file, done_present}
use Rattle.chk_world.proofs.ToldCalls.{GoesOn, MayCall, LeavesCall, goes_on_done, told_done, told_ends}
use Rattle.chk_world.proofs.CollectorCalls.{own_sight, collector_rule}
use Rattle.chk_sink.specs.States.{State, Writing, process, last_stem, with_current, given_up}
use Rattle.chk_sink.specs.Held.{IsAsKept, Handles, Ready}
use Rattle.chk_sink.proofs.Holding.{changed_by, WasMade, HasEnded, both_absent, given_up_with, handles_stays, given_up_handles}

-- the sink with a piece more
abbrev pub grown_writing : Writing → List ℕ → Writing
grown_writing o piece = record {
  size = o.size + length piece;
  sync_end = sync_end_after o.size piece o.sync_end;
  marked = o.marked;
  seen = o.seen;
}

abbrev pub appended_state : State → Writing → List ℕ → State
appended_state s o piece = with_current s (Some (grown_writing o piece))

-- what the append adds to each message that was taken
abbrev pub append_of : State → Writing → List ℕ → Appended
append_of s o piece = record { stem = last_stem s; piece = piece; end = o.size + length piece }

-- the sink that is written to, as the collector's rule sees it
abbrev pub current_of : State → Writing → Current
current_of s o = record { stem = last_stem s; sync_end = o.sync_end }

-- the messages after an append of a sink that was done
done_handled : (w piece : List ℕ) (n : Name) (reads : read w ≡ n) (after : Files) (hs : List Handling) (answer : ActAnswer) → is_done answer ≡ true
    → handled_after (Appends w piece) answer after hs ≡ map (with_appends (appended_at n piece (size_in (after w)))) hs
done_handled w piece n reads after hs (Done words number of) is = rw reads refl
done_handled w piece n reads after hs answer is = absurd (cc)

module _ (stamped : List (List ℕ)) (s : State) (o : Writing) (messages : List Handling) (named : IsTrue (is_collector s.collector))
    (some : s.current ≡ Some o) (good : IsTrue (is_stem (last_stem s))) (piece : List ℕ)
    (next : IsNextPiece messages (current_of s o) o.size piece) where
  abbrev X : Stem
  X = last_stem s

  abbrev w : List ℕ
  w = spell (SinkFile X)

  abbrev Q : Asked
  Q = asked (process s) Append (w ∷ piece ∷ []) 0 0

  abbrev B : History → Type 0
  B = Handles s messages

  abbrev C : History → Type 0
  C = Handles (appended_state s o piece) (map (with_appends (append_of s o piece ∷ [])) messages)

  reads : read w ≡ SinkFile X
  reads = read-spell (SinkFile X) good

  writing : (history : History) → B history → IsAsKept X (view (process s) history) (files_after history) (Some o)
  writing history h = subst (IsAsKept X (view (process s) history) (files_after history)) some h.holds.writing

  append_may : MayCall stamped Q named B
  append_may before answer files logs legal h = record {
    own_files = rw reads (and_from _ _ (bytes_self s.collector) refl);
    logs = tt;
    requests = tt;
    rule = collector_rule stamped (process s) before (own_step Q answer files logs) (Appends w piece) refl refl refl
        (subst (λ n. AppendsOnlyToCleanSink (view (process s) before) (files_after before) n piece) (sym reads) rule);
  }
    where
      kept : IsAsKept X (view (process s) before) (files_after before) (Some o)
      kept = writing before h

      clean : (f : Option File) → HasFile f (λ f. length f.bytes ≡ o.size)
          → HasFile f (λ f. IsCurrent (view (process s) before).current X (λ cur. IsNextPiece (view (process s) before).handled cur (length f.bytes) piece))
      clean None h = absurd h
      clean (Some f) size =
          subst (λ c. IsCurrent c X (λ cur. IsNextPiece (view (process s) before).handled cur (length f.bytes) piece)) (sym kept.current) (
            refl,
            subst (λ hs. IsNextPiece hs (current_of s o) (length f.bytes) piece) (sym h.handled)
                (subst (λ n. IsNextPiece messages (current_of s o) n piece) (sym size) next),
          )

      rule : AppendsOnlyToCleanSink (view (process s) before) (files_after before) (SinkFile X) piece
      rule = clean (file (files_after before) (SinkFile X)) kept.size

  append_leaves : LeavesCall stamped Q named B WasDone C
  append_leaves before answer files logs was legal h =
      let step = own_step Q answer files logs in
      let v = view (process s) before in
      let honest = legal.1.honest in
      let kept = writing before h in
      let t = there (file (files_after before) (SinkFile X)) kept.size in
      let is = done_present answer (files_after before w) was honest.agrees t.0 t.1 in
      let sight = own_sight (process s) before step refl (goes_on_done answer was) in
      let on = changed_by (SinkFile X) w refl good (option_map (grown piece)) (files_after before) files (λ n k. done_file before step n honest is k) in
      let sink : file files (SinkFile X) ≡ Some (grown piece t.0) = on.there ∙ ap (option_map (grown piece)) t.1 in
      let longer : length (t.0.bytes ++ piece) ≡ o.size + length piece = length-append t.0.bytes piece ∙ ap (λ n. n + length piece) t.2 in
      let size_before : size_in (files_after before w) ≡ o.size = ap size_in t.1 ∙ t.2 in
      let size_now : size_in (files w) ≡ o.size + length piece = ap size_in sink ∙ longer in
      record {
        holds = record {
          born = ap (λ (v : View). v.born) sight ∙ h.holds.born;
          made = ap (λ (v : View). v.made) sight ∙ h.holds.made;
          writing = record {
            current = ap (λ (v : View). v.current) sight ∙ now_current (is_done answer) (size_in (files_after before w)) is size_before v kept.current;
            size = subst (λ o'. HasFile o' (λ f. length f.bytes ≡ o.size + length piece)) (sym sink) longer;
            marked = ap number_in (on.others (MarkFile X) good refl) ∙ kept.marked;
          };
          tidy = λ tidy y other. both_absent (on.others (SinkFile y) other.stem other.other) (on.others (MarkFile y) other.stem refl)
              (h.holds.tidy tidy y (record { own = other.own; stem = other.stem; other = as_other y other.other }));
        };
        handled = ap (λ (v : View). v.handled) sight
            ∙ (done_handled w piece (SinkFile X) reads files v.handled answer is
            ∙ (ap (λ n. map (with_appends (record { stem = X; piece = piece; end = n } ∷ [])) v.handled) size_now
            ∙ ap (λ hs. map (with_appends (append_of s o piece ∷ [])) hs) h.handled));
      }
    where
      now_current : (d : Bool) (size : ℕ) → d ≡ true → size ≡ o.size → (v : View) → v.current ≡ Some (current_of s o)
          → appended_to (sink_of (read w)) d size piece (still d (next_mark_of (read w)) v.current)
          ≡ Some (record { stem = X; sync_end = sync_end_after o.size piece o.sync_end })
      now_current d size is e v c =
          ap (λ n. appended_to (sink_of n) d size piece (still d (next_mark_of n) v.current)) reads
          ∙ (ap (λ k. appended_to (Some X) d size piece k) c
          ∙ (ap (λ b. if b then (if d then Some (record { stem = X; sync_end = sync_end_after size piece o.sync_end }) else None) else Some (current_of s o)) (stem_self X)
          ∙ (ap (λ b. if b then Some (record { stem = X; sync_end = sync_end_after size piece o.sync_end }) else None) is
          ∙ ap (λ n. Some (record { stem = X; sync_end = sync_end_after n piece o.sync_end })) e)))

      as_other : (y : Stem) → same_stem y X ≡ false → (is_some s.current && same_stem y X) ≡ false
      as_other y e = rw (some, e) refl

  append_fails : LeavesCall stamped Q named B (λ a. a ≡ Refused Failed) (Handles (given_up s) messages)
  append_fails before answer files logs failed legal h =
      let step = own_step Q answer files logs in
      let v = view (process s) before in
      let sight = own_sight (process s) before step refl (subst GoesOn (sym failed) tt) in
      record {
        holds = given_up_with s (step ∷ before) (ap (λ (v : View). v.born) sight ∙ h.holds.born) (ap (λ (v : View). v.made) sight ∙ h.holds.made);
        handled = ap (λ (v : View). v.handled) sight ∙ (ap (λ a. handled_after (Appends w piece) a files v.handled) failed ∙ h.handled);
      }

  has_stem : is_some s.current ≡ true → IsTrue (is_stem (last_stem s))
  has_stem e = good

  pub append_done : {old new : Option History} → WasMade Q old new
      → Adds old new (Leads (As stamped (process s)) (Ready stamped s messages) (AtTold stamped (process s) C))
  append_done m = told_done stamped Q named B C m.given (handles_stays stamped s messages has_stem) append_may append_leaves m.fine m.told

  pub append_ends : {fault : OutsideFault} {old new : Option History} → HasEnded Q fault old new
      → Adds old new (Leads (As stamped (process s)) (Ready stamped s messages) (Ready stamped (given_up s) messages))
  append_ends {fault = fault} m =
      told_ends stamped Q named B (λ f. Handles (given_up s) messages) plain m.given fault (handles_stays stamped s messages has_stem)
      append_may append_fails (given_up_handles s messages) m.ends m.told

  -- an append that wanted memory was none
  abbrev Left : OutsideFault → History → Type 0
  Left (site_failed call) = Handles (given_up s) messages
  Left no_memory = B

  pub append_wants : {old new : Option History} → HasEnded Q no_memory old new
      → Adds old new (Leads (As stamped (process s)) (Ready stamped s messages) (Ready stamped s messages))
  append_wants m =
      told_ends stamped Q named B Left plain m.given no_memory (handles_stays stamped s messages has_stem)
      append_may append_fails (λ history h. h) m.ends m.told
