-- What was written to a sink stands in it, or was committed, but where the sink was given up.
use Rattle.std.proofs.Common.{◌≡◌, ◌⊎◌, inl, inr, ℕ, ◌≤◌, ◌<◌, Bool, true, false, ◌&&◌, ◌||◌, List, [], ◌∷◌, length, length-append, Option, Some, None, option_map, ap, sym, subst, ◌∙◌, refl, arith, true≢false, if◌then◌else◌, nat_lt}
use Rattle.std.specs.Prelude.{IsTrue}
use Rattle.std.proofs.lemmas.Bool.{cases_lt}
use Rattle.chk_bytes.specs.Stems.{Stem, is_stem, same_stem}
use Rattle.chk_site.specs.declared.acts.ActAnswer.{ActAnswer}
use Rattle.chk_site.specs.declared.acts.ActAnswer.TheVariants.{Done, Refused, Stopped, Rotated, Deleted}
use Rattle.chk_site.specs.Files.{File, Files, Gone, changed, made, grown, secured, shortened}
use Rattle.chk_site.specs.Acts.{Deed, Starts, ReadsLog, AsksNewest, GrowsLog, Creates, Appends, Syncs, Renames, Removes, Cuts, AsksSize, Reads, Lists, AsksClock, Pauses, Sends, Gets, Takes, TakesMore, Answers, Says, deed, change_of, is_done, tail_of, same_who}
use Rattle.chk_site.specs.Effect.{TailFits, with_tail}
use Rattle.chk_site.specs.History.{Step, History, Ever, files_after, is_by}
use Rattle.chk_world.specs.Names.{Name, is_known, BornFile, SinkFile, MarkFile, DoneFile, CheckFile, BookFile, SegmentFile, Temporary, OtherFile, read, spell, file}
use Rattle.chk_world.specs.Committed.{OnFile, HasFile, IsWhole, committed_of, committed_length}
use Rattle.chk_world.specs.DoneSinks.{IsGone}
use Rattle.chk_world.specs.Collectors.{View, MayRename, CollectorRule, view}
use Rattle.chk_world.specs.Rules.{Framed, Legal}
use Rattle.chk_world.specs.Laws.{collector, wrote, written_by}
use Rattle.chk_world.specs.Places.{Foreign, touched_by_stop}
use Rattle.chk_world.specs.NamedEnds.{is_sink_of, cuts_sink, stops, gives_up, gave_up}
use Rattle.chk_world.proofs.NameTests.{same_name, stem_self, stem_same, named, applied, moved_named, bridge}
use Rattle.chk_world.proofs.Outcomes.{CameTo, whole, nothing, junk, Leaves, went_on, was_stopped, leaves}
use Rattle.chk_world.proofs.OwnSteps.{Known, known_stem}
use Rattle.chk_world.proofs.Law.{who_same, holds_always, its_rule}
use Rattle.chk_world.proofs.Kept.{no_tail_fits, on_file}
use Rattle.chk_world.proofs.Stops.{no_work}
use Rattle.chk_world.proofs.DoneSinks.{stays_done}
use Rattle.chk_world.proofs.SightStays.{done_sinks_stay}
use Rattle.chk_world.proofs.Frames.{files_stay}
use Rattle.chk_world.proofs.Commits.{appended_there}

-- the file is there, of so many bytes or more
abbrev pub Long : ℕ → Option File → Type 0
Long k o = HasFile o (λ f. k ≤ length f.bytes)

long_made : (k : ℕ) (o : Option File) → Long k o → Long k (made o)
long_made k None h = absurd h
long_made k (Some f) h = h

long_grown : (k : ℕ) (piece : List ℕ) (o : Option File) → Long k o
    → Long k (option_map (grown piece) o)
long_grown k piece None h = h
long_grown k piece (Some f) h = omega (arith, h, length-append f.bytes piece)

long_secured : (k : ℕ) (o : Option File) → Long k o → Long k (option_map secured o)
long_secured k None h = h
long_secured k (Some f) h = h

where_named : (k : ℕ) (b : Bool) (g : Option File → Option File) (o : Option File)
    → ((o : Option File) → Long k o → Long k (g o))
    → Long k o → Long k (if b then g o else o)
where_named k true g o keeps h = keeps o h
where_named k false g o keeps h = h

sink_test : (x : Stem) (n : Name) → same_name (SinkFile x) n ≡ is_sink_of x n
sink_test x (SinkFile y) = refl
sink_test x (BornFile c) = refl
sink_test x (MarkFile y) = refl
sink_test x (DoneFile y) = refl
sink_test x (CheckFile source) = refl
sink_test x (BookFile folder) = refl
sink_test x (SegmentFile folder n) = refl
sink_test x (Temporary n) = refl
sink_test x (OtherFile w) = refl

-- the sink under writing has so many bytes or more, or the done one has
abbrev pub LongOrDone : Stem → ℕ → Files → Type 0
LongOrDone x k files = Long k (file files (SinkFile x)) ⊎ Long k (file files (DoneFile x))

-- a rename of a collector leaves a sink under writing, or makes it a done one
renamed : (x : Stem) (k : ℕ) (v : View) (before : Files) (old new : Name) (t : Option File)
    → file before old ≡ t
    → MayRename v before old new → Long k (file before (SinkFile x))
    → Long k (moved_named t old new (λ n. file before n) (SinkFile x)) ⊎ Long k (moved_named t old new (λ n. file before n) (DoneFile x))
renamed x k v before (Temporary (BornFile c)) (BornFile d) None is may h = inl h
renamed x k v before (Temporary (BornFile c)) (BornFile d) (Some f) is may h = inl h
renamed x k v before (Temporary (MarkFile y)) (MarkFile z) None is may h = inl h
renamed x k v before (Temporary (MarkFile y)) (MarkFile z) (Some f) is may h = inl h
renamed x k v before (Temporary n) (Temporary m) None is may h = inl h
renamed x k v before (Temporary n) (Temporary m) (Some f) is may h = inl h
renamed x k v before (SinkFile y) (DoneFile z) None is may h = inl h
renamed x k v before (SinkFile y) (DoneFile z) (Some f) is may h = go (same_stem x y) refl
  where
    go : (b : Bool) → same_stem x y ≡ b
        → Long k (if b then None else file before (SinkFile x)) ⊎ Long k (if same_stem x z then Some f else if false then None else file before (DoneFile x))
    go false e = inl h
    go true e =
        let y_is : x ≡ y = stem_same x y e in
        let there : Long k (Some f) = subst (Long k) (ap (λ z. file before (SinkFile z)) y_is ∙ is) h in
        let z_is : same_stem x z ≡ true = ap (same_stem x) (sym (y_is ∙ may.0)) ∙ stem_self x in
        inr (subst (λ b. Long k (if b then Some f else if false then None else file before (DoneFile x))) (sym z_is) there)
renamed x k v before old new t is may h = absurd may

module _ (x : Stem) (known : Known x) (k : ℕ) (history : History) (after : Files) where
  abbrev before : Files
  before n = files_after history n

  abbrev v : View
  v = view (collector x) history

  abbrev Changed : Deed → Type 0
  Changed call = (w : List ℕ) → after w ≡ changed (change_of call) (files_after history) w

  by_name : (call : Deed) (n : Name) → IsTrue (is_known n) → Changed call
      → file after n ≡ applied (named (change_of call)) (λ n. file (files_after history) n) n
  by_name call n n_known e = e (spell n) ∙ bridge (change_of call) (files_after history) n n_known

  -- a call that maps a file, longer or as it was
  maps : (call : Deed) (w : List ℕ) (g : Option File → Option File)
      → ((o : Option File) → Long k o → Long k (g o))
      → file after (SinkFile x) ≡ (if same_name (SinkFile x) (read w) then g (file (files_after history) (SinkFile x)) else file (files_after history) (SinkFile x))
      → Long k (file (files_after history) (SinkFile x)) → LongOrDone x k after
  maps call w g keeps e h =
      inl (subst (Long k) (sym e) (where_named k (same_name (SinkFile x) (read w)) g (file (files_after history) (SinkFile x)) keeps h))

  -- a call that may cut or remove another file
  apart : (w : List ℕ) (g : Option File → Option File) → is_sink_of x (read w) ≡ false
      → file after (SinkFile x) ≡ (if same_name (SinkFile x) (read w) then g (file (files_after history) (SinkFile x)) else file (files_after history) (SinkFile x))
      → Long k (file (files_after history) (SinkFile x)) → LongOrDone x k after
  apart w g other e h =
      inl (subst (Long k)
      (sym (e ∙ ap (λ b. if b then g (file (files_after history) (SinkFile x)) else file (files_after history) (SinkFile x)) (sink_test x (read w) ∙ other)))
      h)

  -- a call that changes no file
  looks : ((w : List ℕ) → after w ≡ files_after history w)
      → Long k (file (files_after history) (SinkFile x)) → LongOrDone x k after
  looks e h = inl (subst (Long k) (sym (e (spell (SinkFile x)))) h)

  moves : (old new : List ℕ) → Changed (Renames old new)
      → MayRename v (files_after history) (read old) (read new)
      → Long k (file (files_after history) (SinkFile x)) → LongOrDone x k after
  moves old new e may h = elim (renamed x k v (files_after history) (read old) (read new) (file (files_after history) (read old)) refl may h) [
    | inl there ↦ inl (subst (Long k) (sym (by_name (Renames old new) (SinkFile x) known.stem e)) there)
    | inr there ↦ inr (subst (Long k) (sym (by_name (Renames old new) (DoneFile x) known.stem e)) there)
  ]

  -- a call that took place
  took_place : (call : Deed) → Changed call → CollectorRule (collector x) history v call
      → cuts_sink x call ≡ false
      → Long k (file (files_after history) (SinkFile x)) → LongOrDone x k after
  took_place (Creates w) e may safe h = maps (Creates w) w made (long_made k) (by_name (Creates w) (SinkFile x) known.stem e) h
  took_place (Appends w piece) e may safe h =
      maps (Appends w piece) w (option_map (grown piece)) (long_grown k piece) (by_name (Appends w piece) (SinkFile x) known.stem e) h
  took_place (Syncs w) e may safe h =
      maps (Syncs w) w (option_map secured) (long_secured k) (by_name (Syncs w) (SinkFile x) known.stem e) h
  took_place (Renames old new) e may safe h = moves old new e may h
  took_place (Removes w) e may safe h = apart w (λ o. None) safe (by_name (Removes w) (SinkFile x) known.stem e) h
  took_place (Cuts w n) e may safe h = apart w (option_map (shortened n)) safe (by_name (Cuts w n) (SinkFile x) known.stem e) h
  took_place Starts e may safe h = looks e h
  took_place (ReadsLog path part at max) e may safe h = looks e h
  took_place (AsksNewest path) e may safe h = looks e h
  took_place (GrowsLog path piece) e may safe h = looks e h
  took_place (AsksSize w) e may safe h = looks e h
  took_place (Reads w at max) e may safe h = looks e h
  took_place (Lists w) e may safe h = looks e h
  took_place AsksClock e may safe h = looks e h
  took_place (Pauses n) e may safe h = looks e h
  took_place (Sends m address bytes) e may safe h = looks e h
  took_place (Gets m) e may safe h = looks e h
  took_place (Takes door wait) e may safe h = looks e h
  took_place (TakesMore t) e may safe h = looks e h
  took_place (Answers t bytes) e may safe h = looks e h
  took_place (Says bytes) e may safe h = looks e h

  came_to : (call : Deed) (done : Bool) → CameTo call done (files_after history) after
      → CollectorRule (collector x) history v call
      → cuts_sink x call ≡ false → Long k (file (files_after history) (SinkFile x))
      → LongOrDone x k after
  came_to call done (whole e) may safe h = took_place call e may safe h
  came_to call done (nothing no_work e) may safe h = looks e h
  came_to call done (junk w piece bytes is no_work e) may safe h =
      maps (Appends w bytes) w (option_map (grown bytes)) (long_grown k bytes) (by_name (Appends w bytes) (SinkFile x) known.stem e) h

  no_stop : (call : Deed) (answer : ActAnswer) → stops (collector x) true answer ≡ false
      → Leaves call answer (files_after history) after
      → CollectorRule (collector x) history v call → cuts_sink x call ≡ false
      → Long k (file (files_after history) (SinkFile x)) → LongOrDone x k after
  no_stop call answer goes (went_on none came) may safe h = came_to call (is_done answer) came may safe h
  no_stop call answer goes (was_stopped left is middle came tails) may safe h =
      absurd (true≢false (sym (ap (stops (collector x) true) is) ∙ goes))

-- a step that doesn't give the sink up
module _ (stamped : List (List ℕ)) (history : History) (step : Step)
    (legal : Legal stamped (step ∷ history)) (x : Stem) (known : Known x)
    (kept : gives_up x step ≡ false) where
  parts : (stops (collector x) (is_by (collector x) step) step.act.answer ≡ false) × (cuts_sink x (deed step.act) ≡ false)
  parts = or_parts (stops (collector x) (is_by (collector x) step) step.act.answer) (cuts_sink x (deed step.act)) kept
    where
      or_parts : (a b : Bool) → (a || b) ≡ false → (a ≡ false) × (b ≡ false)
      or_parts false b e = (refl, e)
      or_parts true b e = absurd (true≢false e)

  spared : (answer : ActAnswer) → stops (collector x) false answer ≡ false
      → touched_by_stop (collector x) answer ≡ false
  spared (Stopped left) e = e
  spared (Done words number of) e = refl
  spared (Refused fault) e = refl
  spared (Rotated suffix) e = refl
  spared (Deleted suffix) e = refl

  pub step_keeps : (k : ℕ) → Long k (file (files_after history) (SinkFile x))
      → LongOrDone x k step.files
  step_keeps k h = go (same_who (collector x) step.act.who) refl
    where
      go : (b : Bool) → same_who (collector x) step.act.who ≡ b → LongOrDone x k step.files
      go true e =
          let is = sym (who_same (collector x) step.act.who e) in
          let effect = legal.1.honest.modelled.effect in
          no_stop x known k history step.files (deed step.act) step.act.answer
          (sym (ap (λ b. stops (collector x) b step.act.answer) e) ∙ parts.0)
          (leaves (deed step.act) step.act.answer (files_after history) step.files effect.did effect.may effect.files_left)
          (its_rule x known history step (holds_always x known stamped history legal.0) stamped is legal.1.rule) parts.1 h
      go false e =
          let foreign : Foreign stamped (collector x) history step = record {
            obeys = legal.1;
            other = e;
            spares = spared step.act.answer (sym (ap (λ b. stops (collector x) b step.act.answer) e) ∙ parts.0);
          } in
          inl (subst (Long k)
          (sym (files_stay stamped (collector x) history step (SinkFile x) foreign (record { own = refl; known = known.stem }))) h)

-- ---- a done sink stays as it is, or is removed

-- the call is a removal of the done sink
abbrev removes_done : Stem → Deed → Bool
removes_done x (Removes w) = same_name (DoneFile x) (read w)
removes_done x call = false

module _ (stamped : List (List ℕ)) (history : History) (step : Step)
    (legal : Legal stamped (step ∷ history)) (x : Stem) (known : IsTrue (is_stem x)) (f : File)
    (there : file (files_after history) (DoneFile x) ≡ Some f) where
  abbrev Shut : Files → Type 0
  Shut files = (file files (DoneFile x) ≡ Some f) ⊎ (file files (DoneFile x) ≡ None)

  no_append : (w n piece : List ℕ) → ◌≡◌ {A = Deed} (Removes w) (Appends n piece) → ⊥
  no_append w n piece e = cc

  removed_by : (w : List ℕ) (done : Bool) (after : Files) → same_name (DoneFile x) (read w) ≡ true
      → CameTo (Removes w) done (files_after history) after → Shut after
  removed_by w done after e (whole left) =
      inr (left (spell (DoneFile x)) ∙ (bridge (Gone w) (files_after history) (DoneFile x) known
      ∙ ap (λ b. if b then None else file (files_after history) (DoneFile x)) e))
  removed_by w done after e (nothing no_work left) = inl (left (spell (DoneFile x)) ∙ there)
  removed_by w done after e (junk n piece bytes is no_work left) = absurd (no_append w n piece is)

  is_whole : IsWhole f
  is_whole = subst (λ o. OnFile o IsWhole) there
      (on_file (file (files_after history) (DoneFile x)) (λ g h. h.done.whole)
      (holds_always x (known_stem x known) stamped history legal.0).files.of_done)

  after_removal : (w : List ℕ) (answer : ActAnswer) → same_name (DoneFile x) (read w) ≡ true
      → Framed step.act.who (files_after history) (Removes w)
      → Leaves (Removes w) answer (files_after history) step.files → Shut step.files
  after_removal w answer e framed (went_on none came) = removed_by w (is_done answer) step.files e came
  after_removal w answer e framed (was_stopped left is middle came tails) = elim (removed_by w false middle e came) [
    | inl still ↦ inl ((tails (spell (DoneFile x))).0
        ∙ (no_tail_fits (file middle (DoneFile x)) (tail_of left (spell (DoneFile x)))
        (subst (λ o. OnFile o IsWhole) (sym still) is_whole)
        (subst (λ n. TailFits n (tail_of left (spell (DoneFile x))) (file middle (DoneFile x)))
        (no_work step.act.who (files_after history) (Removes w) (DoneFile x) known refl framed)
        (tails (spell (DoneFile x))).1) ∙ still))
    | inr gone ↦ inr ((tails (spell (DoneFile x))).0 ∙ ap (option_map (with_tail (tail_of left (spell (DoneFile x))))) gone)
  ]

  pub shut_or_gone : Shut step.files
  shut_or_gone = go (deed step.act) refl (removes_done x (deed step.act)) refl
    where
      effect_left : Leaves (deed step.act) step.act.answer (files_after history) step.files
      effect_left =
          let e = legal.1.honest.modelled.effect in
          leaves (deed step.act) step.act.answer (files_after history) step.files e.did e.may e.files_left

      go : (call : Deed) → deed step.act ≡ call → (b : Bool) → removes_done x (deed step.act) ≡ b
          → Shut step.files
      go call is false e =
          inl (stays_done stamped history step legal x known f there
          (λ w is. sym (ap (removes_done x) is) ∙ e))
      go (Removes w) is true e =
          after_removal w step.act.answer (sym (ap (removes_done x) is) ∙ e)
          (subst (Framed step.act.who (files_after history)) is legal.1.own_files)
          (subst (λ c. Leaves c step.act.answer (files_after history) step.files) is effect_left)
      go call is true e = absurd (true≢false (sym e ∙ ap (removes_done x) is))

-- What was written to the sink stands in it, or in the done sink, or was committed and the done
-- sink is gone, or there is nothing.
abbrev pub StandsWhole : Stem → History → Type 0
StandsWhole x history =
    (length (wrote x history) ≡ 0) ⊎ (Long (length (wrote x history)) (file (files_after history) (SinkFile x))
    ⊎ (Long (length (wrote x history)) (file (files_after history) (DoneFile x))
    ⊎ (Ever (λ front. length (wrote x history) ≤ committed_length (files_after front) x) history × IsGone history x)))

pub done_is_committed : (k : ℕ) (shut mark : Option File) → Long k shut → k ≤ committed_of shut mark
done_is_committed k None mark h = absurd h
done_is_committed k (Some f) mark h = h

pub ever_now : (P : History → Type 0) (history : History) → P history → Ever P history
ever_now P [] h = h
ever_now P (step ∷ history) h = inl h

pub stands_whole : (stamped : List (List ℕ)) (history : History) → Legal stamped history
    → (x : Stem) → IsTrue (is_stem x)
    → gave_up x history ≡ false → StandsWhole x history
stands_whole stamped [] legal x is kept = inl refl
stands_whole stamped (step ∷ history) legal x is kept =
    go (cases_lt 0 (length (written_by x (deed step.act) step.act.answer))) (nat_lt 0 (length (wrote x history))) refl
    (stands_whole stamped history legal.0 x is later.1)
  where
    or_parts : (a b : Bool) → (a || b) ≡ false → (a ≡ false) × (b ≡ false)
    or_parts false b e = (refl, e)
    or_parts true b e = absurd (true≢false e)

    later : ((nat_lt 0 (length (wrote x history)) && gives_up x step) ≡ false) × (gave_up x history ≡ false)
    later = or_parts (nat_lt 0 (length (wrote x history)) && gives_up x step) (gave_up x history) kept

    now : ℕ
    now = length (wrote x (step ∷ history))

    not_both : (a b : Bool) → (a && b) ≡ false → a ≡ true → b ≡ false
    not_both true b e is = e
    not_both false b e is = absurd (true≢false (sym is))

    no_less : (n : ℕ) → nat_lt 0 n ≡ false → n ≡ 0
    no_less n e = grind (arith, e)

    shut_on : (o : Option File) → file (files_after history) (DoneFile x) ≡ o → Long now o
        → StandsWhole x (step ∷ history)
    shut_on None there h = absurd h
    shut_on (Some f) there h = elim (shut_or_gone stamped history step legal x is f there) [
      | inl still ↦ inr (inr (inl (subst (Long now) (sym still) h)))
      | inr gone ↦ inr (inr (inr (
        inr (ever_now (λ front. now ≤ committed_length (files_after front) x) history
            (done_is_committed now (file (files_after history) (DoneFile x)) (file (files_after history) (MarkFile x))
            (subst (Long now) (sym there) h))),
        (done_sinks_stay stamped history step legal x is).goes f there gone,
      )))
    ]

    stood : now ≡ length (wrote x history) → nat_lt 0 (length (wrote x history)) ≡ true
        → StandsWhole x history → StandsWhole x (step ∷ history)
    stood same some (inl none) = inl (same ∙ none)
    stood same some (inr (inr (inr gone))) =
        inr (inr (inr (
          inr (subst (λ k. Ever (λ front. k ≤ committed_length (files_after front) x) history) (sym same) gone.0),
          (done_sinks_stay stamped history step legal x is).gone gone.1,
        )))
    stood same some (inr (inr (inl shut))) =
        shut_on (file (files_after history) (DoneFile x)) refl
        (subst (λ k. Long k (file (files_after history) (DoneFile x))) (sym same) shut)
    stood same some (inr (inl there)) =
        elim (step_keeps stamped history step legal x (known_stem x is)
        (not_both (nat_lt 0 (length (wrote x history))) (gives_up x step) later.0 some) now
        (subst (λ k. Long k (file (files_after history) (SinkFile x))) (sym same) there)) [
          | inl long ↦ inr (inl long)
          | inr shut ↦ inr (inr (inl shut))
        ]

    long_at : (o : Option File) (k : ℕ) → HasFile o (λ f. length f.bytes ≡ k) → Long k o
    long_at None k h = h
    long_at (Some f) k h = omega (arith, h)

    go : (0 < length (written_by x (deed step.act) step.act.answer)) ⊎ (length (written_by x (deed step.act) step.act.answer) ≤ 0)
        → (b : Bool) → nat_lt 0 (length (wrote x history)) ≡ b → StandsWhole x history
        → StandsWhole x (step ∷ history)
    go (inl some) b e before =
        inr (inl (long_at (file step.files (SinkFile x)) now (appended_there stamped history step legal x is some)))
    go (inr none) true e before =
        stood (omega (arith, none, length-append (wrote x history) (written_by x (deed step.act) step.act.answer))) e before
    go (inr none) false e before =
        inl (let z = no_less (length (wrote x history)) e in
        omega (arith, none, z, length-append (wrote x history) (written_by x (deed step.act) step.act.answer)))
