-- Each legal step but the job's removal of it leaves a done sink as it is, and one that is gone
-- stays gone.
use Rattle.std.proofs.Common.{◌≡◌, inr, ℕ, ◌+◌, ◌<◌, Bool, true, false, ◌&&◌, not, List, ◌∷◌, length, Option, Some, None, option_map, ap, sym, subst, ◌∙◌, refl, arith, true≢false, if◌then◌else◌, length-append}
use Rattle.std.specs.Prelude.{IsTrue}
use Rattle.std.proofs.lemmas.Bool.{and_parts, false_from_ne_true}
use Rattle.chk_bytes.specs.Stems.{Stem, is_stem}
use Rattle.chk_site.specs.declared.acts.Role.{Role}
use Rattle.chk_site.specs.declared.acts.Role.TheVariants.{Agent, Collector, Job, Writer}
use Rattle.chk_site.specs.declared.acts.Who.{Who}
use Rattle.chk_site.specs.Files.{File, Files, Grown, made, grown, secured, shortened}
use Rattle.chk_site.specs.Acts.{Deed, Starts, ReadsLog, AsksNewest, GrowsLog, Creates, Appends, Syncs, Renames, Removes, Cuts, AsksSize, Reads, Lists, AsksClock, Pauses, Sends, Gets, Takes, TakesMore, Answers, Says, deed, change_of, is_done, tail_of}
use Rattle.chk_site.specs.Effect.{with_tail, TailFits}
use Rattle.chk_site.specs.History.{Step, History, files_after}
use Rattle.chk_world.specs.Names.{Name, BornFile, SinkFile, MarkFile, DoneFile, CheckFile, BookFile, SegmentFile, Temporary, OtherFile, read, spell, file, is_known, owns, owns_by}
use Rattle.chk_world.specs.Committed.{OnFile, IsAbsent, IsWhole}
use Rattle.chk_world.specs.Collectors.{CollectorRule, SinkNamesFresh, View, view}
use Rattle.chk_world.specs.Rules.{Framed, Legal, RoleMay, RenameFits, is_fixed, is_sink}
use Rattle.chk_world.specs.Laws.{collector, wrote, written_by}
use Rattle.chk_world.specs.DoneSinks.{IsGone}
use Rattle.chk_world.proofs.NameTests.{same_name, name_same, named, applied, moved_named, bridge}
use Rattle.chk_world.proofs.Outcomes.{CameTo, whole, nothing, junk, Leaves, went_on, was_stopped, leaves}
use Rattle.chk_world.proofs.Kept.{sync_same, no_tail_fits, on_file}
use Rattle.chk_world.proofs.Stops.{no_work}
use Rattle.chk_world.proofs.Ends.{bytes_same}
use Rattle.chk_world.proofs.OwnSteps.{known_stem}
use Rattle.chk_world.proofs.Law.{holds_always}

pub none_is : (o : Option File) → IsAbsent o → o ≡ None
none_is None a = refl
none_is (Some f) a = absurd a

-- beside a done sink none is under writing
pub no_sink_beside : (stamped : List (List ℕ)) (history : History) → Legal stamped history
    → (x : Stem) → IsTrue (is_stem x) → (f : File)
    → file (files_after history) (DoneFile x) ≡ Some f
    → file (files_after history) (SinkFile x) ≡ None
no_sink_beside stamped history legal x known f there =
    let inv = holds_always x (known_stem x known) stamped history legal in
    none_is (file (files_after history) (SinkFile x)) (subst (λ o. OnFile o (λ g. IsAbsent (file (files_after history) (SinkFile x)))) there
    (on_file (file (files_after history) (DoneFile x)) (λ g h. h.no_sink) inv.files.of_done))

fixed_apart : (n m : Name) → is_fixed n ≡ true → not (is_fixed m) ≡ true → same_name n m ≡ false
fixed_apart n m fixed loose =
    false_from_ne_true (same_name n m) (λ e. both (is_fixed m) (ap is_fixed (sym (name_same n m e)) ∙ fixed) loose)
  where
    both : (b : Bool) → b ≡ true → not b ≡ true → ⊥
    both true e k = true≢false (sym k)
    both false e k = true≢false (sym e)

to_sink : (before : Files) (old : Name) (x : Stem) → RenameFits before old (SinkFile x) → ⊥
to_sink before (SinkFile y) x h = true≢false (ap is_sink h)
to_sink before (BornFile c) x h = h
to_sink before (MarkFile y) x h = h
to_sink before (DoneFile y) x h = h
to_sink before (CheckFile source) x h = h
to_sink before (BookFile folder) x h = h
to_sink before (SegmentFile folder k) x h = h
to_sink before (Temporary m) x h = h
to_sink before (OtherFile w) x h = h

abbrev stem_in : Stem → Name → Stem
stem_in y (DoneFile z) = z
stem_in y n = y

to_done : (before : Files) (old : Name) (x : Stem) → RenameFits before old (DoneFile x)
    → old ≡ SinkFile x
to_done before (SinkFile y) x h = ap SinkFile (sym (ap (stem_in y) h))
to_done before (BornFile c) x h = absurd h
to_done before (MarkFile y) x h = absurd h
to_done before (DoneFile y) x h = absurd h
to_done before (CheckFile source) x h = absurd h
to_done before (BookFile folder) x h = absurd h
to_done before (SegmentFile folder k) x h = absurd h
to_done before (Temporary m) x h = absurd h
to_done before (OtherFile w) x h = absurd h

from_done : (before : Files) (x : Stem) (new : Name) → RenameFits before (DoneFile x) new → ⊥
from_done before x new h = h

module _ (n : Name) (known : IsTrue (is_known n)) (before : Files) where
  pub mapped : (m : Name) (g : Option File → Option File) → same_name n m ≡ false
      → (if same_name n m then g (file before n) else file before n) ≡ file before n
  mapped m g e = ap (λ b. if b then g (file before n) else file before n) e

  moved_away : (old new : Name) (t : Option File) → same_name n old ≡ false
      → same_name n new ≡ false → moved_named t old new (file before) n ≡ file before n
  moved_away old new None p q = refl
  moved_away old new (Some f) p q =
      ap (λ b. if b then Some f else if same_name n old then None else file before n) q ∙ ap (λ b. if b then None else file before n) p

  none_moved : (old new : Name) (t : Option File) → t ≡ None
      → moved_named t old new (file before) n ≡ file before n
  none_moved old new None e = refl
  none_moved old new (Some f) e = absurd (cc)

  -- where the call by itself leaves the file, and no other bytes are appended to it
  pub came_same : (call : Deed) (d : Bool) (after : Files) → CameTo call d before after
      → applied (named (change_of call)) (file before) n ≡ file before n
      → ((v piece : List ℕ) → call ≡ Appends v piece → same_name n (read v) ≡ false)
      → file after n ≡ file before n
  came_same call d after (whole e) same apart = e (spell n) ∙ bridge (change_of call) before n known ∙ same
  came_same call d after (nothing not_done e) same apart = e (spell n)
  came_same call d after (junk v piece bytes is not_done e) same apart =
      e (spell n) ∙ bridge (Grown v bytes) before n known ∙ mapped (read v) (option_map (grown bytes)) (apart v piece is)

-- ---- a done sink

module _ (stamped : List (List ℕ)) (history : History) (step : Step)
    (legal : Legal stamped (step ∷ history)) (x : Stem) (known : IsTrue (is_stem x))
    (no_sink : file (files_after history) (SinkFile x) ≡ None)
    (kept : (w : List ℕ) → deed step.act ≡ Removes w
    → (if same_name (DoneFile x) (read w) then None else file (files_after history) (DoneFile x)) ≡ file (files_after history)
    (DoneFile x)) where
  abbrev D : Name
  D = DoneFile x

  abbrev fb : Files
  fb = files_after history

  whole_before : OnFile (file fb D) IsWhole
  whole_before =
      let inv = holds_always x (known_stem x known) stamped history legal.0 in
      on_file (file fb D) (λ g h. h.done.whole) inv.files.of_done

  free : (w : List ℕ) → IsTrue (owns step.act.who (read w) && not (is_fixed (read w)))
      → same_name D (read w) ≡ false
  free w framed = fixed_apart D (read w) refl (and_parts (owns step.act.who (read w)) (not (is_fixed (read w))) framed).1

  renames_same : (old new : List ℕ) → RenameFits fb (read old) (read new)
      → moved_named (file fb (read old)) (read old) (read new) (file fb) D ≡ file fb D
  renames_same old new fits = go (same_name D (read new)) refl
    where
      not_old : same_name D (read old) ≡ false
      not_old = false_from_ne_true (same_name D (read old)) (λ e.
          from_done fb x (read new) (subst (λ m. RenameFits fb m (read new)) (sym (name_same D (read old) e)) fits))

      go : (b : Bool) → same_name D (read new) ≡ b
          → moved_named (file fb (read old)) (read old) (read new) (file fb) D ≡ file fb D
      go true e =
          let from : read old ≡ SinkFile x = to_done fb (read old) x (subst (RenameFits fb (read old)) (sym (name_same D (read new) e)) fits) in
          none_moved D known fb (read old) (read new) (file fb (read old)) (ap (file fb) from ∙ no_sink)
      go false e = moved_away D known fb (read old) (read new) (file fb (read old)) not_old e

  call_same : (call : Deed) → deed step.act ≡ call → Framed step.act.who fb call
      → applied (named (change_of call)) (file fb) D ≡ file fb D
  call_same (Creates w) is framed = mapped D known fb (read w) made (free w framed)
  call_same (Appends w piece) is framed = mapped D known fb (read w) (option_map (grown piece)) (free w framed)
  call_same (Cuts w k) is framed = mapped D known fb (read w) (option_map (shortened k)) (free w framed)
  call_same (Syncs w) is framed = sync_same (same_name D (read w)) (file fb D) whole_before
  call_same (Removes w) is framed = kept w is
  call_same (Renames old new) is framed = renames_same old new framed.1
  call_same Starts is framed = refl
  call_same (ReadsLog path part at max) is framed = refl
  call_same (AsksNewest path) is framed = refl
  call_same (GrowsLog path piece) is framed = refl
  call_same (AsksSize w) is framed = refl
  call_same (Reads w at max) is framed = refl
  call_same (Lists w) is framed = refl
  call_same AsksClock is framed = refl
  call_same (Pauses k) is framed = refl
  call_same (Sends m address bytes) is framed = refl
  call_same (Gets m) is framed = refl
  call_same (Takes door wait) is framed = refl
  call_same (TakesMore t) is framed = refl
  call_same (Answers t bytes) is framed = refl
  call_same (Says bytes) is framed = refl

  no_junk : (v piece : List ℕ) → deed step.act ≡ Appends v piece → same_name D (read v) ≡ false
  no_junk v piece is = free v (subst (Framed step.act.who fb) is legal.1.own_files)

  left_same : Leaves (deed step.act) step.act.answer fb step.files → file step.files D ≡ file fb D
  left_same (went_on no_stop came) =
      came_same D known fb (deed step.act) (is_done step.act.answer) step.files came (call_same (deed step.act) refl legal.1.own_files) no_junk
  left_same (was_stopped left is middle came tails) =
      let there = came_same D known fb (deed step.act) false middle came (call_same (deed step.act) refl legal.1.own_files) no_junk in
      let fits : TailFits 0 (tail_of left (spell D)) (file middle D) =
      subst (λ k. TailFits k (tail_of left (spell D)) (file middle D)) (no_work step.act.who fb (deed step.act) D known refl legal.1.own_files) (tails (spell D)).1 in
      (tails (spell D)).0 ∙ no_tail_fits (file middle D) (tail_of left (spell D)) (subst (λ o. OnFile o IsWhole) (sym there) whole_before) fits ∙ there

  pub done_same : file step.files (DoneFile x) ≡ file (files_after history) (DoneFile x)
  done_same =
      let e = legal.1.honest.modelled.effect in
      left_same (leaves (deed step.act) step.act.answer fb step.files e.did e.may e.files_left)

-- ---- a sink that is gone

module _ (stamped : List (List ℕ)) (history : History) (step : Step)
    (legal : Legal stamped (step ∷ history)) (x : Stem) (known : IsTrue (is_stem x))
    (wrote_some : 0 < length (wrote x history)) (none : file (files_after history) (SinkFile x) ≡ None) where
  abbrev S : Name
  S = SinkFile x

  abbrev before : Files
  before = files_after history

  none_mapped : (b : Bool) (g : File → File)
      → (if b then option_map g (file before S) else file before S) ≡ file before S
  none_mapped true g = ap (option_map g) none ∙ sym none
  none_mapped false g = refl

  none_removed : (b : Bool) → (if b then None else file before S) ≡ file before S
  none_removed true = sym none
  none_removed false = refl

  same_owner : (who : Who) → owns who (SinkFile x) ≡ true → who ≡ collector x
  same_owner who mine = go who.role refl mine
    where
      go : (role : Role) → who.role ≡ role → owns_by role who.name (SinkFile x) ≡ true
          → who ≡ collector x
      go Collector e mine = λ i. record { role = e i; name = (bytes_same who.name x.collector mine) i }
      go Agent e mine = absurd (true≢false (sym mine))
      go Job e mine = absurd (true≢false (sym mine))
      go Writer e mine = absurd (true≢false (sym mine))

  -- a stem that was used isn't made again
  used : (v : View) → v ≡ view (collector x) history → SinkNamesFresh v (SinkFile x) → ⊥
  used v is fresh =
      let inv = holds_always x (known_stem x known) stamped history legal.0 in
      let born : (view (collector x) history).born ≡ Some x.born = subst (λ (v : View). v.born ≡ Some x.born) is fresh.0 in
      let made : x.number ≡ (view (collector x) history).made + 1 = subst (λ (v : View). x.number ≡ v.made + 1) is fresh.1 in
      let nothing_yet = inv.unwritten (inr (born, omega (arith, made))) in
      let size : length (wrote x history) ≡ 0 = ap length nothing_yet in
      omega (arith, wrote_some, size)

  no_create : (w : List ℕ) → deed step.act ≡ Creates w
      → IsTrue (owns step.act.who (read w) && not (is_fixed (read w)))
      → same_name S (read w) ≡ false
  no_create w is framed =
      false_from_ne_true (same_name S (read w)) (λ e.
      let to : read w ≡ S = sym (name_same S (read w) e) in
      let who = same_owner step.act.who (subst (λ m. owns step.act.who m ≡ true) to (and_parts (owns step.act.who (read w)) (not (is_fixed (read w))) framed).0) in
      let its : CollectorRule (collector x) history (view (collector x) history) (deed step.act) =
      subst (λ k. CollectorRule k history (view k history) (deed step.act)) who
      (subst (λ r. RoleMay stamped r history step) (ap (λ (k : Who). k.role) who) legal.1.rule) in
      used (view (collector x) history) refl
      (subst (SinkNamesFresh (view (collector x) history)) to (subst (CollectorRule (collector x) history (view (collector x) history)) is its)))

  renames_none : (old new : List ℕ) → RenameFits before (read old) (read new) → (t : Option File)
      → moved_named t (read old) (read new) (file before) S ≡ file before S
  renames_none old new fits None = refl
  renames_none old new fits (Some f) =
      let not_new : same_name S (read new) ≡ false = false_from_ne_true (same_name S (read new)) (λ e.
      to_sink before (read old) x (subst (RenameFits before (read old)) (sym (name_same S (read new) e)) fits)) in
      ap (λ b. if b then Some f else if same_name S (read old) then None else file before S) not_new ∙ none_removed (same_name S (read old))

  call_none : (call : Deed) → deed step.act ≡ call → Framed step.act.who before call
      → applied (named (change_of call)) (file before) S ≡ file before S
  call_none (Creates w) is framed = mapped S known before (read w) made (no_create w is framed)
  call_none (Appends w piece) is framed = none_mapped (same_name S (read w)) (grown piece)
  call_none (Cuts w k) is framed = none_mapped (same_name S (read w)) (shortened k)
  call_none (Syncs w) is framed = none_mapped (same_name S (read w)) secured
  call_none (Removes w) is framed = none_removed (same_name S (read w))
  call_none (Renames old new) is framed = renames_none old new framed.1 (file before (read old))
  call_none Starts is framed = refl
  call_none (ReadsLog path part at max) is framed = refl
  call_none (AsksNewest path) is framed = refl
  call_none (GrowsLog path piece) is framed = refl
  call_none (AsksSize w) is framed = refl
  call_none (Reads w at max) is framed = refl
  call_none (Lists w) is framed = refl
  call_none AsksClock is framed = refl
  call_none (Pauses k) is framed = refl
  call_none (Sends m address bytes) is framed = refl
  call_none (Gets m) is framed = refl
  call_none (Takes door wait) is framed = refl
  call_none (TakesMore t) is framed = refl
  call_none (Answers t bytes) is framed = refl
  call_none (Says bytes) is framed = refl

  came_none : (d : Bool) (after : Files) → CameTo (deed step.act) d before after
      → file after S ≡ None
  came_none d after (whole e) =
      e (spell S) ∙ bridge (change_of (deed step.act)) before S known ∙ (call_none (deed step.act) refl legal.1.own_files ∙ none)
  came_none d after (nothing not_done e) = e (spell S) ∙ none
  came_none d after (junk v piece bytes is not_done e) =
      e (spell S) ∙ bridge (Grown v bytes) before S known ∙ (none_mapped (same_name S (read v)) (grown bytes) ∙ none)

  left_none : Leaves (deed step.act) step.act.answer before step.files → file step.files S ≡ None
  left_none (went_on no_stop came) = came_none (is_done step.act.answer) step.files came
  left_none (was_stopped left is middle came tails) = (tails (spell S)).0 ∙ ap (option_map (with_tail (tail_of left (spell S)))) (came_none false middle came)

  pub sink_gone : file step.files (SinkFile x) ≡ None
  sink_gone =
      let e = legal.1.honest.modelled.effect in
      left_none (leaves (deed step.act) step.act.answer before step.files e.did e.may e.files_left)

-- ---- both

-- what is gone stays gone
pub stays_gone : (stamped : List (List ℕ)) (history : History) (step : Step)
    → Legal stamped (step ∷ history) → (x : Stem) → IsTrue (is_stem x)
    → IsGone history x → IsGone (step ∷ history) x
stays_gone stamped history step legal x known g = record {
  wrote_some = let more = length-append (wrote x history) (written_by x (deed step.act) step.act.answer) in let some = g.wrote_some in omega (arith, more, some);
  sink = sink_gone stamped history step legal x known g.wrote_some g.sink;
  done = done_same stamped history step legal x known g.sink (λ w is. removed_none (same_name (DoneFile x) (read w)) g.done) ∙ g.done;
}
  where
    removed_none : (b : Bool) → file (files_after history) (DoneFile x) ≡ None
        → (if b then None else file (files_after history) (DoneFile x)) ≡ file (files_after history)
        (DoneFile x)
    removed_none true e = sym e
    removed_none false e = refl

-- a done sink stays as it is over a step that doesn't remove it
pub stays_done : (stamped : List (List ℕ)) (history : History) (step : Step)
    → Legal stamped (step ∷ history) → (x : Stem) → IsTrue (is_stem x)
    → (f : File) → file (files_after history) (DoneFile x) ≡ Some f
    → ((w : List ℕ) → deed step.act ≡ Removes w → same_name (DoneFile x) (read w) ≡ false)
    → file step.files (DoneFile x) ≡ Some f
stays_done stamped history step legal x known f there kept =
    done_same stamped history step legal x known (no_sink_beside stamped history legal.0 x known f there)
    (λ w is. ap (λ b. if b then None else file (files_after history) (DoneFile x)) (kept w is)) ∙ there
