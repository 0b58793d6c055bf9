-- From the bytes of the file to its lines.
use Rattle.std.proofs.Common.{◌≡◌, inl, inr, ℕ, Bool, false, ◌||◌, List, [], ◌∷◌, ◌++◌, Option, Some, None, refl, ap, sym, subst, ◌∙◌, true≢false, Result, Ok, Err, bytes_eq}
use Rattle.std.specs.Prelude.{IsTrue, IsFalse, unwrap_or}
use Rattle.std.proofs.lemmas.Bool.{and_parts, and_from, false_from_ne_true}
use Rattle.std.proofs.lemmas.List.{append_cancel_right}
use Rattle.std.proofs.lemmas.Option.{none-some, same_Some}
use Rattle.chk_site.specs.declared.acts.Role.{Role}
use Rattle.chk_site.specs.declared.acts.Role.TheVariants.{Agent}
use Rattle.chk_site.specs.declared.acts.Who.{Who}
use Rattle.chk_site.specs.declared.acts.OutsideFault.{OutsideFault}
use Rattle.chk_site.specs.declared.acts.OutsideFault.TheVariants.{Outside as site_failed, NoMemory as no_memory}
use Rattle.chk_site.specs.declared.acts.ActAnswer.{ActAnswer}
use Rattle.chk_site.specs.declared.acts.ActAnswer.TheVariants.{Done, Refused, Stopped, Rotated, Deleted}
use Rattle.chk_site.specs.Files.{File}
use Rattle.chk_site.specs.Effect.{IsSmallFile}
use Rattle.chk_site.specs.Acts.{Deed, Creates, Appends, Syncs, Renames, Removes, Cuts, deed, touches, tail_in}
use Rattle.chk_site.specs.History.{Step, History, Every, Others, files_after, AllModelled}
use Rattle.chk_site.specs.declared.acts.Call.{Call}
use Rattle.chk_site.specs.Site.{Adds, LastFailed, OutsideCause}
use Rattle.chk_site.specs.Runs.{anyhow, Leads, Owns}
use Rattle.chk_site.proofs.Leads.{leads_as, owned_anyhow}
use Rattle.chk_site.proofs.Runs.{adds_as}
use Rattle.chk_site.proofs.Small.{all_small}
use Rattle.chk_replace.specs.Replace.{LeavesFile}
use Rattle.chk_replace.specs.Load.{Has, Loaded, IsLook}
use Rattle.chk_world.specs.Names.{Name, CheckFile, read, spell, owns, is_source}
use Rattle.chk_world.specs.Checkpoints.{Line, Two, fits_version, are_lines, lines_in}
use Rattle.std.specs.List.{list_all}
use Rattle.std.specs.Prelude.{IfOk}
use Rattle.chk_world.proofs.SpelledLemmas.{checkpoint_so, all_fit_two as all_fit}
use Rattle.chk_checkpoint.proofs.SeenLemmas.{lines_parts, lines_from}
use Rattle.chk_world.specs.Committed.{OnFile}
use Rattle.chk_world.specs.Laws.{IsCheckpointFile}
use Rattle.chk_world.specs.Rules.{Framed, Legal}
use Rattle.chk_world.specs.Places.{Foreign, IsBy, IsOwn, As, touched_by_stop}
use Rattle.chk_world.specs.Knowing.{agent}
use Rattle.chk_world.proofs.Ends.{bytes_same, bytes_self}
use Rattle.chk_world.proofs.NameLemmas.{read-spell}
use Rattle.chk_world.proofs.NameTests.{same_name, name_self}
use Rattle.chk_world.proofs.Frames.{apart, apart_removed}
use Rattle.chk_world.proofs.Stops.{no_tail}
use Rattle.chk_world.proofs.SmallFiles.{readable}
use Rattle.chk_world.proofs.ToldCalls.{talks, talks_by}
use Rattle.chk_checkpoint.specs.declared.Checkpoint.{Checkpoint}
use Rattle.chk_checkpoint.specs.declared.fault.CheckFault.{CheckFault}
use Rattle.chk_checkpoint.specs.declared.fault.CheckFault.TheVariants.{Damaged, Outside, NoMemory}
use Rattle.chk_checkpoint.specs.Faults.{check_fault, CheckCause, FailsLast}
use Rattle.std.specs.Prelude.{true}
use Rattle.chk_checkpoint.specs.Lines.{lines_of}
use Rattle.chk_checkpoint.specs.Damage.{IsReading}
use Rattle.chk_checkpoint.specs.Loads.{IsReadingOf, IsSound, LoadedLines}
use Rattle.chk_world.proofs.LogEnds.{legal_modelled as all_modelled}

-- lines that were read may be written
pub may_be_written : (text : List ℕ) (r : Result Checkpoint CheckFault) → IsReading text r → IfOk r (λ check. IsTrue (are_lines Two (lines_of check)))
may_be_written text (Ok check) reading =
    let so = checkpoint_so text (lines_of check) reading in
    let p = lines_parts so.0 (lines_of check) so.1 in
    lines_from Two (lines_of check) (record { few = p.few; lines_are = p.lines_are; fit = all_fit (lines_of check); apart = p.apart })
may_be_written text (Err fault) reading = tt

by_bytes : (name : List ℕ) (file : Option File) (given : Option (List ℕ)) (r : Result Checkpoint CheckFault) → IsReadingOf given r
    → (h : History) → Loaded name file (Ok given) h → LoadedLines name file r h
by_bytes name file given (Ok check) reading h x = (x.0, subst (λ o. IsReadingOf o (Ok check)) x.1 reading)
by_bytes name file given (Err (Damaged at)) reading h x = (x.0, subst (λ o. IsReadingOf o (Err (Damaged at))) x.1 reading)
by_bytes name file given (Err (Outside call)) reading h x = tt
by_bytes name file given (Err NoMemory) reading h x = tt

-- the file was read whole
pub lines_loaded : (name : List ℕ) (file : Option File) (given : Option (List ℕ)) (r : Result Checkpoint CheckFault) → IsReadingOf given r
    → {old new : Option History} → Adds old new (Leads (anyhow (LeavesFile name)) (Has name file) (Loaded name file (Ok given)))
    → Adds old new (Leads (anyhow (LeavesFile name)) (Has name file) (LoadedLines name file r))
lines_loaded name file given r reading told = leads_as (λ h a. a) (by_bytes name file given r reading) told

-- lines that were read of a file may be written
pub lines_may_be_written : (given : Option (List ℕ)) (r : Result Checkpoint CheckFault) → IsReadingOf given r
    → IfOk r (λ check. IsTrue (are_lines Two (lines_of check)))
lines_may_be_written (Some text) r reading = may_be_written text r reading
lines_may_be_written None (Ok check) reading = subst (λ ls. IsTrue (are_lines Two ls)) (sym reading) refl
lines_may_be_written None (Err fault) reading = tt

-- a reading is no call that failed
no_call : (given : Option (List ℕ)) (call : Call) → IsReadingOf given (Err (Outside call)) → ⊥
no_call None call reading = reading
no_call (Some text) call reading = reading

pub none_failed : (given : Option (List ℕ)) (r : Result Checkpoint CheckFault) → IsReadingOf given r
    → (added history : History) → FailsLast r added history
none_failed given (Ok check) reading added history = tt
none_failed given (Err (Damaged at)) reading added history = tt
none_failed given (Err (Outside call)) reading added history = absurd (no_call given call reading)
none_failed given (Err NoMemory) reading added history = tt

pub none_counted : (given : Option (List ℕ)) (r : Result Checkpoint CheckFault) → IsReadingOf given r → (before now : ℕ) → now ≡ before
    → CheckCause before now r
none_counted given (Ok check) reading before now e = e
none_counted given (Err (Damaged at)) reading before now e = e
none_counted given (Err (Outside call)) reading before now e = absurd (no_call given call reading)
none_counted given (Err NoMemory) reading before now e = e

-- a load may be told of any name that is equal
pub loaded_as : (a b : List ℕ) → a ≡ b → (file : Option File) (r : Result Checkpoint CheckFault) {old new : Option History}
    → Adds old new (Leads (anyhow (LeavesFile a)) (Has a file) (LoadedLines a file r))
    → Adds old new (Leads (anyhow (LeavesFile b)) (Has b file) (LoadedLines b file r))
loaded_as a b e file r {old = old} {new = new} told =
    subst (λ (w : List ℕ). Adds old new (Leads (anyhow (LeavesFile w)) (Has w file) (LoadedLines w file r))) e told

pub looks_as : (who : Who) (a b : List ℕ) → a ≡ b → {old new : Option History} → Adds old new (Every (IsLook who a))
    → Adds old new (Every (IsLook who b))
looks_as who a b e {old = old} {new = new} told = subst (λ (w : List ℕ). Adds old new (Every (IsLook who w))) e told

-- without memory for the name nothing was begun
pub none_begun : (name : List ℕ) (file : Option File) {old : Option History}
    → Adds old old (Leads (anyhow (LeavesFile name)) (Has name file) (LoadedLines name file (Err NoMemory)))
none_begun name file = record {
  told = λ history e. ([], e, record { leads = λ others has. tt; own = tt });
  untold = λ e. e;
}

-- ---- where the load failed

nothing_said : (name : List ℕ) (file : Option File) (fault : OutsideFault) (h : History) → LoadedLines name file (Err (check_fault fault)) h
nothing_said name file (site_failed call) h = tt
nothing_said name file no_memory h = tt

pub none_loaded : (name : List ℕ) (file : Option File) (fault : OutsideFault) {old new : Option History}
    → Adds old new (Leads (anyhow (LeavesFile name)) (Has name file) (Loaded name file (Err fault)))
    → Adds old new (Leads (anyhow (LeavesFile name)) (Has name file) (LoadedLines name file (Err (check_fault fault))))
none_loaded name file fault told = leads_as (λ h a. a) (λ h a. nothing_said name file fault h) told

same_last : (fault : OutsideFault) (added history : History) → LastFailed {T = Option (List ℕ)} (Err fault) added history
    → FailsLast {T = Checkpoint} (Err (check_fault fault)) added history
same_last (site_failed call) added history last = last
same_last no_memory added history last = tt

pub fails_last : (fault : OutsideFault) {old new : Option History} → Adds old new (LastFailed {T = Option (List ℕ)} (Err fault))
    → Adds old new (FailsLast {T = Checkpoint} (Err (check_fault fault)))
fails_last fault told = adds_as (FailsLast {T = Checkpoint} (Err (check_fault fault))) told (same_last fault)

pub same_cause : (fault : OutsideFault) (before now : ℕ) → OutsideCause {T = Option (List ℕ)} before now (Err fault)
    → CheckCause {T = Checkpoint} before now (Err (check_fault fault))
same_cause (site_failed call) before now cause = cause
same_cause no_memory before now cause = cause

-- ---- over legal histories

own_looks : (me : Who) (name : List ℕ) (added history : History) → Every (IsLook me name) added history → Owns (IsBy me) added history
own_looks me name [] history looks = tt
own_looks me name (step ∷ added) history looks = (
  own_looks me name added history looks.0,
  λ mine. elim looks.1 [
    | inl theirs ↦ absurd (true≢false (sym mine ∙ theirs.0))
    | inr r ↦ record {
      by = r.by;
      running = r.running;
      quiet = talks_by step.act.call step.act.words step.act.number step.act.max ∙ ap talks r.asks;
    }
  ],
)

module _ (stamped : List (List ℕ)) (source : List ℕ) (known : IsTrue (is_source source)) where
  abbrev me : Who
  me = agent source

  abbrev n : Name
  n = CheckFile source

  mine : IsOwn me n
  mine = record { own = refl; known = known }

  other_name : (w : List ℕ) → same_name n (read w) ≡ false → bytes_eq (spell n) w ≡ false
  other_name w apart =
      false_from_ne_true (bytes_eq (spell n) w) (λ e.
      true≢false
      (sym (name_self n) ∙ (ap (same_name n) (sym (read-spell n known) ∙ ap read (bytes_same (spell n) w e)) ∙ apart)))

  either : (a b : Bool) → a ≡ false → b ≡ false → (a || b) ≡ false
  either a b p q = ap (λ x. x || b) p ∙ q

  untouched : (before : History) (step : Step) → Foreign stamped me before step → (call : Deed) → Framed step.act.who (files_after before) call
      → touches call (spell n) ≡ false
  untouched before step f (Creates w) framed = other_name w (apart me step.act.who f.obeys.named f.other n mine (read w) (and_parts _ _ framed).0)
  untouched before step f (Appends w piece) framed = other_name w (apart me step.act.who f.obeys.named f.other n mine (read w) (and_parts _ _ framed).0)
  untouched before step f (Syncs w) framed = other_name w (apart me step.act.who f.obeys.named f.other n mine (read w) framed)
  untouched before step f (Renames old new) framed =
      let both = and_parts (owns step.act.who (read old)) (owns step.act.who (read new)) framed.0 in
      either (bytes_eq (spell n) new) (bytes_eq (spell n) old)
      (other_name new (apart me step.act.who f.obeys.named f.other n mine (read new) both.1))
      (other_name old (apart me step.act.who f.obeys.named f.other n mine (read old) both.0))
  untouched before step f (Removes w) framed = other_name w (apart_removed me step.act.who f.obeys.named f.other n mine (read w) framed)
  untouched before step f (Cuts w k) framed = other_name w (apart me step.act.who f.obeys.named f.other n mine (read w) (and_parts _ _ framed).0)
  untouched before step f call framed = refl

  no_tail_left : (answer : ActAnswer) → IsFalse (touched_by_stop me answer) → tail_in answer (spell n) ≡ None
  no_tail_left (Stopped left) spares = no_tail me left n known (and_from _ _ (bytes_self source) refl) spares
  no_tail_left (Done words number of) spares = refl
  no_tail_left (Refused fault) spares = refl
  no_tail_left (Rotated suffix) spares = refl
  no_tail_left (Deleted suffix) spares = refl

  others_leave : (added history : History) → Others (Foreign stamped me) added history → Others (LeavesFile (spell n)) added history
  others_leave [] history others = tt
  others_leave (step ∷ added) history others = (
    others_leave added history others.0,
    λ theirs. let f = others.1 theirs in record {
      untouched = untouched (added ++ history) step f (deed step.act) f.obeys.own_files;
      no_tail = no_tail_left step.act.answer f.spares;
    },
  )

  -- a checkpoint of a legal history is read, so it isn't damaged
  sound_by : (file : Option File) → OnFile file IsCheckpointFile → (r : Result Checkpoint CheckFault) (h : History) → LoadedLines (spell n) file r h → IsSound source r h
  sound_by None whole (Ok check) h x = ap lines_in x.0 ∙ sym x.1
  sound_by (Some f) whole (Ok check) h x = ap lines_in x.0 ∙ ap (λ o. unwrap_or o []) x.1
  sound_by None whole (Err (Damaged at)) h x = absurd x.1
  sound_by (Some f) whole (Err (Damaged at)) h x = none-some whole.lines (sym x.1.none ∙ whole.is)
  sound_by file whole (Err (Outside call)) h x = tt
  sound_by file whole (Err NoMemory) h x = tt

  pub sound_load : (r : Result Checkpoint CheckFault) {old new : Option History}
      → ((file : Option File) → IsSmallFile file → Adds old new (Leads (anyhow (LeavesFile (spell n))) (Has (spell n) file) (LoadedLines (spell n) file r)))
      → Adds old new (Every (IsLook me (spell n))) → Adds old new (Leads (As stamped me) (Legal stamped) (IsSound source r))
  sound_load r whole looks = record {
    told = λ history e.
        let y = looks.told history e in
        let f = files_after history (spell n) in (
          y.0,
          y.1,
          record {
            leads = λ others legal.
                let small = (all_small history (all_modelled stamped history legal)).files (spell n) in
                let w = (whole f small).told history e in
                let same : w.0 ≡ y.0 = append_cancel_right w.0 y.0 history (same_Some (w.0 ++ history) (y.0 ++ history) (sym w.1 ∙ y.1)) in
                let led = subst (λ (a : History). Leads (anyhow (LeavesFile (spell n))) (Has (spell n) f) (LoadedLines (spell n) f r) a history) same w.2 in
                sound_by f ((readable stamped history legal).checkpoints source known) r (y.0 ++ history)
                (led.leads (others_leave y.0 history others) refl);
            own = own_looks me (spell n) y.0 history y.2;
          },
        );
    untold = looks.untold;
  }

pub sound_by_role : (stamped : List (List ℕ)) (who : Who) → who.role ≡ Agent → IsTrue (is_source who.name) → (name : List ℕ)
    → name ≡ spell (CheckFile who.name) → (r : Result Checkpoint CheckFault) → {old new : Option History}
    → ((file : Option File) → IsSmallFile file → Adds old new (Leads (anyhow (LeavesFile name)) (Has name file) (LoadedLines name file r)))
    → Adds old new (Every (IsLook who name)) → Adds old new (Leads (As stamped who) (Legal stamped) (IsSound who.name r))
sound_by_role stamped who role known name e r {old = old} {new = new} whole looks =
    let at : Role → Who = λ (r : Role). record { role = r; name = who.name } in
    let as_agent : who ≡ agent who.name = ap at role in
    subst (λ (w : Who). Adds old new (Leads (As stamped w) (Legal stamped) (IsSound who.name r))) (sym as_agent)
    (sound_load stamped who.name known r
    (λ file small.
    subst (λ (w : List ℕ). Adds old new (Leads (anyhow (LeavesFile w)) (Has w file) (LoadedLines w file r))) e (whole file small))
    (subst (λ (w : Who). Adds old new (Every (IsLook w (spell (CheckFile who.name))))) as_agent
    (subst (λ (w : List ℕ). Adds old new (Every (IsLook who w))) e looks)))

pub sound_failed : (stamped : List (List ℕ)) (who : Who) → who.role ≡ Agent → IsTrue (is_source who.name) → (name : List ℕ)
    → name ≡ spell (CheckFile who.name) → (fault : OutsideFault) → {old new : Option History}
    → Adds old new (Every (IsLook who name)) → Adds old new (Leads (As stamped who) (Legal stamped) (IsSound who.name (Err (check_fault fault))))
sound_failed stamped who role known name e fault looks =
    sound_by_role stamped who role known name e (Err (check_fault fault))
    (λ file small.
    adds_as (Leads (anyhow (LeavesFile name)) (Has name file) (LoadedLines name file (Err (check_fault fault)))) looks
    (λ added history x. record { leads = λ s h. nothing_said name file fault (added ++ history); own = owned_anyhow added history }))
    looks
