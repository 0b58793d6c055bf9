-- A replacement of one of a process's small files by its script, whichever file and process it is.
use Rattle.std.proofs.Common.{◌≡◌, ℕ, true, false, ◌&&◌, ◌||◌, not, List, [], ◌∷◌, ◌++◌, codes, length, Ok, Err, Option, Some, None, Result, ap, sym, subst, ◌∙◌, refl, true≢false, if◌then◌else◌, option_map}
use Rattle.std.specs.Prelude.{IsTrue}
use Rattle.std.proofs.lemmas.Bool.{and_from}
use Rattle.chk_site.specs.declared.acts.Role.{Role}
use Rattle.chk_site.specs.declared.acts.Role.TheVariants.{Agent, Collector, Job, Writer}
use Rattle.chk_site.specs.declared.acts.Who.{Who}
use Rattle.chk_site.specs.declared.acts.Call.TheVariants.{Create, Append, Sync, Rename, Remove}
use Rattle.chk_site.specs.declared.acts.CallFault.TheVariants.{Failed, Missing}
use Rattle.chk_site.specs.declared.acts.OutsideFault.{OutsideFault}
use Rattle.chk_site.specs.declared.acts.ActAnswer.{ActAnswer}
use Rattle.chk_site.specs.declared.acts.ActAnswer.TheVariants.{Done, Refused}
use Rattle.chk_site.specs.Files.{File, Files, made, grown, secured}
use Rattle.chk_site.specs.Logs.{Logs}
use Rattle.chk_site.specs.Acts.{Deed, Creates, Appends, Syncs, Renames, Removes, deed, change_of, is_done}
use Rattle.chk_site.specs.History.{Step, History, files_after, logs_after}
use Rattle.chk_site.specs.Honest.{Honest}
use Rattle.chk_site.specs.Site.{Adds, Asked, asked, own_step, plain, WasDone}
use Rattle.chk_site.specs.Runs.{Leads, MadeInTurn}
use Rattle.chk_site.proofs.Leads.{AllOwned, script_then, script_end}
use Rattle.chk_replace.specs.Replace.{tmp, replacement}
use Rattle.chk_world.specs.Names.{Name, BornFile, SinkFile, MarkFile, DoneFile, CheckFile, BookFile, SegmentFile, Temporary, OtherFile, read, spell, file, is_known, owns, is_done_sink}
use Rattle.chk_world.specs.Committed.{OnFile, IsWhole}
use Rattle.chk_world.specs.Collectors.{CollectorRule, view}
use Rattle.chk_world.specs.Agents.{AgentRule}
use Rattle.chk_world.specs.Jobs.{JobRule}
use Rattle.chk_world.specs.Rules.{Framed, OnlyWritersGrowLogs, OnlyAgentsPost, WriterRule, RoleMay, Legal, RenameFits, is_small, is_named_so, is_sink, is_fixed, may_remove}
use Rattle.chk_world.specs.Places.{As, AtTold, Place, SeenAt, AtPlace, IsPlace}
use Rattle.chk_world.proofs.NameLemmas.{read-spell}
use Rattle.chk_world.proofs.NameTests.{same_name, name_self, named, applied, moved_named}
use Rattle.chk_world.proofs.Frames.{owns_own}
use Rattle.chk_world.proofs.PlacesStay.{Stays, SightStays, seen_stays}
use Rattle.chk_world.proofs.ToldCalls.{Allowed, owned, LeavesCall, MayHonestly, told_done, told_ends, honest_done, honest_ends, told_less}
use Rattle.chk_world.proofs.OwnFiles.{done_file, refused_file, done_present, MissedOrDone, was_done, was_missing, missed_or_done, done_absent}

-- a small file n, and a file a, which may be n itself
abbrev pub around : {V : Type 0} → Who → (History → V) → Name → Name → Place V
around who sees a n = record { who = who; sees = sees; first = a; second = Temporary n; third = n }

pub record Target {V : Type 0} (stamped : List (List ℕ)) (who : Who) (sees : History → V) (a n : Name) : Type 0 where
  pub place : IsPlace (around who sees a n)
  pub sight : SightStays stamped (around who sees a n)
  pub small : is_small n ≡ true
  pub apart_next : same_name a (Temporary n) ≡ false

-- the files of a replacement, where what is known of them stays for a reason that is told apart
pub record Aim {V : Type 0} (who : Who) (sees : History → V) (a n : Name) : Type 0 where
  pub place : IsPlace (around who sees a n)
  pub small : is_small n ≡ true
  pub apart_next : same_name a (Temporary n) ≡ false

-- the calls of a replacement before its rename, on the next content's word
pub data OnNext (w : List ℕ) : Deed → Type 0 where
  on_remove : OnNext w (Removes w)
  on_create : OnNext w (Creates w)
  on_append : (bytes : List ℕ) → OnNext w (Appends w bytes)
  on_sync : OnNext w (Syncs w)

-- an answer after which a replacement goes on
abbrev pub Went : Deed → ActAnswer → Type 0
Went call (Done words number of) = Unit {0}
Went (Removes w) (Refused Missing) = Unit {0}
Went call answer = ⊥

abbrev pub file_of : List ℕ → ℕ → Option File
file_of bytes synced = Some (record { bytes = bytes; synced = synced })

abbrev pub settled : List ℕ → Option File
settled bytes = file_of bytes (length bytes)

-- F of what is seen, of the file a and of the file n, and U of n's next content
pub record Next {V : Type 0} (F : V → Option File → Option File → Type 0) (U : Option File → Type 0) (v : V) (s t m : Option File) : Type 0 where
  pub base : F v s m
  pub next : U t

abbrev pub anything : Option File → Type 0
anything t = Unit {0}

abbrev pub is_file : Option File → Option File → Type 0
is_file o t = t ≡ o

went_done : (call : Deed) (answer : ActAnswer) → is_done answer ≡ true → Went call answer
went_done call (Done words number of) is = tt
went_done call (Refused fault) is = absurd (true≢false (sym is))
went_done call _ is = absurd (true≢false (sym is))

small_apart : (n : Name) → is_small n ≡ true → (same_name n (Temporary n) ≡ false) × (same_name (Temporary n) n ≡ false)
small_apart (BornFile c) e = (refl, refl)
small_apart (MarkFile x) e = (refl, refl)
small_apart (CheckFile source) e = (refl, refl)
small_apart (BookFile folder) e = (refl, refl)
small_apart (SinkFile x) e = (refl, refl)
small_apart (DoneFile x) e = (refl, refl)
small_apart (SegmentFile folder k) e = (refl, refl)
small_apart (OtherFile w) e = (refl, refl)
small_apart (Temporary m) e = absurd (true≢false (sym e))

pub small_no_sink : (n : Name) → is_small n ≡ true → (is_sink n || is_done_sink n) ≡ false
small_no_sink (BornFile c) e = refl
small_no_sink (MarkFile x) e = refl
small_no_sink (CheckFile source) e = refl
small_no_sink (BookFile folder) e = refl
small_no_sink (SinkFile x) e = absurd (true≢false (sym e))
small_no_sink (DoneFile x) e = absurd (true≢false (sym e))
small_no_sink (SegmentFile folder k) e = refl
small_no_sink (OtherFile w) e = refl
small_no_sink (Temporary m) e = absurd (true≢false (sym e))

-- what holds at the end
abbrev pub EndedAt : {V : Type 0} → Who → (History → V) → Name → Name → (V → Type 0)
    → (V → Option File → Option File → Option File → Type 0) → Result (Unit {0}) OutsideFault → History → Type 0
EndedAt who sees a n R G (Ok value) history = SeenAt (around who sees a n) G history
EndedAt who sees a n R G (Err fault) history = SeenAt (around who sees a n) (λ v s t m. R v) history

-- the rules of all roles allow these calls
module _ (stamped : List (List ℕ)) (n : Name) (w : List ℕ) (reads : read w ≡ Temporary n) where
  next_framed : (who : Who) (before : Files) (call : Deed) → owns who n ≡ true → OnNext w call → Framed who before call
  next_framed who before call mine on_remove = subst (λ m. IsTrue (may_remove who m)) (sym reads) (and_from _ _ mine refl)
  next_framed who before call mine on_create = subst (λ m. IsTrue (owns who m && not (is_fixed m))) (sym reads) (and_from _ _ mine refl)
  next_framed who before call mine (on_append bytes) = subst (λ m. IsTrue (owns who m && not (is_fixed m))) (sym reads) (and_from _ _ mine refl)
  next_framed who before call mine on_sync = subst (λ m. IsTrue (owns who m)) (sym reads) mine

  next_asks : (role : Role) (call : Deed) → OnNext w call → OnlyAgentsPost role call
  next_asks Agent call on = tt
  next_asks Collector call on_remove = tt
  next_asks Collector call on_create = tt
  next_asks Collector call (on_append bytes) = tt
  next_asks Collector call on_sync = tt
  next_asks Job call on_remove = tt
  next_asks Job call on_create = tt
  next_asks Job call (on_append bytes) = tt
  next_asks Job call on_sync = tt
  next_asks Writer call on_remove = tt
  next_asks Writer call on_create = tt
  next_asks Writer call (on_append bytes) = tt
  next_asks Writer call on_sync = tt

  next_collector : (who : Who) (history : History) (call : Deed) → OnNext w call → CollectorRule who history (view who history) call
  next_collector who history call on_remove = rw reads tt
  next_collector who history call on_create = rw reads tt
  next_collector who history call (on_append bytes) = rw reads tt
  next_collector who history call on_sync = tt

  next_agent : (who : Who) (history : History) (step : Step) (call : Deed) → OnNext w call → AgentRule who history step call
  next_agent who history step call on_remove = tt
  next_agent who history step call on_create = tt
  next_agent who history step call (on_append bytes) = tt
  next_agent who history step call on_sync = tt

  next_job : (history : History) (call : Deed) → OnNext w call → JobRule stamped history call
  next_job history call on_remove = rw reads (refl, tt)
  next_job history call on_create = rw reads (refl, tt)
  next_job history call (on_append bytes) = rw reads (refl, tt)
  next_job history call on_sync = rw reads (refl, tt)

  next_writer : (files : Files) (logs : Logs) (call : Deed) (answer : ActAnswer) → OnNext w call → WriterRule files logs call answer
  next_writer files logs call answer on_remove = tt
  next_writer files logs call answer on_create = tt
  next_writer files logs call answer (on_append bytes) = tt
  next_writer files logs call answer on_sync = tt

  next_logs : (role : Role) (call : Deed) → OnNext w call → OnlyWritersGrowLogs role call
  next_logs role call on_remove = tt
  next_logs role call on_create = tt
  next_logs role call (on_append bytes) = tt
  next_logs role call on_sync = tt

  next_rule : (role : Role) (history : History) (step : Step) → OnNext w (deed step.act) → RoleMay stamped role history step
  next_rule Collector history step on = next_collector step.act.who history (deed step.act) on
  next_rule Agent history step on = next_agent step.act.who history step (deed step.act) on
  next_rule Job history step on = next_job history (deed step.act) on
  next_rule Writer history step on = next_writer (files_after history) (logs_after history) (deed step.act) step.act.answer on

  -- before its rename each call is allowed
  next_allowed : (who : Who) → owns who n ≡ true → (history : History) (step : Step) → step.act.who ≡ who → OnNext w (deed step.act)
      → Allowed stamped history step
  next_allowed who mine history step by on = record {
    own_files = next_framed step.act.who (files_after history) (deed step.act) (subst (λ (k : Who). owns k n ≡ true) (sym by) mine) on;
    logs = next_logs step.act.who.role (deed step.act) on;
    requests = next_asks step.act.who.role (deed step.act) on;
    rule = next_rule step.act.who.role history step on;
  }

-- the rename of a small file's next content to it fits
rename_fits : (before : Files) (n : Name) → is_small n ≡ true → OnFile (file before (Temporary n)) IsWhole → RenameFits before (Temporary n) n
rename_fits before n small sound =
    rw (small_no_sink n small, small) (refl, sound)

rename_asks : (role : Role) (old new : List ℕ) → OnlyAgentsPost role (Renames old new)
rename_asks Agent old new = tt
rename_asks Collector old new = tt
rename_asks Job old new = tt
rename_asks Writer old new = tt

whole_settled : (bytes : List ℕ) (o : Option File) → o ≡ settled bytes → OnFile o IsWhole
whole_settled bytes o e = subst (λ o. OnFile o IsWhole) (sym e) refl

-- What is to be known of F, of what is left where a call fails, and of G, which holds once n is replaced. w is the word of n's next
-- content, and `name` that of n.
pub record Replaces {V : Type 0} (stamped : List (List ℕ)) (who : Who) (sees : History → V) (a n : Name) (w name bytes : List ℕ)
    (F : V → Option File → Option File → Type 0) (R : V → Type 0) (G : V → Option File → Option File → Option File → Type 0) : Type 0 where
  pub keeps : (before : History) (step : Step) (s m : Option File) → step.act.who ≡ who → OnNext w (deed step.act)
      → Went (deed step.act) step.act.answer → Legal stamped (step ∷ before) → F (sees before) s m → F (sees (step ∷ before)) s m
  pub less : (v : V) (s m : Option File) → F v s m → R v
  pub fails : (before : History) (step : Step) (s m : Option File) → step.act.who ≡ who → OnNext w (deed step.act)
      → step.act.answer ≡ Refused Failed → Legal stamped (step ∷ before) → F (sees before) s m → R (sees (step ∷ before))
  pub rename_fails : (before : History) (step : Step) (s m : Option File) → step.act.who ≡ who → deed step.act ≡ Renames w name
      → step.act.answer ≡ Refused Failed → Legal stamped (step ∷ before) → F (sees before) s m → R (sees (step ∷ before))
  pub at_last : (v : V) (s t m : Option File) → G v s t m → R v
  pub may : (before : History) (step : Step) → step.act.who ≡ who → deed step.act ≡ Renames w name → Honest before step → Legal stamped before
      → F (sees before) (file (files_after before) a) (file (files_after before) n) → file (files_after before) (Temporary n) ≡ settled bytes
      → RoleMay stamped step.act.who.role before step
  pub renamed : (before : History) (step : Step) → step.act.who ≡ who → deed step.act ≡ Renames w name → is_done step.act.answer ≡ true
      → Legal stamped (step ∷ before) → F (sees before) (file (files_after before) a) (file (files_after before) n)
      → file (files_after before) (Temporary n) ≡ settled bytes → (same_name a n ≡ false → file step.files a ≡ file (files_after before) a)
      → file step.files (Temporary n) ≡ None → file step.files n ≡ settled bytes
      → G (sees (step ∷ before)) (file step.files a) (file step.files (Temporary n)) (file step.files n)

module _ {V : Type 0} (stamped : List (List ℕ)) (who : Who) (sees : History → V) (a n : Name) (target : Aim who sees a n)
    (w name bytes : List ℕ) (w_is : w ≡ spell (Temporary n)) (name_is : name ≡ spell n)
    (F : V → Option File → Option File → Type 0) (R : V → Type 0) (G : V → Option File → Option File → Option File → Type 0)
    (known : Replaces stamped who sees a n w name bytes F R G)
    (stays : (U : Option File → Type 0) → Stays stamped who (SeenAt (around who sees a n) (Next F U))) where
  abbrev T : Name
  T = Temporary n

  abbrev P : Place V
  P = around who sees a n

  abbrev At : (Option File → Type 0) → History → Type 0
  At U history = SeenAt P (Next F U) history

  reads : read w ≡ Temporary n
  reads = ap read w_is ∙ read-spell (Temporary n) target.place.second.known

  reads_name : read name ≡ n
  reads_name = ap read name_is ∙ read-spell n target.place.third.known

  word_file : (files : Files) → files w ≡ file files (Temporary n)
  word_file files = ap files w_is

  mine : owns who n ≡ true
  mine = owns_own who.role who.name n target.place.third.own

  -- a call on the next content leaves the others
  left_alone : (call : Deed) (files : Name → Option File) (m : Name) → same_name m (Temporary n) ≡ false → OnNext w call
      → applied (named (change_of call)) files m ≡ files m
  left_alone call files m e on_remove = rw (reads, e) refl
  left_alone call files m e on_create = rw (reads, e) refl
  left_alone call files m e (on_append bytes) = rw (reads, e) refl
  left_alone call files m e on_sync = rw (reads, e) refl

  -- the next state, by what became of the three files
  next_at : (before : History) (step : Step) (U W : Option File → Type 0) → step.act.who ≡ who → OnNext w (deed step.act)
      → Went (deed step.act) step.act.answer → Legal stamped (step ∷ before)
      → file step.files a ≡ file (files_after before) a → file step.files n ≡ file (files_after before) n → W (file step.files (Temporary n))
      → At U before → At W (step ∷ before)
  next_at before step U W by on went legal sa sn next h = record {
    base = subst (λ o. F (sees (step ∷ before)) o (file step.files n)) (sym sa)
        (subst (λ o. F (sees (step ∷ before)) (file (files_after before) a) o) (sym sn)
        (known.keeps before step (file (files_after before) a) (file (files_after before) n) by on went legal h.base));
    next = next;
  }

  -- where it was done
  done_at : (before : History) (step : Step) (U W : Option File → Type 0) → step.act.who ≡ who → OnNext w (deed step.act)
      → is_done step.act.answer ≡ true → Legal stamped (step ∷ before)
      → W (applied (named (change_of (deed step.act))) (file (files_after before)) (Temporary n)) → At U before → At W (step ∷ before)
  done_at before step U W by on is legal next h =
      let honest = legal.1.honest in
      let at : (m : Name) → IsTrue (is_known m) → _ = λ m k. done_file before step m honest is k in
      next_at before step U W by on (went_done (deed step.act) step.act.answer is) legal
      (at a target.place.first.known ∙ left_alone (deed step.act) (file (files_after before)) a target.apart_next on)
      (at n target.place.third.known ∙ left_alone (deed step.act) (file (files_after before)) n (small_apart n target.small).0 on)
      (subst W (sym (at (Temporary n) target.place.second.known)) next) h

  -- on the next content itself
  on_next_file : (g : Option File → Option File) (files : Name → Option File)
      → (if same_name (Temporary n) (read w) then g (files (Temporary n)) else files (Temporary n)) ≡ g (files (Temporary n))
  on_next_file g files = rw (reads, name_self n) refl

  abbrev Removing : Asked
  Removing = asked who Remove (w ∷ []) 0 0

  abbrev Creating : Asked
  Creating = asked who Create (w ∷ []) 0 0

  abbrev Appending : Asked
  Appending = asked who Append (w ∷ bytes ∷ []) 0 0

  abbrev Syncing : Asked
  Syncing = asked who Sync (w ∷ []) 0 0

  abbrev Renaming : Asked
  Renaming = asked who Rename (w ∷ name ∷ []) 0 0

  remove_leaves : LeavesCall stamped Removing target.place.named (At anything) WasDone (At (is_file None))
  remove_leaves before answer files logs was legal h = go (missed_or_done answer (files_after before w) was legal.1.honest.agrees)
    where
      go : MissedOrDone answer (files_after before w) → At (is_file None) (own_step Removing answer files logs ∷ before)
      go (was_done is) =
          done_at before (own_step Removing answer files logs) anything (is_file None) refl on_remove is legal
          (on_next_file (λ o. None) (file (files_after before))) h
      go (was_missing is none) =
          let step = own_step Removing answer files logs in
          let honest = legal.1.honest in
          let same : (m : Name) → file files m ≡ file (files_after before) m = λ m. refused_file before step m honest was (ap is_done is) in
          next_at before step anything (is_file None) refl on_remove (subst (Went (Removes w)) (sym is) tt) legal
          (same a) (same n) (same (Temporary n) ∙ (sym (word_file (files_after before)) ∙ none)) h

  create_leaves : LeavesCall stamped Creating target.place.named (At (is_file None)) WasDone (At (is_file (file_of [] 0)))
  create_leaves before answer files logs was legal h =
      let none : files_after before w ≡ None = word_file (files_after before) ∙ h.next in
      let is = done_absent answer (files_after before w) was legal.1.honest.agrees none in
      done_at before (own_step Creating answer files logs) (is_file None) (is_file (file_of [] 0)) refl on_create is legal
      (on_next_file made (file (files_after before)) ∙ ap made h.next) h

  append_leaves : LeavesCall stamped Appending target.place.named (At (is_file (file_of [] 0))) WasDone (At (is_file (file_of bytes 0)))
  append_leaves before answer files logs was legal h =
      let there = word_file (files_after before) ∙ h.next in
      let is = done_present answer (files_after before w) was legal.1.honest.agrees (record { bytes = []; synced = 0 }) there in
      done_at before (own_step Appending answer files logs) (is_file (file_of [] 0)) (is_file (file_of bytes 0)) refl (on_append bytes) is legal
      (on_next_file (option_map (grown bytes)) (file (files_after before)) ∙ ap (option_map (grown bytes)) h.next) h

  sync_leaves : LeavesCall stamped Syncing target.place.named (At (is_file (file_of bytes 0))) WasDone (At (is_file (settled bytes)))
  sync_leaves before answer files logs was legal h =
      let there = word_file (files_after before) ∙ h.next in
      let is = done_present answer (files_after before w) was legal.1.honest.agrees (record { bytes = bytes; synced = 0 }) there in
      done_at before (own_step Syncing answer files logs) (is_file (file_of bytes 0)) (is_file (settled bytes)) refl on_sync is legal
      (on_next_file (option_map secured) (file (files_after before)) ∙ ap (option_map secured) h.next) h

  rename_leaves : LeavesCall stamped Renaming target.place.named (At (is_file (settled bytes))) WasDone (SeenAt P G)
  rename_leaves before answer files logs was legal h =
      let step = own_step Renaming answer files logs in
      let fb : Name → Option File = file (files_after before) in
      let there = word_file (files_after before) ∙ h.next in
      let is = done_present answer (files_after before w) was legal.1.honest.agrees (record { bytes = bytes; synced = length bytes }) there in
      let T = Temporary n in
      let moves : (m : Name) → IsTrue (is_known m) → file files m ≡ moved_named (settled bytes) T n fb m =
      λ m k. done_file before step m legal.1.honest is k
      ∙ (ap (λ o. moved_named (fb o) o (read name) fb m) reads
      ∙ (ap (λ o. moved_named (fb T) T o fb m) reads_name ∙ ap (λ o. moved_named o T n fb m) h.next)) in
      let sides = small_apart n target.small in
      known.renamed before step refl refl is legal h.base h.next
      (λ apart. moves a target.place.first.known ∙ rw (apart, target.apart_next) refl)
      (moves T target.place.second.known ∙ rw (sides.1, name_self n) refl)
      (moves n target.place.third.known ∙ rw (name_self n) refl)

  abbrev Rest : History → Type 0
  Rest history = SeenAt P (λ v s t m. R v) history

  next_fails : (call : Deed) → OnNext w call → (U : Option File → Type 0) (before : History) (step : Step) → step.act.who ≡ who
      → deed step.act ≡ call → step.act.answer ≡ Refused Failed → Legal stamped (step ∷ before) → At U before → Rest (step ∷ before)
  next_fails call on U before step by is failed legal h =
      known.fails before step (file (files_after before) a) (file (files_after before) n) by (subst (OnNext w) (sym is) on) failed legal h.base

  rename_may : MayHonestly stamped Renaming target.place.named (At (is_file (settled bytes)))
  rename_may before answer files logs honest legal h = record {
    own_files = (
      subst (λ m. IsTrue (owns who m && owns who (read name))) (sym reads)
          (subst (λ m. IsTrue (owns who (Temporary n) && owns who m)) (sym reads_name) (and_from _ _ mine mine)),
      subst (λ m. RenameFits (files_after before) m (read name)) (sym reads)
          (subst (λ m. RenameFits (files_after before) (Temporary n) m) (sym reads_name)
          (rename_fits (files_after before) n target.small (whole_settled bytes (file (files_after before) (Temporary n)) h.next))),
    );
    logs = tt;
    requests = rename_asks who.role w name;
    rule = known.may before (own_step Renaming answer files logs) refl refl honest legal h.base h.next;
  }

  abbrev Ended : Result (Unit {0}) OutsideFault → History → Type 0
  Ended result history = EndedAt who sees a n R G result history

  less_told : (U : Option File → Type 0) (history : History) → AtTold stamped who (At U) history → AtTold stamped who Rest history
  less_told U history h = told_less stamped Removing target.place.named (At U) Rest (λ g x. known.less _ _ _ x.base) history h

  -- the calls in turn
  pub replaced_by : {result : Result (Unit {0}) OutsideFault} {old new : Option History}
      → MadeInTurn (Removing ∷ Creating ∷ Appending ∷ Syncing ∷ Renaming ∷ []) result old new
      → Adds old new (Leads (As stamped who) (AtTold stamped who (At anything)) (AtTold stamped who (Ended result)))
  replaced_by script =
      let B : Result (Unit {0}) OutsideFault → History → Type 0 = λ r h. AtTold stamped who (Ended r) h in
      let so = target.place.named in
      let less : (U : Option File → Type 0) (history : History) → At U history → Rest history = λ U history x. known.less _ _ _ x.base in
      let allowed : (before : History) (step : Step) → step.act.who ≡ who → OnNext w (deed step.act) → Allowed stamped before step =
      λ before step by on. next_allowed stamped n w reads who mine before step by on in
      script_then (AtTold stamped who (At (is_file None))) B
      (λ given mid is call. told_done stamped Removing so (At anything) (At (is_file None)) given (stays anything)
      (λ before answer files logs legal h. allowed before (own_step Removing answer files logs) refl on_remove) remove_leaves is call)
      (λ given fault is call. told_ends stamped Removing so (At anything) (λ f. Rest) plain given fault (stays anything)
      (λ before answer files logs legal h. allowed before (own_step Removing answer files logs) refl on_remove)
      (λ before answer files logs e legal h. next_fails (Removes w) on_remove anything before (own_step Removing answer files logs) refl refl e legal h)
      (less anything) is call)
      (less_told anything)
      (λ mid. script_then (AtTold stamped who (At (is_file (file_of [] 0)))) B
      (λ given mid is call. told_done stamped Creating so (At (is_file None)) (At (is_file (file_of [] 0))) given (stays (is_file None))
      (λ before answer files logs legal h. allowed before (own_step Creating answer files logs) refl on_create) create_leaves is call)
      (λ given fault is call. told_ends stamped Creating so (At (is_file None)) (λ f. Rest) plain given fault (stays (is_file None))
      (λ before answer files logs legal h. allowed before (own_step Creating answer files logs) refl on_create)
      (λ before answer files logs e legal h. next_fails (Creates w) on_create (is_file None) before (own_step Creating answer files logs) refl refl e legal h)
      (less (is_file None)) is call)
      (less_told (is_file None))
      (λ mid. script_then (AtTold stamped who (At (is_file (file_of bytes 0)))) B
      (λ given mid is call. told_done stamped Appending so (At (is_file (file_of [] 0))) (At (is_file (file_of bytes 0))) given
      (stays (is_file (file_of [] 0)))
      (λ before answer files logs legal h. allowed before (own_step Appending answer files logs) refl (on_append bytes)) append_leaves is call)
      (λ given fault is call. told_ends stamped Appending so (At (is_file (file_of [] 0))) (λ f. Rest) plain given fault
      (stays (is_file (file_of [] 0)))
      (λ before answer files logs legal h. allowed before (own_step Appending answer files logs) refl (on_append bytes))
      (λ before answer files logs e legal h.
      next_fails (Appends w bytes) (on_append bytes) (is_file (file_of [] 0)) before (own_step Appending answer files logs) refl refl e legal h)
      (less (is_file (file_of [] 0))) is call)
      (less_told (is_file (file_of [] 0)))
      (λ mid. script_then (AtTold stamped who (At (is_file (settled bytes)))) B
      (λ given mid is call. told_done stamped Syncing so (At (is_file (file_of bytes 0))) (At (is_file (settled bytes))) given
      (stays (is_file (file_of bytes 0)))
      (λ before answer files logs legal h. allowed before (own_step Syncing answer files logs) refl on_sync) sync_leaves is call)
      (λ given fault is call. told_ends stamped Syncing so (At (is_file (file_of bytes 0))) (λ f. Rest) plain given fault
      (stays (is_file (file_of bytes 0)))
      (λ before answer files logs legal h. allowed before (own_step Syncing answer files logs) refl on_sync)
      (λ before answer files logs e legal h.
      next_fails (Syncs w) on_sync (is_file (file_of bytes 0)) before (own_step Syncing answer files logs) refl refl e legal h)
      (less (is_file (file_of bytes 0))) is call)
      (less_told (is_file (file_of bytes 0)))
      (λ mid. script_then (AtTold stamped who (SeenAt P G)) B
      (λ given mid is call. honest_done stamped Renaming so (At (is_file (settled bytes))) (SeenAt P G) given
      (stays (is_file (settled bytes))) rename_may rename_leaves is call)
      (λ given fault is call. honest_ends stamped Renaming so (At (is_file (settled bytes))) (λ f. Rest) plain given fault
      (stays (is_file (settled bytes))) rename_may
      (λ before answer files logs e legal h.
      known.rename_fails before (own_step Renaming answer files logs) (file (files_after before) a) (file (files_after before) n) refl refl e legal h.base)
      (less (is_file (settled bytes))) is call)
      (less_told (is_file (settled bytes)))
      (λ mid. script_end B
      (λ h x. told_less stamped Renaming so (SeenAt P G) Rest (λ g y. known.at_last _ _ _ _ y) h x) (λ h x. x)))))) script

-- a replacement of the file n, told by its script
pub next_word : (name : List ℕ) (n : Name) → name ≡ spell n → tmp name ≡ spell (Temporary n)
unfolding spell
next_word name n e = ap (λ l. l ++ codes ".tmp") e

-- each call of a replacement is made as its process promises
pub replacement_owned : (stamped : List (List ℕ)) (who : Who) → IsTrue (is_named_so who.role who.name) → (name bytes : List ℕ)
    → AllOwned (As stamped who).own (replacement who name bytes)
replacement_owned stamped who named name bytes = (
  owned stamped (asked who Remove (tmp name ∷ []) 0 0) named,
  (
    owned stamped (asked who Create (tmp name ∷ []) 0 0) named,
    (
      owned stamped (asked who Append (tmp name ∷ bytes ∷ []) 0 0) named,
      (
        owned stamped (asked who Sync (tmp name ∷ []) 0 0) named,
        (owned stamped (asked who Rename (tmp name ∷ name ∷ []) 0 0) named, tt),
      ),
    ),
  ),
)

pub replaced : {V : Type 0} (stamped : List (List ℕ)) (who : Who) (sees : History → V) (a n : Name) → Target stamped who sees a n
    → (name bytes : List ℕ) → name ≡ spell n
    → (F : V → Option File → Option File → Type 0) (R : V → Type 0) (G : V → Option File → Option File → Option File → Type 0)
    → Replaces stamped who sees a n (tmp name) name bytes F R G
    → {result : Result (Unit {0}) OutsideFault} {old new : Option History} → MadeInTurn (replacement who name bytes) result old new
    → Adds old new (Leads (As stamped who) (AtPlace stamped (around who sees a n) (Next F anything))
    (AtTold stamped who (EndedAt who sees a n R G result)))
replaced stamped who sees a n target name bytes e F R G known {result = result} script =
    replaced_by stamped who sees a n (record { place = target.place; small = target.small; apart_next = target.apart_next }) (tmp name) name bytes
    (next_word name n e) e F R G known (λ U. seen_stays stamped (around who sees a n) (Next F U) target.place target.sight) script

-- A small file is replaced, and a fact stays for a reason that is told apart.
pub replaced_on : {V : Type 0} (stamped : List (List ℕ)) (who : Who) (sees : History → V) (a n : Name) → Aim who sees a n
    → (name bytes : List ℕ) → name ≡ spell n
    → (F : V → Option File → Option File → Type 0) (R : V → Type 0) (G : V → Option File → Option File → Option File → Type 0)
    → Replaces stamped who sees a n (tmp name) name bytes F R G
    → ((U : Option File → Type 0) → Stays stamped who (SeenAt (around who sees a n) (Next F U)))
    → {result : Result (Unit {0}) OutsideFault} {old new : Option History} → MadeInTurn (replacement who name bytes) result old new
    → Adds old new (Leads (As stamped who) (AtPlace stamped (around who sees a n) (Next F anything))
    (AtTold stamped who (EndedAt who sees a n R G result)))
replaced_on stamped who sees a n target name bytes e F R G known stays {result = result} script =
    replaced_by stamped who sees a n target (tmp name) name bytes (next_word name n e) e F R G known stays script
