-- The calls by which a left sink is settled.
use Rattle.std.proofs.Common.{◌≡◌, ℕ, Bool, true, false, List, [], ◌∷◌, Option, Some, None, Result, Ok, Err, ap, sym, subst, ◌∙◌, refl}
use Rattle.std.specs.Prelude.{IsTrue}
use Rattle.std.proofs.lemmas.Bool.{and_from}
use Rattle.chk_bytes.specs.Stems.{Stem, is_collector}
use Rattle.chk_site.specs.declared.acts.Call.TheVariants.{Remove}
use Rattle.chk_site.specs.declared.acts.Who.{Who}
use Rattle.chk_site.specs.declared.acts.Call.{Call}
use Rattle.chk_site.specs.declared.acts.CallFault.{CallFault}
use Rattle.chk_site.specs.declared.acts.CallFault.TheVariants.{Failed, NoMemory}
use Rattle.chk_site.specs.declared.acts.OutsideFault.{OutsideFault}
use Rattle.chk_site.specs.declared.acts.OutsideFault.TheVariants.{Outside, NoMemory as no_memory}
use Rattle.chk_site.specs.declared.acts.ActAnswer.{ActAnswer}
use Rattle.chk_site.specs.Files.{File, Files}
use Rattle.chk_site.specs.Logs.{Logs}
use Rattle.chk_site.specs.Acts.{Removes, is_done}
use Rattle.chk_site.specs.History.{History, files_after}
use Rattle.chk_site.specs.Honest.{Honest}
use Rattle.chk_site.specs.Site.{Adds, Asked, asked, own_step, answered, plain, Calls, IsDone, IsTaken, Ends, WasDone}
use Rattle.chk_site.specs.Runs.{Leads}
use Rattle.chk_world.specs.Names.{Name, SinkFile, MarkFile, read, spell, file, is_known}
use Rattle.chk_world.specs.Collectors.{MayRemove}
use Rattle.chk_world.specs.Rules.{may_remove}
use Rattle.chk_world.specs.Places.{As, Making, AtTold}
use Rattle.chk_world.proofs.Ends.{bytes_self}
use Rattle.chk_world.proofs.NameLemmas.{read-spell}
use Rattle.chk_world.proofs.OwnFiles.{done_file, refused_file, missed_or_done, MissedOrDone, was_done, was_missing}
use Rattle.chk_world.proofs.ToldCalls.{GoesOn, MayCall, LeavesCall, goes_on_done, goes_on_taken, told_done, told_taken, told_ends}
use Rattle.chk_world.proofs.CollectorCalls.{collector_rule}
use Rattle.chk_world.proofs.PlacesStay.{Stays}
use Rattle.chk_sink.specs.States.{State, process}
use Rattle.chk_sink.specs.Held.{IsOther, Holds, Matches}
use Rattle.chk_sink.specs.Settling.{HoldsAt, NoMark, NoSink, BothGone}
use Rattle.chk_sink.proofs.Holding.{HasStem, foreign_alike, holds_alike, absent_as, both_absent, Changed, changed_by}
use Rattle.chk_sink.proofs.Touching.{OnLeft, drops_sink, drops_mark, holds_on, at_on}

-- what the sinks and the left one are known to be
pub record IsLeft (s : State) (x : Stem) : Type 0 where
  pub named : IsTrue (is_collector s.collector)
  pub abandoned : s.abandoned ≡ true
  pub good : HasStem s
  pub other : IsOther s x

along2 : (P : Option File → Option File → Type 0) (a b c d : Option File) → c ≡ a → d ≡ b → P a b → P c d
along2 P a b c d e f h = subst (λ o. P o d) (sym e) (subst (λ o. P a o) (sym f) h)

-- what is known stays over steps of others
pub at_stays : (stamped : List (List ℕ)) (s : State) (may : Stem → Bool) (x : Stem) (P : Option File → Option File → Type 0) → IsLeft s x
    → Stays stamped (process s) (HoldsAt s may x P)
at_stays stamped s may x P left history step legal f h =
    let a = foreign_alike stamped s history step f in
    record {
      holds = holds_alike s history (step ∷ history) left.good a h.holds;
      others = λ y o m e. both_absent (a.sinks y o.own o.stem) (a.marks y o.own o.stem) (h.others y o m e);
      there = along2 P _ _ _ _ (a.sinks x left.other.own left.other.stem) (a.marks x left.other.own left.other.stem) h.there;
    }

-- a call, whatever it answered
pub told_any : (stamped : List (List ℕ)) (q : Asked) (named : _) (B C : History → Type 0) {V : Type 0} (how : V → ActAnswer) (given : Result V CallFault)
    {old new : Option History} → Stays stamped q.who B → MayCall stamped q named B → ((value : V) → GoesOn (how value))
    → LeavesCall stamped q named B GoesOn C → ((history : History) → B history → C history)
    → Adds old new (Calls q (answered how given))
    → Adds old new (Leads (Making stamped q.who q.call) (AtTold stamped q.who B) (AtTold stamped q.who C))
told_any stamped q named B C {V = V} how given {old = old} {new = new} stays may goes left less told = by given told
  where
    gave : (given : Result V CallFault) (taken : Option V) → IsTaken given taken → Adds old new (Calls q (answered how given))
        → Adds old new (Leads (Making stamped q.who q.call) (AtTold stamped q.who B) (AtTold stamped q.who C))
    gave given taken is t =
        told_taken stamped q named B C how given taken stays may goes
        (λ before answer files logs took legal h. left before answer files logs (goes_on_taken how taken answer goes took) legal h) is t

    ends : (given : Result V CallFault) (fault : OutsideFault) → Ends q.call given fault → Adds old new (Calls q (answered how given))
        → Adds old new (Leads (Making stamped q.who q.call) (AtTold stamped q.who B) (AtTold stamped q.who C))
    ends given fault is t =
        told_ends stamped q named B (λ f. C) how given fault stays may
        (λ before answer files logs failed legal h. left before answer files logs (subst GoesOn (sym failed) tt) legal h) less is t

    by : (given : Result V CallFault) → Adds old new (Calls q (answered how given))
        → Adds old new (Leads (Making stamped q.who q.call) (AtTold stamped q.who B) (AtTold stamped q.who C))
    by (Ok value) t = gave (Ok value) (Some value) refl t
    by (Err Failed) t = ends (Err Failed) (Outside q.call) refl t
    by (Err NoMemory) t = ends (Err NoMemory) no_memory refl t
    by (Err fault) t = gave (Err fault) None refl t

-- ---- the removals

-- what a removal leaves of the files
pub removal_leaves : (who : Who) (n : Name) (w : List ℕ) → w ≡ spell n → IsTrue (is_known n) → (before : History) (answer : ActAnswer)
    (files : Files) (logs : Logs) → WasDone answer → Honest before (own_step (asked who Remove (w ∷ []) 0 0) answer files logs)
    → Changed n (λ o. None) (files_after before) files
removal_leaves who n w w_is known before answer files logs was honest = go (missed_or_done answer (files_after before w) was honest.agrees)
  where
    go : MissedOrDone answer (files_after before w) → Changed n (λ o. None) (files_after before) files
    go (was_done is) = changed_by n w w_is known (λ o. None) (files_after before) files (λ m k. done_file before _ m honest is k)
    go (was_missing is none) =
        let same : (m : Name) → file files m ≡ file (files_after before) m = λ m. refused_file before _ m honest was (ap is_done is) in
        record { there = same n ∙ (ap (files_after before) (sym w_is) ∙ none); others = λ m k e. same m }

-- the mark of the left sink, or the sink itself, and what is known before: the other one isn't there
abbrev pub removed : Bool → Stem → Name
removed true x = MarkFile x
removed false x = SinkFile x

abbrev pub Alone : Bool → Option File → Option File → Type 0
Alone true = NoSink
Alone false = NoMark

module _ (stamped : List (List ℕ)) (s : State) (may : Stem → Bool) (x : Stem) (left : IsLeft s x) (mark : Bool) (w : List ℕ)
    (w_is : w ≡ spell (removed mark x)) where
  abbrev Q : Asked
  Q = asked (process s) Remove (w ∷ []) 0 0

  abbrev B : History → Type 0
  B = HoldsAt s may x (Alone mark)

  good : (mark : Bool) → IsTrue (is_known (removed mark x))
  good true = left.other.stem
  good false = left.other.stem

  reads : read w ≡ removed mark x
  reads = ap read w_is ∙ read-spell (removed mark x) (good mark)

  owns : (mark : Bool) → read w ≡ removed mark x → IsTrue (may_remove (process s) (read w))
  owns true e = rw (e, left.other.own) (bytes_self s.collector)
  owns false e = rw (e, left.other.own) (and_from _ _ (bytes_self s.collector) refl)

  allows : (mark : Bool) (files : Files) → Alone mark (file files (SinkFile x)) (file files (MarkFile x)) → MayRemove files (removed mark x)
  allows true files alone = alone
  allows false files alone = alone

  drops : (mark : Bool) → read w ≡ removed mark x → OnLeft x (Removes w)
  drops true e = drops_mark w e
  drops false e = drops_sink w e

  remove_may : MayCall stamped Q left.named B
  remove_may before answer files logs legal h = record {
    own_files = owns mark reads;
    logs = tt;
    requests = tt;
    rule = collector_rule stamped (process s) before (own_step Q answer files logs) (Removes w) refl refl refl
        (subst (MayRemove (files_after before)) (sym reads) (allows mark (files_after before) h.there));
  }

  remove_any : LeavesCall stamped Q left.named B GoesOn (Holds s)
  remove_any before answer files logs goes legal h =
      holds_on s x left.good left.other left.abandoned before (own_step Q answer files logs) refl goes legal.1.honest (drops mark reads) h.holds

  both_gone : (mark : Bool) (before after : Files) → Changed (removed mark x) (λ o. None) before after
      → Alone mark (file before (SinkFile x)) (file before (MarkFile x)) → BothGone (file after (SinkFile x)) (file after (MarkFile x))
  both_gone true before after r alone = (absent_as _ _ (r.others (SinkFile x) left.other.stem refl) alone, absent_as None _ r.there tt)
  both_gone false before after r alone = (absent_as None _ r.there tt, absent_as _ _ (r.others (MarkFile x) left.other.stem refl) alone)

  remove_leaves : LeavesCall stamped Q left.named B WasDone (HoldsAt s may x BothGone)
  remove_leaves before answer files logs was legal h =
      at_on s x left.good left.other left.abandoned before (own_step Q answer files logs) refl (goes_on_done answer was) legal.1.honest (drops mark reads)
      may (Alone mark) BothGone h
      (both_gone mark (files_after before) files
      (removal_leaves (process s) (removed mark x) w w_is (good mark) before answer files logs was legal.1.honest) h.there)

  pub removed_done : (given : Result (Unit {0}) CallFault) {old new : Option History} → IsDone given → Adds old new (Calls Q (answered plain given))
      → Adds old new (Leads (As stamped (process s)) (AtTold stamped (process s) B) (AtTold stamped (process s) (HoldsAt s may x BothGone)))
  removed_done given is told =
      told_done stamped Q left.named B (HoldsAt s may x BothGone) given (at_stays stamped s may x (Alone mark) left) remove_may remove_leaves is told

  pub removed_tried : (given : Result (Unit {0}) CallFault) {old new : Option History} → Adds old new (Calls Q (answered plain given))
      → Adds old new (Leads (As stamped (process s)) (AtTold stamped (process s) B) (Matches stamped s))
  removed_tried given told =
      told_any stamped Q left.named B (Holds s) plain given (at_stays stamped s may x (Alone mark) left) remove_may (λ v. tt) remove_any (λ h y. y.holds) told

-- ---- the writer

-- the call is by the process that writes the sinks
pub as_writer : {V : Type 0} (how : V → ActAnswer) (s : State) (who : Who) (call : Call) (words : List (List ℕ)) (number max : ℕ) → who ≡ process s
    → (given : Result V CallFault) {old new : Option History} → Adds old new (Calls (asked who call words number max) (answered how given))
    → Adds old new (Calls (asked (process s) call words number max) (answered how given))
as_writer how s who call words number max e given {old = old} {new = new} told =
    subst (λ k. Adds old new (Calls (asked k call words number max) (answered how given))) e told
