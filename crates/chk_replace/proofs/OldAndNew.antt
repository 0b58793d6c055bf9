-- A replacement, call by call: the file is the old one up to the rename, and its next content grows.
use Rattle.std.proofs.Common.{◌≡◌, ◌≢◌, ◌⊎◌, inl, inr, ℕ, ◌+◌, Bool, true, false, List, [], ◌∷◌, ◌++◌, length, Option, Some, None, option_map, bytes_eq, codes, if◌then◌else◌, Ok, Err, Result, refl, sym, ◌∙◌, ap, subst, length-append, arith}
use Rattle.std.specs.Prelude.{IsSome, MatchResult}
use Rattle.std.proofs.lemmas.Bool.{false_from_ne_true, false≢true, or_from}
use Rattle.std.proofs.lemmas.List.{append_cancel_right}
use Rattle.std.proofs.lemmas.Slice.Eq.{bytes_eq-Decides}
use Rattle.chk_site.specs.declared.acts.Who.{Who}
use Rattle.chk_site.specs.declared.acts.Call.TheVariants.{Create, Append, Sync, Rename, Remove}
use Rattle.chk_site.specs.declared.acts.OutsideFault.{OutsideFault}
use Rattle.chk_site.specs.declared.acts.CallFault.{CallFault}
use Rattle.chk_site.specs.declared.acts.CallFault.TheVariants.{Failed, Missing, Exists, Short, NoMemory}
use Rattle.chk_site.specs.declared.acts.ActAnswer.{ActAnswer}
use Rattle.chk_site.specs.declared.acts.ActAnswer.TheVariants.{Done, Refused, Stopped, Rotated, Deleted}
use Rattle.chk_site.specs.Files.{File, Files, IsSettled, Change, Nothing, Moved, changed, made, moved, grown, secured}
use Rattle.chk_site.specs.Logs.{Logs}
use Rattle.chk_site.specs.Acts.{Deed, Renames, deed_by, touches, says_whole, Did}
use Rattle.chk_site.specs.History.{History, Every, IsTheirs, files_after}
use Rattle.chk_site.specs.Honest.{Honest}
use Rattle.chk_site.specs.Site.{Adds, Asked, asked, own_step, answered, plain, Calls, IsDone, Ends, WasDone}
use Rattle.chk_site.specs.Runs.{anyhow, Leads, Since, MadeInTurn, finished, went_on, ended}
use Rattle.chk_site.proofs.Leads.{Keeps, Shows, done_leads, ends_leads, script_then, script_end}
use Rattle.chk_site.proofs.Stays.{settled_stays, unnamed_stays, tails_of_settled}
use Rattle.chk_replace.specs.Replace.{tmp, replacement, LeavesBoth, whole, IsOldOrNew, EndsAs, OldOrNew, ReplacesWhole, TouchesBoth}
use Rattle.chk_replace.proofs.CallSteps.{OfEach, script_each}

-- what a call asks for, whatever it answers
abbrev call_of : Asked → Deed
call_of q = deed_by q.call q.words q.number q.max

pub same_name : (name : List ℕ) → bytes_eq name name ≡ true
same_name name = (bytes_eq-Decides name name).1 refl

pub other_name : (a b : List ℕ) → a ≢ b → bytes_eq a b ≡ false
other_name a b apart = false_from_ne_true (bytes_eq a b) (λ e. apart ((bytes_eq-Decides a b).0 e))

-- the next content has another name
longer : (name : List ℕ) → name ≢ tmp name
longer name e =
    let more : length (name ++ codes ".tmp") ≡ length name + 4 = length-append name (codes ".tmp") in
    let same : length name ≡ length (name ++ codes ".tmp") = ap length e in
    omega arith

apart : (name : List ℕ) → bytes_eq name (tmp name) ≡ false
apart name = other_name name (tmp name) (longer name)

-- since then the file has stayed the old one, and this holds of its next content
record Stage (name bytes : List ℕ) (earlier : History) (U : Option File → Type 0) (added : History) : Type 0 where
  settled : IsSettled (files_after earlier name)
  each : Every (λ before step. IsOldOrNew (files_after earlier name) bytes (step.files name)) added earlier
  file : files_after (added ++ earlier) name ≡ files_after earlier name
  next : U (files_after (added ++ earlier) (tmp name))

abbrev Before : List ℕ → List ℕ → History → (Option File → Type 0) → History → Type 0
Before name bytes earlier U = Since earlier (Stage name bytes earlier U)

abbrev After : List ℕ → List ℕ → History → Result (Unit {0}) OutsideFault → History → Type 0
After name bytes earlier result = Since earlier (λ added. OldOrNew name bytes result added earlier)

-- any file, or none
abbrev Anything : Option File → Type 0
Anything file = Unit {0}

-- this file, or none
abbrev Is : Option File → Option File → Type 0
Is file next = next ≡ file

abbrev empty_file : Option File
empty_file = Some (record { bytes = []; synced = 0 })

abbrev unsynced : List ℕ → Option File
unsynced bytes = Some (record { bytes = bytes; synced = 0 })

keeps : (name bytes : List ℕ) (earlier : History) (U : Option File → Type 0) → Keeps (LeavesBoth name) (Before name bytes earlier U)
keeps name bytes earlier U before step theirs leaves held =
    let Q : History → Type 0 = λ h. IsTheirs h step → LeavesBoth name h step → Before name bytes earlier U (step ∷ h) in
    subst Q (sym held.goes_on)
    (λ theirs leaves.
    let at = held.added ++ earlier in
    let p = held.holds in
    let same = settled_stays at step name theirs.1 leaves.file (subst IsSettled (sym p.file) p.settled) in
    let next = unnamed_stays at step (tmp name) theirs.1 leaves.next.untouched leaves.next.no_tail in
    record {
      added = step ∷ held.added;
      goes_on = refl;
      holds = record {
        settled = p.settled;
        each = (p.each, inl (same ∙ p.file));
        file = same ∙ p.file;
        next = subst U (sym next) p.next;
      };
    })
    theirs leaves

-- from U the call leads to W, for the next content
abbrev Makes : List ℕ → (Option File → Type 0) → (Option File → Type 0) → Asked → ActAnswer → Type 0
Makes name U W q answer =
    (before : History) (files : Files) (logs : Logs) → Honest before (own_step q answer files logs)
    → U (files_after before (tmp name)) → W (files (tmp name))

-- the step of a call that doesn't touch the file
next_shows : (name bytes : List ℕ) (earlier : History) (U W : Option File → Type 0) (q : Asked) (answer : ActAnswer)
    → touches (call_of q) name ≡ false → Makes name U W q answer
    → Shows (Before name bytes earlier U) (Before name bytes earlier W) q answer
next_shows name bytes earlier U W q answer out makes before files logs running honest held =
    let step = own_step q answer files logs in
    let Q : History → Type 0 = λ h. Honest h step → Before name bytes earlier W (step ∷ h) in
    subst Q (sym held.goes_on)
    (λ honest.
    let at = held.added ++ earlier in
    let p = held.holds in
    let same = settled_stays at step name honest.modelled out (subst IsSettled (sym p.file) p.settled) in
    record {
      added = step ∷ held.added;
      goes_on = refl;
      holds = record {
        settled = p.settled;
        each = (p.each, inl (same ∙ p.file));
        file = same ∙ p.file;
        next = makes at files logs honest p.next;
      };
    })
    honest

-- the file is the old one, whatever follows
still : (name bytes : List ℕ) (earlier : History) (U : Option File → Type 0) (fault : OutsideFault) (history : History)
    → Before name bytes earlier U history → After name bytes earlier (Err fault) history
still name bytes earlier U fault history held = record {
  added = held.added;
  goes_on = held.goes_on;
  holds = record { each = held.holds.each; last = inl held.holds.file };
}

-- the same where the call failed, or was stopped
failed_shows : (name bytes : List ℕ) (earlier : History) (U : Option File → Type 0) (q : Asked) (answer : ActAnswer) (fault : OutsideFault)
    → touches (call_of q) name ≡ false → Shows (Before name bytes earlier U) (After name bytes earlier (Err fault)) q answer
failed_shows name bytes earlier U q answer fault out before files logs running honest held =
    still name bytes earlier Anything fault (own_step q answer files logs ∷ before)
    (next_shows name bytes earlier U Anything q answer out (λ b f l h u. tt) before files logs running honest held)

-- one call on the next content, and then the rest
next_call : (name bytes : List ℕ) (earlier : History) (U W : Option File → Type 0) (q : Asked) {qs : List Asked}
    {result : Result (Unit {0}) OutsideFault} {old new : Option History}
    → touches (call_of q) name ≡ false → ((answer : ActAnswer) → WasDone answer → Makes name U W q answer)
    → ((mid : Option History) → MadeInTurn qs result mid new
    → Adds mid new (Leads (anyhow (LeavesBoth name)) (Before name bytes earlier W) (After name bytes earlier result)))
    → MadeInTurn (q ∷ qs) result old new
    → Adds old new (Leads (anyhow (LeavesBoth name)) (Before name bytes earlier U) (After name bytes earlier result))
next_call name bytes earlier U W q out makes rest script =
    let B : Result (Unit {0}) OutsideFault → History → Type 0 = After name bytes earlier in
    script_then (Before name bytes earlier W) B
    (λ given mid is told.
    done_leads given (λ before answer files logs running. tt) is (keeps name bytes earlier U)
    (λ answer was. next_shows name bytes earlier U W q answer out (makes answer was)) told)
    (λ given fault ends told.
    ends_leads (λ f. B (Err f)) plain given fault (λ before answer files logs running. tt) ends (keeps name bytes earlier U)
    (failed_shows name bytes earlier U q (Refused Failed) _ out)
    (λ left. failed_shows name bytes earlier U q (Stopped left) _ out)
    (λ before stopped held. still name bytes earlier U _ before held)
    (λ before held. still name bytes earlier U _ before held)
    told)
    (λ h held. still name bytes earlier U _ h held)
    rest script

not_there : (file : Option File) (f : File) → file ≡ None → file ≡ Some f → ⊥
not_there file f none some = cc

pub not_absent : (file : Option File) → IsSome file → file ≡ None → ⊥
not_absent file some none = absurd (false≢true (subst (λ (o : Option File). IsSome o) none some))

-- the next content is removed, where it is there
removed : (who : Who) (name : List ℕ) (answer : ActAnswer) → WasDone answer
    → Makes name Anything (Is None) (asked who Remove (tmp name ∷ []) 0 0) answer
removed who name (Done words number of) was before files logs honest u =
    let e = honest.modelled.effect in
    let self = same_name (tmp name) in
    e.files_left (tmp name) ∙ ap (λ (d : Change). changed d (files_after before) (tmp name)) e.may ∙ rw self refl
removed who name (Refused Missing) was before files logs honest u =
    let e = honest.modelled.effect in
    e.files_left (tmp name) ∙ ap (λ (d : Change). changed d (files_after before) (tmp name)) e.may ∙ honest.agrees
removed who name (Refused Exists) was before files logs honest u = absurd honest.agrees
removed who name (Refused (Short size)) was before files logs honest u = absurd honest.agrees
removed who name (Refused Failed) was before files logs honest u = absurd was
removed who name (Refused NoMemory) was before files logs honest u = absurd was
removed who name (Stopped left) was before files logs honest u = absurd was
removed who name (Rotated suffix) was before files logs honest u = absurd was
removed who name (Deleted suffix) was before files logs honest u = absurd was

-- it is made anew
created : (who : Who) (name : List ℕ) (answer : ActAnswer) → WasDone answer
    → Makes name (Is None) (Is empty_file) (asked who Create (tmp name ∷ []) 0 0) answer
created who name (Done words number of) was before files logs honest u =
    let e = honest.modelled.effect in
    let self = same_name (tmp name) in
    e.files_left (tmp name) ∙ ap (λ (d : Change). changed d (files_after before) (tmp name)) e.may ∙ rw self (ap made u)
created who name (Refused Exists) was before files logs honest u = absurd (not_absent (files_after before (tmp name)) honest.agrees u)
created who name (Refused Missing) was before files logs honest u = absurd honest.agrees
created who name (Refused (Short size)) was before files logs honest u = absurd honest.agrees
created who name (Refused Failed) was before files logs honest u = absurd was
created who name (Refused NoMemory) was before files logs honest u = absurd was
created who name (Stopped left) was before files logs honest u = absurd was
created who name (Rotated suffix) was before files logs honest u = absurd was
created who name (Deleted suffix) was before files logs honest u = absurd was

-- it is written
appended : (who : Who) (name bytes : List ℕ) (answer : ActAnswer) → WasDone answer
    → Makes name (Is empty_file) (Is (unsynced bytes)) (asked who Append (tmp name ∷ bytes ∷ []) 0 0) answer
appended who name bytes (Done words number of) was before files logs honest u =
    let e = honest.modelled.effect in
    let self = same_name (tmp name) in
    e.files_left (tmp name) ∙ ap (λ (d : Change). changed d (files_after before) (tmp name)) e.may
    ∙ rw self (ap (option_map (grown bytes)) u)
appended who name bytes (Refused Missing) was before files logs honest u =
    absurd (not_there (files_after before (tmp name)) _ honest.agrees u)
appended who name bytes (Refused Exists) was before files logs honest u = absurd honest.agrees
appended who name bytes (Refused (Short size)) was before files logs honest u = absurd honest.agrees
appended who name bytes (Refused Failed) was before files logs honest u = absurd was
appended who name bytes (Refused NoMemory) was before files logs honest u = absurd was
appended who name bytes (Stopped left) was before files logs honest u = absurd was
appended who name bytes (Rotated suffix) was before files logs honest u = absurd was
appended who name bytes (Deleted suffix) was before files logs honest u = absurd was

-- it is synced
synced : (who : Who) (name bytes : List ℕ) (answer : ActAnswer) → WasDone answer
    → Makes name (Is (unsynced bytes)) (Is (Some (whole bytes))) (asked who Sync (tmp name ∷ []) 0 0) answer
synced who name bytes (Done words number of) was before files logs honest u =
    let e = honest.modelled.effect in
    let self = same_name (tmp name) in
    e.files_left (tmp name) ∙ ap (λ (d : Change). changed d (files_after before) (tmp name)) e.may
    ∙ rw self (ap (option_map secured) u)
synced who name bytes (Refused Missing) was before files logs honest u =
    absurd (not_there (files_after before (tmp name)) _ honest.agrees u)
synced who name bytes (Refused Exists) was before files logs honest u = absurd honest.agrees
synced who name bytes (Refused (Short size)) was before files logs honest u = absurd honest.agrees
synced who name bytes (Refused Failed) was before files logs honest u = absurd was
synced who name bytes (Refused NoMemory) was before files logs honest u = absurd was
synced who name bytes (Stopped left) was before files logs honest u = absurd was
synced who name bytes (Rotated suffix) was before files logs honest u = absurd was
synced who name bytes (Deleted suffix) was before files logs honest u = absurd was

-- a rename did nothing, or all
whole_or_not : (b : Bool) (change did : Change) → did ≡ (if b then change else Nothing) → (did ≡ Nothing) ⊎ (did ≡ change)
whole_or_not true change did e = inr e
whole_or_not false change did e = inl e

rename_did : (old new : List ℕ) (answer : ActAnswer) (did : Change) → Did (Renames old new) answer did → (did ≡ Nothing) ⊎ (did ≡ Moved old new)
rename_did old new (Done words number of) did may = inr may
rename_did old new (Refused Failed) did may = may
rename_did old new (Refused Missing) did may = inl may
rename_did old new (Refused Exists) did may = inl may
rename_did old new (Refused (Short size)) did may = inl may
rename_did old new (Refused NoMemory) did may = inl may
rename_did old new (Stopped left) did may = whole_or_not (says_whole left old) (Moved old new) did may
rename_did old new (Rotated suffix) did may = inl may
rename_did old new (Deleted suffix) did may = inl may

-- the file that was moved stands under its new name
moved_there : (old new : List ℕ) (file : File) (files : Files) → files old ≡ Some file → changed (Moved old new) files new ≡ Some file
moved_there old new file files e =
    let self = same_name new in
    ap (λ (o : Option File). moved o old new files new) e ∙ rw self refl

-- the file after a rename, before what a stop does
middle : (old new : List ℕ) (file : File) (files : Files) (did : Change) → files old ≡ Some file
    → (did ≡ Nothing) ⊎ (did ≡ Moved old new)
    → (changed did files new ≡ files new) ⊎ (changed did files new ≡ Some file)
middle old new file files did there (inl none) = inl (ap (λ (d : Change). changed d files new) none)
middle old new file files did there (inr all) =
    inr (ap (λ (d : Change). changed d files new) all ∙ moved_there old new file files there)

either_settled : (old : Option File) (bytes : List ℕ) (file : Option File) → IsSettled old → IsOldOrNew old bytes file → IsSettled file
either_settled old bytes file settled (inl e) = subst IsSettled (sym e) settled
either_settled old bytes file settled (inr e) = subst IsSettled (sym e) refl

-- however the rename ends, the file is the old one or the new one
renamed : (who : Who) (name bytes : List ℕ) (answer : ActAnswer) (before : History) (files : Files) (logs : Logs)
    → Honest before (own_step (asked who Rename (tmp name ∷ name ∷ []) 0 0) answer files logs)
    → IsSettled (files_after before name) → files_after before (tmp name) ≡ Some (whole bytes)
    → IsOldOrNew (files_after before name) bytes (files name)
renamed who name bytes answer before files logs honest settled there =
    let e = honest.modelled.effect in
    let fs = files_after before in
    let did = middle (tmp name) name (whole bytes) fs e.did there (rename_did (tmp name) name answer e.did e.may) in
    let same = tails_of_settled (Renames (tmp name) name) answer (changed e.did fs) files name e.files_left refl
    (either_settled (fs name) bytes (changed e.did fs name) settled did) in
    elim did [ inl a ↦ inl (same ∙ a) | inr b ↦ inr (same ∙ b) ]

-- where it was done, the new one
renamed_done : (who : Who) (name bytes : List ℕ) (answer : ActAnswer) → WasDone answer → (before : History) (files : Files) (logs : Logs)
    → Honest before (own_step (asked who Rename (tmp name ∷ name ∷ []) 0 0) answer files logs)
    → files_after before (tmp name) ≡ Some (whole bytes) → files name ≡ Some (whole bytes)
renamed_done who name bytes (Done words number of) was before files logs honest there =
    let e = honest.modelled.effect in
    e.files_left name ∙ ap (λ (d : Change). changed d (files_after before) name) e.may
    ∙ moved_there (tmp name) name (whole bytes) (files_after before) there
renamed_done who name bytes (Refused Missing) was before files logs honest there =
    absurd (not_there (files_after before (tmp name)) _ honest.agrees there)
renamed_done who name bytes (Refused Exists) was before files logs honest there = absurd honest.agrees
renamed_done who name bytes (Refused (Short size)) was before files logs honest there = absurd honest.agrees
renamed_done who name bytes (Refused Failed) was before files logs honest there = absurd was
renamed_done who name bytes (Refused NoMemory) was before files logs honest there = absurd was
renamed_done who name bytes (Stopped left) was before files logs honest there = absurd was
renamed_done who name bytes (Rotated suffix) was before files logs honest there = absurd was
renamed_done who name bytes (Deleted suffix) was before files logs honest there = absurd was

-- the step of the rename
rename_shows : (who : Who) (name bytes : List ℕ) (earlier : History) (answer : ActAnswer) (result : Result (Unit {0}) OutsideFault)
    → ((before : History) (files : Files) (logs : Logs)
    → Honest before (own_step (asked who Rename (tmp name ∷ name ∷ []) 0 0) answer files logs)
    → files_after before (tmp name) ≡ Some (whole bytes)
    → IsOldOrNew (files_after earlier name) bytes (files name) → EndsAs result (files_after earlier name) bytes (files name))
    → Shows (Before name bytes earlier (Is (Some (whole bytes)))) (After name bytes earlier result)
    (asked who Rename (tmp name ∷ name ∷ []) 0 0) answer
rename_shows who name bytes earlier answer result ends before files logs running honest held =
    let step = own_step (asked who Rename (tmp name ∷ name ∷ []) 0 0) answer files logs in
    let Q : History → Type 0 = λ h. Honest h step → After name bytes earlier result (step ∷ h) in
    subst Q (sym held.goes_on)
    (λ honest.
    let at = held.added ++ earlier in
    let p = held.holds in
    let either = subst (λ (old : Option File). IsOldOrNew old bytes (files name)) p.file
    (renamed who name bytes answer at files logs honest (subst IsSettled (sym p.file) p.settled) p.next) in
    record {
      added = step ∷ held.added;
      goes_on = refl;
      holds = record { each = (p.each, either); last = ends at files logs honest p.next either };
    })
    honest

new_one : (name bytes : List ℕ) (earlier : History) (fault : OutsideFault) (history : History)
    → After name bytes earlier (Ok tt) history → After name bytes earlier (Err fault) history
new_one name bytes earlier fault history held = record {
  added = held.added;
  goes_on = held.goes_on;
  holds = record { each = held.holds.each; last = inr held.holds.last };
}

-- the last call
rename_call : (who : Who) (name bytes : List ℕ) (earlier : History) {result : Result (Unit {0}) OutsideFault} {old new : Option History}
    → MadeInTurn (asked who Rename (tmp name ∷ name ∷ []) 0 0 ∷ []) result old new
    → Adds old new (Leads (anyhow (LeavesBoth name)) (Before name bytes earlier (Is (Some (whole bytes)))) (After name bytes earlier result))
rename_call who name bytes earlier script =
    let B : Result (Unit {0}) OutsideFault → History → Type 0 = After name bytes earlier in
    let U : Option File → Type 0 = Is (Some (whole bytes)) in
    let q = asked who Rename (tmp name ∷ name ∷ []) 0 0 in
    script_then (B (Ok tt)) B
    (λ given mid is told.
    done_leads given (λ before answer files logs running. tt) is (keeps name bytes earlier U)
    (λ answer was. rename_shows who name bytes earlier answer (Ok tt)
    (λ before files logs honest there either. renamed_done who name bytes answer was before files logs honest there)) told)
    (λ given fault ends told.
    ends_leads (λ f. B (Err f)) plain given fault (λ before answer files logs running. tt) ends (keeps name bytes earlier U)
    (rename_shows who name bytes earlier (Refused Failed) (Err _) (λ before files logs honest there either. either))
    (λ left. rename_shows who name bytes earlier (Stopped left) (Err _) (λ before files logs honest there either. either))
    (λ before stopped held. still name bytes earlier U _ before held)
    (λ before held. still name bytes earlier U _ before held)
    told)
    (λ h held. still name bytes earlier U _ h held)
    (λ mid script. script_end B (λ h held. new_one name bytes earlier _ h held) (λ h held. held) script)
    script

-- a replacement from the first call to the last
in_turn : (who : Who) (name bytes : List ℕ) (earlier : History) {result : Result (Unit {0}) OutsideFault} {old new : Option History}
    → MadeInTurn (replacement who name bytes) result old new
    → Adds old new (Leads (anyhow (LeavesBoth name)) (Before name bytes earlier Anything) (After name bytes earlier result))
in_turn who name bytes earlier script =
    let out = apart name in
    next_call name bytes earlier Anything (Is None) (asked who Remove (tmp name ∷ []) 0 0) out (removed who name)
    (λ mid script.
    next_call name bytes earlier (Is None) (Is empty_file) (asked who Create (tmp name ∷ []) 0 0) out (created who name)
    (λ mid script.
    next_call name bytes earlier (Is empty_file) (Is (unsynced bytes)) (asked who Append (tmp name ∷ bytes ∷ []) 0 0) out (appended who name bytes)
    (λ mid script.
    next_call name bytes earlier (Is (unsynced bytes)) (Is (Some (whole bytes))) (asked who Sync (tmp name ∷ []) 0 0) out (synced who name bytes)
    (λ mid script. rename_call who name bytes earlier script)
    script) script) script) script

-- what was added is what was added since then
since_all : {P : History → Type 0} (added history : History) → Since history P (added ++ history) → P added
since_all {P = P} added history since = subst P (sym (append_cancel_right added since.added history since.goes_on)) since.holds

-- at each moment the file is the old one or the new one
pub replaced : (who : Who) (name bytes : List ℕ) {result : Result (Unit {0}) OutsideFault} {old new : Option History}
    → MadeInTurn (replacement who name bytes) result old new → Adds old new (ReplacesWhole name bytes result)
replaced who name bytes {result = result} script =
    record {
      told =
          λ history e.
          let x = (in_turn who name bytes history script).told history e in (
            x.0,
            x.1,
            λ settled others.
                since_all {P = λ added. OldOrNew name bytes result added history} x.0 history
                (x.2.leads others (record {
                  added = [];
                  goes_on = refl;
                  holds = record { settled = settled; each = tt; file = refl; next = tt };
                })),
          );
      untold = (in_turn who name bytes [] script).untold;
    }

-- each of its own steps touches the file and its next content alone
pub touches_both : (who : Who) (name bytes : List ℕ) {result : Result (Unit {0}) OutsideFault} {old new : Option History}
    → MadeInTurn (replacement who name bytes) result old new → Adds old new (Every (TouchesBoth who name))
touches_both who name bytes script =
    script_each (TouchesBoth who name) (λ before step theirs own. absurd (let x : true ≡ false = sym own ∙ theirs.0 in cc))
    (each_own who name bytes) script
  where
    each_own : (who : Who) (name bytes : List ℕ) → OfEach (TouchesBoth who name) (replacement who name bytes)
    each_own who name bytes =
        let on_next : (other : List ℕ) → other ≢ name → other ≢ tmp name → bytes_eq other (tmp name) ≡ false =
        λ other here there. other_name other (tmp name) there in (
          λ before answer files logs running honest own. (refl, on_next),
          (
            λ before answer files logs running honest own. (refl, on_next),
            (
              λ before answer files logs running honest own. (refl, on_next),
              (
                λ before answer files logs running honest own. (refl, on_next),
                (
                  λ before answer files logs running honest own.
                      (refl, λ other here there. or_from (bytes_eq other name) (bytes_eq other (tmp name)) (other_name other name here) (other_name other (tmp name) there)),
                  tt,
                ),
              ),
            ),
          ),
        )

-- the calls of a replacement by this name of the next content
abbrev pub by_next : Who → List ℕ → List ℕ → List ℕ → List Asked
by_next who name bytes next =
    asked who Remove (next ∷ []) 0 0
    ∷ asked who Create (next ∷ []) 0 0
    ∷ asked who Append (next ∷ bytes ∷ []) 0 0
    ∷ asked who Sync (next ∷ []) 0 0
    ∷ asked who Rename (next ∷ name ∷ []) 0 0
    ∷ []

pub by_name : {who : Who} {name bytes next : List ℕ} {result : Result (Unit {0}) OutsideFault} {old new : Option History}
    → next ≡ tmp name → MadeInTurn (by_next who name bytes next) result old new → MadeInTurn (replacement who name bytes) result old new
by_name {who = who} {name = name} {bytes = bytes} {result = result} {old = old} {new = new} e script =
    subst (λ (n : List ℕ). MadeInTurn (by_next who name bytes n) result old new) e script

-- the last call of a script
pub last_call : {q : Asked} (result : Result (Unit {0}) OutsideFault) (given : Result (Unit {0}) CallFault) {old new : Option History}
    → MatchResult result (λ value. IsDone given) (λ fault. Ends q.call given fault)
    → Adds old new (Calls q (answered plain given)) → MadeInTurn (q ∷ []) result old new
last_call (Ok value) given is told = went_on given is told finished
last_call (Err fault) given ends told = ended given ends told
