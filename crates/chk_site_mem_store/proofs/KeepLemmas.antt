-- One act more is one step more.
use Rattle.std.proofs.Common.{◌≡◌, ℕ, ◌+◌, ◌<◌, ◌^◌, Bool, true, false, List, [], ◌∷◌, ◌++◌, length, map, Option, Some, None, refl, sym, ◌∙◌, ap, subst, arith}
use Rattle.std.proofs.lemmas.Bool.Decides.{nat_tests}
use Rattle.std.specs.Prelude.{◌==◌, if◌then◌else◌, option_map, bytes_eq}
use Rattle.std.proofs.lemmas.List.{length_push, length-map}
use Rattle.chk_site.specs.declared.acts.Act.{Act}
use Rattle.chk_site.specs.declared.acts.Who.{Who}
use Rattle.chk_site.specs.declared.acts.ActAnswer.{ActAnswer}
use Rattle.chk_site.specs.declared.acts.ActAnswer.TheVariants.{Done, Refused, Stopped, Rotated, Deleted}
use Rattle.chk_site.specs.Files.{File, Files, Change, Nothing, Created, Grown, Secured, Moved, Gone, Shortened, LogGrown, LogTurned, LogDropped, changed, moved, made, grown, secured, shortened}
use Rattle.chk_site.specs.Logs.{Log, Logs, log_grown, log_turned, log_dropped, log_size, logs_changed}
use Rattle.chk_site.specs.Acts.{Deed, Appends, GrowsLog, Sends, Takes, TakesMore, deed, change_of, is_done, is_stop, tail_of}
use Rattle.chk_site.specs.Messages.{Message, Taken, message, message_in, taken, taken_in, with_more}
use Rattle.chk_site.specs.Effect.{with_tail}
use Rattle.chk_site.specs.History.{History, files_after, logs_after, is_stopped}
use Rattle.chk_site_mem_store.specs.declared.named.Named.{Named}
use Rattle.chk_site_mem_store.specs.declared.files.MemFile.{MemFile}
use Rattle.chk_site_mem_store.specs.declared.logs.MemLog.{MemLog}
use Rattle.chk_site_mem_store.specs.Told.{Kept, kept_as, disowned, did_of, files_by, tails_left, step_of, told_from, told_of, acts_of, stopped_change, fitted_answer, fitted, with_answer}
use Rattle.chk_site_mem_store.specs.Stored.{file_of, file_in, log_in, Stores, IsLeft}
use Rattle.chk_site_mem_store.specs.Keeping.{kept_in, IsKept}
use Rattle.chk_site_mem_store.specs.Numbers.{last_message, last_taking}
use Rattle.chk_site_mem_store.specs.Repeating.{Repeating}
use Rattle.chk_site_mem_store.specs.State.{State}
use Rattle.chk_site_mem_store.specs.Room.{file_size, HasRoom}
use Rattle.chk_site_mem_store.proofs.StopLemmas.{fitted_same}
use Rattle.chk_site_mem_store.proofs.ModelLemmas.{IsSound}

told_push_from : (history : History) (kept : List Kept) (one : Kept)
    → told_from history (kept ++ one ∷ []) ≡ step_of (told_from history kept) one ∷ told_from history kept
told_push_from history [] one = refl
told_push_from history (k ∷ kept) one = told_push_from (step_of history k ∷ history) kept one

pub told_push : (kept : List Kept) (one : Kept) → told_of (kept ++ one ∷ []) ≡ step_of (told_of kept) one ∷ told_of kept
told_push kept one = told_push_from [] kept one

pub kept_push : (mine : List Bool) (past : List Act) (own : Bool) (act : Act) → length mine ≡ length past
    → kept_in (mine ++ own ∷ []) (past ++ act ∷ []) ≡ kept_in mine past ++ kept_as own act ∷ []
kept_push [] [] own act marked = refl
kept_push [] (a ∷ past) own act marked = absurd (omega arith)
kept_push (o ∷ mine) [] own act marked = absurd (omega arith)
kept_push (o ∷ mine) (a ∷ past) own act marked =
    ap (λ rest. kept_as o a ∷ rest) (kept_push mine past own act (omega arith))

pub acts_kept : (mine : List Bool) (past : List Act) → length mine ≡ length past → acts_of (kept_in mine past) ≡ past
acts_kept [] [] marked = refl
acts_kept [] (a ∷ past) marked = absurd (omega arith)
acts_kept (o ∷ mine) [] marked = absurd (omega arith)
acts_kept (o ∷ mine) (a ∷ past) marked = ap (λ rest. a ∷ rest) (acts_kept mine past (omega arith))

-- what looks at the files name by name
moved_same : (file file' : Option File) (old new : List ℕ) (a b : Files) (name : List ℕ) → file ≡ file' → a name ≡ b name
    → moved file old new a name ≡ moved file' old new b name
moved_same file file' old new a b name same other =
    ap (λ (f : Option File). moved f old new a name) same ∙ by file' other
  where
    by : (f : Option File) → a name ≡ b name → moved f old new a name ≡ moved f old new b name
    by None e = e
    by (Some f) e = ap (λ o. if bytes_eq name new then Some f else (if bytes_eq name old then None else o)) e

pub changed_same : (change : Change) (a b : Files) → ((name : List ℕ) → a name ≡ b name) → (name : List ℕ)
    → changed change a name ≡ changed change b name
changed_same Nothing a b same name = same name
changed_same (Created n) a b same name = ap (λ o. if bytes_eq name n then made o else o) (same name)
changed_same (Grown n piece) a b same name = ap (λ o. if bytes_eq name n then option_map (grown piece) o else o) (same name)
changed_same (Secured n) a b same name = ap (λ o. if bytes_eq name n then option_map secured o else o) (same name)
changed_same (Moved old new) a b same name = moved_same (a old) (b old) old new a b name (same old) (same name)
changed_same (Gone n) a b same name = ap (λ o. if bytes_eq name n then None else o) (same name)
changed_same (Shortened n k) a b same name = ap (λ o. if bytes_eq name n then option_map (shortened k) o else o) (same name)
changed_same (LogGrown path piece) a b same name = same name
changed_same (LogTurned path suffix) a b same name = same name
changed_same (LogDropped path suffix) a b same name = same name

logs_changed_same : (change : Change) (a b : Logs) → ((path : List ℕ) → a path ≡ b path) → (path : List ℕ)
    → logs_changed change a path ≡ logs_changed change b path
logs_changed_same Nothing a b same path = same path
logs_changed_same (Created n) a b same path = same path
logs_changed_same (Grown n piece) a b same path = same path
logs_changed_same (Secured n) a b same path = same path
logs_changed_same (Moved old new) a b same path = same path
logs_changed_same (Gone n) a b same path = same path
logs_changed_same (Shortened n k) a b same path = same path
logs_changed_same (LogGrown p piece) a b same path = ap (λ l. if bytes_eq path p then log_grown piece l else l) (same path)
logs_changed_same (LogTurned p suffix) a b same path = ap (λ l. if bytes_eq path p then log_turned suffix l else l) (same path)
logs_changed_same (LogDropped p suffix) a b same path = ap (λ l. if bytes_eq path p then log_dropped suffix l else l) (same path)

tails_same : (answer : ActAnswer) (a b : Files) → ((name : List ℕ) → a name ≡ b name) → (name : List ℕ)
    → tails_left answer a name ≡ tails_left answer b name
tails_same (Done words number of) a b same name = same name
tails_same (Refused fault) a b same name = same name
tails_same (Stopped left) a b same name = ap (option_map (with_tail (tail_of left name))) (same name)
tails_same (Rotated suffix) a b same name = same name
tails_same (Deleted suffix) a b same name = same name

files_by_same : (act : Act) (a b : Files) → ((name : List ℕ) → a name ≡ b name) → (name : List ℕ)
    → files_by act a name ≡ files_by act b name
files_by_same act a b same = tails_same act.answer (changed (did_of act) a) (changed (did_of act) b) (changed_same (did_of act) a b same)

answer_same : (call : Deed) (a b : Files) (answer : ActAnswer) → ((name : List ℕ) → a name ≡ b name)
    → fitted_answer call a answer ≡ fitted_answer call b answer
answer_same call a b (Done words number of) same = refl
answer_same call a b (Refused fault) same = refl
answer_same call a b (Stopped left) same =
    let change = stopped_change left (change_of call) in
    ap (λ l. Stopped l) (fitted_same call (changed change a) (changed change b) left (changed_same change a b same))
answer_same call a b (Rotated suffix) same = refl
answer_same call a b (Deleted suffix) same = refl

pub fitted_files_same : (act : Act) (a b : Files) → ((name : List ℕ) → a name ≡ b name) → fitted a act ≡ fitted b act
fitted_files_same act a b same = ap (with_answer act) (answer_same (deed act) a b act.answer same)

-- the greatest number of a message, after one call more
message_numbered : (n : ℕ) (call : Deed) (who : Who) (done : Bool) (earlier : Option Message) (last : ℕ)
    → (last < n → earlier ≡ None) → last_message call last < n → message_in n call who done earlier ≡ None
message_numbered n (Sends m address bytes) who done earlier last none above = grind (arith, nat_tests)
message_numbered n call who done earlier last none above = none above

-- the same of a taking
taking_numbered : (n : ℕ) (call : Deed) (answer : ActAnswer) (who : Who) (earlier : Option Taken) (last : ℕ)
    → (last < n → earlier ≡ None) → last_taking call answer last < n → taken_in n call answer who earlier ≡ None
taking_numbered n (Takes door wait) (Done (bytes ∷ words) number of) who earlier last none above = grind (arith, nat_tests)
taking_numbered n (TakesMore t) (Done (bytes ∷ words) number of) who earlier last none above = rw (none above) (by (n == t))
  where
    by : (b : Bool) → ◌≡◌ {A = Option Taken} (if b then with_more who bytes None else None) None
    by true = refl
    by false = refl
taking_numbered n call answer who earlier last none above = none above

-- the files, logs and numbers after one act more
pub kept_one : (mine : List Bool) (past : List Act) (files files' : List (Named MemFile)) (logs logs' : List (Named MemLog))
    (stopped stopped' own : Bool) (messages messages' takings takings' : ℕ) (act left : Act)
    → IsKept mine past files logs stopped messages takings → IsLeft (file_in files) (log_in logs) act left files' logs'
    → stopped' ≡ (if own then is_stop left.answer else stopped)
    → messages' ≡ last_message (deed left) messages → takings' ≡ last_taking (deed left) left.answer takings
    → IsKept (mine ++ own ∷ []) (past ++ left ∷ []) files' logs' stopped' messages' takings'
kept_one mine past files files' logs logs' stopped stopped' own messages messages' takings takings' act left kept is stop sent takes =
    let before = told_of (kept_in mine past) in
    let told : told_of (kept_in (mine ++ own ∷ []) (past ++ left ∷ [])) ≡ step_of before (kept_as own left) ∷ before =
    ap told_of (kept_push mine past own left kept.marked) ∙ told_push (kept_in mine past) (kept_as own left) in
    record {
      marked = omega (arith, kept.marked, length_push mine own, length_push past left);
      stores = record {
        files_are = record {
          at = λ name.
              is.leaves.files_are.at name
              ∙ files_by_same left (file_in files) (files_after before) kept.stores.files_are.at name
              ∙ sym (ap (λ (h : History). files_after h name) told);
        };
        logs_are = record {
          at = λ path.
              is.leaves.logs_are.at path
              ∙ logs_changed_same (did_of left) (log_in logs) (logs_after before) kept.stores.logs_are.at path
              ∙ sym (ap (λ (h : History). logs_after h path) told);
        };
      };
      numbers = record {
        sent = λ n above.
            ap (λ (h : History). message h n) told
            ∙ message_numbered n (deed left) left.who (is_done left.answer) (message before n) messages (kept.numbers.sent n)
            (subst (λ last. last < n) sent above);
        takes = λ n above.
            ap (λ (h : History). taken h n) told
            ∙ taking_numbered n (deed left) left.answer left.who (taken before n) takings (kept.numbers.takes n)
            (subst (λ last. last < n) takes above);
      };
      stop = ap is_stopped told ∙ newest own (is_stop left.answer) (is_stopped before) stopped kept.stop ∙ sym stop;
    }
  where
    newest : (own stop before stopped : Bool) → before ≡ stopped
        → elim own [ true ↦ stop | false ↦ before ] ≡ (if own then stop else stopped)
    newest true stop before stopped e = refl
    newest false stop before stopped e = e

sound_in : (files : List (Named MemFile)) (name : List ℕ) → IsSound (file_in files name)
sound_in [] name = tt
sound_in (e ∷ files) name = by (bytes_eq name e.name) (sound_in files name)
  where
    by : (b : Bool) → IsSound (file_in files name) → IsSound (if b then Some (file_of e.value) else file_in files name)
    by true rest = omega arith
    by false rest = rest

-- the files that are told are sound
pub sound_kept : (files : List (Named MemFile)) (told : Files) → Stores files told → (name : List ℕ) → IsSound (told name)
sound_kept files told stores name = subst IsSound (stores.at name) (sound_in files name)

-- there is as much room in the same files and logs
pub room_same : (call : Deed) (files files' : Files) (logs logs' : Logs) → ((name : List ℕ) → files name ≡ files' name)
    → ((path : List ℕ) → logs path ≡ logs' path) → HasRoom call files logs → HasRoom call files' logs'
room_same (Appends name piece) files files' logs logs' same same_logs room =
    subst (λ (f : Option File). file_size f + length piece < 2 ^ 63) (same name) room
room_same (GrowsLog path piece) files files' logs logs' same same_logs room =
    subst (λ (l : Log). log_size l + length piece < 2 ^ 62) (same_logs path) room
room_same call files files' logs logs' same same_logs room = tt

-- the histories leave the same files, logs, messages and takings
record LeavesSame (a b : History) : Type 0 where
  files : (name : List ℕ) → files_after a name ≡ files_after b name
  logs : (path : List ℕ) → logs_after a path ≡ logs_after b path
  messages : (n : ℕ) → message a n ≡ message b n
  takings : (n : ℕ) → taken a n ≡ taken b n

disowned_same : (kept : List Kept) (a b : History) → LeavesSame a b → LeavesSame (told_from a (map disowned kept)) (told_from b kept)
disowned_same [] a b same = same
disowned_same (k ∷ kept) a b same =
    disowned_same kept (step_of a (disowned k) ∷ a) (step_of b k ∷ b) (record {
      files = files_by_same k.act (files_after a) (files_after b) same.files;
      logs = logs_changed_same (did_of k.act) (logs_after a) (logs_after b) same.logs;
      messages = λ n. ap (message_in n (deed k.act) k.act.who (is_done k.act.answer)) (same.messages n);
      takings = λ n. ap (taken_in n (deed k.act) k.act.answer k.act.who) (same.takings n);
    })

disowned_runs : (kept : List Kept) (a : History) → is_stopped a ≡ false → is_stopped (told_from a (map disowned kept)) ≡ false
disowned_runs [] a runs = runs
disowned_runs (k ∷ kept) a runs = disowned_runs kept (step_of a (disowned k) ∷ a) runs

pub disowned_in : (mine : List Bool) (past : List Act) → kept_in (map (λ _. false) mine) past ≡ map disowned (kept_in mine past)
disowned_in [] past = refl
disowned_in (o ∷ mine) [] = refl
disowned_in (o ∷ mine) (a ∷ past) = ap (λ rest. kept_as false a ∷ rest) (disowned_in mine past)

-- the files, logs and numbers don't hang on whose the acts are
pub kept_disowned : (mine : List Bool) (past : List Act) (files : List (Named MemFile)) (logs : List (Named MemLog))
    (stopped : Bool) (messages takings : ℕ)
    → IsKept mine past files logs stopped messages takings → IsKept (map (λ _. false) mine) past files logs false messages takings
kept_disowned mine past files logs stopped messages takings kept =
    let before = kept_in mine past in
    let is = disowned_in mine past in
    let same = disowned_same before [] [] (record { files = λ name. refl; logs = λ path. refl; messages = λ n. refl; takings = λ n. refl }) in
    record {
      marked = length-map mine (λ _. false) ∙ kept.marked;
      stores = record {
        files_are = record {
          at = λ name.
              kept.stores.files_are.at name ∙ sym (same.files name) ∙ sym (ap (λ k. files_after (told_of k) name) is);
        };
        logs_are = record {
          at = λ path.
              kept.stores.logs_are.at path ∙ sym (same.logs path) ∙ sym (ap (λ k. logs_after (told_of k) path) is);
        };
      };
      numbers = record {
        sent = λ n above. ap (λ k. message (told_of k) n) is ∙ same.messages n ∙ kept.numbers.sent n above;
        takes = λ n above. ap (λ k. taken (told_of k) n) is ∙ same.takings n ∙ kept.numbers.takes n above;
      };
      stop = ap (λ k. is_stopped (told_of k)) is ∙ disowned_runs before [] refl;
    }

-- what a keeper tells, by its parts
pub same_state : (a b : List Kept) (x y : ℕ) (r s : Repeating) → a ≡ b → x ≡ y → r ≡ s
    → ◌≡◌ {A = State} (record { kept = a; clock = x; repeats = r }) (record { kept = b; clock = y; repeats = s })
same_state a b x y r s kept clock repeats =
    ap (λ (k : List Kept). let t : State = record { kept = k; clock = x; repeats = r } in t) kept
    ∙ ap (λ (n : ℕ). let t : State = record { kept = b; clock = n; repeats = r } in t) clock
    ∙ ap (λ (q : Repeating). let t : State = record { kept = b; clock = y; repeats = q } in t) repeats
