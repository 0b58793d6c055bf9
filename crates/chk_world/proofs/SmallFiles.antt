-- The checkpoints and books of every legal history are whole, and are read.
use Rattle.std.proofs.Common.{◌≡◌, ℕ, Bool, true, false, ◌&&◌, not, List, [], ◌∷◌, Option, Some, None, option_map, ap, sym, subst, ◌∙◌, if◌then◌else◌, refl, true≢false}
use Rattle.std.specs.Prelude.{IsTrue}
use Rattle.std.proofs.lemmas.Bool.{and_parts}
use Rattle.chk_site.specs.declared.acts.Role.{Role}
use Rattle.chk_site.specs.declared.acts.Role.TheVariants.{Agent, Collector, Job, Writer}
use Rattle.chk_site.specs.declared.acts.Who.{Who}
use Rattle.chk_site.specs.declared.acts.ActAnswer.{ActAnswer}
use Rattle.chk_site.specs.Files.{File, Files, Grown, made, grown, shortened}
use Rattle.chk_site.specs.Acts.{Deed, Starts, ReadsLog, AsksNewest, GrowsLog, Creates, Appends, Syncs, Renames, Removes, Cuts, AsksSize, Reads, Lists, AsksClock, Pauses, Sends, Gets, Takes, TakesMore, Answers, Says, deed, change_of, is_done, tail_of}
use Rattle.chk_site.specs.Effect.{TailFits}
use Rattle.chk_site.specs.History.{Step, History, files_after}
use Rattle.chk_world.specs.Names.{Folder, Name, BornFile, SinkFile, MarkFile, DoneFile, CheckFile, BookFile, SegmentFile, Temporary, OtherFile, read, spell, file, is_known, owns, owns_by}
use Rattle.chk_world.specs.Checkpoints.{Line, read_checkpoint}
use Rattle.chk_world.specs.Books.{Book, read_book}
use Rattle.chk_world.specs.Committed.{OnFile, IsWhole}
use Rattle.chk_world.specs.Agents.{CheckpointMovesForward, MayPublish, AgentRule}
use Rattle.chk_world.specs.Jobs.{NewBook, MayPublishBook, JobRule}
use Rattle.chk_world.specs.Rules.{may_remove, Framed, Obeys, Legal, RoleMay, RenameFits, is_fixed, is_small}
use Rattle.chk_world.specs.Laws.{IsCheckpointFile, IsWholeBook, HasReadableFiles}
use Rattle.chk_world.proofs.NameTests.{same_name, name_same, named, applied, moved_named, bridge}
use Rattle.chk_world.proofs.Outcomes.{CameTo, whole, nothing, junk, Leaves, went_on, was_stopped, leaves}
use Rattle.chk_world.proofs.Kept.{sync_same, no_tail_fits, on_file}
use Rattle.chk_world.proofs.Stops.{no_work}
use Rattle.chk_world.proofs.Replacing.{small_no_sink}

came_from : (before : Files) (old n : Name) → (old ≡ Temporary n) × OnFile (file before old) IsWhole
    → (old ≡ Temporary n) × OnFile (file before (Temporary n)) IsWhole
came_from before old n p = (p.0, subst (λ m. OnFile (file before m) IsWhole) p.0 p.1)

-- a small file comes from its own next content, which is whole
pub rename_small : (before : Files) (old n : Name) → is_small n ≡ true → RenameFits before old n
    → (old ≡ Temporary n) × OnFile (file before (Temporary n)) IsWhole
rename_small before (SinkFile x) n small h = absurd (true≢false (sym small ∙ ap is_small h))
rename_small before (BornFile c) n small h = absurd h
rename_small before (MarkFile x) n small h = absurd h
rename_small before (DoneFile x) n small h = absurd h
rename_small before (CheckFile source) n small h = absurd h
rename_small before (BookFile folder) n small h = absurd h
rename_small before (SegmentFile folder k) n small h = came_from before (SegmentFile folder k) n (rw (small_no_sink n small, small) at h)
rename_small before (Temporary m) n small h = came_from before (Temporary m) n (rw (small_no_sink n small, small) at h)
rename_small before (OtherFile w) n small h = came_from before (OtherFile w) n (rw (small_no_sink n small, small) at h)

small_fixed : (n : Name) → is_small n ≡ true → is_fixed n ≡ true
small_fixed n e = rw e refl

pub not_both : (b : Bool) → b ≡ true → not b ≡ true → ⊥
not_both true e n = true≢false (sym n)
not_both false e n = true≢false (sym e)

-- no small file is renamed away
not_away : (before : Files) (n new : Name) → is_small n ≡ true → RenameFits before n new → ⊥
not_away before (SinkFile x) new small h = true≢false (sym small)
not_away before (BornFile c) new small h = h
not_away before (MarkFile x) new small h = h
not_away before (DoneFile x) new small h = true≢false (sym small)
not_away before (CheckFile source) new small h = h
not_away before (BookFile folder) new small h = h
not_away before (SegmentFile folder k) new small h = true≢false (sym small)
not_away before (Temporary m) new small h = true≢false (sym small)
not_away before (OtherFile w) new small h = true≢false (sym small)

-- of one small file, a fact that is there whenever it is published
module _ (n : Name) (small : is_small n ≡ true) (known : IsTrue (is_known n)) (Good : Option File → Type 0)
    (whole_of : (o : Option File) → Good o → OnFile o IsWhole) (who : Who) (kept : IsTrue (may_remove who n) → Good None) (before : Files) where
  abbrev Published : Deed → Type 0
  Published call = (old new : List ℕ) → call ≡ Renames old new → read new ≡ n → (f : File) → file before (read old) ≡ Some f → Good (Some f)

  apart : (m : Name) → not (is_fixed m) ≡ true → same_name n m ≡ false
  apart m loose = go (same_name n m) refl
    where
      go : (b : Bool) → same_name n m ≡ b → b ≡ false
      go false e = refl
      go true e = absurd (not_both (is_fixed m) (ap is_fixed (sym (name_same n m e)) ∙ small_fixed n small) loose)

  unchanged : (m : Name) (g : Option File → Option File) → IsTrue (owns who m && not (is_fixed m)) → Good (file before n)
      → Good (if same_name n m then g (file before n) else file before n)
  unchanged m g framed h =
      subst (λ b. Good (if b then g (file before n) else file before n)) (sym (apart m (and_parts (owns who m) (not (is_fixed m)) framed).1)) h

  renamed : (old new : List ℕ) (t : Option File) → file before (read old) ≡ t → RenameFits before (read old) (read new)
      → Published (Renames old new) → Good (file before n) → Good (moved_named t (read old) (read new) (file before) n)
  renamed old new None is fits published h = h
  renamed old new (Some f) is fits published h = go (same_name n (read new)) (same_name n (read old)) refl refl
    where
      go : (b c : Bool) → same_name n (read new) ≡ b → same_name n (read old) ≡ c → Good (if b then Some f else if c then None else file before n)
      go true c e d = published old new refl (sym (name_same n (read new) e)) f is
      go false true e d =
          absurd (not_away before n (read new) small (subst (λ m. RenameFits before m (read new)) (sym (name_same n (read old) d)) fits))
      go false false e d = h

  removed : (m : Name) → IsTrue (may_remove who m) → Good (file before n) → Good (if same_name n m then None else file before n)
  removed m may h = go (same_name n m) refl
    where
      go : (b : Bool) → same_name n m ≡ b → Good (if b then None else file before n)
      go true e = kept (subst (λ k. IsTrue (may_remove who k)) (sym (name_same n m e)) may)
      go false e = h

  whole_good : (call : Deed) → Framed who before call → Published call → Good (file before n) → Good (applied (named (change_of call)) (file before) n)
  whole_good (Creates w) framed published h = unchanged (read w) made framed h
  whole_good (Appends w piece) framed published h = unchanged (read w) (option_map (grown piece)) framed h
  whole_good (Cuts w k) framed published h = unchanged (read w) (option_map (shortened k)) framed h
  whole_good (Syncs w) framed published h =
      subst Good (sym (sync_same (same_name n (read w)) (file before n) (whole_of (file before n) h))) h
  whole_good (Removes w) framed published h = removed (read w) framed h
  whole_good (Renames old new) framed published h = renamed old new (file before (read old)) refl framed.1 published h
  whole_good Starts framed published h = h
  whole_good (ReadsLog path part at max) framed published h = h
  whole_good (AsksNewest path) framed published h = h
  whole_good (GrowsLog path piece) framed published h = h
  whole_good (AsksSize w) framed published h = h
  whole_good (Reads w at max) framed published h = h
  whole_good (Lists w) framed published h = h
  whole_good AsksClock framed published h = h
  whole_good (Pauses k) framed published h = h
  whole_good (Sends m address bytes) framed published h = h
  whole_good (Gets m) framed published h = h
  whole_good (Takes door wait) framed published h = h
  whole_good (TakesMore t) framed published h = h
  whole_good (Answers t bytes) framed published h = h
  whole_good (Says bytes) framed published h = h

  pub came_good : (call : Deed) (d : Bool) (after : Files) → CameTo call d before after → Framed who before call → Published call
      → Good (file before n) → Good (file after n)
  came_good call d after (whole e) framed published h =
      subst Good (sym (e (spell n) ∙ bridge (change_of call) before n known)) (whole_good call framed published h)
  came_good call d after (nothing not_done e) framed published h = subst Good (sym (e (spell n))) h
  came_good call d after (junk w piece bytes is not_done e) framed published h =
      subst Good (sym (e (spell n) ∙ bridge (Grown w bytes) before n known))
      (unchanged (read w) (option_map (grown bytes)) (subst (λ c. Framed who before c) is framed) h)

  leaves_good : (call : Deed) (answer : ActAnswer) (after : Files) → Leaves call answer before after → Framed who before call → Published call
      → Good (file before n) → Good (file after n)
  leaves_good call answer after (went_on no_stop came) framed published h = came_good call (is_done answer) after came framed published h
  leaves_good call answer after (was_stopped left is middle came tails) framed published h =
      let there = came_good call false middle came framed published h in
      let fits : TailFits 0 (tail_of left (spell n)) (file middle n) =
      subst (λ k. TailFits k (tail_of left (spell n)) (file middle n)) (no_work who before call n known (small_fixed n small) framed) (tails (spell n)).1 in
      subst Good (sym ((tails (spell n)).0 ∙ no_tail_fits (file middle n) (tail_of left (spell n)) (whole_of (file middle n) there) fits)) there

-- a legal step keeps such a fact
pub step_good : (stamped : List (List ℕ)) (history : History) (step : Step) (n : Name) → is_small n ≡ true → IsTrue (is_known n)
    → (Good : Option File → Type 0) → ((o : Option File) → Good o → OnFile o IsWhole) → (IsTrue (may_remove step.act.who n) → Good None)
    → Obeys stamped history step
    → ((old new : List ℕ) → deed step.act ≡ Renames old new → read new ≡ n → (f : File) → file (files_after history) (read old) ≡ Some f → Good (Some f))
    → Good (file (files_after history) n) → Good (file step.files n)
step_good stamped history step n small known Good whole_of kept obeys published h =
    let e = obeys.honest.modelled.effect in
    leaves_good n small known Good whole_of step.act.who kept (files_after history) (deed step.act) step.act.answer step.files
    (leaves (deed step.act) step.act.answer (files_after history) step.files e.did e.may e.files_left) obeys.own_files published h

-- where the fact is one of the file, where that is there
pub step_file : (stamped : List (List ℕ)) (history : History) (step : Step) (n : Name) → is_small n ≡ true → IsTrue (is_known n)
    → (Good : File → Type 0) → ((f : File) → Good f → IsWhole f) → Obeys stamped history step
    → ((old new : List ℕ) → deed step.act ≡ Renames old new → read new ≡ n → OnFile (file (files_after history) (read old)) Good)
    → OnFile (file (files_after history) n) Good → OnFile (file step.files n) Good
step_file stamped history step n small known Good whole_of obeys published h =
    step_good stamped history step n small known (λ o. OnFile o Good) (λ o g. on_file o whole_of g) (λ may. tt) obeys
    (λ old new is r f there. subst (λ o. OnFile o Good) there (published old new is r)) h

-- who may rename a checkpoint is an agent, and a book the job
pub check_owner : (role : Role) (name source : List ℕ) → owns_by role name (CheckFile source) ≡ true → role ≡ Agent
check_owner Agent name source h = refl
check_owner Collector name source h = absurd (true≢false (sym h))
check_owner Job name source h = absurd (true≢false (sym h))
check_owner Writer name source h = absurd (true≢false (sym h))

pub book_owner : (role : Role) (name : List ℕ) (folder : Folder) → owns_by role name (BookFile folder) ≡ true → role ≡ Job
book_owner Job name folder h = refl
book_owner Agent name folder h = absurd (true≢false (sym h))
book_owner Collector name folder h = absurd (true≢false (sym h))
book_owner Writer name folder h = absurd (true≢false (sym h))

-- what is asked of a rename to a small file
pub record IsPublication (who : Who) (before : Files) (old n : Name) : Type 0 where
  pub owned : owns who n ≡ true
  pub from : old ≡ Temporary n
  pub whole_is : OnFile (file before (Temporary n)) IsWhole

pub publication : (stamped : List (List ℕ)) (history : History) (step : Step) (old new : List ℕ) (n : Name) → Obeys stamped history step
    → deed step.act ≡ Renames old new → read new ≡ n → is_small n ≡ true → IsPublication step.act.who (files_after history) (read old) n
publication stamped history step old new n obeys is r small =
    let framed = subst (Framed step.act.who (files_after history)) is obeys.own_files in
    let both = and_parts (owns step.act.who (read old)) (owns step.act.who (read new)) framed.0 in
    let from = rename_small (files_after history) (read old) n small (subst (RenameFits (files_after history) (read old)) r framed.1) in
    record { owned = ap (owns step.act.who) (sym r) ∙ both.1; from = from.0; whole_is = from.1 }

check_rule : (who : Who) (history : History) (step : Step) (old : Name) (source : List ℕ) → old ≡ Temporary (CheckFile source)
    → OnFile (file (files_after history) (Temporary (CheckFile source))) IsWhole → MayPublish who history step old (CheckFile source)
    → OnFile (file (files_after history) old) IsCheckpointFile
check_rule who history step old source from sound may =
    subst (λ m. MayPublish who history step m (CheckFile source) → OnFile (file (files_after history) m) IsCheckpointFile) (sym from)
    (λ may. joined (file (files_after history) (Temporary (CheckFile source))) (CheckpointMovesForward who history step) sound may.1) may
  where
    joined : (o : Option File) (P : List Line → Type 0) → OnFile o IsWhole
        → OnFile o (λ f. (lines : List Line) × (read_checkpoint f.bytes ≡ Some lines) × P lines) → OnFile o IsCheckpointFile
    joined None P w p = tt
    joined (Some f) P w p = record { whole = w; lines = p.0; is = p.1 }

check_published : (stamped : List (List ℕ)) (history : History) (step : Step) (source : List ℕ) → Obeys stamped history step
    → (old new : List ℕ) → deed step.act ≡ Renames old new → read new ≡ CheckFile source
    → OnFile (file (files_after history) (read old)) IsCheckpointFile
check_published stamped history step source obeys old new is r =
    let p = publication stamped history step old new (CheckFile source) obeys is r refl in
    let who = step.act.who in
    let agent = check_owner who.role who.name source p.owned in
    let rule : AgentRule who history step (deed step.act) = subst (λ role. RoleMay stamped role history step) agent obeys.rule in
    let may : MayPublish who history step (read old) (read new) = subst (AgentRule who history step) is rule in
    check_rule who history step (read old) source p.from p.whole_is (subst (MayPublish who history step (read old)) r may)

book_rule : (stamped : List (List ℕ)) (history : History) (old : Name) (folder : Folder) → old ≡ Temporary (BookFile folder)
    → OnFile (file (files_after history) (Temporary (BookFile folder))) IsWhole → MayPublishBook stamped history old (BookFile folder)
    → OnFile (file (files_after history) old) IsWholeBook
book_rule stamped history old folder from sound may =
    joined (file (files_after history) old) (NewBook stamped folder history) (subst (λ m. OnFile (file (files_after history) m) IsWhole) (sym from) sound) may
  where
    joined : (o : Option File) (P : Book → Type 0) → OnFile o IsWhole
        → OnFile o (λ f. (b : Book) × (read_book f.bytes ≡ Some b) × P b) → OnFile o IsWholeBook
    joined None P w p = tt
    joined (Some f) P w p = record { whole = w; book = p.0; is = p.1 }

book_published : (stamped : List (List ℕ)) (history : History) (step : Step) (folder : Folder) → Obeys stamped history step
    → (old new : List ℕ) → deed step.act ≡ Renames old new → read new ≡ BookFile folder
    → OnFile (file (files_after history) (read old)) IsWholeBook
book_published stamped history step folder obeys old new is r =
    let p = publication stamped history step old new (BookFile folder) obeys is r refl in
    let who = step.act.who in
    let job = book_owner who.role who.name folder p.owned in
    let rule : JobRule stamped history (deed step.act) = subst (λ role. RoleMay stamped role history step) job obeys.rule in
    let may : MayPublishBook stamped history (read old) (read new) = (subst (JobRule stamped history) is rule).1 in
    book_rule stamped history (read old) folder p.from p.whole_is (subst (MayPublishBook stamped history (read old)) r may)

pub readable : (stamped : List (List ℕ)) (history : History) → Legal stamped history → HasReadableFiles (files_after history)
readable stamped [] legal = record { checkpoints = λ source known. tt; books = λ folder. tt }
readable stamped (step ∷ history) legal =
    let earlier = readable stamped history legal.0 in
    record {
      checkpoints = λ source known.
          step_file stamped history step (CheckFile source) refl known IsCheckpointFile (λ f g. g.whole) legal.1
          (check_published stamped history step source legal.1) (earlier.checkpoints source known);
      books = λ folder.
          step_file stamped history step (BookFile folder) refl refl IsWholeBook (λ f g. g.whole) legal.1
          (book_published stamped history step folder legal.1) (earlier.books folder);
    }
