-- What steps of others leave as it was: what a process sees, and its own files.
use Rattle.std.proofs.Common.{◌≡◌, ℕ, Bool, true, false, ◌&&◌, not, List, [], ◌∷◌, Option, Some, None, option_map, ap, sym, subst, ◌∙◌, if◌then◌else◌, refl, bytes_eq, true≢false}
use Rattle.std.specs.Prelude.{IsTrue, IsFalse, codes}
use Rattle.std.proofs.lemmas.Bool.{and_parts, and_from}
use Rattle.chk_site.specs.declared.acts.Role.{Role}
use Rattle.chk_site.specs.declared.acts.Role.TheVariants.{Agent, Collector, Job, Writer}
use Rattle.chk_site.specs.declared.acts.Who.{Who}
use Rattle.chk_site.specs.declared.acts.ActAnswer.{ActAnswer}
use Rattle.chk_site.specs.declared.acts.ActAnswer.TheVariants.{Done, Refused, Stopped, Rotated, Deleted}
use Rattle.chk_site.specs.Files.{File, Files, Grown, made, grown, secured, shortened}
use Rattle.chk_site.specs.Acts.{Deed, Starts, ReadsLog, AsksNewest, GrowsLog, Creates, Appends, Syncs, Renames, Removes, Cuts, AsksSize, Reads, Lists, AsksClock, Pauses, Sends, Gets, Takes, TakesMore, Answers, Says, deed, change_of, is_done, same_role, same_who}
use Rattle.chk_site.specs.History.{Step, History, files_after, since_start, is_start}
use Rattle.chk_world.specs.Names.{Name, BornFile, SinkFile, MarkFile, DoneFile, CheckFile, BookFile, SegmentFile, Temporary, OtherFile, read, spell, file, owns, owns_by, is_done_sink}
use Rattle.chk_world.specs.Collectors.{View, view, view_after}
use Rattle.chk_world.specs.ArchiveRuns.{Listing, last_listing, listing_by}
use Rattle.chk_world.specs.Rules.{Framed, must_start, stopped_by, is_named_so, is_fixed, may_remove}
use Rattle.chk_world.specs.Places.{touched_by_stop, Foreign, IsOwnBy, IsOwn}
use Rattle.chk_world.proofs.Ends.{bytes_same, bytes_self}
use Rattle.chk_world.proofs.NameTests.{same_name, name_same, named, applied, moved_named, bridge}
use Rattle.chk_world.proofs.Outcomes.{CameTo, whole, nothing, junk, Leaves, went_on, was_stopped, leaves}
use Rattle.chk_world.proofs.Stops.{no_tail, untailed}

-- the process owns its own files
pub owns_own : (role : Role) (name : List ℕ) (n : Name) → IsOwnBy role name n → owns_by role name n ≡ true
owns_own Collector name (BornFile c) own = ap (bytes_eq name) (sym own) ∙ bytes_self name
owns_own Collector name (SinkFile x) own = ap (bytes_eq name) (sym own) ∙ bytes_self name
owns_own Collector name (MarkFile x) own = ap (bytes_eq name) (sym own) ∙ bytes_self name
owns_own Agent name (CheckFile source) own = ap (bytes_eq name) (sym own) ∙ bytes_self name
owns_own Job name (BookFile folder) own = refl
owns_own Job name (SegmentFile folder k) own = refl
owns_own role name (Temporary n) own = owns_own role name n own
owns_own _ name n own = absurd own

not_done : (role : Role) (name : List ℕ) (n : Name) → IsOwnBy role name n → not (is_done_sink n) ≡ true
not_done role name (DoneFile x) own = absurd (never role own)
  where
    never : (role : Role) → IsOwnBy role name (DoneFile x) → ⊥
    never Agent h = h
    never Collector h = h
    never Job h = h
    never Writer h = h
not_done role name n own = refl

owns_open_own : (role : Role) (name : List ℕ) (n : Name) → IsOwnBy role name n → owns_by role name n && not (is_done_sink n) ≡ true
owns_open_own role name n own = and_from (owns_by role name n) (not (is_done_sink n)) (owns_own role name n own) (not_done role name n own)

-- who may change such a file is this process
one_owner : (role : Role) (name : List ℕ) (n : Name) (role' : Role) (name' : List ℕ) → IsOwnBy role name n → IsTrue (is_named_so role' name')
    → IsTrue (owns_by role' name' n) → same_role role role' && bytes_eq name name' ≡ true
one_owner Collector name (BornFile c) Collector name' own so h = ap (bytes_eq name) (bytes_same name' c h ∙ sym own) ∙ bytes_self name
one_owner Collector name (BornFile c) role' name' own so h = absurd (true≢false (sym h))
one_owner Collector name (SinkFile x) Collector name' own so h = ap (bytes_eq name) (bytes_same name' x.collector h ∙ sym own) ∙ bytes_self name
one_owner Collector name (SinkFile x) role' name' own so h = absurd (true≢false (sym h))
one_owner Collector name (MarkFile x) Collector name' own so h = ap (bytes_eq name) (bytes_same name' x.collector h ∙ sym own) ∙ bytes_self name
one_owner Collector name (MarkFile x) role' name' own so h = absurd (true≢false (sym h))
one_owner Agent name (CheckFile source) Agent name' own so h = ap (bytes_eq name) (bytes_same name' source h ∙ sym own) ∙ bytes_self name
one_owner Agent name (CheckFile source) role' name' own so h = absurd (true≢false (sym h))
one_owner Job name (BookFile folder) Job name' own so h = ap (bytes_eq name) (bytes_same name' (codes "job") so ∙ sym own) ∙ bytes_self name
one_owner Job name (BookFile folder) role' name' own so h = absurd (true≢false (sym h))
one_owner Job name (SegmentFile folder k) Job name' own so h = ap (bytes_eq name) (bytes_same name' (codes "job") so ∙ sym own) ∙ bytes_self name
one_owner Job name (SegmentFile folder k) role' name' own so h = absurd (true≢false (sym h))
one_owner role name (Temporary n) role' name' own so h = one_owner role name n role' name' own so h
one_owner _ name n role' name' own so h = absurd own

no_done : (role : Role) (name : List ℕ) (m : Name) → IsOwnBy role name m → (x : _) → same_name m (DoneFile x) ≡ false
no_done role name (BornFile c) own x = refl
no_done role name (SinkFile y) own x = refl
no_done role name (MarkFile y) own x = refl
no_done role name (DoneFile y) own x = absurd (never role own)
  where
    never : (role : Role) → IsOwnBy role name (DoneFile y) → ⊥
    never Agent h = h
    never Collector h = h
    never Job h = h
    never Writer h = h
no_done role name (CheckFile source) own x = refl
no_done role name (BookFile folder) own x = refl
no_done role name (SegmentFile folder k) own x = refl
no_done role name (Temporary n) own x = refl
no_done role name (OtherFile w) own x = refl

module _ (me who : Who) (named_so : IsTrue (is_named_so who.role who.name)) (other : IsFalse (same_who me who)) (n : Name) (mine : IsOwn me n) where
  -- a name that the other one owns isn't this one
  pub apart : (m : Name) → IsTrue (owns who m) → same_name n m ≡ false
  apart m h = go (same_name n m) refl
    where
      go : (b : Bool) → same_name n m ≡ b → b ≡ false
      go false e = refl
      go true e =
          absurd (true≢false
          (sym (one_owner me.role me.name n who.role who.name mine.own named_so (subst (λ k. IsTrue (owns who k)) (sym (name_same n m e)) h))
          ∙ other))

  pub apart_removed : (m : Name) → IsTrue (may_remove who m) → same_name n m ≡ false
  apart_removed (MarkFile x) h = apart (MarkFile x) h
  apart_removed (DoneFile x) h = no_done me.role me.name n mine.own x
  apart_removed (BornFile c) h = apart (BornFile c) (and_parts (owns who (BornFile c)) false h).0
  apart_removed (SinkFile x) h = apart (SinkFile x) (and_parts (owns who (SinkFile x)) true h).0
  apart_removed (CheckFile source) h = apart (CheckFile source) (and_parts (owns who (CheckFile source)) false h).0
  apart_removed (BookFile folder) h = apart (BookFile folder) (and_parts (owns who (BookFile folder)) false h).0
  apart_removed (SegmentFile folder k) h = apart (SegmentFile folder k) (and_parts (owns who (SegmentFile folder k)) true h).0
  apart_removed (Temporary m) h = apart (Temporary m) (and_parts (owns who (Temporary m)) true h).0
  apart_removed (OtherFile w) h = apart (OtherFile w) (and_parts (owns who (OtherFile w)) true h).0

  mapped : (files : Name → Option File) (m : Name) (g : Option File → Option File) → same_name n m ≡ false
      → (if same_name n m then g (files n) else files n) ≡ files n
  mapped files m g e = ap (λ b. if b then g (files n) else files n) e

  moved_away : (files : Name → Option File) (old new : Name) (t : Option File) → same_name n old ≡ false → same_name n new ≡ false
      → moved_named t old new files n ≡ files n
  moved_away files old new None p q = refl
  moved_away files old new (Some f) p q =
      ap (λ b. if b then Some f else if same_name n old then None else files n) q ∙ ap (λ b. if b then None else files n) p

  changing : (w : List ℕ) → IsTrue (owns who (read w) && not (is_fixed (read w))) → same_name n (read w) ≡ false
  changing w framed = apart (read w) (and_parts (owns who (read w)) (not (is_fixed (read w))) framed).0

  -- a call of the other one that took place leaves the file
  whole_leaves : (call : Deed) (before : Files) → Framed who before call → applied (named (change_of call)) (file before) n ≡ file before n
  whole_leaves (Creates w) before framed = mapped (file before) (read w) made (changing w framed)
  whole_leaves (Appends w piece) before framed = mapped (file before) (read w) (option_map (grown piece)) (changing w framed)
  whole_leaves (Syncs w) before framed = mapped (file before) (read w) (option_map secured) (apart (read w) framed)
  whole_leaves (Renames old new) before framed =
      let both = and_parts (owns who (read old)) (owns who (read new)) framed.0 in
      moved_away (file before) (read old) (read new) (file before (read old)) (apart (read old) both.0) (apart (read new) both.1)
  whole_leaves (Removes w) before framed = mapped (file before) (read w) (λ o. None) (apart_removed (read w) framed)
  whole_leaves (Cuts w k) before framed = mapped (file before) (read w) (option_map (shortened k)) (changing w framed)
  whole_leaves Starts before framed = refl
  whole_leaves (ReadsLog path part at max) before framed = refl
  whole_leaves (AsksNewest path) before framed = refl
  whole_leaves (GrowsLog path piece) before framed = refl
  whole_leaves (AsksSize w) before framed = refl
  whole_leaves (Reads w at max) before framed = refl
  whole_leaves (Lists w) before framed = refl
  whole_leaves AsksClock before framed = refl
  whole_leaves (Pauses k) before framed = refl
  whole_leaves (Sends m address bytes) before framed = refl
  whole_leaves (Gets m) before framed = refl
  whole_leaves (Takes door wait) before framed = refl
  whole_leaves (TakesMore t) before framed = refl
  whole_leaves (Answers t bytes) before framed = refl
  whole_leaves (Says bytes) before framed = refl

  came_leaves : (call : Deed) (d : Bool) (before after : Files) → CameTo call d before after → Framed who before call → file after n ≡ file before n
  came_leaves call d before after (whole e) framed = e (spell n) ∙ bridge (change_of call) before n mine.known ∙ whole_leaves call before framed
  came_leaves call d before after (nothing not_done e) framed = e (spell n)
  came_leaves call d before after (junk w piece bytes is not_done e) framed =
      e (spell n) ∙ bridge (Grown w bytes) before n mine.known
      ∙ mapped (file before) (read w) (option_map (grown bytes)) (changing w (subst (λ c. Framed who before c) is framed))

  step_leaves : (call : Deed) (answer : ActAnswer) (before after : Files) → Leaves call answer before after → IsFalse (touched_by_stop me answer)
      → Framed who before call → file after n ≡ file before n
  step_leaves call answer before after (went_on no_stop came) spares framed = came_leaves call (is_done answer) before after came framed
  step_leaves call answer before after (was_stopped left is middle came tails) spares framed =
      (tails (spell n)).0
      ∙ untailed (file middle n) _
      (no_tail me left n mine.known (owns_open_own me.role me.name n mine.own) (subst (λ a. IsFalse (touched_by_stop me a)) is spares))
      ∙ came_leaves call false before middle came framed

-- a foreign step leaves the process's own files
pub files_stay : (stamped : List (List ℕ)) (me : Who) (history : History) (step : Step) (n : Name) → Foreign stamped me history step → IsOwn me n
    → file step.files n ≡ file (files_after history) n
files_stay stamped me history step n f mine =
    let e = f.obeys.honest.modelled.effect in
    step_leaves me step.act.who f.obeys.named f.other n mine (deed step.act) step.act.answer (files_after history) step.files
    (leaves (deed step.act) step.act.answer (files_after history) step.files e.did e.may e.files_left) f.spares f.obeys.own_files

-- a foreign step leaves the steps that the process has made since its start
pub steps_stay : (stamped : List (List ℕ)) (me : Who) (history : History) (step : Step) → Foreign stamped me history step
    → since_start me (step ∷ history) ≡ since_start me history
steps_stay stamped me history step f =
    ap (λ b. if b then (if is_start (deed step.act) then [] else step ∷ since_start me history) else since_start me history) f.other

-- a foreign step leaves a collector's view
view_spared : (me : Who) (own : Bool) (call : Deed) (answer : ActAnswer) (before after : Files) (v : View) → own ≡ false
    → IsFalse (touched_by_stop me answer) → view_after me own call answer before after v ≡ v
view_spared me own call (Stopped left) before after v other spares = rw (other, spares) refl
view_spared me own call (Done words number of) before after v other spares = rw other refl
view_spared me own call (Refused fault) before after v other spares = rw other refl
view_spared me own call (Rotated suffix) before after v other spares = rw other refl
view_spared me own call (Deleted suffix) before after v other spares = rw other refl

pub view_stays : (stamped : List (List ℕ)) (me : Who) (history : History) (step : Step) → Foreign stamped me history step
    → view me (step ∷ history) ≡ view me history
view_stays stamped me history step f =
    view_spared me _ (deed step.act) step.act.answer (files_after history) step.files (view me history) f.other f.spares

-- a foreign step leaves whether the process has to start
start_spared : (me : Who) (own : Bool) (answer : ActAnswer) (earlier : Bool) → own ≡ false → IsFalse (touched_by_stop me answer)
    → stopped_by me own answer earlier ≡ earlier
start_spared me own (Stopped left) earlier other spares = rw (other, spares) refl
start_spared me own (Done words number of) earlier other spares = rw other refl
start_spared me own (Refused fault) earlier other spares = rw other refl
start_spared me own (Rotated suffix) earlier other spares = rw other refl
start_spared me own (Deleted suffix) earlier other spares = rw other refl

pub start_stays : (stamped : List (List ℕ)) (me : Who) (history : History) (step : Step) → Foreign stamped me history step
    → must_start me (step ∷ history) ≡ must_start me history
start_stays stamped me history step f = start_spared me _ step.act.answer (must_start me history) f.other f.spares

-- a foreign step leaves the job's last listing
not_listed : (by_job : Bool) (call : Deed) (answer : ActAnswer) (upto : History) (earlier : Option Listing) → by_job ≡ false
    → listing_by by_job call answer upto earlier ≡ earlier
not_listed by_job (Lists folder) (Done names number of) upto earlier e = rw e refl
not_listed by_job call answer upto earlier e = refl

no_job : (role : Role) (name : List ℕ) → IsTrue (is_named_so role name) → IsFalse (same_role Job role && bytes_eq (codes "job") name)
    → same_role role Job ≡ false
no_job Job name so other = absurd (true≢false (sym (ap (bytes_eq (codes "job")) (bytes_same name (codes "job") so) ∙ bytes_self (codes "job")) ∙ other))
no_job Agent name so other = refl
no_job Collector name so other = refl
no_job Writer name so other = refl

pub listing_stays : (stamped : List (List ℕ)) (history : History) (step : Step)
    → Foreign stamped (record { role = Job; name = codes "job" }) history step → last_listing (step ∷ history) ≡ last_listing history
listing_stays stamped history step f =
    not_listed _ (deed step.act) step.act.answer (step ∷ history) (last_listing history)
    (no_job step.act.who.role step.act.who.name f.obeys.named f.other)
