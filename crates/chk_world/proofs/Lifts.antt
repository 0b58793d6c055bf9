-- A library whose own steps read files, or write one segment that no book names, need not speak of
-- legal histories: what the job knows is kept by them and by the steps of others.
use Rattle.std.proofs.Common.{◌≡◌, ◌⊎◌, inl, inr, ℕ, Bool, true, false, ◌&&◌, not, List, [], ◌∷◌, ◌++◌, Option, None, option_map, ap, sym, subst, ◌∙◌, refl, true≢false, if◌then◌else◌}
use Rattle.std.specs.Prelude.{IsTrue}
use Rattle.std.proofs.lemmas.Bool.{and_parts, and_right}
use Rattle.chk_bytes.specs.Stems.{Stem}
use Rattle.chk_site.specs.declared.acts.Role.{Role}
use Rattle.chk_site.specs.declared.acts.Role.TheVariants.{Agent, Collector, Job, Writer}
use Rattle.chk_site.specs.declared.acts.Who.{Who}
use Rattle.chk_site.specs.declared.acts.ActAnswer.{ActAnswer}
use Rattle.chk_site.specs.declared.acts.ActAnswer.TheVariants.{Done, Refused, Stopped, Rotated, Deleted}
use Rattle.chk_site.specs.declared.lists.Left.{Left}
use Rattle.chk_site.specs.Files.{File, made, grown, secured}
use Rattle.chk_site.specs.Acts.{Deed, Starts, Appends, deed, change_of, is_done, same_who}
use Rattle.chk_site.specs.History.{Step, History, Every, Others, files_after, is_stopped}
use Rattle.chk_site.specs.Site.{Adds}
use Rattle.chk_site.specs.Runs.{Leads, Owns, anyhow}
use Rattle.chk_site.proofs.Runs.{adds_both}
use Rattle.chk_world.specs.Names.{Folder, Name, SegmentFile, DoneFile, read, file, is_known, owns}
use Rattle.chk_world.specs.ArchiveRuns.{Listing, last_listing, listing_by}
use Rattle.chk_world.specs.Jobs.{JobRule, OnlyArchivedSinksRemoved, is_named}
use Rattle.chk_world.specs.Rules.{Framed, OnlyWritersGrowLogs, OnlyAgentsPost, StartsAfterStop, RoleMay, Legal, must_start, stopped_by, is_named_so, is_fixed, may_remove}
use Rattle.chk_world.specs.Places.{Foreign, As, IsBy}
use Rattle.chk_world.proofs.NameTests.{same_name, name_same, named, applied}
use Rattle.chk_world.proofs.Outcomes.{leaves}
use Rattle.chk_world.proofs.PlacesStay.{told_stays}
use Rattle.chk_world.proofs.ToldCalls.{Allowed, talks, talks_by, GoesOn, came_on, who_self}
use Rattle.chk_world.specs.Sight.{job, is_job_file, shows_done, listed_sinks, Sight, sight, AtJob}
use Rattle.chk_world.specs.JobSteps.{IsOwnStep, WritesTo, removes, creates, appends, syncs, ReadsFile, reads, asks, IsOf}
use Rattle.chk_world.proofs.DoneSinks.{came_same}
use Rattle.chk_world.proofs.SightStays.{stem_shown, job_stays}

abbrev appended_to : Deed → List ℕ
appended_to (Appends w piece) = w
appended_to call = []

-- ---- own steps of one kind

no_start : (call : Deed) → (call ≡ Starts → ⊥) → (history : History)
    → must_start job history ≡ false → StartsAfterStop job history call
no_start Starts not_start history e = absurd (not_start refl)
no_start call not_start history e = and_right true (must_start job history) e

goes_or_stops : (answer : ActAnswer)
    → GoesOn answer ⊎ ((left : List Left) × (answer ≡ Stopped left))
goes_or_stops (Done words number of) = inl tt
goes_or_stops (Refused fault) = inl tt
goes_or_stops (Stopped left) = inr (left, refl)
goes_or_stops (Rotated suffix) = inl tt
goes_or_stops (Deleted suffix) = inl tt

acts_on : (own : Bool) (answer : ActAnswer) (earlier : Bool) → own ≡ true → GoesOn answer
    → stopped_by job own answer earlier ≡ false
acts_on own (Done words number of) earlier mine goes = rw mine refl
acts_on own (Refused fault) earlier mine goes = rw mine refl
acts_on own (Stopped left) earlier mine goes = absurd goes
acts_on own (Rotated suffix) earlier mine goes = rw mine refl
acts_on own (Deleted suffix) earlier mine goes = rw mine refl

module _ (stamped : List (List ℕ)) (K : Deed → Type 0) (no_starts : K Starts → ⊥)
    (P : Sight → Type 0)
    (may : (before : History) (step : Step) → IsOwnStep before step → K (deed step.act) → Legal stamped before → P (sight before) → Allowed stamped before step)
    (keeps : (before : History) (step : Step) → IsOwnStep before step → K (deed step.act) → Legal stamped (step ∷ before) → GoesOn step.act.answer
    → P (sight before) → P (sight (step ∷ before))) where
  own_legal : (before : History) (step : Step) → IsOwnStep before step → K (deed step.act)
      → AtJob stamped P before → Legal stamped (step ∷ before)
  own_legal before step o k h =
      let a = may before step o k h.legal (h.alive o.running) in (
        h.legal,
        record {
          honest = o.honest;
          named = subst (λ (w : Who). IsTrue (is_named_so w.role w.name)) (sym o.by) refl;
          starts = subst (λ w. StartsAfterStop w before (deed step.act)) (sym o.by)
              (no_start (deed step.act) (λ e. no_starts (subst K e k)) before (h.may_act o.running));
          own_files = a.own_files;
          logs = a.logs;
          requests = a.requests;
          rule = a.rule;
        },
      )

  own_step_keeps : (before : History) (step : Step) → IsOwnStep before step → K (deed step.act)
      → AtJob stamped P before → AtJob stamped P (step ∷ before)
  own_step_keeps before step o k h = go (goes_or_stops step.act.answer)
    where
      legal : Legal stamped (step ∷ before)
      legal = own_legal before step o k h

      by_job : same_who job step.act.who ≡ true
      by_job = subst (λ w. same_who job w ≡ true) (sym o.by) (who_self job)

      stopped_now : (left : List Left) → step.act.answer ≡ Stopped left
          → is_stopped (step ∷ before) ≡ true
      stopped_now left is = rw (o.own, is) refl

      go : GoesOn step.act.answer ⊎ ((left : List Left) × (step.act.answer ≡ Stopped left))
          → AtJob stamped P (step ∷ before)
      go (inl goes) = record {
        legal = legal;
        may_act = λ running. acts_on (same_who job step.act.who) step.act.answer (must_start job before) by_job goes;
        alive = λ running. keeps before step o k legal goes (h.alive o.running);
      }
      go (inr s) = record {
        legal = legal;
        may_act = λ running. absurd (true≢false (sym (stopped_now s.0 s.1) ∙ running));
        alive = λ running. absurd (true≢false (sym (stopped_now s.0 s.1) ∙ running));
      }

  pub steps_keep : (added history : History) → Every (IsOf K) added history
      → Others (Foreign stamped job) added history → AtJob stamped P history
      → AtJob stamped P (added ++ history)
  steps_keep [] history every others h = h
  steps_keep (step ∷ added) history every others h =
      let earlier = steps_keep added history every.0 others.0 h in
      elim every.1 [
        | inl theirs ↦
            told_stays stamped job (λ h. P (sight h)) (λ history step legal f k. job_stays stamped P history step legal f k) (added ++ history) step theirs.0
            (others.1 theirs.0) earlier
        | inr mine ↦ own_step_keeps (added ++ history) step mine.0 mine.1 earlier
      ]

  -- what every legal step keeps holds at each moment, and what is supposed of the steps of others
  -- holds of those that obey
  pub others_so : (S : History → Step → Type 0) (Q : History → Type 0)
      → ((before : History) (step : Step) → Legal stamped (step ∷ before) → Q before → Q (step ∷ before))
      → ((before : History) (step : Step) → Legal stamped before → Q before → Foreign stamped job before step → S before step)
      → (added history : History) → Every (IsOf K) added history
      → Others (Foreign stamped job) added history → AtJob stamped P history → Q history
      → Others S added history × Q (added ++ history)
  others_so S Q lasts spares [] history every others h q = (tt, q)
  others_so S Q lasts spares (step ∷ added) history every others h q =
      let earlier = others_so S Q lasts spares added history every.0 others.0 h q in
      let now = steps_keep (step ∷ added) history every others h in (
        (earlier.0, λ theirs. spares (added ++ history) step now.legal.0 earlier.1 (others.1 theirs)),
        lasts (added ++ history) step now.legal earlier.1,
      )

-- ---- the promise on own steps

-- own steps that leave the messages alone are as a process promises them
pub owned_by : (K : Deed → Type 0) → ((call : Deed) → K call → talks call ≡ false)
    → (added history : History)
    → Every (IsOf K) added history → Owns (IsBy job) added history
owned_by K quiet [] history every = tt
owned_by K quiet (step ∷ added) history every = (
  owned_by K quiet added history every.0,
  λ mine. elim every.1 [
    | inl theirs ↦ absurd (true≢false (sym mine ∙ theirs.0))
    | inr own ↦ record {
      by = own.0.by;
      running = own.0.running;
      quiet = talks_by step.act.call step.act.words step.act.number step.act.max ∙ quiet (deed step.act) own.1;
    }
  ],
)

-- ---- reads

no_read_starts : ReadsFile Starts → ⊥
no_read_starts h = elim h [ ]

role_is : (before : History) (step : Step) → IsOwnStep before step → step.act.who.role ≡ Job
role_is before step o = ap (λ (w : Who). w.role) o.by

read_may : (stamped : List (List ℕ)) (before : History) (step : Step) → IsOwnStep before step
    → ReadsFile (deed step.act) → Allowed stamped before step
read_may stamped before step o k = record {
  own_files = framed (deed step.act) k;
  logs = no_logs (deed step.act) k;
  requests = no_request step.act.who.role (deed step.act) k;
  rule = subst (λ r. RoleMay stamped r before step) (sym (role_is before step o)) (rule (deed step.act) k);
}
  where
    framed : (call : Deed) → ReadsFile call → Framed step.act.who (files_after before) call
    framed call (reads name at max) = tt
    framed call (asks name) = tt

    no_logs : (call : Deed) → ReadsFile call → OnlyWritersGrowLogs step.act.who.role call
    no_logs call (reads name at max) = tt
    no_logs call (asks name) = tt

    no_request : (role : Role) (call : Deed) → ReadsFile call → OnlyAgentsPost role call
    no_request Agent call k = tt
    no_request Collector call (reads name at max) = tt
    no_request Collector call (asks name) = tt
    no_request Job call (reads name at max) = tt
    no_request Job call (asks name) = tt
    no_request Writer call (reads name at max) = tt
    no_request Writer call (asks name) = tt

    rule : (call : Deed) → ReadsFile call → JobRule stamped before call
    rule call (reads name at max) = (refl, tt)
    rule call (asks name) = (refl, tt)

-- a read leaves all files
module _ (stamped : List (List ℕ)) (before : History) (step : Step) (o : IsOwnStep before step)
    (k : ReadsFile (deed step.act))
    (legal : Legal stamped (step ∷ before)) (goes : GoesOn step.act.answer) where
  idle_call : (call : Deed) → ReadsFile call → (files : Name → Option File) (n : Name)
      → applied (named (change_of call)) files n ≡ files n
  idle_call call (reads name at max) files n = refl
  idle_call call (asks name) files n = refl

  no_append : (call : Deed) → ReadsFile call → (v piece : List ℕ) → call ≡ Appends v piece → ⊥
  no_append call (reads name at max) v piece e = absurd (cc)
  no_append call (asks name) v piece e = absurd (cc)

  pub read_leaves : (n : Name) → IsTrue (is_known n)
      → file step.files n ≡ file (files_after before) n
  read_leaves n known =
      let e = legal.1.honest.modelled.effect in
      let came = came_on (deed step.act) step.act.answer (files_after before) step.files goes
      (leaves (deed step.act) step.act.answer (files_after before) step.files e.did e.may e.files_left) in
      came_same n known (files_after before) (deed step.act) (is_done step.act.answer) step.files came (idle_call (deed step.act) k (file (files_after before)) n)
      (λ v piece is. absurd (no_append (deed step.act) k v piece is))

  no_listing : (by_job : Bool) (call : Deed) (answer : ActAnswer) (upto : History)
      (earlier : Option Listing)
      → ReadsFile call
      → listing_by by_job call answer upto earlier ≡ earlier
  no_listing by_job call answer upto earlier (reads name at max) = refl
  no_listing by_job call answer upto earlier (asks name) = refl

  own_at : (n : Name) (b : Bool) → (is_job_file n && is_known n) ≡ b
      → (if b then file step.files n else None) ≡ (if b then file (files_after before) n else None)
  own_at n false e = refl
  own_at n true e = read_leaves n (and_parts (is_job_file n) (is_known n) e).1

  sink_at : (x : Stem) (b : Bool) → shows_done (last_listing before) x ≡ b
      → (if b then file step.files (DoneFile x) else None) ≡ (if b then file (files_after before) (DoneFile x) else None)
  sink_at x false e = refl
  sink_at x true e = read_leaves (DoneFile x) (stem_shown (last_listing before) x e)

  pub read_keeps_sight : sight (step ∷ before) ≡ sight before
  read_keeps_sight =
      let listed : last_listing (step ∷ before) ≡ last_listing before = no_listing _ (deed step.act) step.act.answer (step ∷ before) (last_listing before) k in
      let sinks : (x : Stem) → listed_sinks (last_listing (step ∷ before)) step.files x ≡ listed_sinks (last_listing before) (files_after before) x =
      λ x. ap (λ l. listed_sinks l step.files x) listed ∙ sink_at x (shows_done (last_listing before) x) refl in
      λ i. record { listing = listed i; own = λ n. (own_at n (is_job_file n && is_known n) refl) i; sinks = λ x. (sinks x) i }

-- a call whose own steps are reads: what it promises of files holds, and all that the job knows
pub lift_reads : (stamped : List (List ℕ)) (P : Sight → Type 0) (Q : History → Type 0)
    (S : History → Step → Type 0) (A B : History → Type 0) {old new : Option History}
    → ((before : History) (step : Step) → Legal stamped (step ∷ before) → Q before → Q (step ∷ before))
    → ((before : History) (step : Step) → Legal stamped before → Q before → Foreign stamped job before step → S before step)
    → Adds old new (Leads (anyhow S) A B) → Adds old new (Every (IsOf ReadsFile))
    → Adds old new (Leads (As stamped job) (λ h. AtJob stamped P h × Q h × A h) (λ h. AtJob stamped P h × Q h × B h))
lift_reads stamped P Q S A B lasts spares raw own =
    adds_both (Leads (As stamped job) (λ h. AtJob stamped P h × Q h × A h) (λ h. AtJob stamped P h × Q h × B h)) raw own
    (λ added history led made. record {
      leads = λ others h.
          let so = others_so stamped ReadsFile no_read_starts P (may stamped) (keeps stamped) S Q lasts spares added history made others h.0 h.1 in (
            steps_keep stamped ReadsFile no_read_starts P (may stamped) (keeps stamped) added history made others h.0,
            so.1,
            led.leads so.0 h.2,
          );
      own = owned_by ReadsFile quiet_read added history made;
    })
  where
    quiet_read : (call : Deed) → ReadsFile call → talks call ≡ false
    quiet_read call (reads name at max) = refl
    quiet_read call (asks name) = refl

    may : (stamped : List (List ℕ)) (before : History) (step : Step) → IsOwnStep before step
        → ReadsFile (deed step.act) → Legal stamped before
        → P (sight before) → Allowed stamped before step
    may stamped before step o k legal p = read_may stamped before step o k

    keeps : (stamped : List (List ℕ)) (before : History) (step : Step) → IsOwnStep before step
        → ReadsFile (deed step.act) → Legal stamped (step ∷ before)
        → GoesOn step.act.answer → P (sight before) → P (sight (step ∷ before))
    keeps stamped before step o k legal goes p = subst P (sym (read_keeps_sight stamped before step o k legal goes)) p

-- ---- writes of one segment that no book names

pub no_write_starts : (w : List ℕ) → WritesTo w Starts → ⊥
no_write_starts w h = elim h [ ]

-- what the job knows, with this for one of its files
abbrev pub with_own : Sight → Name → Option File → Sight
with_own v n o = record { listing = v.listing; own = λ m. if same_name m n then o else v.own m; sinks = v.sinks }

module _ (folder : Folder) (k : ℕ) (known : IsTrue (is_known (SegmentFile folder k))) (w : List ℕ)
    (reads_w : read w ≡ SegmentFile folder k) where
  write_may : (stamped : List (List ℕ)) (before : History) (step : Step) → IsOwnStep before step
      → WritesTo w (deed step.act)
      → is_named (files_after before) (SegmentFile folder k) ≡ false → Allowed stamped before step
  write_may stamped before step o kind unnamed = record {
    own_files = subst (λ (who : Who). Framed who (files_after before) (deed step.act)) (sym o.by) (framed (deed step.act) kind);
    logs = no_logs (deed step.act) kind;
    requests = no_request step.act.who.role (deed step.act) kind;
    rule = subst (λ r. RoleMay stamped r before step) (sym (role_is before step o)) (rule (deed step.act) kind);
  }
    where
      framed : (call : Deed) → WritesTo w call → Framed job (files_after before) call
      framed call removes = subst (λ m. IsTrue (may_remove job m)) (sym reads_w) refl
      framed call creates = subst (λ m. IsTrue (owns job m && not (is_fixed m))) (sym reads_w) refl
      framed call (appends piece) = subst (λ m. IsTrue (owns job m && not (is_fixed m))) (sym reads_w) refl
      framed call syncs = subst (λ m. IsTrue (owns job m)) (sym reads_w) refl

      no_logs : (call : Deed) → WritesTo w call → OnlyWritersGrowLogs step.act.who.role call
      no_logs call removes = tt
      no_logs call creates = tt
      no_logs call (appends piece) = tt
      no_logs call syncs = tt

      no_request : (role : Role) (call : Deed) → WritesTo w call → OnlyAgentsPost role call
      no_request Agent call kind = tt
      no_request Collector call removes = tt
      no_request Collector call creates = tt
      no_request Collector call (appends piece) = tt
      no_request Collector call syncs = tt
      no_request Job call removes = tt
      no_request Job call creates = tt
      no_request Job call (appends piece) = tt
      no_request Job call syncs = tt
      no_request Writer call removes = tt
      no_request Writer call creates = tt
      no_request Writer call (appends piece) = tt
      no_request Writer call syncs = tt

      at_word : is_named (files_after before) (read w) ≡ false
      at_word = ap (is_named (files_after before)) reads_w ∙ unnamed

      rule : (call : Deed) → WritesTo w call → JobRule stamped before call
      rule call removes = (at_word, subst (λ m. OnlyArchivedSinksRemoved before m) (sym reads_w) tt)
      rule call creates = (at_word, tt)
      rule call (appends piece) = (at_word, tt)
      rule call syncs = (at_word, tt)

  module _ (stamped : List (List ℕ)) (before : History) (step : Step) (o : IsOwnStep before step)
      (kind : WritesTo w (deed step.act))
      (legal : Legal stamped (step ∷ before)) (goes : GoesOn step.act.answer) where
    other_call : (call : Deed) → WritesTo w call → (n : Name)
        → same_name n (SegmentFile folder k) ≡ false
        → applied (named (change_of call))
        (file (files_after before)) n ≡ file (files_after before) n
    other_call call kind n apart = go call kind (ap (same_name n) reads_w ∙ apart)
      where
        at : (g : Option File → Option File) → same_name n (read w) ≡ false
            → (if same_name n (read w) then g (file (files_after before) n) else file (files_after before) n) ≡ file (files_after before) n
        at g e = ap (λ b. if b then g (file (files_after before) n) else file (files_after before) n) e

        go : (call : Deed) → WritesTo w call → same_name n (read w) ≡ false
            → applied (named (change_of call))
            (file (files_after before)) n ≡ file (files_after before) n
        go call removes e = at (λ o. None) e
        go call creates e = at made e
        go call (appends piece) e = at (option_map (grown piece)) e
        go call syncs e = at (option_map secured) e

    word_of : (call : Deed) → WritesTo w call → (v piece : List ℕ) → call ≡ Appends v piece → w ≡ v
    word_of call removes v piece e = absurd (cc)
    word_of call creates v piece e = absurd (cc)
    word_of call (appends p) v piece e = ap appended_to e
    word_of call syncs v piece e = absurd (cc)

    write_leaves : (n : Name) → IsTrue (is_known n) → same_name n (SegmentFile folder k) ≡ false
        → file step.files n ≡ file (files_after before) n
    write_leaves n known_n apart =
        let e = legal.1.honest.modelled.effect in
        let came = came_on (deed step.act) step.act.answer (files_after before) step.files goes
        (leaves (deed step.act) step.act.answer (files_after before) step.files e.did e.may e.files_left) in
        came_same n known_n (files_after before) (deed step.act) (is_done step.act.answer) step.files came (other_call (deed step.act) kind n apart)
        (λ v piece is. subst (λ u. same_name n (read u) ≡ false) (word_of (deed step.act) kind v piece is) (ap (same_name n) reads_w ∙ apart))

    not_listed : (by_job : Bool) (call : Deed) (answer : ActAnswer) (upto : History)
        (earlier : Option Listing)
        → WritesTo w call
        → listing_by by_job call answer upto earlier ≡ earlier
    not_listed by_job call answer upto earlier removes = refl
    not_listed by_job call answer upto earlier creates = refl
    not_listed by_job call answer upto earlier (appends piece) = refl
    not_listed by_job call answer upto earlier syncs = refl

    own_now : (n : Name) (b : Bool) → (is_job_file n && is_known n) ≡ b → (m : Bool)
        → same_name n (SegmentFile folder k) ≡ m
        → (if b then file step.files n else None)
        ≡ (if m then file step.files (SegmentFile folder k) else (if b then file (files_after before) n else None))
    own_now n true e true same = ap (file step.files) (name_same n (SegmentFile folder k) same)
    own_now n true e false same = write_leaves n (and_parts (is_job_file n) (is_known n) e).1 same
    own_now n false e true same =
        let is : n ≡ SegmentFile folder k = name_same n (SegmentFile folder k) same in
        absurd (true≢false (sym (ap (λ m. is_job_file m && is_known m) is ∙ known) ∙ e))
    own_now n false e false same = refl

    sink_now : (x : Stem) (b : Bool) → shows_done (last_listing before) x ≡ b
        → (if b then file step.files (DoneFile x) else None) ≡ (if b then file (files_after before) (DoneFile x) else None)
    sink_now x false e = refl
    sink_now x true e = write_leaves (DoneFile x) (stem_shown (last_listing before) x e) refl

    pub write_changes_sight : sight (step ∷ before) ≡ with_own (sight before) (SegmentFile folder k)
        (file step.files (SegmentFile folder k))
    write_changes_sight =
        let listed : last_listing (step ∷ before) ≡ last_listing before = not_listed _ (deed step.act) step.act.answer (step ∷ before) (last_listing before) kind in
        let sinks : (x : Stem) → listed_sinks (last_listing (step ∷ before)) step.files x ≡ listed_sinks (last_listing before) (files_after before) x =
        λ x. ap (λ l. listed_sinks l step.files x) listed ∙ sink_now x (shows_done (last_listing before) x) refl in
        λ i. record {
          listing = listed i;
          own = λ n. (own_now n (is_job_file n && is_known n) refl (same_name n (SegmentFile folder k)) refl) i;
          sinks = λ x. (sinks x) i;
        }

  -- a call whose own steps write one segment that no book names
  pub lift_writes : (stamped : List (List ℕ)) (P : Sight → Type 0) (Q : History → Type 0)
      (S : History → Step → Type 0) (A B : History → Type 0) {old new : Option History}
      → ((history : History) → P (sight history) → is_named (files_after history) (SegmentFile folder k) ≡ false)
      → ((v : Sight) (o : Option File) → P v → P (with_own v (SegmentFile folder k) o))
      → ((before : History) (step : Step) → Legal stamped (step ∷ before) → Q before → Q (step ∷ before))
      → ((before : History) (step : Step) → Legal stamped before → Q before → Foreign stamped job before step → S before step)
      → Adds old new (Leads (anyhow S) A B) → Adds old new (Every (IsOf (WritesTo w)))
      → Adds old new (Leads (As stamped job) (λ h. AtJob stamped P h × Q h × A h) (λ h. AtJob stamped P h × Q h × B h))
  lift_writes stamped P Q S A B unnamed free lasts spares raw own =
      adds_both (Leads (As stamped job) (λ h. AtJob stamped P h × Q h × A h) (λ h. AtJob stamped P h × Q h × B h)) raw own
      (λ added history led made. record {
        leads = λ others h.
            let so = others_so stamped (WritesTo w) (no_write_starts w) P may keeps S Q lasts spares added history made others h.0 h.1 in (
              steps_keep stamped (WritesTo w) (no_write_starts w) P may keeps added history made others h.0,
              so.1,
              led.leads so.0 h.2,
            );
        own = owned_by (WritesTo w) quiet_write added history made;
      })
    where
      quiet_write : (call : Deed) → WritesTo w call → talks call ≡ false
      quiet_write call removes = refl
      quiet_write call creates = refl
      quiet_write call (appends piece) = refl
      quiet_write call syncs = refl

      may : (before : History) (step : Step) → IsOwnStep before step → WritesTo w (deed step.act)
          → Legal stamped before → P (sight before)
          → Allowed stamped before step
      may before step o kind legal p = write_may stamped before step o kind (unnamed before p)

      keeps : (before : History) (step : Step) → IsOwnStep before step → WritesTo w (deed step.act)
          → Legal stamped (step ∷ before)
          → GoesOn step.act.answer → P (sight before) → P (sight (step ∷ before))
      keeps before step o kind legal goes p =
          subst P (sym (write_changes_sight stamped before step o kind legal goes)) (free (sight before) (file step.files (SegmentFile folder k)) p)
