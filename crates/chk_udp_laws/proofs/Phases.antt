-- What holds at each front of a history, and what is known besides between two calls.
use Rattle.std.proofs.Common.{◌≡◌, ℕ, false, List, [], ◌∷◌, ◌++◌, Option, Some, None, Result, Ok, Err, refl, sym, ◌∙◌, ap, subst}
use Rattle.chk_site.specs.declared.acts.Call.{Call}
use Rattle.chk_site.specs.declared.acts.CallFault.TheVariants.{Failed, Missing, Exists, Short, NoMemory}
use Rattle.chk_site.specs.declared.acts.ActAnswer.{ActAnswer}
use Rattle.chk_site.specs.declared.acts.ActAnswer.TheVariants.{Done, Refused, Stopped, Rotated, Deleted}
use Rattle.chk_site.specs.declared.acts.OutsideFault.{OutsideFault}
use Rattle.chk_site.specs.declared.acts.Who.{Who}
use Rattle.chk_site.specs.Files.{File, Files, changed}
use Rattle.chk_site.specs.Acts.{Did, deed, deed_by, change_of}
use Rattle.chk_site.specs.Effect.{UnsyncedTails}
use Rattle.chk_site.specs.History.{Step, History, Modelled, files_after, is_by}
use Rattle.chk_site.specs.Honest.{AtPresent}
use Rattle.chk_site.specs.Logs.{Logs}
use Rattle.chk_site.specs.Runs.{Side, Leads, anyhow, MadeInTurn}
use Rattle.chk_site.specs.Site.{Adds, Asked, asked, own_step, plain, WasDone}
use Rattle.chk_site.proofs.Leads.{Keeps, Owned, Shows, done_leads, ends_leads, script_then, script_end}
use Rattle.chk_site.proofs.Stays.{unnamed_stays}
use Rattle.chk_wahead.specs.Names.{writer}
use Rattle.chk_udp_laws.specs.Marked.{Tally, tally, tally_by, took, given_by, joined, IsPart}
use Rattle.chk_udp_laws.specs.Histories.{OwnFile, NextFile, NextTemporary, BufferFile, MarkFile, ClosedFile, own_name, IsApart, LeavesFiles}
use Rattle.chk_udp_laws.proofs.Naming.{B, M}
use Rattle.chk_replace.proofs.OldAndNew.{same_name as self_name}
use Rattle.chk_udp_laws.proofs.Steps.{At, Some_at, Untouched, at_untouched}

-- what is known of the buffer, its mark, what is saved and what was taken
pub record View : Type 0 where
  pub buffer : Option File
  pub mark : Option File
  pub tally : Tally
  pub took : List (List ℕ)

-- any file, or none
abbrev pub Anything : Option File → Type 0
Anything file = Unit {0}

-- this one
abbrev pub Is : Option File → Option File → Type 0
Is file next = next ≡ file

-- a call that was done, or refused for the state of the files, was done where its file is there
pub present_done : (answer : ActAnswer) (o : Option File) (f : File) → WasDone answer
    → AtPresent answer o → o ≡ Some f
    → (words : List (List ℕ)) × (number : ℕ) × (of : ℕ) × (answer ≡ Done words number of)
present_done (Done words number of) o f was agrees there = (words, number, of, refl)
present_done (Refused Failed) o f was agrees there = absurd was
present_done (Refused Missing) o f was agrees there = absurd (not_there o agrees there)
  where
    not_there : (o : Option File) → o ≡ None → o ≡ Some f → ⊥
    not_there o none some = cc
present_done (Refused Exists) o f was agrees there = absurd agrees
present_done (Refused (Short size)) o f was agrees there = absurd agrees
present_done (Refused NoMemory) o f was agrees there = absurd was
present_done (Stopped left) o f was agrees there = absurd was
present_done (Rotated suffix) o f was agrees there = absurd was
present_done (Deleted suffix) o f was agrees there = absurd was

-- the files after a call that was done
pub done_files : (before : History) (step : Step) (words : List (List ℕ)) (number of : ℕ)
    → Modelled before step
    → step.act.answer ≡ Done words number of → (w : List ℕ)
    → step.files w ≡ changed (change_of (deed step.act)) (files_after before) w
done_files before step words number of modelled is w =
    go step.act.answer is modelled.effect.may modelled.effect.files_left
  where
    go : (answer : ActAnswer) → answer ≡ Done words number of
        → Did (deed step.act) answer modelled.effect.did
        → UnsyncedTails (deed step.act) answer (changed modelled.effect.did (files_after before))
        step.files
        → step.files w ≡ changed (change_of (deed step.act)) (files_after before) w
    go (Done a b c) is may left = left w ∙ ap (λ d. changed d (files_after before) w) may
    go (Refused fault) is may left = absurd (cc)
    go (Stopped l) is may left = absurd (cc)
    go (Rotated suffix) is may left = absurd (cc)
    go (Deleted suffix) is may left = absurd (cc)

pub view_as : (E : View → Type 0) {b b' m m' : Option File} {t t' : Tally} {k k' : List (List ℕ)}
    → b' ≡ b → m' ≡ m → t' ≡ t → k' ≡ k
    → E (record { buffer = b; mark = m; tally = t; took = k })
    → E (record { buffer = b'; mark = m'; tally = t'; took = k' })
view_as E {b = b} {b' = b'} {m = m} {m' = m'} {t = t} {t' = t'} {k = k} {k' =
    k'} at_b at_m at_t at_k fits =
    subst (λ o. E (record { buffer = o; mark = m'; tally = t'; took = k' })) (sym at_b)
    (subst (λ o. E (record { buffer = b; mark = o; tally = t'; took = k' })) (sym at_m)
    (subst (λ o. E (record { buffer = b; mark = m; tally = o; took = k' })) (sym at_t)
    (subst (λ o. E (record { buffer = b; mark = m; tally = t; took = o })) (sym at_k) fits)))

module _ (n : List ℕ) where
  abbrev pub me : Who
  me = writer n

  -- the step of a call of the writer's
  abbrev pub mine : Call → List (List ℕ) → ℕ → ℕ → Asked
  mine call words number max = asked me call words number max

  -- what holds at each front
  pub record Kept (h : History) : Type 0 where
    pub stands : Some_at n (files_after h) (joined (tally n h).saved)
    pub part : IsPart ((tally n h).saved ++ (tally n h).unsaved) (took n h)

  abbrev pub All : History → Type 0
  All [] = Kept []
  All (step ∷ h) = All h × Kept (step ∷ h)

  pub now : (h : History) → All h → Kept h
  now [] all = all
  now (step ∷ h) all = all.1

  abbrev pub view : History → View
  view h = record {
    buffer = files_after h (B n);
    mark = files_after h (M n);
    tally =
        tally n h;
    took = took n h;
  }

  -- the files stand with this number, this is known, and this of one file
  pub record InPhase (k : ℕ) (E : View → Type 0) (f : OwnFile) (U : Option File → Type 0)
      (h : History) : Type 0 where
    pub all : All h
    pub at : At n (files_after h) k (joined (tally n h).saved)
    pub fits : E (view h)
    pub next : U (files_after h (own_name n f))

  abbrev pub Plain : ℕ → (View → Type 0) → History → Type 0
  Plain k E = InPhase k E NextTemporary Anything

  abbrev pub S : Side
  S = anyhow (IsApart n)

  pub owned : (q : Asked) → Owned S.own q
  owned q before answer files logs running = tt

  -- ---- steps of others

  untouched_by : (step : Step) → LeavesFiles n step → Untouched n (deed step.act)
  untouched_by step away = record {
    next = away NextFile;
    buffer = away BufferFile;
    mark = away MarkFile;
    closed = λ j low. away (ClosedFile j);
  }

  pub tally_other : (h : History) (step : Step) → is_by me step ≡ false
      → tally n (step ∷ h) ≡ tally n h
  tally_other h step by = rw by refl

  pub took_other : (h : History) (step : Step) → is_by me step ≡ false
      → took n (step ∷ h) ≡ took n h
  took_other h step by = rw by refl

  -- a step that changes neither the tally nor what was taken
  pub all_on : (h : History) (step : Step) → tally n (step ∷ h) ≡ tally n h
      → took n (step ∷ h) ≡ took n h
      → Some_at n step.files (joined (tally n h).saved) → All h → All (step ∷ h)
  all_on h step same_tally same_took at all = (
    all,
    record {
      stands = subst (λ (t : Tally). Some_at n step.files (joined t.saved)) (sym same_tally) at;
      part =
          subst (λ (t : Tally). IsPart (t.saved ++ t.unsaved) (took n (step ∷ h))) (sym same_tally)
          (subst (λ l. IsPart ((tally n h).saved ++ (tally n h).unsaved) l) (sym same_took)
          (now h all).part);
    },
  )

  -- steps of others keep what holds at each front, also where they leave tails
  pub all_beside : (h : History) (step : Step) → Modelled h step → is_by me step ≡ false
      → LeavesFiles n step → All h → All (step ∷ h)
  all_beside h step modelled by away all =
      let at = (now h all).stands in
      all_on h step (tally_other h step by) (took_other h step by)
      (record {
        number = at.number;
        stands =
            at_untouched n h step at.number _ modelled (untouched_by step away) at.stands;
      }) all

  pub keeps_all : Keeps (IsApart n) All
  keeps_all before step theirs apart all = all_beside before step theirs.1 apart.by apart.leaves all

  pub view_on : (h : History) (step : Step) → step.files (B n) ≡ files_after h (B n)
      → step.files (M n) ≡ files_after h (M n)
      → tally n (step ∷ h) ≡ tally n h → took n (step ∷ h) ≡ took n h → (E : View → Type 0)
      → E (view h) → E (view (step ∷ h))
  view_on h step at_b at_m at_t at_k E fits = view_as E at_b at_m at_t at_k fits

  pub keeps : (k : ℕ) (E : View → Type 0) (f : OwnFile) (U : Option File → Type 0)
      → Keeps (IsApart n) (InPhase k E f U)
  keeps k E f U before step theirs apart p =
      let same : (g : OwnFile) → step.files (own_name n g) ≡ files_after before (own_name n g) =
      λ g. unnamed_stays before step (own_name n g) theirs.1 (apart.leaves g) (apart.no_tail g) in
      record {
        all = keeps_all before step theirs apart p.all;
        at =
            subst (λ (t : Tally). At n step.files k (joined t.saved))
            (sym (tally_other before step apart.by))
            (at_untouched n before step k _ theirs.1 (untouched_by step apart.leaves) p.at);
        fits = view_on before step (same BufferFile) (same MarkFile)
            (tally_other before step apart.by) (took_other before step apart.by) E p.fits;
        next = subst U (sym (same f)) p.next;
      }

  -- ---- own calls

  pub tally_own : (call : Call) (words : List (List ℕ)) (number max : ℕ) (answer : ActAnswer)
      (files : Files) (logs : Logs) (h : History)
      → tally n (own_step (mine call words number max) answer files logs ∷ h)
      ≡ tally_by n (deed_by call words number max) answer (files_after h) files (tally n h)
  tally_own call words number max answer files logs h = rw (self_name n) refl

  pub took_own : (call : Call) (words : List (List ℕ)) (number max : ℕ) (answer : ActAnswer)
      (files : Files) (logs : Logs) (h : History)
      → took n (own_step (mine call words number max) answer files logs ∷ h)
      ≡ took n h ++ given_by (deed_by call words number max) answer
  took_own call words number max answer files logs h = rw (self_name n) refl

  -- one call of a script: whatever it answers all stands, and where it is done this phase is
  -- reached
  pub record Move (q : Asked) (A A' : History → Type 0) : Type 0 where
    pub any : (answer : ActAnswer) → Shows A All q answer
    pub done : (answer : ActAnswer) → WasDone answer → Shows A A' q answer
    pub weak : (h : History) → A h → All h
    pub keeps : Keeps (IsApart n) A

  pub data Walk : List Asked → (History → Type 0) → (History → Type 0) → Type 1 where
    rest : {A : History → Type 0} → ((h : History) → A h → All h) → Walk [] A A
    step_on : {q : Asked} {qs : List Asked} {A A' A'' : History → Type 0} → Move q A A'
        → Walk qs A' A'' → Walk (q ∷ qs) A A''

  pub walk_join : {qs rs : List Asked} {A A' A'' : History → Type 0} → Walk qs A A' → Walk rs A' A''
      → Walk (qs ++ rs) A A''
  walk_join (rest weak) later = later
  walk_join (step_on move walk) later = step_on move (walk_join walk later)

  -- where the calls were done, and else
  abbrev pub Ends : {T : Type 0} {F : Type 0} → (History → Type 0) → Result T F → History → Type 0
  Ends A (Ok value) h = A h
  Ends A (Err fault) h = All h

  pub walk_leads : {qs : List Asked} {A A' : History → Type 0}
      {result : Result (Unit {0}) OutsideFault} {old new : Option History}
      → Walk qs A A' → MadeInTurn qs result old new → Adds old new (Leads S A (Ends A' result))
  walk_leads {A' = A'} (rest weak) script = script_end (λ r. Ends A' r) weak (λ h a. a) script
  walk_leads {A = A} {A' = A'} {result = result} (step_on {q = q} {A' = M'} move walk) script =
      script_then M' (λ r. Ends A' r)
      (λ given mid is told. done_leads given (owned q) is move.keeps move.done told)
      (λ given fault ends told.
      ends_leads (λ f. All) plain given fault (owned q) ends move.keeps (move.any (Refused Failed))
      (λ left. move.any (Stopped left))
      (λ before stopped a. move.weak before a) (λ before a. move.weak before a) told)
      move.weak (λ mid later. walk_leads walk later) script
