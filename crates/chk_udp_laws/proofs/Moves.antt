-- What each call of the buffers leads to.
use Rattle.std.proofs.Common.{◌≡◌, ℕ, true, false, List, [], ◌∷◌, ◌++◌, Option, Some, None, option_map, bytes_eq, refl, sym, ◌∙◌, ap, subst, append-nil}
use Rattle.std.specs.Prelude.{IsSome}
use Rattle.std.proofs.lemmas.Bool.{false≢true}
use Rattle.chk_site.specs.declared.acts.Call.{Call}
use Rattle.chk_site.specs.declared.acts.Call.TheVariants.{Create, Append, Sync, Remove}
use Rattle.chk_site.specs.declared.acts.CallFault.TheVariants.{Failed, Missing, Exists, Short, NoMemory}
use Rattle.chk_site.specs.declared.acts.ActAnswer.{ActAnswer}
use Rattle.chk_site.specs.declared.acts.ActAnswer.TheVariants.{Done, Refused, Stopped, Rotated, Deleted}
use Rattle.chk_site.specs.Files.{File, Files, changed, made, grown, secured}
use Rattle.chk_site.specs.Acts.{Deed, Creates, Appends, Syncs, Removes, deed_by, touches, tail_in}
use Rattle.chk_site.specs.History.{History, files_after, is_stopped}
use Rattle.chk_site.specs.Honest.{Honest}
use Rattle.chk_site.specs.Logs.{Logs}
use Rattle.chk_site.specs.Site.{Asked, own_step, WasDone}
use Rattle.chk_site.proofs.Leads.{Shows}
use Rattle.chk_site.proofs.Stays.{unnamed_stays}
use Rattle.chk_world.proofs.Outcomes.{leaves}
use Rattle.chk_replace.specs.Replace.{whole}
use Rattle.chk_udp_laws.specs.Marked.{Tally, tally, tally_by, took, given_by, joined}
use Rattle.chk_udp_laws.specs.Histories.{OwnFile, NextTemporary, MarkTemporary, own_name}
use Rattle.chk_udp_laws.proofs.Naming.{B, M, N, C, n_nt, n_mt, b_nt, b_mt, m_nt, m_mt, c_nt, c_mt, nt_b, mt_b}
use Rattle.chk_replace.proofs.OldAndNew.{same_name as self_name}
use Rattle.chk_udp_laws.proofs.Steps.{At, Untouched, Leaving, at_untouched, leaving_some}
use Rattle.chk_udp_laws.proofs.Phases.{View, Anything, Is, present_done, done_files, mine, All, now, InPhase, all_on, keeps, view_as, tally_own, took_own, Move, Walk, rest, step_on}
use Rattle.chk_replace.proofs.OldAndNew.{not_absent}

pub done_tail : (answer : ActAnswer) (name : List ℕ) → WasDone answer → tail_in answer name ≡ None
done_tail (Done words number of) name was = refl
done_tail (Refused fault) name was = refl
done_tail (Stopped left) name was = absurd was
done_tail (Rotated suffix) name was = refl
done_tail (Deleted suffix) name was = refl

-- a call that was refused for want of a file left all as it was
pub stayed : (q : Asked) (before : History) (files : Files) (logs : Logs)
    (honest : Honest before (own_step q (Refused Missing) files logs))
    → (w : List ℕ) → files w ≡ files_after before w
stayed q before files logs honest w =
    let e = honest.modelled.effect in
    e.files_left w ∙ ap (λ d. changed d (files_after before) w) e.may

module _ (n : List ℕ) where
  -- the call changes neither the tally nor what was taken
  pub record Quiet (call : Deed) : Type 0 where
    pub by : (answer : ActAnswer) (before after : Files) (t : Tally)
        → tally_by n call answer before after t ≡ t
    pub gives : (answer : ActAnswer) → given_by call answer ≡ []

  module _ (call : Call) (words : List (List ℕ)) (number max : ℕ)
      (quiet : Quiet (deed_by call words number max)) where
    abbrev D : Deed
    D = deed_by call words number max

    abbrev Q : Asked
    Q = mine n call words number max

    quiet_tally : (answer : ActAnswer) (files : Files) (logs : Logs) (h : History)
        → tally n (own_step Q answer files logs ∷ h) ≡ tally n h
    quiet_tally answer files logs h =
        tally_own n call words number max answer files logs h
        ∙ quiet.by answer (files_after h) files (tally n h)

    quiet_took : (answer : ActAnswer) (files : Files) (logs : Logs) (h : History)
        → took n (own_step Q answer files logs ∷ h) ≡ took n h
    quiet_took answer files logs h =
        took_own n call words number max answer files logs h
        ∙ (ap (λ l. took n h ++ l) (quiet.gives answer) ∙ append-nil (took n h))

    pub any_left : {A : History → Type 0} → ((h : History) → A h → All n h)
        → ((h : History) → A h → Leaving n D (files_after h) (joined (tally n h).saved))
        → (answer : ActAnswer) → Shows A (All n) Q answer
    any_left weak left answer before files logs running honest a =
        let e = honest.modelled.effect in
        all_on n before (own_step Q answer files logs) (quiet_tally answer files logs before)
        (quiet_took answer files logs before)
        (leaving_some n D answer (files_after before) files (joined (tally n before).saved)
        (leaves D answer (files_after before) files e.did e.may e.files_left) (left before a))
        (weak before a)

    pub any_away : {A : History → Type 0} → ((h : History) → A h → All n h) → Untouched n D
        → (answer : ActAnswer) → Shows A (All n) Q answer
    any_away weak away answer before files logs running honest a =
        let at = (now n before (weak before a)).stands in
        all_on n before (own_step Q answer files logs) (quiet_tally answer files logs before)
        (quiet_took answer files logs before)
        (record {
          number = at.number;
          stands = at_untouched n before (own_step Q answer files logs) at.number _ honest.modelled
              away at.stands;
        })
        (weak before a)

    -- the files are these ones behind the call
    pub reaches : {A : History → Type 0} {k : ℕ} {E : View → Type 0} {f : OwnFile}
        {U : Option File → Type 0}
        (any : (answer : ActAnswer) → Shows A (All n) Q answer) (answer : ActAnswer)
        (before : History) (files : Files) (logs : Logs)
        → (running : is_stopped before ≡ false)
        → (honest : Honest before (own_step Q answer files logs)) → A before
        → At n files k (joined (tally n before).saved)
        → E (record {
          buffer = files (B n);
          mark = files (M n);
          tally = tally n before;
          took =
              took n before;
        })
        → U (files (own_name n f))
        → InPhase n k E f U (own_step Q answer files logs ∷ before)
    reaches {k = k} {E = E} any answer before files logs running honest a at fits next = record {
      all = any answer before files logs running honest a;
      at = subst (λ (t : Tally). At n files k (joined t.saved))
          (sym (quiet_tally answer files logs before)) at;
      fits = view_as E refl refl (quiet_tally answer files logs before)
          (quiet_took answer files logs before) fits;
      next = next;
    }

    -- a call on other files: this is made of one of them
    pub away_move : (k : ℕ) (E : View → Type 0) (f : OwnFile) (U W : Option File → Type 0)
        → Untouched n D
        → ((answer : ActAnswer) → WasDone answer → (before : History) (files : Files) (logs : Logs)
        → Honest before (own_step Q answer files logs)
        → U (files_after before (own_name n f)) → W (files (own_name n f)))
        → Move n Q (InPhase n k E f U) (InPhase n k E f W)
    away_move k E f U W away makes = record {
      any = any_away (λ h p. p.all) away;
      done =
          λ answer was before files logs running honest p.
          let step = own_step Q answer files logs in
          let b = unnamed_stays before step (B n) honest.modelled away.buffer
          (done_tail answer (B n) was) in
          let m = unnamed_stays before step (M n) honest.modelled away.mark
          (done_tail answer (M n) was) in
          reaches {A = InPhase n k E f U} (any_away (λ h p. p.all) away) answer before files logs
          running honest p
          (at_untouched n before step k _ honest.modelled away p.at)
          (view_as E b m refl refl p.fits) (makes answer was before files logs honest p.next);
      weak = λ h p. p.all;
      keeps = keeps n k E f U;
    }

  -- ---- the next content of a small file

  abbrev empty_file : Option File
  empty_file = Some (record { bytes = []; synced = 0 })

  abbrev unsynced : List ℕ → Option File
  unsynced bytes = Some (record { bytes = bytes; synced = 0 })

  -- the name is none of the files that stand
  pub record Off (w : List ℕ) : Type 0 where
    pub next : bytes_eq (N n) w ≡ false
    pub buffer : bytes_eq (B n) w ≡ false
    pub mark : bytes_eq (M n) w ≡ false
    pub closed : (j : ℕ) → bytes_eq (C n j) w ≡ false
    pub appends : bytes_eq w (B n) ≡ false

  pub next_off : Off (own_name n NextTemporary)
  next_off = record {
    next = n_nt n;
    buffer = b_nt n;
    mark = m_nt n;
    closed = c_nt n;
    appends =
        nt_b n;
  }

  pub mark_off : Off (own_name n MarkTemporary)
  mark_off = record {
    next = n_mt n;
    buffer = b_mt n;
    mark = m_mt n;
    closed = c_mt n;
    appends =
        mt_b n;
  }

  -- the first four calls of a replacement
  abbrev pub making : List ℕ → List ℕ → List Asked
  making w bytes =
      mine n Remove (w ∷ []) 0 0 ∷ mine n Create (w ∷ []) 0 0 ∷ mine n Append (w ∷ bytes ∷ []) 0 0 ∷
      mine n Sync (w ∷ []) 0 0 ∷ []

  module _ (f : OwnFile) (off : Off (own_name n f)) where
    abbrev T : List ℕ
    T = own_name n f

    self : bytes_eq T T ≡ true
    self = self_name T

    removed : (answer : ActAnswer) → WasDone answer
        → (before : History) (files : Files) (logs : Logs)
        → Honest before (own_step (mine n Remove (T ∷ []) 0 0) answer files logs) → files T ≡ None
    removed (Done words number of) was before files logs honest =
        done_files before (own_step (mine n Remove (T ∷ []) 0 0) (Done words number of) files logs)
        words number of honest.modelled refl T
        ∙ rw self refl
    removed (Refused Missing) was before files logs honest =
        stayed (mine n Remove (T ∷ []) 0 0) before files logs honest T ∙ honest.agrees
    removed (Refused Exists) was before files logs honest = absurd honest.agrees
    removed (Refused (Short size)) was before files logs honest = absurd honest.agrees
    removed (Refused Failed) was before files logs honest = absurd was
    removed (Refused NoMemory) was before files logs honest = absurd was
    removed (Stopped left) was before files logs honest = absurd was
    removed (Rotated suffix) was before files logs honest = absurd was
    removed (Deleted suffix) was before files logs honest = absurd was

    created : (answer : ActAnswer) → WasDone answer
        → (before : History) (files : Files) (logs : Logs)
        → Honest before (own_step (mine n Create (T ∷ []) 0 0) answer files logs)
        → files_after before T ≡ None → files T ≡ empty_file
    created (Done words number of) was before files logs honest u =
        done_files before (own_step (mine n Create (T ∷ []) 0 0) (Done words number of) files logs)
        words number of honest.modelled refl T
        ∙ rw self (ap made u)
    created (Refused Exists) was before files logs honest u =
        absurd (not_absent (files_after before T) honest.agrees u)
    created (Refused Missing) was before files logs honest u = absurd honest.agrees
    created (Refused (Short size)) was before files logs honest u = absurd honest.agrees
    created (Refused Failed) was before files logs honest u = absurd was
    created (Refused NoMemory) was before files logs honest u = absurd was
    created (Stopped left) was before files logs honest u = absurd was
    created (Rotated suffix) was before files logs honest u = absurd was
    created (Deleted suffix) was before files logs honest u = absurd was

    appended : (bytes : List ℕ) (answer : ActAnswer) → WasDone answer
        → (before : History) (files : Files) (logs : Logs)
        → Honest before (own_step (mine n Append (T ∷ bytes ∷ []) 0 0) answer files logs)
        → files_after before T ≡ empty_file → files T ≡ unsynced bytes
    appended bytes answer was before files logs honest u =
        let d = present_done answer (files_after before T) _ was honest.agrees u in
        done_files before (own_step (mine n Append (T ∷ bytes ∷ []) 0 0) answer files logs) d.0 d.1
        d.2 honest.modelled d.3 T
        ∙ rw self (ap (option_map (grown bytes)) u)

    synced : (bytes : List ℕ) (answer : ActAnswer) → WasDone answer
        → (before : History) (files : Files) (logs : Logs)
        → Honest before (own_step (mine n Sync (T ∷ []) 0 0) answer files logs)
        → files_after before T ≡ unsynced bytes → files T ≡ Some (whole bytes)
    synced bytes answer was before files logs honest u =
        let d = present_done answer (files_after before T) _ was honest.agrees u in
        done_files before (own_step (mine n Sync (T ∷ []) 0 0) answer files logs) d.0 d.1 d.2
        honest.modelled d.3 T
        ∙ rw self (ap (option_map secured) u)

    off_all : (call : Deed) → ((w : List ℕ) → touches call w ≡ bytes_eq w T) → Untouched n call
    off_all call is = record {
      next = is (N n) ∙ off.next;
      buffer = is (B n) ∙ off.buffer;
      mark = is (M n) ∙ off.mark;
      closed = λ j low. is (C n j) ∙ off.closed j;
    }

    pub making_walk : (k : ℕ) (E : View → Type 0) (bytes : List ℕ)
        → Walk n (making T bytes) (InPhase n k E f Anything)
        (InPhase n k E f (Is (Some (whole bytes))))
    making_walk k E bytes =
        step_on (away_move Remove (T ∷ []) 0 0 (record {
          by = λ answer before after t. refl;
          gives =
              λ answer. refl;
        }) k E f Anything (Is None)
        (off_all (Removes T) (λ w. refl)) (λ answer was before files logs honest u. removed answer
        was before files logs honest))
        (step_on (away_move Create (T ∷ []) 0 0 (record {
          by = λ answer before after t. refl;
          gives =
              λ answer. refl;
        }) k E f (Is None) (Is empty_file)
        (off_all (Creates T) (λ w. refl)) (λ answer was before files logs honest u. created answer
        was before files logs honest u))
        (step_on (away_move Append (T ∷ bytes ∷ []) 0 0 (record {
          by =
              λ answer before after t. rw off.appends refl;
          gives = λ answer. refl;
        }) k E f
        (Is empty_file) (Is (unsynced bytes)) (off_all (Appends T bytes) (λ w. refl))
        (λ answer was before files logs honest u. appended bytes answer was before files logs honest
        u))
        (step_on (away_move Sync (T ∷ []) 0 0 (record {
          by = λ answer before after t. refl;
          gives =
              λ answer. refl;
        }) k E f (Is (unsynced bytes))
        (Is (Some (whole bytes))) (off_all (Syncs T) (λ w. refl))
        (λ answer was before files logs honest u. synced bytes answer was before files logs honest
        u))
        (rest (λ h p. p.all)))))
