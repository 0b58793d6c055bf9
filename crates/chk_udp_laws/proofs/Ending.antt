-- What the calls that mark, close, cut and remove a buffer lead to, and the scripts of all these
-- calls.
use Rattle.std.proofs.Common.{◌≡◌, ℕ, ◌+◌, ◌≤◌, Bool, false, ◌&&◌, List, [], ◌∷◌, ◌++◌, length, take, Option, Some, None, option_map, if◌then◌else◌, refl, sym, ◌∙◌, ap, ap₂, subst, arith, append_assoc, append-nil, is_some, is_none}
use Rattle.std.proofs.lemmas.List.{take_all, length-take-le}
use Rattle.std.proofs.lemmas.Option.{same_Some}
use Rattle.std.proofs.Math.Seq.{take-length}
use Rattle.chk_bytes.specs.Numbers.{be64, spelled}
use Rattle.chk_site.specs.declared.acts.Call.TheVariants.{Rename, Remove, Cut}
use Rattle.chk_site.specs.declared.acts.CallFault.TheVariants.{Failed, Missing, Exists, Short, NoMemory}
use Rattle.chk_site.specs.declared.acts.ActAnswer.{ActAnswer}
use Rattle.chk_site.specs.declared.acts.ActAnswer.TheVariants.{Done, Refused, Stopped, Rotated, Deleted}
use Rattle.chk_site.specs.Files.{File, Files, Gone, Shortened, Moved, changed, shortened}
use Rattle.chk_site.specs.Acts.{Deed, Renames, Removes, Cuts, is_done, tail_of}
use Rattle.chk_site.specs.Effect.{with_tail}
use Rattle.chk_wahead.specs.Names.{writer}
use Rattle.chk_site.specs.History.{History, files_after, took_effect}
use Rattle.chk_site.specs.Honest.{AtCut}
use Rattle.chk_site.specs.Logs.{Logs}
use Rattle.chk_site.specs.Site.{Asked, own_step, WasDone}
use Rattle.chk_site.proofs.Leads.{Shows}
use Rattle.chk_world.proofs.Outcomes.{CameTo, whole as came_whole, nothing as came_nothing, junk as came_junk, Leaves, went_on, was_stopped, leaves}
use Rattle.chk_replace.specs.Replace.{whole}
use Rattle.chk_wahead.specs.States.{last_number}
use Rattle.chk_udp_laws.specs.Marked.{Tally, tally, took as took_of, joined, IsPart, saved_all, under_mark, closed_in}
use Rattle.chk_udp_laws.specs.Histories.{NextTemporary, MarkTemporary}
use Rattle.chk_udp_laws.proofs.Naming.{B, M, N, C, MT, n_b, n_m, n_c, n_mt, b_m, b_c, b_mt, m_b, m_c, c_b, c_m, c_mt, c_c, mt_m}
use Rattle.chk_replace.proofs.OldAndNew.{same_name as self_name}
use Rattle.chk_udp_laws.proofs.Standing.{Stands, stands_as, unmarks, drops, cuts, marks, closes, under_is, small_spelled}
use Rattle.chk_udp_laws.proofs.Steps.{At, at_as, at_tails, Some_at}
use Rattle.chk_udp_laws.proofs.Parts.{joined_more}
use Rattle.chk_udp_laws.proofs.Phases.{View, Anything, Is, present_done, done_files, mine, All, now, InPhase, Plain, all_on, keeps, view_as, tally_own, took_own, Move, Walk, rest, step_on, walk_join}
use Rattle.chk_udp_laws.proofs.Moves.{Quiet, any_left, reaches, stayed, making_walk, next_off, mark_off}
use Rattle.chk_udp_laws.proofs.Marking.{Idle, MarkIs, Open, Full, Synced, Closing, Taken, Both, moved_is, number_move, create_move, append_move, sync_move}
use Rattle.chk_wahead.specs.Scripts.{adding, marking, shutting, first_calls}

-- all is marked, and nothing waits to be saved
pub record Committed (size : ℕ) (v : View) : Type 0 where
  pub open_is : Open size size v
  pub some : 1 ≤ size
  pub unsaved : joined v.tally.unsaved ≡ []

-- a buffer without a mark
pub record Dropping (v : View) : Type 0 where
  pub file : File
  pub buffer : v.buffer ≡ Some file
  pub mark : v.mark ≡ None
  pub unsaved : joined v.tally.unsaved ≡ []

-- a buffer that is cut to its mark
pub record Cutting (size : ℕ) (v : View) : Type 0 where
  pub file : File
  pub buffer : v.buffer ≡ Some file
  pub mark : v.mark ≡ Some (whole (be64 size))
  pub some : 1 ≤ size
  pub low : size ≤ last_number
  pub unsaved : joined v.tally.unsaved ≡ []

pub mark_there : (size : ℕ) (m : Option File) → MarkIs size m → 1 ≤ size
    → m ≡ Some (whole (be64 size))
mark_there size None is some = absurd (let z : ⊥ = omega (arith, is, some) in z)
mark_there size (Some g) is some = ap Some is.0

module _ (n : List ℕ) where
  -- what stands, with its buffer and mark
  stands_with : {k : ℕ} {s : List ℕ} (files : Files) {b m : Option File} → At n files k s
      → files (B n) ≡ b → files (M n) ≡ m
      → Stands (λ j. files (C n j)) b m (files (N n)) k s
  stands_with files at at_b at_m = stands_as (λ j under. refl) (sym at_b) (sym at_m) refl at

  size_of : {k size : ℕ} {s : List ℕ} (files : Files) {f : File} (at : At n files k s)
      (b : files (B n) ≡ Some f)
      (m : files (M n) ≡ Some (whole (be64 size))) → size ≤ last_number
      → (size ≤ f.synced) × (f.synced ≤ length f.bytes)
  size_of {size = size} files {f = f} at b m low =
      let st = stands_with files at b m in
      let same : st.mark.size ≡ size =
      sym (small_spelled st.mark.size st.mark.low)
      ∙ (ap (λ (h : File). spelled h.bytes) (sym st.mark.is) ∙ small_spelled size low) in
      (omega (arith, same, st.mark.covers.0), st.mark.covers.1)

  -- ---- the mark is published

  -- all that is in the buffer is marked
  abbrev full : ℕ → Files → List ℕ → List ℕ
  full k files bytes = closed_in (λ j. files (C n j)) k ++ bytes

  marked_at : (k size : ℕ) (s : List ℕ) (files : Files) (f : File) → At n files k s
      → files (B n) ≡ Some f → length f.bytes ≡ size
      → f.synced ≡ length f.bytes → 1 ≤ size → size ≤ last_number
      → files (MT n) ≡ Some (whole (be64 size))
      → At n (changed (Moved (MT n) (M n)) files) k (full k files f.bytes)
  marked_at k size s files f at there size_is synced some low next =
      stands_as (λ j under. moved_is (MT n) (M n) files (C n j) _ next
      ∙ rw (c_m n j, c_mt n j) refl)
      (moved_is (MT n) (M n) files (B n) _ next ∙ rw (b_m n, b_mt n) there)
      (moved_is (MT n) (M n) files (M n) _ next ∙ rw (self_name (M n)) refl)
      (moved_is (MT n) (M n) files (N n) _ next ∙ rw (n_m n, n_mt n) refl)
      (marks f size (stands_with files at there refl) (sym size_is) (synced ∙ size_is) some low)

  next_gone : (size : ℕ) (files : Files) → files (MT n) ≡ Some (whole (be64 size))
      → changed (Moved (MT n) (M n)) files (MT n) ≡ None
  next_gone size files next = moved_is (MT n) (M n) files (MT n) _ next
      ∙ rw (mt_m n, self_name (MT n)) refl

  -- what a rename to the mark left: it took place, or not
  data Marked (before after : Files) (s all : List ℕ) : Type 0 where
    took : after (MT n) ≡ None → Some_at n after all → Marked before after s all
    not_taken : (g : File) → after (MT n) ≡ Some g → Some_at n after s → Marked before after s all

  module _ (k size marked : ℕ) where
    abbrev A : History → Type 0
    A = InPhase n k (Synced size marked) MarkTemporary (Is (Some (whole (be64 size))))

    abbrev Q : Asked
    Q = mine n Rename (MT n ∷ M n ∷ []) 0 0

    abbrev D : Deed
    D = Renames (MT n) (M n)

    abbrev all_of : History → Tally → List ℕ
    all_of h t = joined t.saved ++ joined t.unsaved

    at_all : (h : History) → A h → At n (changed (Moved (MT n) (M n)) (files_after h)) k
        (all_of h (tally n h))
    at_all h a =
        let F = files_after h in
        let o = a.fits.open_is in
        let c = closed_in (λ j. F (C n j)) k in
        let u = under_mark (F (B n)) (F (M n)) in
        let w = joined (tally n h).unsaved in
        let is : full k F o.file.bytes ≡ joined (tally n h).saved ++ w =
        ap (λ t. c ++ t) (sym o.content) ∙ (sym (append_assoc c u w) ∙ ap (λ t. t ++ w) a.at.is) in
        subst (λ l. At n (changed (Moved (MT n) (M n)) F) k l) is
        (marked_at k size (joined (tally n h).saved) F o.file a.at o.buffer o.size_is a.fits.synced
        a.fits.some o.low a.next)

    came_marked : (done : Bool) (h : History) (after : Files) → A h
        → CameTo D done (files_after h) after
        → Marked (files_after h) after (joined (tally n h).saved) (all_of h (tally n h))
    came_marked done h after a (came_whole e) =
        took (e (MT n) ∙ next_gone size (files_after h) a.next) (record {
          number = k;
          stands =
              at_as n e (at_all h a);
        })
    came_marked done h after a (came_nothing not_yet e) =
        not_taken (whole (be64 size)) (e (MT n) ∙ a.next) (record {
          number = k;
          stands =
              at_as n e a.at;
        })
    came_marked done h after a (came_junk name piece bytes is not_yet e) = absurd (cc)

    left_marked : (answer : ActAnswer) (h : History) (after : Files) → A h
        → Leaves D answer (files_after h) after
        → Marked (files_after h) after (joined (tally n h).saved) (all_of h (tally n h))
    left_marked answer h after a (went_on running came) =
        came_marked (is_done answer) h after a came
    left_marked answer h after a (was_stopped left is middle came tails) =
        go (came_marked false h middle a came)
      where
        go : Marked (files_after h) middle (joined (tally n h).saved) (all_of h (tally n h))
            → Marked (files_after h) after (joined (tally n h).saved) (all_of h (tally n h))
        go (took none at) =
            took ((tails (MT n)).0 ∙ ap (option_map (with_tail (tail_of left (MT n)))) none)
            (record {
              number = at.number;
              stands =
                  at_tails n D left middle after at.number _ tails refl refl (λ j. refl) at.stands;
            })
        go (not_taken g there at) =
            not_taken (with_tail (tail_of left (MT n)) g)
            ((tails (MT n)).0 ∙ ap (option_map (with_tail (tail_of left (MT n)))) there)
            (record {
              number = at.number;
              stands =
                  at_tails n D left middle after at.number _ tails refl refl (λ j. refl) at.stands;
            })

    tally_is : (answer : ActAnswer) (files : Files) (logs : Logs) (h : History)
        → tally n (own_step Q answer files logs ∷ h)
        ≡ (if took_effect (files_after h) files (MT n) then saved_all (tally n h) else tally n h)
    tally_is answer files logs h =
        tally_own n Rename (MT n ∷ M n ∷ []) 0 0 answer files logs h ∙ rw (self_name (M n)) refl

    took_is : (answer : ActAnswer) (files : Files) (logs : Logs) (h : History)
        → took_of n (own_step Q answer files logs ∷ h) ≡ took_of n h
    took_is answer files logs h = took_own n Rename (MT n ∷ M n ∷ []) 0 0 answer files logs h
        ∙ append-nil _

    tally_took : (answer : ActAnswer) (files : Files) (logs : Logs) (h : History) → A h
        → files (MT n) ≡ None
        → tally n (own_step Q answer files logs ∷ h) ≡ saved_all (tally n h)
    tally_took answer files logs h a none =
        tally_is answer files logs h
        ∙ ap₂ (λ o p. if is_some o && is_none p then saved_all (tally n h) else tally n h) a.next
        none

    tally_not : (answer : ActAnswer) (files : Files) (logs : Logs) (h : History) (g : File) → A h
        → files (MT n) ≡ Some g
        → tally n (own_step Q answer files logs ∷ h) ≡ tally n h
    tally_not answer files logs h g a there =
        tally_is answer files logs h
        ∙ ap₂ (λ o p. if is_some o && is_none p then saved_all (tally n h) else tally n h) a.next
        there

    any_marked : (answer : ActAnswer) → Shows A (All n) Q answer
    any_marked answer before files logs running honest a =
        let e = honest.modelled.effect in
        go (left_marked answer before files a (leaves D answer (files_after before) files e.did
        e.may e.files_left))
      where
        t : Tally
        t = tally n before

        go : Marked (files_after before) files (joined t.saved) (all_of before t)
            → All n (own_step Q answer files logs ∷ before)
        go (took none at) = (
          a.all,
          record {
            stands =
                subst (λ (u : Tally). Some_at n files (joined u.saved))
                (sym (tally_took answer files logs before a none))
                (subst (λ l. Some_at n files l) (sym (joined_more t.saved t.unsaved)) at);
            part =
                subst (λ (u : Tally). IsPart (u.saved ++ u.unsaved)
                (took_of n (own_step Q answer files logs ∷ before)))
                (sym (tally_took answer files logs before a none))
                (subst (λ l. IsPart ((t.saved ++ t.unsaved) ++ []) l)
                (sym (took_is answer files logs before))
                (subst (λ l. IsPart l (took_of n before)) (sym (append-nil (t.saved ++ t.unsaved)))
                (now n before a.all).part));
          },
        )
        go (not_taken g there at) = all_on n before (own_step Q answer files logs)
            (tally_not answer files logs before g a there)
            (took_is answer files logs before) at a.all

    done_marked : (answer : ActAnswer) → WasDone answer
        → Shows A (Plain n k (Committed size)) Q answer
    done_marked answer was before files logs running honest a =
        let F = files_after before in
        let o = a.fits.open_is in
        let t = tally n before in
        let d = present_done answer (F (MT n)) _ was honest.agrees a.next in
        let same = done_files before (own_step Q answer files logs) d.0 d.1 d.2 honest.modelled d.3
        in
        let none = same (MT n) ∙ next_gone size F a.next in
        let tally_now = tally_took answer files logs before a none in
        let at_b : files (B n) ≡ Some o.file = same (B n)
        ∙ (moved_is (MT n) (M n) F (B n) _ a.next ∙ rw (b_m n, b_mt n) o.buffer) in
        let at_m : files (M n) ≡ Some (whole (be64 size)) = same (M n)
        ∙ (moved_is (MT n) (M n) F (M n) _ a.next ∙ rw (self_name (M n)) refl) in
        record {
          all = any_marked answer before files logs running honest a;
          at =
              subst (λ (u : Tally). At n files k (joined u.saved)) (sym tally_now)
              (subst (λ l. At n files k l) (sym (joined_more t.saved t.unsaved))
              (at_as n same (at_all before a)));
          fits = view_as (Committed size) refl refl tally_now (took_is answer files logs before)
              (record {
                open_is = record {
                  file = o.file;
                  buffer = at_b;
                  size_is = o.size_is;
                  low = o.low;
                  content =
                      append-nil (under_mark (files (B n)) (files (M n)))
                      ∙ (ap₂ under_mark at_b at_m
                      ∙ (under_is o.file (whole (be64 size)) size refl o.low
                      ∙ (ap (λ i. take i o.file.bytes) (sym o.size_is)
                      ∙ take-length o.file.bytes)));
                  mark = subst (MarkIs size) (sym at_m) (refl, a.fits.some);
                };
                some = a.fits.some;
                unsaved = refl;
              });
          next = tt;
        }

    pub mark_move : Move n Q A (Plain n k (Committed size))
    mark_move = record {
      any = any_marked;
      done = done_marked;
      weak = λ h a. a.all;
      keeps = keeps n k (Synced size marked) MarkTemporary (Is (Some (whole (be64 size))));
    }

  -- ---- the buffer is closed

  closed_at : (k size : ℕ) (s : List ℕ) (files : Files) (f : File) → At n files k s
      → files (B n) ≡ Some f → length f.bytes ≡ size
      → files (M n) ≡ Some (whole (be64 size)) → size ≤ last_number
      → At n (changed (Moved (B n) (C n k)) files) k s
  closed_at k size s files f at there size_is marked low =
      let st = stands_with files at there marked in
      let sized = size_of files at there marked low in
      let full_is : under_mark (Some f) (Some (whole (be64 size))) ≡ f.bytes =
      under_is f (whole (be64 size)) size refl low
      ∙ (ap (λ i. take i f.bytes) (sym size_is) ∙ take-length f.bytes) in
      stands_as (λ j under. refl)
      (moved_is (B n) (C n k) files (B n) f there ∙ rw (b_c n k, self_name (B n)) refl)
      (moved_is (B n) (C n k) files (M n) f there ∙ rw (m_c n k, m_b n) marked)
      (moved_is (B n) (C n k) files (N n) f there ∙ rw (n_c n k, n_b n) refl)
      (closes f (whole (be64 size)) st (omega (arith, sized, size_is)) full_is
      (moved_is (B n) (C n k) files (C n k) f there ∙ rw (self_name (C n k)) refl)
      (λ j under differ. moved_is (B n) (C n k) files (C n j) f there
      ∙ rw (c_c n j k under at.low differ, c_b n j) refl))

  module _ (k size : ℕ) where
    shut_quiet : Quiet n (Renames (B n) (C n k))
    shut_quiet = record { by = λ answer before after t. rw (c_m n k) refl; gives = λ answer. refl }

    shut_at : (h : History) → Plain n k (Committed size) h
        → At n (changed (Moved (B n) (C n k)) (files_after h)) k (joined (tally n h).saved)
    shut_at h p =
        let o = p.fits.open_is in
        closed_at k size _ (files_after h) o.file p.at o.buffer o.size_is
        (mark_there size _ o.mark p.fits.some) o.low

    any_shut : (answer : ActAnswer)
        → Shows (Plain n k (Committed size)) (All n) (mine n Rename (B n ∷ C n k ∷ []) 0 0) answer
    any_shut = any_left n Rename (B n ∷ C n k ∷ []) 0 0 shut_quiet (λ h p. p.all)
        (λ h p. record {
          none = record { number = k; stands = p.at };
          all = record { number = k; stands = shut_at h p };
          part = λ name piece bytes is. absurd (cc);
          idle_n = refl;
          idle_m = refl;
          idle_c = λ j. refl;
        })

    pub shut_move : Move n (mine n Rename (B n ∷ C n k ∷ []) 0 0) (Plain n k (Committed size))
        (Plain n k Closing)
    shut_move = record {
      any = any_shut;
      done =
          λ answer was before files logs running honest a.
          let F = files_after before in
          let o = a.fits.open_is in
          let d = present_done answer (F (B n)) o.file was honest.agrees o.buffer in
          let same = done_files before (own_step (mine n Rename (B n ∷ C n k ∷ []) 0 0) answer files
          logs) d.0 d.1 d.2 honest.modelled d.3 in
          reaches n Rename (B n ∷ C n k ∷ []) 0 0 shut_quiet {A =
          Plain n k (Committed size)} any_shut answer before files logs running honest a
          (at_as n same (shut_at before a))
          (record {
            buffer = same (B n) ∙ (moved_is (B n) (C n k) F (B n) o.file o.buffer
                ∙ rw (b_c n k, self_name (B n)) refl);
            unsaved = a.fits.unsaved;
          }) tt;
      weak = λ h p. p.all;
      keeps = keeps n k (Committed size) NextTemporary Anything;
    }

  -- ---- the mark is removed

  unmarked_at : (k : ℕ) (s : List ℕ) (files : Files) → At n files k s → files (B n) ≡ None
      → At n (changed (Gone (M n)) files) k s
  unmarked_at k s files at none =
      stands_as (λ j under. rw (c_m n j) refl) (rw (b_m n) none) (rw (self_name (M n)) refl)
      (rw (n_m n) refl)
      (unmarks (stands_with files at none refl))

  unmark_quiet : Quiet n (Removes (M n))
  unmark_quiet = record { by = λ answer before after t. refl; gives = λ answer. refl }

  any_unmark : (k : ℕ) (answer : ActAnswer)
      → Shows (Plain n k Closing) (All n) (mine n Remove (M n ∷ []) 0 0) answer
  any_unmark k = any_left n Remove (M n ∷ []) 0 0 unmark_quiet (λ h p. p.all)
      (λ h p. record {
        none = record { number = k; stands = p.at };
        all = record { number = k; stands = unmarked_at k _ (files_after h) p.at p.fits.buffer };
        part = λ name piece bytes is. absurd (cc);
        idle_n = refl;
        idle_m = refl;
        idle_c = λ j. refl;
      })

  done_unmark : (k : ℕ) (answer : ActAnswer) → WasDone answer
      → Shows (Plain n k Closing) (Plain n k Idle) (mine n Remove (M n ∷ []) 0 0) answer
  done_unmark k (Done words number of) was before files logs running honest a =
      let same = done_files before (own_step (mine n Remove (M n ∷ []) 0 0) (Done words number of)
      files logs) words number of honest.modelled refl in
      reaches n Remove (M n ∷ []) 0 0 unmark_quiet {A = Plain n k Closing} (any_unmark k)
      (Done words number of) before files logs running honest a
      (at_as n same (unmarked_at k _ (files_after before) a.at a.fits.buffer))
      (record {
        buffer = same (B n) ∙ rw (b_m n) a.fits.buffer;
        mark = same (M n) ∙ rw (self_name (M n)) refl;
        unsaved = a.fits.unsaved;
      }) tt
  done_unmark k (Refused Missing) was before files logs running honest a =
      let same = stayed (mine n Remove (M n ∷ []) 0 0) before files logs honest in
      reaches n Remove (M n ∷ []) 0 0 unmark_quiet {A =
      Plain n k Closing} (any_unmark k) (Refused Missing) before files logs running honest a
      (at_as n same a.at)
      (record {
        buffer = same (B n) ∙ a.fits.buffer;
        mark = same (M n) ∙ honest.agrees;
        unsaved = a.fits.unsaved;
      }) tt
  done_unmark k (Refused Exists) was before files logs running honest a = absurd honest.agrees
  done_unmark k (Refused (Short size)) was before files logs running honest a = absurd honest.agrees
  done_unmark k (Refused Failed) was before files logs running honest a = absurd was
  done_unmark k (Refused NoMemory) was before files logs running honest a = absurd was
  done_unmark k (Stopped left) was before files logs running honest a = absurd was
  done_unmark k (Rotated suffix) was before files logs running honest a = absurd was
  done_unmark k (Deleted suffix) was before files logs running honest a = absurd was

  pub unmark_move : (k : ℕ) → Move n (mine n Remove (M n ∷ []) 0 0) (Plain n k Closing)
      (Plain n k Idle)
  unmark_move k = record {
    any = any_unmark k;
    done = done_unmark k;
    weak = λ h p. p.all;
    keeps =
        keeps n k Closing NextTemporary Anything;
  }

  -- ---- a buffer without a mark is removed

  dropped_at : (k : ℕ) (s : List ℕ) (files : Files) (f : File) → At n files k s
      → files (B n) ≡ Some f → files (M n) ≡ None
      → At n (changed (Gone (B n)) files) k s
  dropped_at k s files f at there none =
      stands_as (λ j under. rw (c_b n j) refl) (rw (self_name (B n)) refl) (rw (m_b n) none)
      (rw (n_b n) refl)
      (drops f (stands_with files at there none))

  drop_quiet : Quiet n (Removes (B n))
  drop_quiet = record { by = λ answer before after t. refl; gives = λ answer. refl }

  any_drop : (k : ℕ) (answer : ActAnswer)
      → Shows (Plain n k Dropping) (All n) (mine n Remove (B n ∷ []) 0 0) answer
  any_drop k = any_left n Remove (B n ∷ []) 0 0 drop_quiet (λ h p. p.all)
      (λ h p. record {
        none = record { number = k; stands = p.at };
        all = record {
          number = k;
          stands =
              dropped_at k _ (files_after h) p.fits.file p.at p.fits.buffer p.fits.mark;
        };
        part = λ name piece bytes is. absurd (cc);
        idle_n = refl;
        idle_m = refl;
        idle_c = λ j. refl;
      })

  pub drop_move : (k : ℕ) → Move n (mine n Remove (B n ∷ []) 0 0) (Plain n k Dropping)
      (Plain n k Idle)
  drop_move k = record {
    any = any_drop k;
    done =
        λ answer was before files logs running honest a.
        let F = files_after before in
        let d = present_done answer (F (B n)) a.fits.file was honest.agrees a.fits.buffer in
        let same = done_files before (own_step (mine n Remove (B n ∷ []) 0 0) answer files logs) d.0
        d.1 d.2 honest.modelled d.3 in
        reaches n Remove (B n ∷ []) 0 0 drop_quiet {A =
        Plain n k Dropping} (any_drop k) answer before files logs running honest a
        (at_as n same (dropped_at k _ F a.fits.file a.at a.fits.buffer a.fits.mark))
        (record {
          buffer = same (B n) ∙ rw (self_name (B n)) refl;
          mark = same (M n) ∙ rw (m_b n) a.fits.mark;
          unsaved = a.fits.unsaved;
        }) tt;
    weak = λ h p. p.all;
    keeps = keeps n k Dropping NextTemporary Anything;
  }

  -- ---- a buffer is cut to its mark

  cut_at : (k size : ℕ) (s : List ℕ) (files : Files) (f : File) → At n files k s
      → files (B n) ≡ Some f → files (M n) ≡ Some (whole (be64 size))
      → size ≤ last_number → At n (changed (Shortened (B n) size) files) k s
  cut_at k size s files f at there marked low =
      stands_as (λ j under. rw (c_b n j) refl)
      (rw (self_name (B n)) (ap (option_map (shortened size)) there)) (rw (m_b n) marked)
      (rw (n_b n) refl)
      (cuts f size (stands_with files at there marked) low)

  module _ (k size : ℕ) where
    cut_quiet : Quiet n (Cuts (B n) size)
    cut_quiet = record { by = λ answer before after t. refl; gives = λ answer. refl }

    any_cut : (answer : ActAnswer)
        → Shows (Plain n k (Cutting size)) (All n) (mine n Cut (B n ∷ []) size 0) answer
    any_cut = any_left n Cut (B n ∷ []) size 0 cut_quiet (λ h p. p.all)
        (λ h p. record {
          none = record { number = k; stands = p.at };
          all = record {
            number = k;
            stands = cut_at k size _ (files_after h) p.fits.file p.at
                p.fits.buffer p.fits.mark p.fits.low;
          };
          part = λ name piece bytes is. absurd (cc);
          idle_n = refl;
          idle_m = refl;
          idle_c = λ j. refl;
        })

    -- the cut is done where the file is long enough
    cut_done : (answer : ActAnswer) (o : Option File) (f : File) → WasDone answer
        → AtCut answer size o → o ≡ Some f → size ≤ length f.bytes
        → (words : List (List ℕ)) × (number : ℕ) × (of : ℕ) × (answer ≡ Done words number of)
    cut_done (Done words number of) o f was agrees there long = (words, number, of, refl)
    cut_done (Refused Missing) o f was agrees there long =
        present_done (Refused Missing) o f was agrees there
    cut_done (Refused (Short i)) None f was agrees there long = absurd agrees
    cut_done (Refused (Short i)) (Some g) f was agrees there long =
        let same : g ≡ f = same_Some g f there in
        let l : length g.bytes ≡ length f.bytes = ap (λ (h : File). length h.bytes) same in
        absurd (let z : ⊥ = omega (arith, l, long, agrees.0) in z)
    cut_done (Refused Exists) o f was agrees there long = absurd agrees
    cut_done (Refused Failed) o f was agrees there long = absurd was
    cut_done (Refused NoMemory) o f was agrees there long = absurd was
    cut_done (Stopped left) o f was agrees there long = absurd was
    cut_done (Rotated suffix) o f was agrees there long = absurd was
    cut_done (Deleted suffix) o f was agrees there long = absurd was

    pub cut_move : Move n (mine n Cut (B n ∷ []) size 0) (Plain n k (Cutting size))
        (Plain n k (Committed size))
    cut_move = record {
      any = any_cut;
      done =
          λ answer was before files logs running honest a.
          let F = files_after before in
          let f = a.fits.file in
          let sized = size_of F a.at a.fits.buffer a.fits.mark a.fits.low in
          let fits : size ≤ length f.bytes = omega (arith, sized) in
          let d = cut_done answer (F (B n)) f was honest.agrees a.fits.buffer fits in
          let same = done_files before (own_step (mine n Cut (B n ∷ []) size 0) answer files logs)
          d.0 d.1 d.2 honest.modelled d.3 in
          let at_b : files (B n) ≡ Some (shortened size f) = same (B n)
          ∙ rw (self_name (B n)) (ap (option_map (shortened size)) a.fits.buffer) in
          let at_m : files (M n) ≡ Some (whole (be64 size)) = same (M n) ∙ rw (m_b n) a.fits.mark in
          reaches n Cut (B n ∷ []) size 0 cut_quiet {A =
          Plain n k (Cutting size)} any_cut answer before files logs running honest a
          (at_as n same (cut_at k size _ F f a.at a.fits.buffer a.fits.mark a.fits.low))
          (record {
            open_is = record {
              file = shortened size f;
              buffer = at_b;
              size_is = length-take-le size f.bytes fits;
              low = a.fits.low;
              content =
                  ap₂ (λ x y. x ++ y) (ap₂ under_mark at_b at_m) a.fits.unsaved
                  ∙ (append-nil _
                  ∙ (under_is (shortened size f) (whole (be64 size)) size refl a.fits.low
                  ∙ take_all size (take size f.bytes) (omega
                  (arith, length-take-le size f.bytes fits))));
              mark = subst (MarkIs size) (sym at_m) (refl, a.fits.some);
            };
            some = a.fits.some;
            unsaved = a.fits.unsaved;
          }) tt;
      weak = λ h p. p.all;
      keeps = keeps n k (Cutting size) NextTemporary Anything;
    }

  -- ---- scripts

  pub shutting_walk : (k size : ℕ)
      → Walk n (shutting (writer n) (B n) (C n k) (M n)) (Plain n k (Committed size))
      (Plain n k Idle)
  shutting_walk k size = step_on (shut_move k size) (step_on (unmark_move k) (rest (λ h p. p.all)))

  pub marking_walk : (k size marked : ℕ)
      → Walk n (marking (writer n) (B n) (M n) size) (Plain n k (Full size marked))
      (Plain n k (Committed size))
  marking_walk k size marked =
      step_on (sync_move n k size marked)
      (walk_join n (making_walk n MarkTemporary (mark_off n) k (Synced size marked) (be64 size))
      (step_on (mark_move k size marked) (rest (λ h p. p.all))))

  pub first_walk : (k : ℕ) (p : List ℕ) → (k ≡ last_number → ⊥)
      → Walk n (first_calls (writer n) (k + 1) p) (Plain n k (Both Idle (Taken p)))
      (Plain n (k + 1) (Open (length p) 0))
  first_walk k p differ =
      walk_join n (making_walk n NextTemporary (next_off n) k (Both Idle (Taken p)) (be64 (k + 1)))
      (step_on (number_move n k (Both Idle (Taken p)) (λ v e. e.0.buffer) differ)
      (step_on (create_move n (k + 1) p (omega arith))
      (step_on (append_move n (k + 1) 0 0 (length p) p (omega arith)) (rest (λ h a. a.all)))))

  pub adding_walk : (k size marked : ℕ) (p : List ℕ)
      → Walk n (adding (writer n) (B n) p ∷ []) (Plain n k (Both (Open size marked) (Taken p)))
      (Plain n k (Open (size + length p) marked))
  adding_walk k size marked p =
      step_on (append_move n k size marked (size + length p) p refl) (rest (λ h a. a.all))
