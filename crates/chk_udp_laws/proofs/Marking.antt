-- What the calls on the buffer, its mark and its number lead to.
use Rattle.std.proofs.Common.{◌≡◌, inl, inr, ℕ, ◌+◌, ◌<◌, ◌≤◌, ◌^◌, Bool, true, false, List, [], ◌∷◌, ◌++◌, length, Option, Some, None, option_map, bytes_eq, if◌then◌else◌, refl, sym, ◌∙◌, ap, ap₂, subst, arith, append_assoc, append-nil, length-append}
use Rattle.std.proofs.lemmas.List.{take-append-le}
use Rattle.std.proofs.lemmas.Bool.{false≢true, cases_Bool, ltb-true, ltb-false}
use Rattle.std.specs.Prelude.{IsSome, nat_lt}
use Rattle.chk_bytes.specs.Numbers.{be64}
use Rattle.chk_site.specs.declared.acts.Call.TheVariants.{Create, Append, Sync, Rename}
use Rattle.chk_site.specs.declared.acts.CallFault.TheVariants.{Failed, Missing, Exists, Short, NoMemory}
use Rattle.chk_site.specs.declared.acts.ActAnswer.{ActAnswer}
use Rattle.chk_site.specs.declared.acts.ActAnswer.TheVariants.{Done, Refused, Stopped, Rotated, Deleted}
use Rattle.chk_site.specs.Files.{File, Files, Created, Secured, Moved, Grown, changed, made, grown, secured, moved}
use Rattle.chk_site.specs.Acts.{Creates, Appends, Syncs, Renames, is_done}
use Rattle.chk_site.specs.Effect.{IsSmallFile}
use Rattle.chk_site.specs.History.{History, files_after}
use Rattle.chk_site.specs.Logs.{Logs}
use Rattle.chk_site.specs.Site.{Asked, own_step, WasDone}
use Rattle.chk_site.proofs.Leads.{Shows}
use Rattle.chk_world.proofs.Outcomes.{leaves}
use Rattle.chk_replace.specs.Replace.{whole}
use Rattle.chk_wahead.specs.States.{last_number}
use Rattle.chk_udp_laws.specs.Marked.{Tally, tally, took, joined, IsPart, added, under_mark}
use Rattle.chk_udp_laws.specs.Histories.{NextTemporary, MarkTemporary, ClosedFile}
use Rattle.chk_udp_laws.proofs.Naming.{B, M, N, C, NT, n_b, n_m, b_n, b_nt, m_n, m_b, m_nt, c_n, c_b, c_nt}
use Rattle.chk_replace.proofs.OldAndNew.{same_name as self_name}
use Rattle.chk_udp_laws.proofs.Standing.{stands_as, grows, syncs, begins, numbers, under_past}
use Rattle.chk_udp_laws.proofs.Steps.{At, at_as, Some_at, Leaving, leaving_some}
use Rattle.chk_udp_laws.proofs.Parts.{joined_one}
use Rattle.chk_udp_laws.proofs.Phases.{View, Anything, Is, present_done, done_files, mine, All, now, view, InPhase, Plain, keeps, view_as, tally_own, took_own, Move}
use Rattle.chk_udp_laws.proofs.Moves.{Quiet, any_left, reaches}

-- no buffer and no mark, and nothing that waits to be saved
pub record Idle (v : View) : Type 0 where
  pub buffer : v.buffer ≡ None
  pub mark : v.mark ≡ None
  pub unsaved : joined v.tally.unsaved ≡ []

abbrev pub MarkIs : ℕ → Option File → Type 0
MarkIs marked None = marked ≡ 0
MarkIs marked (Some g) = (g ≡ whole (be64 marked)) × (1 ≤ marked)

-- a buffer of this size, of which so much is marked
pub record Open (size marked : ℕ) (v : View) : Type 0 where
  pub file : File
  pub buffer : v.buffer ≡ Some file
  pub size_is : length file.bytes ≡ size
  pub low : size ≤ last_number
  pub content : under_mark v.buffer v.mark ++ joined v.tally.unsaved ≡ file.bytes
  pub mark : MarkIs marked v.mark

-- the same, and all of it is synced
pub record Synced (size marked : ℕ) (v : View) : Type 0 where
  pub open_is : Open size marked v
  pub some : 1 ≤ size
  pub synced : open_is.file.synced ≡ length open_is.file.bytes

-- there is no buffer more, and nothing waits to be saved
pub record Closing (v : View) : Type 0 where
  pub buffer : v.buffer ≡ None
  pub unsaved : joined v.tally.unsaved ≡ []

-- a buffer that holds something
pub record Full (size marked : ℕ) (v : View) : Type 0 where
  pub open_is : Open size marked v
  pub some : 1 ≤ size

-- this was taken last
abbrev pub Taken : List ℕ → View → Type 0
Taken p v = IsPart (v.tally.saved ++ (v.tally.unsaved ++ p ∷ [])) v.took

abbrev pub Both : (View → Type 0) → (View → Type 0) → View → Type 0
Both E F v = E v × F v

pub moved_is : (old new : List ℕ) (files : Files) (w : List ℕ) (f : File) → files old ≡ Some f
    → changed (Moved old new) files w ≡ (if bytes_eq w new then Some f else if bytes_eq w old then
    None else files w)
moved_is old new files w f is = ap (λ (o : Option File). moved o old new files w) is

below : (k : ℕ) → k ≤ last_number → (k ≡ last_number → ⊥) → k + 1 ≤ last_number
below k low differ = elim (cases_Bool (nat_lt k last_number)) [
  | inl less ↦ let h : k < last_number = ltb-true k last_number less in omega (arith, h)
  | inr not_less ↦
      let h : last_number ≤ k = ltb-false k last_number not_less in
      let e : k ≡ last_number = omega (arith, h, low) in
      absurd (differ e)
]

module _ (n : List ℕ) where
  -- ---- the number

  named : (k : ℕ) (s : List ℕ) (files : Files) → At n files k s → files (B n) ≡ None
      → files (NT n) ≡ Some (whole (be64 (k + 1)))
      → k + 1 ≤ last_number → At n (changed (Moved (NT n) (N n)) files) (k + 1) s
  named k s files at no_buffer next low =
      stands_as (λ j under. moved_is (NT n) (N n) files (C n j) _ next
      ∙ rw (c_n n j, c_nt n j) refl)
      (moved_is (NT n) (N n) files (B n) _ next ∙ rw (b_n n, b_nt n) no_buffer)
      (moved_is (NT n) (N n) files (M n) _ next ∙ rw (m_n n, m_nt n) refl)
      (moved_is (NT n) (N n) files (N n) _ next ∙ rw (self_name (N n)) refl)
      (numbers (stands_as (λ j under. refl) (sym no_buffer) refl refl at) low)

  pub number_move : (k : ℕ) (E : View → Type 0) → ((v : View) → E v → v.buffer ≡ None)
      → (k ≡ last_number → ⊥)
      → Move n (mine n Rename (NT n ∷ N n ∷ []) 0 0)
      (InPhase n k E NextTemporary (Is (Some (whole (be64 (k + 1))))))
      (InPhase n (k + 1) E (ClosedFile (k + 1)) (Is None))
  number_move k E none differ =
      let A : History → Type 0 = InPhase n k E NextTemporary (Is (Some (whole (be64 (k + 1))))) in
      let quiet : Quiet n (Renames (NT n) (N n)) = record {
        by =
            λ answer before after t. rw (n_m n) refl;
        gives = λ answer. refl;
      } in
      let any : (answer : ActAnswer)
      → Shows A (All n) (mine n Rename (NT n ∷ N n ∷ []) 0 0) answer =
      any_left n Rename (NT n ∷ N n ∷ []) 0 0 quiet (λ h p. p.all)
      (λ h p. record {
        none = record { number = k; stands = p.at };
        all = record {
          number = k + 1;
          stands = named k _ (files_after h) p.at
              (none (view n h) p.fits) p.next (below k p.at.low differ);
        };
        part = λ name piece bytes is. absurd (cc);
        idle_n = refl;
        idle_m = refl;
        idle_c = λ j. refl;
      }) in
      record {
        any = any;
        done =
            λ answer was before files logs running honest p.
            let step = own_step (mine n Rename (NT n ∷ N n ∷ []) 0 0) answer files logs in
            let F = files_after before in
            let d = present_done answer (F (NT n)) _ was honest.agrees p.next in
            let same = done_files before step d.0 d.1 d.2 honest.modelled d.3 in
            let low = below k p.at.low differ in
            let at = named k _ F p.at (none (view n before) p.fits) p.next low in
            reaches n Rename (NT n ∷ N n ∷ []) 0 0 quiet {A =
            A} any answer before files logs running honest p
            (at_as n same at)
            (view_as E (same (B n) ∙ (moved_is (NT n) (N n) F (B n) _ p.next ∙ rw (b_n n, b_nt n)
            refl))
            (same (M n) ∙ (moved_is (NT n) (N n) F (M n) _ p.next ∙ rw (m_n n, m_nt n) refl)) refl
            refl p.fits)
            (same (C n (k + 1)) ∙ (moved_is (NT n) (N n) F (C n (k + 1)) _ p.next
            ∙ rw (c_n n (k + 1), c_nt n (k + 1)) (p.at.absent (k + 1) (omega arith) low)));
        weak = λ h p. p.all;
        keeps = keeps n k E NextTemporary (Is (Some (whole (be64 (k + 1)))));
      }

  -- ---- a new buffer

  made_at : (k : ℕ) (s : List ℕ) (files : Files) → At n files k s → files (B n) ≡ None
      → files (M n) ≡ None → files (C n k) ≡ None
      → 1 ≤ k → At n (changed (Created (B n)) files) k s
  made_at k s files at no_buffer no_mark free some =
      stands_as (λ j under. rw (c_b n j) refl) (rw (self_name (B n)) (ap made no_buffer))
      (rw (m_b n) no_mark) (rw (n_b n) refl)
      (begins (stands_as (λ j under. refl) (sym no_buffer) (sym no_mark) refl at) free some)

  pub create_move : (k : ℕ) (p : List ℕ) → 1 ≤ k
      → Move n (mine n Create (B n ∷ []) 0 0) (InPhase n k (Both Idle (Taken p)) (ClosedFile k)
      (Is None)) (Plain n k (Both (Open 0 0) (Taken p)))
  create_move k p some =
      let A : History → Type 0 = InPhase n k (Both Idle (Taken p)) (ClosedFile k) (Is None) in
      let quiet : Quiet n (Creates (B n)) = record {
        by = λ answer before after t. refl;
        gives =
            λ answer. refl;
      } in
      let any : (answer : ActAnswer) → Shows A (All n) (mine n Create (B n ∷ []) 0 0) answer =
      any_left n Create (B n ∷ []) 0 0 quiet (λ h p. p.all)
      (λ h p. record {
        none = record { number = k; stands = p.at };
        all = record {
          number = k;
          stands =
              made_at k _ (files_after h) p.at p.fits.0.buffer p.fits.0.mark p.next some;
        };
        part = λ name piece bytes is. absurd (cc);
        idle_n = refl;
        idle_m = refl;
        idle_c = λ j. refl;
      }) in
      record {
        any = any;
        done = λ answer was before files logs running honest a. go any answer was before files logs
            running honest a;
        weak = λ h p. p.all;
        keeps = keeps n k (Both Idle (Taken p)) (ClosedFile k) (Is None);
      }
    where
      go : ((answer : ActAnswer) → Shows (InPhase n k (Both Idle (Taken p)) (ClosedFile k)
          (Is None)) (All n) (mine n Create (B n ∷ []) 0 0) answer)
          → (answer : ActAnswer) → WasDone answer
          → Shows (InPhase n k (Both Idle (Taken p)) (ClosedFile k) (Is None))
          (Plain n k (Both (Open 0 0) (Taken p))) (mine n Create (B n ∷ []) 0 0) answer
      go any (Done words number of) was before files logs running honest a =
          let F = files_after before in
          let same = done_files before (own_step (mine n Create (B n ∷ []) 0 0)
          (Done words number of) files logs) words number of honest.modelled refl in
          let is : files (B n) ≡ Some (record { bytes = []; synced = 0 }) = same (B n)
          ∙ rw (self_name (B n)) (ap made a.fits.0.buffer) in
          let no : files (M n) ≡ None = same (M n) ∙ rw (m_b n) a.fits.0.mark in
          reaches n Create (B n ∷ []) 0 0 (record {
            by = λ answer before after t. refl;
            gives =
                λ answer. refl;
          })
          {A = InPhase n k (Both Idle (Taken p)) (ClosedFile k) (Is None)} any
          (Done words number of) before files logs running honest a
          (at_as n same (made_at k _ F a.at a.fits.0.buffer a.fits.0.mark a.next some)) (
            record {
              file = record { bytes = []; synced = 0 };
              buffer = is;
              size_is = refl;
              low = omega arith;
              content = ap₂ (λ b m. under_mark b m ++ joined (tally n before).unsaved) is no
                  ∙ a.fits.0.unsaved;
              mark = subst (MarkIs 0) (sym no) refl;
            },
            a.fits.1,
          ) tt
      go any (Refused Exists) was before files logs running honest a =
          absurd (not_there (files_after before (B n)) honest.agrees a.fits.0.buffer)
        where
          not_there : (o : Option File) → IsSome o → o ≡ None → ⊥
          not_there o some none =
              absurd (false≢true (subst (λ (o : Option File). IsSome o) none some))
      go any (Refused Missing) was before files logs running honest a = absurd honest.agrees
      go any (Refused (Short size)) was before files logs running honest a = absurd honest.agrees
      go any (Refused Failed) was before files logs running honest a = absurd was
      go any (Refused NoMemory) was before files logs running honest a = absurd was
      go any (Stopped left) was before files logs running honest a = absurd was
      go any (Rotated suffix) was before files logs running honest a = absurd was
      go any (Deleted suffix) was before files logs running honest a = absurd was

  -- ---- bytes that are added

  added_saved : (b : Bool) (p : List ℕ) (t : Tally) → (added b p t).saved ≡ t.saved
  added_saved true p t = refl
  added_saved false p t = refl

  added_part : (b : Bool) (p : List ℕ) (t : Tally) (l : List (List ℕ))
      → IsPart (t.saved ++ t.unsaved) l
      → IsPart (t.saved ++ (t.unsaved ++ p ∷ [])) l
      → IsPart ((added b p t).saved ++ (added b p t).unsaved) l
  added_part true p t l less more = more
  added_part false p t l less more = less

  grown_at : (k : ℕ) (s : List ℕ) (files : Files) (f : File) (junk : List ℕ) → At n files k s
      → files (B n) ≡ Some f
      → At n (changed (Grown (B n) junk) files) k s
  grown_at k s files f junk at there =
      stands_as (λ j under. rw (c_b n j) refl)
      (rw (self_name (B n)) (ap (option_map (grown junk)) there)) (rw (m_b n) refl)
      (rw (n_b n) refl)
      (grows f junk (stands_as (λ j under. refl) (sym there) refl refl at))

  pub append_move : (k size marked total : ℕ) (p : List ℕ) → total ≡ size + length p
      → Move n (mine n Append (B n ∷ p ∷ []) 0 0) (Plain n k (Both (Open size marked) (Taken p)))
      (Plain n k (Open total marked))
  append_move k size marked total p sum = record {
    any = any;
    done = done;
    weak = λ h a. a.all;
    keeps = keeps n k (Both (Open size marked) (Taken p)) NextTemporary Anything;
  }
    where
      A : History → Type 0
      A = Plain n k (Both (Open size marked) (Taken p))

      Q : Asked
      Q = mine n Append (B n ∷ p ∷ []) 0 0

      tally_is : (answer : ActAnswer) (files : Files) (logs : Logs) (h : History)
          → tally n (own_step Q answer files logs ∷ h) ≡ added (is_done answer) p (tally n h)
      tally_is answer files logs h =
          tally_own n Append (B n ∷ p ∷ []) 0 0 answer files logs h ∙ rw (self_name (B n)) refl

      took_is : (answer : ActAnswer) (files : Files) (logs : Logs) (h : History)
          → took n (own_step Q answer files logs ∷ h) ≡ took n h
      took_is answer files logs h = took_own n Append (B n ∷ p ∷ []) 0 0 answer files logs h
          ∙ append-nil (took n h)

      leaving : (h : History) → A h → Leaving n (Appends (B n) p) (files_after h)
          (joined (tally n h).saved)
      leaving h a = record {
        none = record { number = k; stands = a.at };
        all = record {
          number = k;
          stands =
              grown_at k _ (files_after h) a.fits.0.file p a.at a.fits.0.buffer;
        };
        part =
            λ name piece bytes is.
            let same : B n ≡ name = cc in
            subst (λ w. Some_at n (changed (Grown w bytes) (files_after h))
            (joined (tally n h).saved)) same
            (record {
              number = k;
              stands =
                  grown_at k _ (files_after h) a.fits.0.file bytes a.at a.fits.0.buffer;
            });
        idle_n = rw (n_b n) refl;
        idle_m = rw (m_b n) refl;
        idle_c = λ j. rw (c_b n j) refl;
      }

      any : (answer : ActAnswer) → Shows A (All n) Q answer
      any answer before files logs running honest a =
          let e = honest.modelled.effect in
          let t = tally n before in (
            a.all,
            record {
              stands =
                  subst (λ l. Some_at n files (joined l)) (sym
                  (ap (λ (t : Tally). t.saved) (tally_is answer files logs before)
                  ∙ added_saved (is_done answer) p t))
                  (leaving_some n (Appends (B n) p) answer (files_after before) files
                  (joined t.saved)
                  (leaves (Appends (B n) p) answer (files_after before) files e.did e.may
                  e.files_left) (leaving before a));
              part =
                  subst (λ (u : Tally). IsPart (u.saved ++ u.unsaved)
                  (took n (own_step Q answer files logs ∷ before)))
                  (sym (tally_is answer files logs before))
                  (subst (λ l. IsPart ((added (is_done answer) p t).saved
                  ++ (added (is_done answer) p t).unsaved) l)
                  (sym (took_is answer files logs before))
                  (added_part (is_done answer) p t (took n before) (now n before a.all).part
                  a.fits.1));
            },
          )

      done : (answer : ActAnswer) → WasDone answer
          → Shows A (Plain n k (Open total marked)) Q answer
      done answer was before files logs running honest a =
          let F = files_after before in
          let t = tally n before in
          let f = a.fits.0.file in
          let d = present_done answer (F (B n)) f was honest.agrees a.fits.0.buffer in
          let same = done_files before (own_step Q answer files logs) d.0 d.1 d.2 honest.modelled
          d.3 in
          let tally_now : tally n (own_step Q answer files logs ∷ before) ≡ record {
            saved =
                t.saved;
            unsaved = t.unsaved ++ p ∷ [];
          } =
          tally_is answer files logs before ∙ ap (λ b. added b p t) (ap is_done d.3) in
          let is : files (B n) ≡ Some (grown p f) = same (B n)
          ∙ rw (self_name (B n)) (ap (option_map (grown p)) a.fits.0.buffer) in
          let at_mark : files (M n) ≡ F (M n) = same (M n) ∙ rw (m_b n) refl in
          let st = stands_as (λ j under. refl) (sym a.fits.0.buffer) refl refl a.at in
          let past = under_past (F (M n)) f (grown p f) st.mark
          (λ i low within. take-append-le i f.bytes p (omega (arith, low, within))) in
          let before_is : under_mark (Some f) (F (M n)) ++ joined t.unsaved ≡ f.bytes =
          ap (λ b. under_mark b (F (M n)) ++ joined t.unsaved) (sym a.fits.0.buffer)
          ∙ a.fits.0.content in
          let long : length f.bytes + length p < 2 ^ 63 =
          subst (λ l. l < 2 ^ 63) (length-append f.bytes p)
          (subst IsSmallFile is honest.modelled.small) in
          record {
            all = any answer before files logs running honest a;
            at =
                subst (λ (u : Tally). At n files k (joined u.saved)) (sym tally_now)
                (at_as n same (grown_at k _ F f p a.at a.fits.0.buffer));
            fits = view_as (Open total marked) refl refl tally_now
                (took_is answer files logs before) (record {
                  file = grown p f;
                  buffer = is;
                  size_is = length-append f.bytes p
                      ∙ (ap (λ i. i + length p) a.fits.0.size_is ∙ sym sum);
                  low = omega (arith, long, a.fits.0.size_is, sum);
                  content =
                      ap₂ (λ b m. under_mark b m ++ joined (t.unsaved ++ p ∷ [])) is at_mark
                      ∙ (ap₂ (λ x y. x ++ y) past (joined_one t.unsaved p)
                      ∙ (sym (append_assoc (under_mark (Some f) (F (M n))) (joined t.unsaved) p)
                      ∙ ap (λ x. x ++ p) before_is));
                  mark = subst (MarkIs marked) (sym at_mark) a.fits.0.mark;
                });
            next = tt;
          }

  -- ---- a commit

  under_secured : (f : File) (m : Option File)
      → under_mark (Some (secured f)) m ≡ under_mark (Some f) m
  under_secured f None = refl
  under_secured f (Some g) = refl

  secured_at : (k : ℕ) (s : List ℕ) (files : Files) (f : File) → At n files k s
      → files (B n) ≡ Some f
      → At n (changed (Secured (B n)) files) k s
  secured_at k s files f at there =
      stands_as (λ j under. rw (c_b n j) refl)
      (rw (self_name (B n)) (ap (option_map secured) there)) (rw (m_b n) refl) (rw (n_b n) refl)
      (syncs f (stands_as (λ j under. refl) (sym there) refl refl at))

  pub sync_move : (k size marked : ℕ)
      → Move n (mine n Sync (B n ∷ []) 0 0) (Plain n k (Full size marked))
      (InPhase n k (Synced size marked) MarkTemporary Anything)
  sync_move k size marked = record {
    any = any;
    done = done;
    weak = λ h a. a.all;
    keeps = keeps n k (Full size marked) NextTemporary Anything;
  }
    where
      quiet : Quiet n (Syncs (B n))
      quiet = record { by = λ answer before after t. refl; gives = λ answer. refl }

      any : (answer : ActAnswer) → Shows (Plain n k (Full size marked)) (All n)
          (mine n Sync (B n ∷ []) 0 0) answer
      any = any_left n Sync (B n ∷ []) 0 0 quiet (λ h p. p.all)
          (λ h p. record {
            none = record { number = k; stands = p.at };
            all = record {
              number = k;
              stands =
                  secured_at k _ (files_after h) p.fits.open_is.file p.at p.fits.open_is.buffer;
            };
            part = λ name piece bytes is. absurd (cc);
            idle_n = refl;
            idle_m = refl;
            idle_c = λ j. refl;
          })

      done : (answer : ActAnswer) → WasDone answer
          → Shows (Plain n k (Full size marked)) (InPhase n k (Synced size marked) MarkTemporary
          Anything) (mine n Sync (B n ∷ []) 0 0) answer
      done answer was before files logs running honest a =
          let F = files_after before in
          let t = tally n before in
          let f = a.fits.open_is.file in
          let d = present_done answer (F (B n)) f was honest.agrees a.fits.open_is.buffer in
          let same = done_files before (own_step (mine n Sync (B n ∷ []) 0 0) answer files logs) d.0
          d.1 d.2 honest.modelled d.3 in
          let is : files (B n) ≡ Some (secured f) = same (B n)
          ∙ rw (self_name (B n)) (ap (option_map secured) a.fits.open_is.buffer) in
          let at_mark : files (M n) ≡ F (M n) = same (M n) ∙ rw (m_b n) refl in
          reaches n Sync (B n ∷ []) 0 0 quiet {A =
          Plain n k (Full size marked)} any answer before files logs running honest a
          (at_as n same (secured_at k _ F f a.at a.fits.open_is.buffer))
          (record {
            open_is = record {
              file = secured f;
              buffer = is;
              size_is = a.fits.open_is.size_is;
              low = a.fits.open_is.low;
              content =
                  ap₂ (λ b m. under_mark b m ++ joined t.unsaved) is at_mark
                  ∙ (ap (λ x. x ++ joined t.unsaved) (under_secured f (F (M n)) ∙ ap
                  (λ b. under_mark b (F (M n))) (sym a.fits.open_is.buffer))
                  ∙ a.fits.open_is.content);
              mark = subst (MarkIs marked) (sym at_mark) a.fits.open_is.mark;
            };
            some = a.fits.some;
            synced = refl;
          }) tt
