-- What the calls of a run lead to, with what it took and added.
use Rattle.std.proofs.Common.{◌≡◌, ℕ, ◌+◌, ◌≤◌, ◌==◌, Bool, true, false, List, [], ◌∷◌, ◌++◌, length, Option, Some, None, Result, Ok, Err, if◌then◌else◌, refl, sym, ◌∙◌, ap, subst, arith, append_assoc, append-nil}
use Rattle.std.specs.Prelude.{MatchBool, ◌&&◌, bytes_eq}
use Rattle.std.proofs.lemmas.Bool.{eqb-true, eqb-false}
use Rattle.chk_bytes.specs.Numbers.{be64}
use Rattle.chk_site.specs.declared.acts.Call.TheVariants.{Create, Append, Sync, Rename, Remove, Cut, Take}
use Rattle.chk_site.specs.declared.acts.Call.{Call}
use Rattle.chk_site.specs.declared.acts.CallFault.{CallFault}
use Rattle.chk_site.specs.declared.acts.ActAnswer.{ActAnswer}
use Rattle.chk_site.specs.declared.acts.OutsideFault.{OutsideFault}
use Rattle.chk_site.specs.declared.acts.OutsideFault.TheVariants.{Outside as site_failed, NoMemory as no_memory}
use Rattle.chk_site.specs.declared.acts.Who.{Who}
use Rattle.chk_site.specs.declared.suffixes.Taking.{Taking}
use Rattle.chk_site.specs.Acts.{deed_by, is_done}
use Rattle.chk_site.specs.Files.{File, Files}
use Rattle.chk_site.specs.History.{History, files_after, took_effect}
use Rattle.chk_site.specs.Logs.{Logs}
use Rattle.chk_site.specs.Runs.{Leads, MadeInTurn}
use Rattle.chk_site.specs.Site.{Adds, Asked, own_step, answered, taking_given}
use Rattle.chk_site.proofs.Leads.{leads_as, leads_none, acted_leads, call_owned, script_owned, AllOwned}
use Rattle.chk_site.proofs.Runs.{adds_as, adds_both, ran}
use Rattle.chk_replace.specs.Replace.{whole, tmp}
use Rattle.chk_wahead.specs.declared.fault.WaheadFault.{WaheadFault}
use Rattle.chk_wahead.specs.declared.fault.WaheadFault.TheVariants.{Outside, Damaged, Spent, NoMemory}
use Rattle.chk_wahead.specs.Faults.{wahead_fault, wahead_result}
use Rattle.chk_wahead.specs.Names.{writer, buffer_name}
use Rattle.chk_wahead.specs.Scripts.{Did, IsSpent, PutsIn, Puts, first_calls, adding, marking, shutting, commit_of, close_of}
use Rattle.chk_wahead.specs.States.{State, Held, left, longer, all_marked, last_number}
use Rattle.chk_udp_laws.specs.Marked.{tally, took, joined, added}
use Rattle.chk_udp_laws.specs.Histories.{OwnFile, NextTemporary, own_name}
use Rattle.chk_cmd_udp.specs.Takings.{Waits}
use Rattle.chk_udp_laws.specs.Wholes.{IsUsedUp}
use Rattle.chk_udp_laws.proofs.Naming.{B, M, N, C, NT}
use Rattle.chk_replace.proofs.OldAndNew.{same_name as self_name}
use Rattle.chk_udp_laws.proofs.Standing.{Numbered}
use Rattle.chk_udp_laws.proofs.Parts.{joined_one}
use Rattle.chk_udp_laws.proofs.Phases.{Plain, S, mine, owned, tally_own, took_own, present_done}
use Rattle.chk_udp_laws.proofs.Moves.{making, making_walk, Off, next_off, mark_off}
use Rattle.chk_udp_laws.proofs.Marking.{Idle, Open, Full, Taken, Both, number_move, create_move, append_move}
use Rattle.chk_udp_laws.proofs.Ending.{Committed, marking_walk, shutting_walk}
use Rattle.chk_udp_laws.proofs.Calls.{Holds, Ready, With, plain_as, untaken, first_full, more_full, opened, full_again, all_saved, silent_leads, taken_leads}
use Rattle.chk_udp_laws.proofs.Law.{holds_took}
use Rattle.chk_udp_laws.proofs.Ledger.{all_in, either_all_in, added_all_in, Ledger, keeps_ledger, Even, even_step, Carries, Tour, arrived, onward, tour_join, tour_leads, AllEven, even_tour}

-- two accounts of the same calls
pub both_lead : {n : List ℕ} {A B A' B' : History → Type 0} {old new : Option History}
    → Adds old new (Leads (S n) A B) → Adds old new (Leads (S n) A' B')
    → Adds old new (Leads (S n) (λ h. A h × A' h) (λ h. B h × B' h))
both_lead {n = n} {A = A} {B = B} {A' = A'} {B' = B'} p q =
    adds_both (Leads (S n) (λ h. A h × A' h) (λ h. B h × B' h)) p q
    (λ a h x y. record { leads = λ o z. (x.leads o z.0, y.leads o z.1); own = x.own })

-- the last number, in its file
numbered_last : (k : ℕ) (o : Option File) → k ≡ last_number → Numbered k o
    → o ≡ Some (whole (be64 last_number))
numbered_last k None last is = absurd (let z : ⊥ = omega (arith, last, is) in z)
numbered_last k (Some f) last is = ap Some (is ∙ ap (λ i. whole (be64 i)) last)

module _ (n : List ℕ) where
  -- what a fault shows behind it
  abbrev pub Shown : WaheadFault → History → Type 0
  Shown (Damaged name at) h = ⊥
  Shown (Spent number) h = IsUsedUp n h
  Shown (Outside call) h = Unit {0}
  Shown NoMemory h = Unit {0}

  pub outside_shown : (fault : OutsideFault) (h : History) → Shown (wahead_fault fault) h
  outside_shown (site_failed call) h = tt
  outside_shown no_memory h = tt

module _ (n d : List ℕ) (l : List (List ℕ)) where
  abbrev L : List (List ℕ) → History → Type 0
  L last = Ledger n d l last

  abbrev E : Call → List (List ℕ) → ℕ → ℕ → Type 0
  E call words number max = Even n d l (deed_by call words number max)

  -- what each call of a script owes
  abbrev Stays : Call → List (List ℕ) → ℕ → ℕ → Type 0
  Stays call words number max =
      (last : List (List ℕ)) (answer : ActAnswer) (before : History) (files : Files) (logs : Logs)
      → L last before → L last (own_step (mine n call words number max) answer files logs ∷ before)

  pub by_even : (call : Call) (words : List (List ℕ)) (number max : ℕ) → E call words number max
      → Stays call words number max
  by_even call words number max even last answer before files logs b =
      even_step n d l call words number max even last answer before files logs b

  pub removes : (w : List ℕ) → Stays Remove (w ∷ []) 0 0
  removes w = by_even Remove (w ∷ []) 0 0
      (record { by = λ answer before after t. refl; gives = λ answer. refl })

  creates : (w : List ℕ) → Stays Create (w ∷ []) 0 0
  creates w = by_even Create (w ∷ []) 0 0
      (record { by = λ answer before after t. refl; gives = λ answer. refl })

  syncs : (w : List ℕ) → Stays Sync (w ∷ []) 0 0
  syncs w = by_even Sync (w ∷ []) 0 0
      (record { by = λ answer before after t. refl; gives = λ answer. refl })

  pub cuts : (w : List ℕ) (size : ℕ) → Stays Cut (w ∷ []) size 0
  cuts w size = by_even Cut (w ∷ []) size 0
      (record { by = λ answer before after t. refl; gives = λ answer. refl })

  pub renames : (old new : List ℕ) → Stays Rename (old ∷ new ∷ []) 0 0
  renames old new = by_even Rename (old ∷ new ∷ []) 0 0
      (record {
        by = λ answer before after t.
            either_all_in (bytes_eq new (M n) && took_effect before after old) t;
        gives = λ answer. refl;
      })

  appends : (w bytes : List ℕ) → bytes_eq w (B n) ≡ false → Stays Append (w ∷ bytes ∷ []) 0 0
  appends w bytes off = by_even Append (w ∷ bytes ∷ []) 0 0
      (record { by = λ answer before after t. rw off refl; gives = λ answer. refl })

  -- ---- what is carried along the scripts

  making_even : (f : OwnFile) (bytes : List ℕ) → Off n (own_name n f)
      → AllEven n d l (making n (own_name n f) bytes)
  making_even f bytes off =
      let T = own_name n f in
      (removes T, (creates T, (appends T bytes off.appends, (syncs T, tt))))

  marking_tour : (k size marked : ℕ)
      → Tour n d l (marking (writer n) (B n) (M n) size) (Plain n k (Full size marked))
      (Plain n k (Committed size)) (L []) (L [])
  marking_tour k size marked =
      let T = tmp (M n) in
      even_tour n d l [] (marking_walk n k size marked) (
        syncs (B n),
        (
          removes T,
          (
            creates T,
            (
              appends T (be64 size) (mark_off n).appends,
              (syncs T, (renames T (M n), tt)),
            ),
          ),
        ),
      )

  shutting_tour : (k size : ℕ)
      → Tour n d l (shutting (writer n) (B n) (C n k) (M n)) (Plain n k (Committed size))
      (Plain n k Idle) (L []) (L [])
  shutting_tour k size =
      even_tour n d l [] (shutting_walk n k size) (renames (B n) (C n k), (removes (M n), tt))

  -- the payload is added
  pays : (k size marked : ℕ) (p : List ℕ)
      → Carries n d l (mine n Append (B n ∷ p ∷ []) 0 0)
      (Plain n k (Both (Open size marked) (Taken p))) (L (p ∷ [])) (L [])
  pays k size marked p answer was before files logs honest a b =
      let there = present_done answer (files_after before (B n)) a.fits.0.file was honest.agrees
      a.fits.0.buffer in
      let done : is_done answer ≡ true = ap is_done there.3 in
      let step = own_step (mine n Append (B n ∷ p ∷ []) 0 0) answer files logs in
      let grown : tally n (step ∷ before) ≡ added (is_done answer) p (tally n before) =
      tally_own n Append (B n ∷ p ∷ []) 0 0 answer files logs before ∙ rw (self_name (B n)) refl in
      record {
        more = b.more ++ p ∷ [];
        took_is = took_own n Append (B n ∷ p ∷ []) 0 0 answer files logs before
            ∙ (append-nil (took n before)
            ∙ (b.took_is ∙ ap (λ x. l ++ x) (sym (append-nil (b.more ++ p ∷ [])))));
        all_is = ap all_in (grown ∙ ap (λ c. added c p (tally n before)) done)
            ∙ (added_all_in p (tally n before) ∙ (ap (λ x. x ++ p) b.all_is
            ∙ (append_assoc d (joined b.more) p
            ∙ ap (λ x. d ++ x) (sym (joined_one b.more p)))));
      }

  adding_tour : (k size marked : ℕ) (p : List ℕ)
      → Tour n d l (adding (writer n) (B n) p ∷ []) (Plain n k (Both (Open size marked) (Taken p)))
      (Plain n k (Open (size + length p) marked)) (L (p ∷ [])) (L [])
  adding_tour k size marked p =
      onward (append_move n k size marked (size + length p) p refl) (keeps_ledger n d l (p ∷ []))
      (pays k size marked p) arrived

  first_tour : (k : ℕ) (p : List ℕ) → (k ≡ last_number → ⊥)
      → Tour n d l (first_calls (writer n) (k + 1) p) (Plain n k (Both Idle (Taken p)))
      (Plain n (k + 1) (Open (length p) 0)) (L (p ∷ [])) (L [])
  first_tour k p differ =
      let owes = p ∷ [] in
      let keeps = keeps_ledger n d l owes in
      tour_join n d l
      (even_tour n d l owes
      (making_walk n NextTemporary (next_off n) k (Both Idle (Taken p)) (be64 (k + 1)))
      (making_even NextTemporary (be64 (k + 1)) (next_off n)))
      (onward (number_move n k (Both Idle (Taken p)) (λ v e. e.0.buffer) differ) keeps
      (λ answer was before files logs honest a b. renames (NT n) (N n) owes answer before files
      logs b)
      (onward (create_move n (k + 1) p (omega arith)) keeps
      (λ answer was before files logs honest a b. creates (B n) owes answer before files logs b)
      (onward (append_move n (k + 1) 0 0 (length p) p (omega arith)) keeps
      (pays (k + 1) 0 0 p) arrived)))

  -- ---- how calls end

  -- the buffers are as in this state, and all but what comes last was added
  abbrev pub Holding : State → List (List ℕ) → History → Type 0
  Holding s last h = Ready n s h × L last h

  abbrev pub After : {T : Type 0} → Result T WaheadFault → State → History → Type 0
  After (Ok value) u h = Holding u [] h
  After (Err fault) u h = Shown n fault h

  all_owned : (qs : List Asked) → AllOwned (λ before step. Unit {0}) qs
  all_owned [] = tt
  all_owned (q ∷ qs) = (λ before answer files logs running. tt, all_owned qs)

  -- a script, whatever it leads to
  pub anywhere : {A : History → Type 0} {qs : List Asked} {outside : Result (Unit {0}) OutsideFault}
      {old new : Option History}
      → MadeInTurn qs outside old new → Adds old new (Leads (S n) A (λ h. Unit {0}))
  anywhere {A = A} {qs = qs} script =
      adds_as (Leads (S n) A (λ h. Unit {0}))
      (script_owned (λ before step. Unit {0}) (all_owned qs) script)
      (λ a h x. record { leads = λ o z. tt; own = x })

  did_after : {calls : List Asked} {s u : State} {number : ℕ} {held : Option Held}
      {result : Result (Unit {0}) WaheadFault} {old new : Option History}
      {A A' L0 : History → Type 0} → Did calls s number held result u old new
      → Tour n d l calls A A' L0 (L [])
      → ((h : History) → A' h → Plain n number (Holds held) h)
      → Adds old new (Leads (S n) (λ h. A h × L0 h) (After result u))
  did_after {calls = calls} {s = s} {u = u} {number = number} {held = held} {result = result}
      {old = old} {new = new} {A = A} {L0 = L0} did tour last =
      subst (λ r. Adds old new (Leads (S n) (λ h. A h × L0 h) (After r u))) (sym did.result_is)
      (go did.outside did.made did.state_is)
    where
      go : (outside : Result (Unit {0}) OutsideFault) → MadeInTurn calls outside old new
          → u ≡ left s number held outside
          → Adds old new (Leads (S n) (λ h. A h × L0 h) (After (wahead_result outside) u))
      go (Ok value) made is =
          leads_as (λ h x. x)
          (λ h x. (subst (λ (w : State). Ready n w h) (sym is) (last h x.0), x.1))
          (tour_leads n d l tour made)
      go (Err fault) made is =
          leads_as (λ h x. x) (λ h x. outside_shown n fault h) (anywhere made)

  -- ---- putting

  pub puts_none : (s : State) (h : History) → Plain n s.number (With n s.held []) h × L ([] ∷ []) h
      → Holding s [] h
  puts_none s h x = (
    plain_as n (untaken n s.held []) h x.0,
    record {
      more = x.1.more ++ [] ∷ [];
      took_is = x.1.took_is ∙ ap (λ y. l ++ y) (sym (append-nil (x.1.more ++ [] ∷ [])));
      all_is = x.1.all_is
          ∙ ap (λ y. d ++ y) (sym (joined_one x.1.more [] ∙ append-nil (joined x.1.more)));
    },
  )

  first_after : (b : Bool) (s u : State) (p : List ℕ) (result : Result (Unit {0}) WaheadFault)
      (old new : Option History) → s.who ≡ writer n → (s.number == last_number) ≡ b
      → 1 ≤ length p
      → MatchBool b (IsSpent s result u old new)
      (Did (first_calls s.who (s.number + 1) p) s (s.number + 1)
      (Some (longer (length p) None)) result u old new)
      → Adds old new (Leads (S n) (λ h. Plain n s.number (With n None p) h × L (p ∷ []) h)
      (After result u))
  first_after true s u p result old new who last some spent =
      subst (λ o. Adds old o (Leads (S n)
      (λ h. Plain n s.number (With n None p) h × L (p ∷ []) h) (After result u)))
      (sym spent.told_is)
      (subst (λ r. Adds old old (Leads (S n)
      (λ h. Plain n s.number (With n None p) h × L (p ∷ []) h) (After r u)))
      (sym spent.result_is)
      (leads_none old (λ h x. record {
        next = numbered_last s.number (files_after h (N n))
            (eqb-true s.number last_number last) x.0.at.number;
        buffer = x.0.fits.0.buffer;
      })))
  first_after false s u p result old new who last some did =
      let at : Did (first_calls (writer n) (s.number + 1) p) s (s.number + 1)
      (Some (longer (length p) None)) result u old new =
      subst (λ (w : Who). Did (first_calls w (s.number + 1) p) s (s.number + 1)
      (Some (longer (length p) None)) result u old new) who did in
      did_after at (first_tour s.number p (eqb-false s.number last_number last))
      (plain_as n (first_full n (length p) some))

  in_after : (at : Option Held) (s u : State) (p : List ℕ)
      (result : Result (Unit {0}) WaheadFault) (old new : Option History) → s.who ≡ writer n
      → 1 ≤ length p → PutsIn at s p result u old new
      → Adds old new (Leads (S n) (λ h. Plain n s.number (With n at p) h × L (p ∷ []) h)
      (After result u))
  in_after None s u p result old new who some did =
      first_after (s.number == last_number) s u p result old new who refl some did
  in_after (Some h) s u p result old new who some did =
      let at : Did (adding (writer n) (B n) p ∷ []) s s.number
      (Some (longer (length p) (Some h))) result u old new =
      subst (λ (w : Who). Did (adding w (buffer_name w.name) p ∷ []) s s.number
      (Some (longer (length p) (Some h))) result u old new) who did in
      leads_as (λ before x. (plain_as n (opened n h p) before x.0, x.1)) (λ after x. x)
      (did_after at (adding_tour s.number h.length_now h.marked p)
      (plain_as n (more_full n h.length_now h.marked (length p) some)))

  pub put_after : (s u : State) (p : List ℕ) (result : Result (Unit {0}) WaheadFault)
      (old new : Option History) → s.who ≡ writer n → Puts s p result u old new
      → Adds old new (Leads (S n) (λ h. Plain n s.number (With n s.held p) h × L (p ∷ []) h)
      (After result u))
  put_after s u [] result old new who did =
      subst (λ o. Adds old o (Leads (S n)
      (λ h. Plain n s.number (With n s.held []) h × L ([] ∷ []) h) (After result u)))
      (sym did.told_is)
      (subst (λ r. Adds old old (Leads (S n)
      (λ h. Plain n s.number (With n s.held []) h × L ([] ∷ []) h) (After r u)))
      (sym did.result_is)
      (subst (λ (w : State). Adds old old (Leads (S n)
      (λ h. Plain n s.number (With n s.held []) h × L ([] ∷ []) h) (Holding w [])))
      (sym did.state_is) (leads_none old (puts_none s))))
  put_after s u (b ∷ p) result old new who did =
      in_after s.held s u (b ∷ p) result old new who (omega arith) did

  -- ---- a commit, a close

  marked_after : (b : Bool) (h : Held) (s u : State) {result : Result (Unit {0}) WaheadFault}
      {old new : Option History} → (h.marked == h.length_now) ≡ b
      → Did (if b then [] else marking (writer n) (B n) (M n) h.length_now) s s.number
      (all_marked (Some h)) result u old new
      → Adds old new (Leads (S n) (λ before. Plain n s.number (Holds (Some h)) before × L [] before)
      (After result u))
  marked_after true h s u same did =
      leads_as (λ before x. (
        plain_as n (λ v f. full_again n h.length_now v
            (all_saved n h.length_now h.marked v (eqb-true h.marked h.length_now same) f)) before
            x.0,
        x.1,
      )) (λ after x. x)
      (did_after did arrived (λ before p. p))
  marked_after false h s u same did =
      did_after did (marking_tour s.number h.length_now h.marked)
      (plain_as n (full_again n h.length_now))

  commit_at : (at : Option Held) (s u : State) {result : Result (Unit {0}) WaheadFault}
      {old new : Option History}
      → Did (commit_of (writer n) at) s s.number (all_marked at) result u old new
      → Adds old new (Leads (S n) (λ h. Plain n s.number (Holds at) h × L [] h) (After result u))
  commit_at None s u did = did_after did arrived (λ before p. p)
  commit_at (Some h) s u did = marked_after (h.marked == h.length_now) h s u refl did

  pub commit_after : (s u : State) {result : Result (Unit {0}) WaheadFault}
      {old new : Option History} → s.who ≡ writer n
      → Did (commit_of s.who s.held) s s.number (all_marked s.held) result u old new
      → Adds old new (Leads (S n) (Holding s []) (After result u))
  commit_after s u {result = result} {old = old} {new = new} who did =
      commit_at s.held s u
      (subst (λ (w : Who). Did (commit_of w s.held) s s.number (all_marked s.held) result u old
      new) who did)

  shut_after : (b : Bool) (h : Held) (s u : State) {result : Result (Unit {0}) WaheadFault}
      {old new : Option History} → (h.marked == h.length_now) ≡ b
      → Did ((if b then [] else marking (writer n) (B n) (M n) h.length_now) ++ shutting (writer n)
      (B n) (C n s.number) (M n)) s s.number None result u old new
      → Adds old new (Leads (S n) (λ before. Plain n s.number (Holds (Some h)) before × L [] before)
      (After result u))
  shut_after true h s u same did =
      leads_as (λ before x. (
        plain_as n (λ v f. all_saved n h.length_now h.marked v
            (eqb-true h.marked h.length_now same) f) before x.0,
        x.1,
      )) (λ after x. x)
      (did_after did (shutting_tour s.number h.length_now) (λ before p. p))
  shut_after false h s u same did =
      did_after did (tour_join n d l (marking_tour s.number h.length_now h.marked)
      (shutting_tour s.number h.length_now)) (λ before p. p)

  close_at : (at : Option Held) (s u : State) {result : Result (Unit {0}) WaheadFault}
      {old new : Option History}
      → Did (close_of (writer n) s.number at) s s.number None result u old new
      → Adds old new (Leads (S n) (λ h. Plain n s.number (Holds at) h × L [] h) (After result u))
  close_at None s u did = did_after did arrived (λ before p. p)
  close_at (Some h) s u did = shut_after (h.marked == h.length_now) h s u refl did

  pub close_after : (s u : State) {result : Result (Unit {0}) WaheadFault}
      {old new : Option History} → s.who ≡ writer n
      → Did (close_of s.who s.number s.held) s s.number None result u old new
      → Adds old new (Leads (S n) (Holding s []) (After result u))
  close_after s u {result = result} {old = old} {new = new} who did =
      close_at s.held s u
      (subst (λ (w : Who). Did (close_of w s.number s.held) s s.number None result u old new) who
      did)

  -- ---- a taking

  module _ (door : List ℕ) (wait : ℕ) where
    abbrev Q : Asked
    Q = mine n Take (door ∷ []) wait 0

    tally_is : (answer : ActAnswer) (files : Files) (logs : Logs) (h : History)
        → all_in (tally n (own_step Q answer files logs ∷ h)) ≡ all_in (tally n h)
    tally_is answer files logs h =
        ap all_in (tally_own n Take (door ∷ []) wait 0 answer files logs h)

    waited : (given : Option Taking) (last : List (List ℕ)) {old new : Option History}
        → ((of : ℕ) (before : History) (files : Files) (logs : Logs) → L [] before
        → L last (own_step Q (taking_given of given) files logs ∷ before))
        → Waits (writer n) door wait (Ok given) old new
        → Adds old new (Leads (S n) (L []) (L last))
    waited given last fact call =
        adds_as (Leads (S n) (L []) (L last)) call
        (λ a h calls. record {
          leads = acted_leads (L last) (keeps_ledger n d l [])
              (λ before files logs running honest b. fact calls.0 before files logs b)
              (ran (Ok (taking_given calls.0 given)) (λ e. cc) calls.1);
          own = call_owned (S n).own (answered (taking_given calls.0) (Ok given)) (owned n Q)
              calls.1;
        })

    pub silent_after : (s : State) {old new : Option History}
        → Waits (writer n) door wait (Ok None) old new
        → Adds old new (Leads (S n) (Holding s []) (Holding s []))
    silent_after s call =
        both_lead (silent_leads n door wait s.number (Holds s.held) (holds_took s.held) call)
        (waited None [] (λ of before files logs b. record {
          more = b.more;
          took_is = took_own n Take (door ∷ []) wait 0 (taking_given of None) files logs before
              ∙ (append-nil (took n before) ∙ b.took_is);
          all_is = tally_is (taking_given of None) files logs before ∙ b.all_is;
        }) call)

    pub taken_after : (s : State) (taking : Taking) {old new : Option History}
        → Waits (writer n) door wait (Ok (Some taking)) old new
        → Adds old new (Leads (S n) (Holding s [])
        (λ h. Plain n s.number (With n s.held taking.bytes) h × L (taking.bytes ∷ []) h))
    taken_after s taking call =
        let p = taking.bytes in
        both_lead (taken_leads n door wait s.number (Holds s.held) taking (holds_took s.held) call)
        (waited (Some taking) (p ∷ []) (λ of before files logs b. record {
          more = b.more;
          took_is = took_own n Take (door ∷ []) wait 0 (taking_given of (Some taking)) files logs
              before
              ∙ (ap (λ x. x ++ p ∷ []) b.took_is ∙ (append_assoc l (b.more ++ []) (p ∷ [])
              ∙ ap (λ x. l ++ (x ++ p ∷ [])) (append-nil b.more)));
          all_is = tally_is (taking_given of (Some taking)) files logs before ∙ b.all_is;
        }) call)

    pub call_anywhere : {A : History → Type 0} (given : Result (Option Taking) CallFault)
        {old new : Option History} → Waits (writer n) door wait given old new
        → Adds old new (Leads (S n) A (λ h. Unit {0}))
    call_anywhere {A = A} given call =
        adds_as (Leads (S n) A (λ h. Unit {0})) call
        (λ a h calls. record {
          leads = λ o x. tt;
          own = call_owned (S n).own (answered (taking_given calls.0) given) (owned n Q) calls.1;
        })
