-- What each call of the buffers leads to, from one state of them to another.
use Rattle.std.proofs.Common.{◌≡◌, ℕ, ◌+◌, ◌≤◌, ◌==◌, Bool, true, false, List, [], ◌∷◌, ◌++◌, length, take, Option, Some, None, Result, Ok, Err, if◌then◌else◌, refl, sym, ◌∙◌, ap, ap₂, subst, arith, append_assoc, length-append}
use Rattle.std.specs.Prelude.{MatchBool}
use Rattle.std.proofs.lemmas.Bool.{eqb-true, eqb-false}
use Rattle.std.proofs.lemmas.List.{nil_from_length}
use Rattle.std.proofs.Math.Seq.{take-length}
use Rattle.chk_bytes.specs.Numbers.{be64}
use Rattle.chk_site.specs.declared.acts.Call.TheVariants.{Take}
use Rattle.chk_site.specs.declared.acts.CallFault.{CallFault}
use Rattle.chk_site.specs.declared.acts.ActAnswer.{ActAnswer}
use Rattle.chk_site.specs.declared.acts.ActAnswer.TheVariants.{Refused, Stopped}
use Rattle.chk_site.specs.declared.acts.OutsideFault.{OutsideFault}
use Rattle.chk_site.specs.declared.acts.Who.{Who}
use Rattle.chk_site.specs.declared.suffixes.Taking.{Taking}
use Rattle.chk_site.specs.Files.{Files}
use Rattle.chk_site.specs.Acts.{Takes, tail_in}
use Rattle.chk_site.specs.History.{History, files_after}
use Rattle.chk_site.specs.Logs.{Logs}
use Rattle.chk_site.specs.Runs.{Leads}
use Rattle.chk_site.specs.Site.{Adds, Asked, own_step, answered, taking_given, Calls}
use Rattle.chk_site.proofs.Leads.{leads_as, leads_none, Shows, acted_leads, any_leads, call_owned}
use Rattle.chk_site.proofs.Runs.{adds_as, ran}
use Rattle.chk_site.proofs.Stays.{unnamed_stays}
use Rattle.chk_replace.specs.Replace.{whole}
use Rattle.chk_wahead.specs.declared.fault.WaheadFault.{WaheadFault}
use Rattle.chk_wahead.specs.Faults.{wahead_result}
use Rattle.chk_wahead.specs.Names.{writer, buffer_name}
use Rattle.chk_wahead.specs.Scripts.{Did, IsSpent, PutsIn, Puts, first_calls, adding, marking, shutting, commit_of, close_of}
use Rattle.chk_wahead.specs.States.{State, Held, left, longer, all_marked, last_number}
use Rattle.chk_udp_laws.specs.Marked.{Tally, tally, took, given_by, joined, IsPart, under_mark}
use Rattle.chk_udp_laws.specs.Histories.{NextTemporary}
use Rattle.chk_cmd_udp.specs.Takings.{Waits}
use Rattle.chk_udp_laws.proofs.Naming.{B, M, C}
use Rattle.chk_udp_laws.proofs.Standing.{under_is}
use Rattle.chk_udp_laws.proofs.Steps.{At, Some_at, Untouched, at_untouched}
use Rattle.chk_udp_laws.proofs.Parts.{part_more, part_one}
use Rattle.chk_udp_laws.proofs.Phases.{View, Anything, mine, All, now, view, Plain, S, owned, keeps, view_as, tally_own, took_own, Walk, rest, walk_join, Ends, walk_leads}
use Rattle.chk_udp_laws.proofs.Marking.{Idle, Open, Full, Taken, Both, MarkIs}
use Rattle.chk_udp_laws.proofs.Ending.{Committed, mark_there, shutting_walk, marking_walk, first_walk, adding_walk}

-- what is known of the buffers in this state
abbrev pub Holds : Option Held → View → Type 0
Holds None = Idle
Holds (Some h) = Full h.length_now h.marked

module _ (n : List ℕ) where
  abbrev pub Ready : State → History → Type 0
  Ready s h = Plain n s.number (Holds s.held) h

  pub ready_all : (s : State) (h : History) → Ready s h → All n h
  ready_all s h p = p.all

  -- behind a call: the new state where it was done
  abbrev pub Left : {T : Type 0} → Result T WaheadFault → State → History → Type 0
  Left (Ok value) s h = Ready s h
  Left (Err fault) s h = All n h

  -- from less to more known of the view
  pub plain_as : {k : ℕ} {E E' : View → Type 0} → ((v : View) → E v → E' v) → (h : History)
      → Plain n k E h → Plain n k E' h
  plain_as so h p = record { all = p.all; at = p.at; fits = so (view n h) p.fits; next = tt }

  left_by : (s u : State) (number : ℕ) (held : Option Held)
      (outside : Result (Unit {0}) OutsideFault) → u ≡ left s number held outside
      → (h : History) → Ends n (Plain n number (Holds held)) outside h
      → Left (wahead_result outside) u h
  left_by s u number held (Ok value) is h e = subst (λ (w : State). Ready w h) (sym is) e
  left_by s u number held (Err fault) is h e = e

  -- calls that were done lead to the new state
  did_leads : {calls : List Asked} {s u : State} {number : ℕ} {held : Option Held}
      {result : Result (Unit {0}) WaheadFault} {old new : Option History}
      {A A' : History → Type 0} → Did calls s number held result u old new → Walk n calls A A'
      → ((h : History) → A' h → Plain n number (Holds held) h)
      → Adds old new (Leads (S n) A (Left result u))
  did_leads {s = s} {u = u} {number = number} {held = held} {old = old} {new = new} {A = A} {A' =
      A'} did walk last =
      subst (λ r. Adds old new (Leads (S n) A (Left r u))) (sym did.result_is)
      (leads_as (λ h a. a) (left_by s u number held did.outside did.state_is)
      (leads_as (λ h a. a) (ends_as did.outside) (walk_leads n walk did.made)))
    where
      ends_as : (outside : Result (Unit {0}) OutsideFault) (h : History) → Ends n A' outside h
          → Ends n (Plain n number (Holds held)) outside h
      ends_as (Ok value) h a = last h a
      ends_as (Err fault) h a = a

  -- ---- putting

  abbrev pub With : Option Held → List ℕ → View → Type 0
  With held bytes = Both (Holds held) (Taken bytes)

  pub untaken : (held : Option Held) (bytes : List ℕ) (v : View) → With held bytes v → Holds held v
  untaken held bytes v w = w.0

  pub first_full : (size : ℕ) → 1 ≤ size → (v : View) → Open size 0 v → Full size 0 v
  first_full size some v o = record { open_is = o; some = some }

  first_leads : (b : Bool) (s u : State) (bytes : List ℕ) (result : Result (Unit {0}) WaheadFault)
      (old new : Option History) → s.who ≡ writer n
      → (s.number == last_number) ≡ b → 1 ≤ length bytes
      → MatchBool b (IsSpent s result u old new)
      (Did (first_calls s.who (s.number + 1) bytes) s (s.number + 1)
      (Some (longer (length bytes) None)) result u old new)
      → Adds old new (Leads (S n) (Plain n s.number (With None bytes)) (Left result u))
  first_leads true s u bytes result old new who last some spent =
      subst (λ o. Adds old o (Leads (S n) (Plain n s.number (With None bytes)) (Left result u)))
      (sym spent.told_is)
      (subst (λ r. Adds old old (Leads (S n) (Plain n s.number (With None bytes)) (Left r u)))
      (sym spent.result_is) (leads_none old (λ h p. p.all)))
  first_leads false s u bytes result old new who last some did =
      let at : Did (first_calls (writer n) (s.number + 1) bytes) s (s.number + 1)
      (Some (longer (length bytes) None)) result u old new =
      subst (λ (w : Who). Did (first_calls w (s.number + 1) bytes) s (s.number + 1)
      (Some (longer (length bytes) None)) result u old new) who did in
      did_leads at (first_walk n s.number bytes (eqb-false s.number last_number last))
      (plain_as (first_full (length bytes) some))

  pub more_full : (size marked more : ℕ) → 1 ≤ more → (v : View) → Open (size + more) marked v
      → Full (size + more) marked v
  more_full size marked more some v o = record { open_is = o; some = omega (arith, some) }

  pub opened : (h : Held) (bytes : List ℕ) (v : View) → With (Some h) bytes v
      → Both (Open h.length_now h.marked) (Taken bytes) v
  opened h bytes v w = (w.0.open_is, w.1)

  in_leads : (at : Option Held) (s u : State) (bytes : List ℕ)
      (result : Result (Unit {0}) WaheadFault) (old new : Option History) → s.who ≡ writer n
      → 1 ≤ length bytes → PutsIn at s bytes result u old new
      → Adds old new (Leads (S n) (Plain n s.number (With at bytes)) (Left result u))
  in_leads None s u bytes result old new who some did =
      first_leads (s.number == last_number) s u bytes result old new who refl some did
  in_leads (Some h) s u bytes result old new who some did =
      let at : Did (adding (writer n) (B n) bytes ∷ []) s s.number
      (Some (longer (length bytes) (Some h))) result u old new =
      subst (λ (w : Who). Did (adding w (buffer_name w.name) bytes ∷ []) s s.number
      (Some (longer (length bytes) (Some h))) result u old new) who did in
      leads_as (plain_as (opened h bytes)) (λ after x. x)
      (did_leads at (adding_walk n s.number h.length_now h.marked bytes)
      (plain_as (more_full h.length_now h.marked (length bytes) some)))

  pub put_leads : (s u : State) (bytes : List ℕ) (result : Result (Unit {0}) WaheadFault)
      (old new : Option History) → s.who ≡ writer n
      → Puts s bytes result u old new
      → Adds old new (Leads (S n) (Plain n s.number (With s.held bytes)) (Left result u))
  put_leads s u [] result old new who did =
      subst (λ o. Adds old o (Leads (S n) (Plain n s.number (With s.held [])) (Left result u)))
      (sym did.told_is)
      (subst (λ r. Adds old old (Leads (S n) (Plain n s.number (With s.held [])) (Left r u)))
      (sym did.result_is)
      (subst (λ (w : State). Adds old old (Leads (S n) (Plain n s.number (With s.held []))
      (Ready w))) (sym did.state_is)
      (leads_none old (plain_as (untaken s.held [])))))
  put_leads s u (b ∷ bytes) result old new who did =
      in_leads s.held s u (b ∷ bytes) result old new who (omega arith) did

  -- ---- a commit

  -- where the mark says all of a buffer, nothing waits to be saved
  pub all_saved : (size marked : ℕ) (v : View) → marked ≡ size → Full size marked v
      → Committed size v
  all_saved size marked v same f =
      let o = f.open_is in
      let at_m : v.mark ≡ Some (whole (be64 size)) =
      mark_there size v.mark (subst (λ i. MarkIs i v.mark) same o.mark) f.some in
      let under : under_mark v.buffer v.mark ≡ o.file.bytes =
      ap₂ under_mark o.buffer at_m ∙ (under_is o.file (whole (be64 size)) size refl o.low
      ∙ (ap (λ i. take i o.file.bytes) (sym o.size_is) ∙ take-length o.file.bytes)) in
      let w = joined v.tally.unsaved in
      let lengths : length o.file.bytes + length w ≡ length o.file.bytes =
      sym (length-append o.file.bytes w) ∙ ap length (ap (λ t. t ++ w) (sym under) ∙ o.content) in
      record {
        open_is = record {
          file = o.file;
          buffer = o.buffer;
          size_is = o.size_is;
          low = o.low;
          content = o.content;
          mark = subst (λ i. MarkIs i v.mark) same o.mark;
        };
        some = f.some;
        unsaved = nil_from_length w (omega (arith, lengths));
      }

  pub full_again : (size : ℕ) (v : View) → Committed size v → Full size size v
  full_again size v c = record { open_is = c.open_is; some = c.some }

  marked_leads : (b : Bool) (h : Held) (s u : State) {result : Result (Unit {0}) WaheadFault}
      {old new : Option History} → (h.marked == h.length_now) ≡ b
      → Did (if b then [] else marking (writer n) (B n) (M n) h.length_now) s s.number
      (all_marked (Some h)) result u old new
      → Adds old new (Leads (S n) (Plain n s.number (Holds (Some h))) (Left result u))
  marked_leads true h s u same did =
      leads_as (plain_as (λ v f. full_again h.length_now v
      (all_saved h.length_now h.marked v (eqb-true h.marked h.length_now same) f)))
      (λ after x. x)
      (did_leads did (rest (λ before p. p.all)) (λ before p. p))
  marked_leads false h s u same did =
      did_leads did (marking_walk n s.number h.length_now h.marked)
      (plain_as (full_again h.length_now))

  commit_at : (at : Option Held) (s u : State) {result : Result (Unit {0}) WaheadFault}
      {old new : Option History}
      → Did (commit_of (writer n) at) s s.number (all_marked at) result u old new
      → Adds old new (Leads (S n) (Plain n s.number (Holds at)) (Left result u))
  commit_at None s u did = did_leads did (rest (λ before p. p.all)) (λ before p. p)
  commit_at (Some h) s u did = marked_leads (h.marked == h.length_now) h s u refl did

  pub commit_leads : (s u : State) {result : Result (Unit {0}) WaheadFault}
      {old new : Option History}
      → Did (commit_of (writer n) s.held) s s.number (all_marked s.held) result u old new
      → Adds old new (Leads (S n) (Ready s) (Left result u))
  commit_leads s u did = commit_at s.held s u did

  -- ---- a close

  shut_by : (b : Bool) (h : Held) (s u : State) {result : Result (Unit {0}) WaheadFault}
      {old new : Option History} → (h.marked == h.length_now) ≡ b
      → Did ((if b then [] else marking (writer n) (B n) (M n) h.length_now) ++ shutting (writer n)
      (B n) (C n s.number) (M n)) s s.number None result u old new
      → Adds old new (Leads (S n) (Plain n s.number (Holds (Some h))) (Left result u))
  shut_by true h s u same did =
      leads_as (plain_as (λ v f. all_saved h.length_now h.marked v
      (eqb-true h.marked h.length_now same) f)) (λ after x. x)
      (did_leads did (shutting_walk n s.number h.length_now) (λ before p. p))
  shut_by false h s u same did =
      did_leads did (walk_join n (marking_walk n s.number h.length_now h.marked)
      (shutting_walk n s.number h.length_now)) (λ before p. p)

  close_at : (at : Option Held) (s u : State) {result : Result (Unit {0}) WaheadFault}
      {old new : Option History}
      → Did (close_of (writer n) s.number at) s s.number None result u old new
      → Adds old new (Leads (S n) (Plain n s.number (Holds at)) (Left result u))
  close_at None s u did = did_leads did (rest (λ before p. p.all)) (λ before p. p)
  close_at (Some h) s u did = shut_by (h.marked == h.length_now) h s u refl did

  pub close_leads : (s u : State) {result : Result (Unit {0}) WaheadFault}
      {old new : Option History}
      → Did (close_of (writer n) s.number s.held) s s.number None result u old new
      → Adds old new (Leads (S n) (Ready s) (Left result u))
  close_leads s u did = close_at s.held s u did

  -- ---- a taking

  module _ (door : List ℕ) (wait : ℕ) (k : ℕ) (E : View → Type 0) where
    abbrev Q : Asked
    Q = mine n Take (door ∷ []) wait 0

    tally_is : (answer : ActAnswer) (files : Files) (logs : Logs) (h : History)
        → tally n (own_step Q answer files logs ∷ h) ≡ tally n h
    tally_is answer files logs h = tally_own n Take (door ∷ []) wait 0 answer files logs h

    took_is : (answer : ActAnswer) (files : Files) (logs : Logs) (h : History)
        → took n (own_step Q answer files logs ∷ h) ≡ took n h ++ given_by (Takes door wait) answer
    took_is answer files logs h = took_own n Take (door ∷ []) wait 0 answer files logs h

    away : Untouched n (Takes door wait)
    away = record { next = refl; buffer = refl; mark = refl; closed = λ j low. refl }

    any_take : (answer : ActAnswer) → Shows (Plain n k E) (All n) Q answer
    any_take answer before files logs running honest p =
        let step = own_step Q answer files logs in (
          p.all,
          record {
            stands =
                subst (λ (t : Tally). Some_at n files (joined t.saved))
                (sym (tally_is answer files logs before))
                (record {
                  number = k;
                  stands =
                      at_untouched n before step k _ honest.modelled away p.at;
                });
            part =
                subst (λ (t : Tally). IsPart (t.saved ++ t.unsaved) (took n (step ∷ before)))
                (sym (tally_is answer files logs before))
                (subst (λ l. IsPart ((tally n before).saved ++ (tally n before).unsaved) l)
                (sym (took_is answer files logs before))
                (part_more (given_by (Takes door wait) answer) (now n before p.all).part));
          },
        )

    taken_phase : (E' : View → Type 0) (answer : ActAnswer)
        → ((name : List ℕ) → tail_in answer name ≡ None)
        → ((h : History) → Plain n k E h
        → E' (record {
          buffer = files_after h (B n);
          mark = files_after h (M n);
          tally =
              tally n h;
          took = took n h ++ given_by (Takes door wait) answer;
        }))
        → Shows (Plain n k E) (Plain n k E') Q answer
    taken_phase E' answer no_tail fact before files logs running honest p =
        let step = own_step Q answer files logs in
        record {
          all = any_take answer before files logs running honest p;
          at =
              subst (λ (t : Tally). At n files k (joined t.saved))
              (sym (tally_is answer files logs before))
              (at_untouched n before step k _ honest.modelled away p.at);
          fits = view_as E' (unnamed_stays before step (B n) honest.modelled refl (no_tail (B n)))
              (unnamed_stays before step (M n) honest.modelled refl (no_tail (M n)))
              (tally_is answer files logs before) (took_is answer files logs before)
              (fact before p);
          next = tt;
        }

    waited : (given : Option Taking) (E' : View → Type 0) {old new : Option History}
        → ((name : List ℕ) (of : ℕ) → tail_in (taking_given of given) name ≡ None)
        → ((of : ℕ) (h : History) → Plain n k E h
        → E' (record {
          buffer = files_after h (B n);
          mark = files_after h (M n);
          tally =
              tally n h;
          took = took n h ++ given_by (Takes door wait) (taking_given of given);
        }))
        → Waits (writer n) door wait (Ok given) old new
        → Adds old new (Leads (S n) (Plain n k E) (Plain n k E'))
    waited given E' no_tail fact call =
        adds_as (Leads (S n) (Plain n k E) (Plain n k E')) call
        (λ a h calls. record {
          leads = acted_leads (Plain n k E') (keeps n k E NextTemporary Anything)
              (taken_phase E' (taking_given calls.0 given) (λ name. no_tail name calls.0)
              (fact calls.0))
              (ran (Ok (taking_given calls.0 given)) (λ e. cc) calls.1);
          own = call_owned (S n).own (answered (taking_given calls.0) (Ok given)) (owned n Q)
              calls.1;
        })

    pub untaken_leads : (fault : CallFault) {old new : Option History}
        → Waits (writer n) door wait (Err fault) old new
        → Adds old new (Leads (S n) (Plain n k E) (All n))
    untaken_leads fault {old = old} {new = new} call =
        any_leads (All n) (taking_given 0) (Err fault) (owned n Q)
        (keeps n k E NextTemporary Anything) (λ value. any_take (taking_given 0 value))
        (λ f. any_take (Refused f)) (λ left. any_take (Stopped left)) (λ before p. p.all)
        (adds_as (Calls Q (answered (taking_given 0) (Err fault))) call (λ a h calls. calls.1))

    pub silent_leads : {old new : Option History} → ((v : View) (l : List (List ℕ)) → E v
        → E (record { buffer = v.buffer; mark = v.mark; tally = v.tally; took = l }))
        → Waits (writer n) door wait (Ok None) old new
        → Adds old new (Leads (S n) (Plain n k E) (Plain n k E))
    silent_leads so call =
        waited None E (λ name of. refl) (λ of h p. so (view n h) (took n h ++ []) p.fits) call

    pub taken_leads : (taking : Taking) {old new : Option History}
        → ((v : View) (l : List (List ℕ)) → E v
        → E (record { buffer = v.buffer; mark = v.mark; tally = v.tally; took = l }))
        → Waits (writer n) door wait (Ok (Some taking)) old new
        → Adds old new (Leads (S n) (Plain n k E) (Plain n k (Both E (Taken taking.bytes))))
    taken_leads taking so call =
        waited (Some taking) (Both E (Taken taking.bytes)) (λ name of. refl)
        (λ of h p. (so (view n h) (took n h ++ taking.bytes ∷ []) p.fits, more h p)) call
      where
        more : (h : History) → Plain n k E h
            → IsPart ((tally n h).saved ++ ((tally n h).unsaved ++ taking.bytes ∷ []))
            (took n h ++ taking.bytes ∷ [])
        more h p =
            subst (λ l. IsPart l (took n h ++ taking.bytes ∷ []))
            (append_assoc (tally n h).saved (tally n h).unsaved (taking.bytes ∷ []))
            (part_one taking.bytes (now n h p.all).part)
