-- What the takings find that open a turn.
use Rattle.std.proofs.Common.{◌≡◌, ◌⊎◌, inl, inr, ℕ, ◌==◌, Bool, true, false, List, [], ◌∷◌, ◌++◌, Option, Some, None, Result, Ok, Err, if◌then◌else◌, refl, sym, ◌∙◌, ap, subst, arith, append_assoc}
use Rattle.std.specs.Prelude.{MatchBool}
use Rattle.std.proofs.lemmas.Bool.{eqb-true, cases_Bool, true≢false}
use Rattle.std.proofs.lemmas.List.{append_cancel_right}
use Rattle.std.proofs.lemmas.Option.{same_Some}
use Rattle.chk_bytes.specs.Numbers.{be64}
use Rattle.chk_site.specs.declared.acts.Call.TheVariants.{Start, Read, Size, Create, Take}
use Rattle.chk_site.specs.declared.acts.CallFault.{CallFault}
use Rattle.chk_site.specs.declared.acts.ActAnswer.{ActAnswer}
use Rattle.chk_site.specs.declared.acts.ActAnswer.TheVariants.{Refused, Stopped}
use Rattle.chk_site.specs.declared.acts.OutsideFault.{OutsideFault}
use Rattle.chk_site.specs.declared.acts.Who.{Who}
use Rattle.chk_site.specs.declared.suffixes.Taking.{Taking}
use Rattle.chk_site.specs.Acts.{Deed, Starts as StartsProcess, ReadsLog, AsksNewest, GrowsLog, Creates, Appends, Syncs, Renames, Removes, Cuts, AsksSize, Reads as ReadsFile, Lists, AsksClock, Pauses, Sends, Gets, Takes, TakesMore, Answers, Says, deed}
use Rattle.chk_site.specs.Files.{Files}
use Rattle.chk_site.specs.History.{Step, History, Every, Others, files_after, is_by}
use Rattle.chk_site.specs.Logs.{Logs}
use Rattle.chk_site.specs.Runs.{Leads, MadeInTurn, Owns}
use Rattle.chk_site.specs.Site.{Adds, Asked, asked, own_step, answered, taking_given, bytes_given, sized, Calls}
use Rattle.chk_site.proofs.Leads.{leads_then, leads_as, leads_none, acted_leads, any_leads, call_owned, script_owned, AllOwned, Keeps}
use Rattle.chk_site.proofs.Runs.{adds_then, adds_as, adds_none, every_join, ran}
use Rattle.chk_site.proofs.Stays.{unnamed_stays}
use Rattle.chk_cmd_output.proofs.Printed.{prints_made}
use Rattle.chk_replace.specs.Replace.{whole, replacement}
use Rattle.chk_wahead.specs.declared.fault.WaheadFault.{WaheadFault}
use Rattle.chk_wahead.specs.Names.{writer, next_name, buffer_name, mark_name, closed_name}
use Rattle.chk_wahead.specs.Scripts.{Did, IsSpent, PutsIn, Puts, first_calls, adding, marking, shutting, commit_of, close_of}
use Rattle.chk_wahead.specs.Starting.{found_of, plan_of, settling}
use Rattle.chk_wahead.specs.States.{State, Held, last_number, all_marked}
use Rattle.chk_wahead.specs.Telling.{starting, TakenOnce, Looks, unstarted as unstarted_look, no_number, no_mark, no_size, looked, Starts, unbegun, unlooked, damaged, unnamed, settled}
use Rattle.chk_cmd_udp.specs.declared.tally.Tally.{Tally}
use Rattle.chk_cmd_udp.specs.Takings.{Further, Gathers}
use Rattle.chk_cmd_udp.specs.Turns.{Settles, IsTurn, IsTidy}
use Rattle.chk_cmd_udp.specs.Runs.{AreTurned, Finishes, GoesOn, HasRun}
use Rattle.chk_cmd_udp.proofs.Keeping.{done_held}
use Rattle.chk_cmd_udp.proofs.Turning.{turn_same, turn_tidy}
use Rattle.chk_cmd_udp.proofs.Starting.{begun}
use Rattle.chk_udp_laws.specs.Marked.{tally, took, joined}
use Rattle.chk_udp_laws.specs.Histories.{BufferFile, MarkFile, IsApart}
use Rattle.chk_cmd_udp.specs.Takings.{Waits}
use Rattle.chk_udp_laws.specs.Wholes.{gave_by, gave_last, IsTidyAt, FindsTidy, TurnsFindTidy}
use Rattle.chk_udp_laws.proofs.Naming.{B, M}
use Rattle.chk_replace.proofs.OldAndNew.{same_name as self_name}
use Rattle.chk_udp_laws.proofs.Phases.{All, Plain, S, mine, owned, view}
use Rattle.chk_udp_laws.proofs.Ending.{mark_there}
use Rattle.chk_udp_laws.proofs.Calls.{Holds, all_saved}
use Rattle.chk_udp_laws.proofs.Law.{runs_all}
use Rattle.chk_udp_laws.proofs.Beginning.{Prior, settling_by, starts_after}
use Rattle.chk_udp_laws.proofs.Leaving.{both_lead, Holding}
use Rattle.chk_udp_laws.proofs.Wholes.{turn_after}

-- the call isn't such a taking
abbrev IsOther : Deed → Type 0
IsOther call = (door : List ℕ) → call ≡ Takes door 1000 → ⊥

-- the step isn't
abbrev Quiet : History → Step → Type 0
Quiet before step = IsOther (deed step.act)

abbrev wait_of : Deed → ℕ
wait_of (Takes door wait) = wait
wait_of call = 0

not_first : (door d : List ℕ) → Takes door 0 ≡ Takes d 1000 → ⊥
not_first door d e = let w : 0 ≡ 1000 = ap wait_of e in omega (arith, w)

all_join : (xs ys : List Asked) → AllOwned Quiet xs → AllOwned Quiet ys
    → AllOwned Quiet (xs ++ ys)
all_join [] ys all more = more
all_join (q ∷ xs) ys all more = (all.0, all_join xs ys all.1 more)

-- where it isn't such a taking, what the newest one gave stays
gave_stays : (call : Deed) (answer : ActAnswer) (b : Bool) → IsOther call
    → gave_by call answer b ≡ b
gave_stays (Takes door wait) answer b other = elim (cases_Bool (wait == 1000)) [
  | inl same ↦ absurd (other door (ap (Takes door) (eqb-true wait 1000 same)))
  | inr differ ↦ rw differ refl
]
gave_stays StartsProcess answer b other = refl
gave_stays (ReadsLog path part at max) answer b other = refl
gave_stays (AsksNewest path) answer b other = refl
gave_stays (GrowsLog path piece) answer b other = refl
gave_stays (Creates name) answer b other = refl
gave_stays (Appends name piece) answer b other = refl
gave_stays (Syncs name) answer b other = refl
gave_stays (Renames old new) answer b other = refl
gave_stays (Removes name) answer b other = refl
gave_stays (Cuts name size) answer b other = refl
gave_stays (AsksSize name) answer b other = refl
gave_stays (ReadsFile name at max) answer b other = refl
gave_stays (Lists folder) answer b other = refl
gave_stays AsksClock answer b other = refl
gave_stays (Pauses ms) answer b other = refl
gave_stays (Sends number door bytes) answer b other = refl
gave_stays (Gets number) answer b other = refl
gave_stays (TakesMore number) answer b other = refl
gave_stays (Answers number bytes) answer b other = refl
gave_stays (Says bytes) answer b other = refl

-- ---- parts of a run that are no such taking

quiet_join : {old mid new : Option History} → Adds old mid (Owns Quiet) → Adds mid new (Owns Quiet)
    → Adds old new (Owns Quiet)
quiet_join p q =
    adds_then (Owns Quiet) p q
    (λ a b h x y. every_join (λ before step. step.own ≡ true → Quiet before step) b a h x y)

quiet_none : (now : Option History) → Adds now now (Owns Quiet)
quiet_none now = adds_none now (Owns Quiet) (λ h. tt)

module _ (who : Who) where
  replacement_quiet : (name bytes : List ℕ) → AllOwned Quiet (replacement who name bytes)
  replacement_quiet name bytes = (
    λ before answer files logs running door e. cc,
    (
      λ before answer files logs running door e. cc,
      (
        λ before answer files logs running door e. cc,
        (
          λ before answer files logs running door e. cc,
          (λ before answer files logs running door e. cc, tt),
        ),
      ),
    ),
  )

  marking_quiet : (b m : List ℕ) (size : ℕ) → AllOwned Quiet (marking who b m size)
  marking_quiet b m size =
      (λ before answer files logs running door e. cc, replacement_quiet m (be64 size))

  shutting_quiet : (b c m : List ℕ) → AllOwned Quiet (shutting who b c m)
  shutting_quiet b c m = (
    λ before answer files logs running door e. cc,
    (λ before answer files logs running door e. cc, tt),
  )

  settling_quiet : (next mark : Option (List ℕ)) (size : Option ℕ)
      → AllOwned Quiet (settling who (plan_of (found_of next mark size)))
  settling_quiet next mark size =
      settling_by who (AllOwned Quiet) tt (λ before answer files logs running door e. cc, tt)
      (λ before answer files logs running door e. cc, tt)
      (λ k size. (
        λ before answer files logs running door e. cc,
        shutting_quiet (buffer_name who.name) (closed_name who.name k) (mark_name who.name),
      ))
      next mark size

  marked_quiet : (b : Bool) (size : ℕ)
      → AllOwned Quiet
      (if b then [] else marking who (buffer_name who.name) (mark_name who.name) size)
  marked_quiet true size = tt
  marked_quiet false size = marking_quiet (buffer_name who.name) (mark_name who.name) size

  commit_quiet : (held : Option Held) → AllOwned Quiet (commit_of who held)
  commit_quiet None = tt
  commit_quiet (Some h) = marked_quiet (h.marked == h.length_now) h.length_now

  close_quiet : (number : ℕ) (held : Option Held) → AllOwned Quiet (close_of who number held)
  close_quiet number None = tt
  close_quiet number (Some h) =
      all_join (commit_of who (Some h))
      (shutting who (buffer_name who.name) (closed_name who.name number) (mark_name who.name))
      (commit_quiet (Some h))
      (shutting_quiet (buffer_name who.name) (closed_name who.name number) (mark_name who.name))

  first_quiet : (number : ℕ) (bytes : List ℕ) → AllOwned Quiet (first_calls who number bytes)
  first_quiet number bytes =
      let next = replacement who (next_name who.name) (be64 number) in
      let made = asked who Create (buffer_name who.name ∷ []) 0 0 ∷ [] in
      all_join (next ++ made) (adding who (buffer_name who.name) bytes ∷ [])
      (all_join next made (replacement_quiet (next_name who.name) (be64 number))
      (λ before answer files logs running door e. cc, tt))
      (λ before answer files logs running door e. cc, tt)

  waits_quiet : (door : List ℕ) (given : Result (Option Taking) CallFault)
      {old new : Option History} → Waits who door 0 given old new → Adds old new (Owns Quiet)
  waits_quiet door given call =
      adds_as (Owns Quiet) call
      (λ a h calls. call_owned Quiet (answered (taking_given calls.0) given)
      (λ before answer files logs running d e. not_first door d e) calls.1)

did_quiet : {calls : List Asked} {s u : State} {number : ℕ} {held : Option Held}
    {result : Result (Unit {0}) WaheadFault} {old new : Option History}
    → Did calls s number held result u old new → AllOwned Quiet calls → Adds old new (Owns Quiet)
did_quiet did all = script_owned Quiet all did.made

put_first_quiet : (b : Bool) (s u : State) (p : List ℕ) (number : ℕ) (held : Option Held)
    (result : Result (Unit {0}) WaheadFault) (old new : Option History)
    → MatchBool b (IsSpent s result u old new)
    (Did (first_calls s.who number p) s number held result u old new)
    → Adds old new (Owns Quiet)
put_first_quiet true s u p number held result old new spent =
    subst (λ o. Adds old o (Owns Quiet)) (sym spent.told_is) (quiet_none old)
put_first_quiet false s u p number held result old new did =
    did_quiet did (first_quiet s.who number p)

put_in_quiet : (at : Option Held) (s u : State) (p : List ℕ)
    (result : Result (Unit {0}) WaheadFault) (old new : Option History)
    → PutsIn at s p result u old new → Adds old new (Owns Quiet)
put_in_quiet None s u p result old new did =
    put_first_quiet (s.number == last_number) s u p _ _ result old new did
put_in_quiet (Some h) s u p result old new did =
    did_quiet did (λ before answer files logs running door e. cc, tt)

put_quiet : (s u : State) (p : List ℕ) (result : Result (Unit {0}) WaheadFault)
    (old new : Option History) → Puts s p result u old new → Adds old new (Owns Quiet)
put_quiet s u [] result old new did =
    subst (λ o. Adds old o (Owns Quiet)) (sym did.told_is) (quiet_none old)
put_quiet s u (b ∷ p) result old new did = put_in_quiet s.held s u (b ∷ p) result old new did

further_quiet : {who : Who} {door : List ℕ} {rotate left : ℕ} (s u : State) {t w : Tally}
    (result : Result (Unit {0}) WaheadFault) {old new : Option History}
    → Further who door rotate left s t old result u w new → Adds old new (Owns Quiet)
further_quiet s u result {old = old} Further.enough = quiet_none old
further_quiet s u result {old = old} (Further.full long) = quiet_none old
further_quiet {who = who} {door = door} s u result (Further.none short call) =
    waits_quiet who door (Ok None) call
further_quiet {who = who} {door = door} s u result (Further.one {u = v} {mid = mid} {next = next}
    taking short call did later) =
    quiet_join (waits_quiet who door (Ok (Some taking)) call)
    (quiet_join (put_quiet s v taking.bytes (Ok tt) mid next did) (further_quiet v u result later))
further_quiet {who = who} {door = door} s u result (Further.untaken fault short call) =
    waits_quiet who door call.0 call.2
further_quiet {who = who} {door = door} s u result {new = new} (Further.unput {u = v} {mid = mid}
    taking fault short call did) =
    quiet_join (waits_quiet who door (Ok (Some taking)) call)
    (put_quiet s v taking.bytes (Err fault) mid new did)

close_all_quiet : (s u : State) (result : Result (Unit {0}) WaheadFault) {old new : Option History}
    → Did (close_of s.who s.number s.held) s s.number None result u old new
    → Adds old new (Owns Quiet)
close_all_quiet s u result did = did_quiet did (close_quiet s.who s.number s.held)

commit_all_quiet : (s u : State) (result : Result (Unit {0}) WaheadFault)
    {old new : Option History}
    → Did (commit_of s.who s.held) s s.number (all_marked s.held) result u old new
    → Adds old new (Owns Quiet)
commit_all_quiet s u result did = did_quiet did (commit_quiet s.who s.held)

settles_quiet : {rotate : ℕ} (s u : State) (result : Result (Unit {0}) WaheadFault)
    {old new : Option History} → Settles rotate s old result u new → Adds old new (Owns Quiet)
settles_quiet s u result (Settles.uncommitted fault did) = commit_all_quiet s u (Err fault) did
settles_quiet s u result (Settles.kept did short) = commit_all_quiet s u (Ok tt) did
settles_quiet s u result (Settles.closed {u = v} did long shut) =
    quiet_join (commit_all_quiet s v (Ok tt) did) (close_all_quiet v u result shut)

finishes_quiet : {teller : Who} (s : State) {t : Tally} (result : Result (Unit {0}) WaheadFault)
    {old new : Option History} → Finishes teller s t result old new → Adds old new (Owns Quiet)
finishes_quiet s result (Finishes.unclosed {u = u} fault did) = close_all_quiet s u (Err fault) did
finishes_quiet s result (Finishes.told {u = u} outside did prints) =
    quiet_join (close_all_quiet s u (Ok tt) did)
    (script_owned Quiet (λ before answer files logs running door e. cc, tt) (prints_made prints))

once_quiet : {V : Type 0} {q : Asked} {how : V → ActAnswer}
    {result : Result (Option V) OutsideFault} {old new : Option History} → ((before : History) (answer : ActAnswer) (files : Files)
    (logs : Logs) → Quiet before (own_step q answer files logs))
    → TakenOnce q how result old new → Adds old new (Owns Quiet)
once_quiet {how = how} other t =
    adds_as (Owns Quiet) t.told
    (λ a h calls. call_owned Quiet (answered how t.given)
    (λ before answer files logs running. other before answer files logs) calls)

start_quiet : (who : Who) {outside : Result (Unit {0}) OutsideFault} {old new : Option History}
    → MadeInTurn (asked who Start [] 0 0 ∷ []) outside old new → Adds old new (Owns Quiet)
start_quiet who made =
    script_owned Quiet (λ before answer files logs running door e. cc, tt) made

looks_quiet : {who : Who} {fault : OutsideFault} {old new : Option History}
    → Looks who (Err fault) old new → Adds old new (Owns Quiet)
looks_quiet {who = who} (unstarted_look script) = start_quiet who script
looks_quiet {who = who} (no_number script one) =
    quiet_join (start_quiet who script) (once_quiet (λ before answer files logs door e. cc) one)
looks_quiet {who = who} (no_mark script one two) =
    quiet_join (start_quiet who script)
    (quiet_join (once_quiet (λ before answer files logs door e. cc) one)
    (once_quiet (λ before answer files logs door e. cc) two))
looks_quiet {who = who} (no_size script one two three) =
    quiet_join (start_quiet who script)
    (quiet_join (once_quiet (λ before answer files logs door e. cc) one)
    (quiet_join (once_quiet (λ before answer files logs door e. cc) two)
    (once_quiet (λ before answer files logs door e. cc) three)))

looked_quiet : (who : Who) {next mark : Option (List ℕ)} {size : Option ℕ}
    {old mid late last new : Option History} → MadeInTurn (starting who) (Ok tt) old mid
    → TakenOnce (asked who Read (next_name who.name ∷ []) 0 9) bytes_given (Ok next) mid late
    → TakenOnce (asked who Read (mark_name who.name ∷ []) 0 9) bytes_given (Ok mark) late last
    → TakenOnce (asked who Size (buffer_name who.name ∷ []) 0 0) sized (Ok size) last new
    → Adds old new (Owns Quiet)
looked_quiet who script one two three =
    quiet_join (start_quiet who script)
    (quiet_join (once_quiet (λ before answer files logs door e. cc) one)
    (quiet_join (once_quiet (λ before answer files logs door e. cc) two)
    (once_quiet (λ before answer files logs door e. cc) three)))

starts_quiet : {who : Who} {result : Result State WaheadFault} {old new : Option History}
    → Starts who result old new → Adds old new (Owns Quiet)
starts_quiet (unbegun {now = now}) = quiet_none now
starts_quiet (unlooked looks) = looks_quiet looks
starts_quiet {who = who} (damaged (looked script one two three e) is) =
    looked_quiet who script one two three
starts_quiet {who = who} (unnamed (looked script one two three e) is) =
    looked_quiet who script one two three
starts_quiet {who = who} (settled {outside = outside} {mid = mid} {new = new} (looked {next = next}
    {mark = mark} {size = size} script one two three e) is made) =
    quiet_join (looked_quiet who script one two three)
    (script_owned Quiet (settling_quiet who next mark size)
    (subst (λ f. MadeInTurn (settling who (plan_of f)) outside mid new) e made))

-- ---- what was found so far

any_owned : (a h : History) → Owns (λ before step. Unit {0}) a h
any_owned [] h = tt
any_owned (step ∷ a) h = (any_owned a h, λ own. tt)

module _ (n : List ℕ) (rotate : ℕ) (base : History) where
  abbrev F : History → Step → Type 0
  F = FindsTidy n rotate

  abbrev Tidy : History → Type 0
  Tidy = IsTidyAt n rotate

  -- each such taking since then found it so
  record Found (h : History) : Type 0 where
    pub added : History
    pub is : h ≡ added ++ base
    pub all : Every F added base

  finds_quiet : (a h : History) → Owns Quiet a h → Every F a h
  finds_quiet [] h owns = tt
  finds_quiet (step ∷ a) h owns =
      (finds_quiet a h owns.0, λ own door e. absurd (owns.1 own door e))

  quiet_found : {old new : Option History} → Adds old new (Owns Quiet)
      → Adds old new (Leads (S n) Found Found)
  quiet_found p =
      adds_as (Leads (S n) Found Found) p
      (λ a h owns. record {
        leads = λ others f. record {
          added = a ++ f.added;
          is = ap (λ x. a ++ x) f.is ∙ sym (append_assoc a f.added base);
          all = every_join F a f.added base f.all
              (subst (λ x. Every F a x) f.is (finds_quiet a h owns));
        };
        own = any_owned a h;
      })

  keeps_found : (before : History) (step : Step) → step.own ≡ false → Found before
      → Found (step ∷ before)
  keeps_found before step theirs f = record {
    added = step ∷ f.added;
    is = ap (λ x. step ∷ x) f.is;
    all = (f.all, λ own door e. absurd (true≢false (sym own ∙ theirs)));
  }

  keeps_tidy : Keeps (IsApart n) Tidy
  keeps_tidy before step theirs apart (inl none) =
      inl (unnamed_stays before step (B n) theirs.1 (apart.leaves BufferFile)
      (apart.no_tail BufferFile) ∙ none)
  keeps_tidy before step theirs apart (inr s) = inr (record {
    file = s.file;
    buffer = unnamed_stays before step (B n) theirs.1 (apart.leaves BufferFile)
        (apart.no_tail BufferFile) ∙ s.buffer;
    mark = unnamed_stays before step (M n) theirs.1 (apart.leaves MarkFile)
        (apart.no_tail MarkFile) ∙ s.mark;
    short = s.short;
    gave = rw apart.by s.gave;
  })

  abbrev TidyFound : History → Type 0
  TidyFound h = Tidy h × Found h

  -- the taking that opens a turn
  module _ (door : List ℕ) where
    abbrev Q : Asked
    Q = mine n Take (door ∷ []) 1000 0

    shows : (answer : ActAnswer) (before : History) (files : Files) (logs : Logs)
        → TidyFound before → Found (own_step Q answer files logs ∷ before)
    shows answer before files logs x = record {
      added = own_step Q answer files logs ∷ x.1.added;
      is = ap (λ y. own_step Q answer files logs ∷ y) x.1.is;
      all = (x.1.all, λ own d e. subst Tidy x.1.is x.0);
    }

    keeps_both : Keeps (IsApart n) TidyFound
    keeps_both before step theirs apart x =
        (keeps_tidy before step theirs apart x.0, keeps_found before step theirs.0 x.1)

    take_found : (given : Result (Option Taking) CallFault) {old new : Option History}
        → Waits (writer n) door 1000 given old new
        → Adds old new (Leads (S n) TidyFound Found)
    take_found (Ok given) call =
        adds_as (Leads (S n) TidyFound Found) call
        (λ a h calls. record {
          leads = acted_leads Found keeps_both
              (λ before files logs running honest x. shows (taking_given calls.0 given) before
              files logs x)
              (ran (Ok (taking_given calls.0 given)) (λ e. cc) calls.1);
          own = call_owned (S n).own (answered (taking_given calls.0) (Ok given)) (owned n Q)
              calls.1;
        })
    take_found (Err fault) call =
        any_leads {A = TidyFound} Found (taking_given 0) (Err fault) (owned n Q) keeps_both
        (λ value before files logs running honest x. shows (taking_given 0 value) before files logs
        x)
        (λ f before files logs running honest x. shows (Refused f) before files logs x)
        (λ left before files logs running honest x. shows (Stopped left) before files logs x)
        (λ before x. x.1)
        (adds_as (Calls Q (answered (taking_given 0) (Err fault))) call (λ a h calls. calls.1))

    abbrev Gives : History → Type 0
    Gives h = gave_last n h ≡ true

    take_gives : (taking : Taking) {old new : Option History}
        → Waits (writer n) door 1000 (Ok (Some taking)) old new
        → Adds old new (Leads (S n) (λ h. Unit {0}) Gives)
    take_gives taking call =
        adds_as (Leads (S n) (λ h. Unit {0}) Gives) call
        (λ a h calls. record {
          leads = acted_leads {S = IsApart n} {A = λ h. Unit {0}} Gives
              (λ before step theirs apart x. tt)
              (λ before files logs running honest x. rw (self_name n) refl)
              (ran (Ok (taking_given calls.0 (Some taking))) (λ e. cc) calls.1);
          own = call_owned (S n).own (answered (taking_given calls.0) (Ok (Some taking)))
              (owned n Q)
              calls.1;
        })

  gave_step : (b : Bool) (call : Deed) (answer : ActAnswer) (last : Bool) → IsOther call
      → (if b then gave_by call answer last else last) ≡ last
  gave_step true call answer last other = gave_stays call answer last other
  gave_step false call answer last other = refl

  still_gives : (a h : History) → Others (IsApart n) a h → Owns Quiet a h → gave_last n h ≡ true
      → gave_last n (a ++ h) ≡ true
  still_gives [] h others owns gave = gave
  still_gives (step ∷ a) h others owns gave =
      go (still_gives a h others.0 owns.0 gave) step.own refl
    where
      go : gave_last n (a ++ h) ≡ true → (own : Bool) → step.own ≡ own
          → gave_last n (step ∷ (a ++ h)) ≡ true
      go rest true e =
          gave_step (is_by (writer n) step) (deed step.act) step.act.answer (gave_last n (a ++ h))
          (owns.1 e) ∙ rest
      go rest false e = rw (others.1 e).by rest

  quiet_gives : {old new : Option History} → Adds old new (Owns Quiet)
      → Adds old new (Leads (S n) (λ h. gave_last n h ≡ true) (λ h. gave_last n h ≡ true))
  quiet_gives p =
      adds_as (Leads (S n) (λ h. gave_last n h ≡ true) (λ h. gave_last n h ≡ true)) p
      (λ a h owns. record {
        leads = λ others x. still_gives a h others owns x;
        own = any_owned a h;
      })

  -- ---- a turn

  gathers_found : {door : List ℕ} {short further : ℕ} (s u : State) {t w : Tally}
      (result : Result Bool WaheadFault) {old new : Option History}
      → Gathers (writer n) door short further s t old result u w new
      → Adds old new (Leads (S n) TidyFound Found)
  gathers_found {door = door} s u result (Gathers.silent call) = take_found door (Ok None) call
  gathers_found {door = door} s u result (Gathers.heard {u = v} {result = rest} {mid = mid}
      {next = next} taking call did later) =
      leads_then (take_found door (Ok (Some taking)) call)
      (quiet_found (quiet_join (put_quiet s v taking.bytes (Ok tt) mid next did)
      (further_quiet v u rest later)))
  gathers_found {door = door} s u result (Gathers.untaken fault call) =
      take_found door call.0 call.2
  gathers_found {door = door} s u result {new = new} (Gathers.unput {u = v} {mid = mid} taking fault
      call did) =
      leads_then (take_found door (Ok (Some taking)) call)
      (quiet_found (put_quiet s v taking.bytes (Err fault) mid new did))

  turn_found : {door : List ℕ} {short messages : ℕ} (s u : State) {t w : Tally}
      (result : Result (Unit {0}) WaheadFault) {old new : Option History}
      → IsTurn (writer n) door short messages s t old result u w new
      → Adds old new (Leads (S n) TidyFound Found)
  turn_found s u result (IsTurn.ungathered fault taken) = gathers_found s u (Err fault) taken
  turn_found s u result (IsTurn.silent {u = v} taken shut) =
      leads_then (gathers_found s v (Ok false) taken)
      (quiet_found (close_all_quiet v u result shut))
  turn_found s u result (IsTurn.heard {u = v} taken ending) =
      leads_then (gathers_found s v (Ok true) taken) (quiet_found (settles_quiet v u result ending))

  gathers_gives : {door : List ℕ} {short further : ℕ} (s u : State) {t w : Tally}
      (result : Result Bool WaheadFault) {old new : Option History} → result ≡ Ok true
      → Gathers (writer n) door short further s t old result u w new
      → Adds old new (Leads (S n) (λ h. Unit {0}) (λ h. gave_last n h ≡ true))
  gathers_gives s u result is (Gathers.silent call) = absurd (cc)
  gathers_gives {door = door} s u result is (Gathers.heard {u = v} {result = rest} {mid = mid}
      {next = next} taking call did later) =
      leads_then (take_gives door taking call)
      (quiet_gives (quiet_join (put_quiet s v taking.bytes (Ok tt) mid next did)
      (further_quiet v u rest later)))
  gathers_gives s u result is (Gathers.untaken fault call) = absurd (cc)
  gathers_gives s u result is (Gathers.unput taking fault call did) = absurd (cc)

  -- there is no buffer, or the turn's first taking gave a datagram
  abbrev Gave : State → History → Type 0
  Gave u h = (u.held ≡ None) ⊎ (gave_last n h ≡ true)

  module _ (d : List ℕ) (l : List (List ℕ)) where
    turn_gave : {door : List ℕ} {messages : ℕ} (s u : State) {t w : Tally}
        (result : Result (Unit {0}) WaheadFault) {old new : Option History} → result ≡ Ok tt
        → s.who ≡ writer n
        → IsTurn (writer n) door rotate messages s t old result u w new
        → Adds old new (Leads (S n) (λ h. Unit {0}) (Gave u))
    turn_gave s u result is e (IsTurn.ungathered fault taken) = absurd (cc)
    turn_gave s u result is e (IsTurn.silent taken shut) =
        adds_as (Leads (S n) (λ h. Unit {0}) (Gave u))
        (turn_after n d l s u result e (IsTurn.silent taken shut))
        (λ a h x. record { leads = λ o y. inl (done_held shut is); own = any_owned a h })
    turn_gave s u result is e (IsTurn.heard {u = v} taken ending) =
        leads_as (λ h x. x) (λ h x. inr x)
        (leads_then (gathers_gives s v (Ok true) refl taken)
        (quiet_gives (settles_quiet v u result ending)))

    -- before a turn
    abbrev TurnReady : State → History → Type 0
    TurnReady s h = Holding n d l s [] h × Gave s h

    tidy_at : (s : State) (o : Option Held) (h : History) → s.held ≡ o → IsTidy rotate o
        → TurnReady s h → Tidy h
    tidy_at s None h is tidy x =
        inl ((subst (λ o. Holds o (view n h)) is x.0.0.fits).buffer)
    tidy_at s (Some held) h is tidy x =
        let c = all_saved n held.length_now held.marked (view n h) tidy.0
        (subst (λ o. Holds o (view n h)) is x.0.0.fits) in
        let file = c.open_is.file in
        inr (record {
          file = file;
          buffer = c.open_is.buffer;
          mark = mark_there held.length_now (files_after h (M n)) c.open_is.mark c.some
              ∙ ap (λ i. Some (whole (be64 i))) (sym c.open_is.size_is);
          short = omega (arith, c.open_is.size_is, tidy.1);
          gave = gave_of x.1;
        })
      where
        gave_of : Gave s h → gave_last n h ≡ true
        gave_of (inl none) =
            absurd (let z : ◌≡◌ {A = Option Held} None (Some held) = sym none ∙ is in cc)
        gave_of (inr gave) = gave

    turns_found : {door : List ℕ} {messages left : ℕ} (s u : State) {t w : Tally}
        (result : Result (Unit {0}) WaheadFault) {old new : Option History} → s.who ≡ writer n
        → IsTidy rotate s.held
        → AreTurned (writer n) door rotate messages left s t old result u w new
        → Adds old new (Leads (S n) (λ h. TurnReady s h × Found h) Found)
    turns_found s u result {old = old} e tidy AreTurned.over = leads_none old (λ h x. x.1)
    turns_found s u result e tidy (AreTurned.turn {u = v} one later) =
        leads_then
        (leads_as (λ h x. ((x.0.0, tt), (tidy_at s s.held h refl tidy x.0, x.1)))
        (λ h y. y)
        (both_lead (both_lead (turn_after n d l s v (Ok tt) e one)
        (turn_gave s v (Ok tt) refl e one)) (turn_found s v (Ok tt) one)))
        (turns_found v u result ((turn_same one).who ∙ e) (turn_tidy refl one) later)
    turns_found s u result e tidy (AreTurned.cut fault one) =
        leads_as (λ h x. (tidy_at s s.held h refl tidy x.0, x.1)) (λ h y. y)
        (turn_found s u (Err fault) one)

    goes_found : {teller : Who} {door : List ℕ} {turns messages : ℕ} (s : State)
        (result : Result (Unit {0}) WaheadFault) {old new : Option History} → s.who ≡ writer n
        → IsTidy rotate s.held
        → GoesOn (writer n) teller door turns rotate messages s result old new
        → Adds old new (Leads (S n) (λ h. TurnReady s h × Found h) Found)
    goes_found s result e tidy (GoesOn.cut {u = u} fault turned) =
        turns_found s u (Err fault) e tidy turned
    goes_found s result e tidy (GoesOn.finished {u = u} turned finish) =
        leads_then (turns_found s u (Ok tt) e tidy turned)
        (quiet_found (finishes_quiet u result finish))

    run_found : {teller : Who} {door : List ℕ} {turns messages : ℕ}
        (result : Result (Unit {0}) WaheadFault) {old new : Option History}
        → HasRun (writer n) teller door turns rotate messages result old new
        → Adds old new (Leads (S n) (λ h. (All n h × Prior n d l h) × Found h) Found)
    run_found result (HasRun.unstarted fault starts) =
        leads_as (λ h x. x.1) (λ h x. x) (quiet_found (starts_quiet starts))
    run_found result (HasRun.started {s = s} starts later) =
        let b = begun s starts in
        leads_then
        (both_lead (starts_after n d l (Ok s) starts) (quiet_found (starts_quiet starts)))
        (leads_as (λ h x. (
          (
            (subst (λ o. Plain n s.number (Holds o) h) (sym b.held) x.0.0, x.0.1),
            inl b.held,
          ),
          x.1,
        )) (λ h x. x)
        (goes_found s result b.who_is
        (subst (λ o. IsTidy rotate o) (sym b.held) tt) later))

pub turns_find_tidy : TurnsFindTidy
turns_find_tidy n door teller turns rotate messages result added history runs ran others =
    let d = joined (tally n history).saved in
    let l = took n history in
    let P : History → Type 0 = λ x. (All n x × Prior n d l x) × Found n rotate history x in
    let x = (run_found n rotate history d l result ran).told history refl in
    let same : x.0 ++ history ≡ added ++ history =
    same_Some (x.0 ++ history) (added ++ history) (sym x.1) in
    let is : x.0 ≡ added = append_cancel_right x.0 added history same in
    let f = (subst (λ a. Leads (S n) P (Found n rotate history) a history) is x.2).leads others (
      (runs_all n runs, record { saved = refl; took_is = refl }),
      record { added = []; is = refl; all = tt },
    ) in
    subst (λ a. Every (FindsTidy n rotate) a history)
    (append_cancel_right f.added added history (sym f.is)) f.all
