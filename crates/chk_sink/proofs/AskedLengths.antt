-- What the questions for a sink's committed length lead to.
use Rattle.std.proofs.Common.{◌≡◌, inl, ℕ, ◌≤◌, true, List, [], ◌∷◌, length, take, drop, Option, Some, None, Result, ap, sym, subst, ◌∙◌, refl, arith, option_map, Ok, Err, is_some, true≢false}
use Rattle.std.specs.Prelude.{IsTrue}
use Rattle.chk_bytes.specs.Numbers.{spelled}
use Rattle.chk_bytes.specs.Stems.{Stem, is_stem, is_collector}
use Rattle.chk_site.specs.declared.acts.Call.TheVariants.{Size, Read}
use Rattle.chk_site.specs.declared.acts.CallFault.{CallFault}
use Rattle.chk_site.specs.declared.acts.CallFault.TheVariants.{Failed, Missing, Exists, Short}
use Rattle.chk_site.specs.declared.acts.OutsideFault.{OutsideFault}
use Rattle.chk_site.specs.declared.acts.ActAnswer.{ActAnswer}
use Rattle.chk_site.specs.declared.acts.ActAnswer.TheVariants.{Refused}
use Rattle.chk_site.specs.Files.{File}
use Rattle.chk_site.specs.History.{History, files_after}
use Rattle.chk_site.specs.Honest.{AtSize, AtRead}
use Rattle.chk_site.specs.Site.{Adds, Asked, asked, own_step, answered, sized, bytes_given, Calls, Ends, IsTaken, Took, WasRefused}
use Rattle.chk_site.specs.Runs.{Leads}
use Rattle.chk_http_grammar.specs.Messages.{Ack, ack_of}
use Rattle.chk_world.specs.Names.{MarkFile, DoneFile, spell, file}
use Rattle.chk_world.specs.Committed.{OnFile, committed_length, committed_of}
use Rattle.chk_world.specs.Collectors.{Handling, IsCommittedLength}
use Rattle.chk_world.specs.Laws.{IsMark}
use Rattle.chk_world.specs.Places.{As, AtTold}
use Rattle.chk_world.proofs.Law.{shape}
use Rattle.chk_world.proofs.ToldCalls.{GoesOn, MayCall, LeavesCall, goes_on_taken, told_taken, told_ends}
use Rattle.chk_sink.specs.States.{State, process, last_stem}
use Rattle.chk_sink.specs.Held.{Handles, Ready}
use Rattle.chk_sink.specs.Asked.{Counts, CountsNow, Counted, CountsOn, CountedOn}
use Rattle.chk_sink.specs.Asking.{CountsOpen, TakenOnce, IsMarkNumber, IsAsker, CountedOpen}
use Rattle.chk_sink.specs.Damage.{is_number_from}
use Rattle.chk_site.specs.declared.acts.Who.{Who}
use Rattle.chk_site.specs.declared.acts.OutsideFault.TheVariants.{Outside as site_failed, NoMemory as no_memory}
use Rattle.chk_site.proofs.Leads.{leads_as}
use Rattle.chk_sink.specs.declared.fault.SinkFault.{SinkFault}
use Rattle.chk_sink.specs.declared.fault.SinkFault.TheVariants.{Damaged, NoMemory}
use Rattle.chk_sink.specs.declared.current.Current.{Current}
use Rattle.chk_sink.specs.declared.sinks.Sinks.TheInside.{Inside}
use Rattle.chk_sink.specs.Faults.{sink_fault}
use Rattle.chk_sink.specs.SinkFields.{sinks_view, writing_of, IsSoundCurrent, IsSound}
use Rattle.chk_sink.proofs.Putting.{the_collector}
use Rattle.chk_sink.proofs.NumberBytes.{read_whole, number_good, missing_read}
use Rattle.chk_sink.proofs.Holding.{HasStem, handles_alike, leads_by}
use Rattle.chk_sink.proofs.Quiet.{quiet_on, lengths_add}
use Rattle.chk_sink.proofs.Questions.{counts_stay, open_stays, same_word, asked_alike, asked_counts, asked_untaken}

pub size_there : (n : ℕ) (o : Option File) → AtSize (sized n) o → (f : File) × (o ≡ Some f) × (n ≡ length f.bytes)
size_there n None agrees = absurd agrees
size_there n (Some f) agrees = (f, refl, agrees)

pub size_missing : (answer : ActAnswer) (o : Option File) → WasRefused answer → AtSize answer o → o ≡ None
size_missing (Refused Missing) o was agrees = agrees
size_missing (Refused Exists) o was agrees = absurd agrees
size_missing (Refused (Short size)) o was agrees = absurd agrees
size_missing answer o was agrees = absurd was

pub read_there : (bytes : List ℕ) (at max : ℕ) (o : Option File) → AtRead (bytes_given bytes) at max o
    → (f : File) × (o ≡ Some f) × (bytes ∷ [] ≡ take max (drop at f.bytes) ∷ [])
read_there bytes at max None agrees = absurd agrees
read_there bytes at max (Some f) agrees = (f, refl, agrees.1)

pub same_mark : (o : Option File) (f : File) → OnFile o IsMark → o ≡ Some f → IsMark f
same_mark o f h e = subst (λ o. OnFile o IsMark) e h

-- the number of a mark is at most the committed length
mark_most : (shut mark : Option File) (f : File) → mark ≡ Some f → OnFile mark (λ m. OnFile shut (λ d. spelled m.bytes ≡ length d.bytes))
    → spelled f.bytes ≤ committed_of shut mark
mark_most None mark f e h = rw e (omega arith)
mark_most (Some d) mark f e h =
    let same : spelled f.bytes ≡ length d.bytes = subst (λ o. OnFile o (λ m. spelled m.bytes ≡ length d.bytes)) e h in
    omega (arith, same)

pub mark_just : (shut mark : Option File) (f : File) → shut ≡ None → mark ≡ Some f → spelled f.bytes ≡ committed_of shut mark
mark_just shut mark f none e = rw (none, e) refl

pub none_just : (shut mark : Option File) → shut ≡ None → mark ≡ None → 0 ≡ committed_of shut mark
none_just shut mark none e = rw (none, e) refl

pub size_just : (n : ℕ) (shut mark : Option File) (f : File) → shut ≡ Some f → n ≡ length f.bytes → n ≡ committed_of shut mark
size_just n shut mark f e is = rw e is

module _ (stamped : List (List ℕ)) (s : State) (messages : List Handling) (t : ℕ) (stems : List Stem) (acks : List Ack)
    (named : IsTrue (is_collector s.collector)) (stem : HasStem s) (x : Stem) (good : IsTrue (is_stem x)) where
  -- the stem has this length too
  abbrev pub Length : ℕ → History → Type 0
  Length n history = CountsNow s messages t stems acks x n history

  with_length : (n : ℕ) (history : History) → Counts s messages t stems acks history → IsCommittedLength (process s) history t (ack_of x n)
      → n ≤ committed_length (files_after history) x → Length n history
  with_length n history h one most = record {
    counts = record { handles = h.handles; lengths = lengths_add (process s) t history x n one stems acks h.lengths };
    most = most;
  }

  -- ---- the length of the done sink

  module _ (w : List ℕ) (w_is : w ≡ spell (DoneFile x)) where
    abbrev AskSize : Asked
    AskSize = asked (process s) Size (w ∷ []) 0 0

    -- what holds where this was taken
    abbrev pub AfterSize : Option ℕ → History → Type 0
    AfterSize (Some n) history = Length n history
    AfterSize None history = CountsOpen s messages t stems acks x history

    size_may : MayCall stamped AskSize named (Counts s messages t stems acks)
    size_may before answer files logs legal h = record { own_files = tt; logs = tt; requests = tt; rule = tt }

    size_leaves : (taken : Option ℕ) → LeavesCall stamped AskSize named (Counts s messages t stems acks) (Took sized taken) (AfterSize taken)
    size_leaves (Some n) before answer files logs took legal h =
        let step = own_step AskSize answer files logs in
        let goes = goes_on_taken sized (Some n) answer (λ value. tt) took in
        let modelled = legal.1.honest.modelled in
        let there = size_there n (files_after before w) (subst (λ a. AtSize a (files_after before w)) took legal.1.honest.agrees) in
        let done : file files (DoneFile x) ≡ Some there.0 =
        same_word s before step refl modelled tt goes (spell (DoneFile x)) ∙ (ap (files_after before) (sym w_is) ∙ there.1) in
        let is : n ≡ committed_length files x = size_just n (file files (DoneFile x)) (file files (MarkFile x)) there.0 done there.2 in
        with_length n (step ∷ before) (asked_counts s before step refl modelled tt goes messages t stems acks stem h)
        (record { at_most = inl (omega (arith, is)); just = λ q. is }) (omega (arith, is))
    size_leaves None before answer files logs took legal h =
        let step = own_step AskSize answer files logs in
        let goes = goes_on_taken sized None answer (λ value. tt) took in
        let modelled = legal.1.honest.modelled in
        let gone = size_missing answer (files_after before w) took legal.1.honest.agrees in
        record {
          counts = asked_counts s before step refl modelled tt goes messages t stems acks stem h;
          not_done = λ q. same_word s before step refl modelled tt goes (spell (DoneFile x)) ∙ (ap (files_after before) (sym w_is) ∙ gone);
        }

    size_fails : LeavesCall stamped AskSize named (Counts s messages t stems acks) (λ a. a ≡ Refused Failed) (Handles s messages)
    size_fails before answer files logs failed legal h =
        let step = own_step AskSize answer files logs in
        handles_alike s messages before (step ∷ before) stem
        (asked_alike s before step refl legal.1.honest.modelled tt (subst GoesOn (sym failed) tt)) h.handles

    pub size_taken : (given : Result ℕ CallFault) (taken : Option ℕ) {old new : Option History} → IsTaken given taken
        → Adds old new (Calls AskSize (answered sized given))
        → Adds old new (Leads (As stamped (process s)) (Counted stamped s messages t stems acks) (AtTold stamped (process s) (AfterSize taken)))
    size_taken given taken is told =
        told_taken stamped AskSize named (Counts s messages t stems acks) (AfterSize taken) sized given taken
        (counts_stay stamped s messages t stems acks stem) size_may (λ value. tt) (size_leaves taken) is told

    pub size_ends : (given : Result ℕ CallFault) (fault : OutsideFault) {old new : Option History} → Ends Size given fault
        → Adds old new (Calls AskSize (answered sized given))
        → Adds old new (Leads (As stamped (process s)) (Counted stamped s messages t stems acks) (Ready stamped s messages))
    size_ends given fault ends told =
        told_ends stamped AskSize named (Counts s messages t stems acks) (λ f. Handles s messages) sized given fault
        (counts_stay stamped s messages t stems acks stem) size_may size_fails (λ history h. h.handles) ends told

  -- ---- the mark

  module _ (w : List ℕ) (w_is : w ≡ spell (MarkFile x)) where
    abbrev AskMark : Asked
    AskMark = asked (process s) Read (w ∷ []) 0 9

    abbrev Open : History → Type 0
    Open = CountsOpen s messages t stems acks x

    -- what holds where this was taken
    abbrev pub AfterMark : Option (List ℕ) → History → Type 0
    AfterMark (Some bytes) history = (is_number_from 96 bytes ≡ true) × Length (spelled bytes) history
    AfterMark None history = Length 0 history

    mark_may : MayCall stamped AskMark named Open
    mark_may before answer files logs legal h = record { own_files = tt; logs = tt; requests = tt; rule = tt }

    mark_leaves : (taken : Option (List ℕ)) → LeavesCall stamped AskMark named Open (Took bytes_given taken) (AfterMark taken)
    mark_leaves (Some bytes) before answer files logs took legal h =
        let step = own_step AskMark answer files logs in
        let goes = goes_on_taken bytes_given (Some bytes) answer (λ value. tt) took in
        let modelled = legal.1.honest.modelled in
        let there = read_there bytes 0 9 (files_after before w) (subst (λ a. AtRead a 0 9 (files_after before w)) took legal.1.honest.agrees) in
        let mark : file files (MarkFile x) ≡ Some there.0 =
        same_word s before step refl modelled tt goes (spell (MarkFile x)) ∙ (ap (files_after before) (sym w_is) ∙ there.1) in
        let so = shape stamped (step ∷ before) legal x good in
        let is_mark_file = same_mark (file files (MarkFile x)) there.0 so.mark mark in
        let same : there.0.bytes ≡ bytes = sym (read_whole bytes there.0 there.2 is_mark_file.0.1) in
        let D = file files (DoneFile x) in
        let M = file files (MarkFile x) in (
          subst (λ b. is_number_from 96 b ≡ true) same (number_good 96 there.0.bytes is_mark_file.0.1 is_mark_file.1 is_mark_file.0.2),
          with_length (spelled bytes) (step ∷ before) (asked_counts s before step refl modelled tt goes messages t stems acks stem h.counts)
              (subst (λ b. IsCommittedLength (process s) (step ∷ before) t (ack_of x (spelled b))) same
              (record {
                at_most = inl (mark_most D M there.0 mark so.mark_of_done);
                just =
                    λ q.
                    let p = quiet_on (process s) x t before step (asked_untaken s before step refl modelled tt goes t) q in
                    mark_just D M there.0 (same_word s before step refl modelled tt goes (spell (DoneFile x)) ∙ h.not_done p.1) mark;
              }))
              (subst (λ b. spelled b ≤ committed_length files x) same (mark_most D M there.0 mark so.mark_of_done)),
        )
    mark_leaves None before answer files logs took legal h =
        let step = own_step AskMark answer files logs in
        let goes = goes_on_taken bytes_given None answer (λ value. tt) took in
        let modelled = legal.1.honest.modelled in
        let gone = missing_read answer 9 (files_after before w) took legal.1.honest.agrees in
        with_length 0 (step ∷ before) (asked_counts s before step refl modelled tt goes messages t stems acks stem h.counts)
        (record {
          at_most = inl (omega arith);
          just =
              λ q.
              let p = quiet_on (process s) x t before step (asked_untaken s before step refl modelled tt goes t) q in
              none_just (file files (DoneFile x)) (file files (MarkFile x))
              (same_word s before step refl modelled tt goes (spell (DoneFile x)) ∙ h.not_done p.1)
              (same_word s before step refl modelled tt goes (spell (MarkFile x)) ∙ (ap (files_after before) (sym w_is) ∙ gone));
        }) (omega arith)

    mark_fails : LeavesCall stamped AskMark named Open (λ a. a ≡ Refused Failed) (Handles s messages)
    mark_fails before answer files logs failed legal h =
        let step = own_step AskMark answer files logs in
        handles_alike s messages before (step ∷ before) stem
        (asked_alike s before step refl legal.1.honest.modelled tt (subst GoesOn (sym failed) tt)) h.counts.handles

    pub mark_taken : (given : Result (List ℕ) CallFault) (taken : Option (List ℕ)) {old new : Option History} → IsTaken given taken
        → Adds old new (Calls AskMark (answered bytes_given given))
        → Adds old new (Leads (As stamped (process s)) (AtTold stamped (process s) Open) (AtTold stamped (process s) (AfterMark taken)))
    mark_taken given taken is told =
        told_taken stamped AskMark named Open (AfterMark taken) bytes_given given taken
        (open_stays stamped s messages t stems acks stem x good) mark_may (λ value. tt) (mark_leaves taken) is told

    pub mark_ends : (given : Result (List ℕ) CallFault) (fault : OutsideFault) {old new : Option History} → Ends Read given fault
        → Adds old new (Calls AskMark (answered bytes_given given))
        → Adds old new (Leads (As stamped (process s)) (AtTold stamped (process s) Open) (Ready stamped s messages))
    mark_ends given fault ends told =
        told_ends stamped AskMark named Open (λ f. Handles s messages) bytes_given given fault
        (open_stays stamped s messages t stems acks stem x good) mark_may mark_fails (λ history h. h.counts.handles) ends told

-- ---- by the results of the questions

-- the sinks' process asks
pub asker : (i : Inside) (s : State) → sinks_view i ≡ s → IsSound i → IsAsker i.who s
asker i s e sound =
    subst (IsAsker i.who) e
    (record {
      who_is = the_collector i.who i.who.name sound.role refl;
      named = sound.name;
      stem = λ some. of_current i.current some sound.current;
    })
  where
    of_current : (o : Option Current) → is_some (option_map writing_of o) ≡ true → IsSoundCurrent (last_stem (sinks_view i)) o
        → IsTrue (is_stem (last_stem (sinks_view i)))
    of_current None some h = absurd (true≢false (sym some))
    of_current (Some c) some h = h.good

-- ---- over one state

module _ (stamped : List (List ℕ)) (s : State) (messages : List Handling) (t : ℕ) (stems : List Stem) (acks : List Ack)
    (who : Who) (asks : IsAsker who s) (x : Stem) (good : IsTrue (is_stem x)) where
  abbrev From : (History → Type 0) → Option History → Option History → Result ℕ SinkFault → Type 0
  From A old new result =
      Adds old new (Leads (As stamped (process s)) A (CountedOn stamped s messages t stems acks x result))

  fails_on : (fault : OutsideFault) (history : History) → Ready stamped s messages history
      → CountedOn stamped s messages t stems acks x (Err (sink_fault fault)) history
  fails_on (site_failed call) history h = h
  fails_on no_memory history h = h

  fails_so : {A : History → Type 0} {old new : Option History} (fault : OutsideFault) (result : Result ℕ SinkFault) → result ≡ Err (sink_fault fault)
      → Adds old new (Leads (As stamped (process s)) A (Ready stamped s messages)) → From A old new result
  fails_so fault result result_is told = rw result_is (leads_as (λ h k. k) (fails_on fault) told)

  -- ---- the length of the done sink

  module _ (w : List ℕ) (w_is : w ≡ spell (DoneFile x)) (made : Result (Option ℕ) OutsideFault) {old new : Option History}
      (m : TakenOnce (asked who Size (w ∷ []) 0 0) sized made old new) where
    -- it is there
    pub size_given : (n : ℕ) → made ≡ Ok (Some n) → From (Counted stamped s messages t stems acks) old new (Ok n)
    size_given n e =
        let k = rw (asks.who_is, e) at m in
        size_taken stamped s messages t stems acks asks.named asks.stem x good w w_is k.given (Some n) k.came k.told

    -- it isn't
    pub size_none : made ≡ Ok None
        → Adds old new (Leads (As stamped (process s)) (Counted stamped s messages t stems acks) (CountedOpen stamped s messages t stems acks x))
    size_none e =
        let k = rw (asks.who_is, e) at m in
        size_taken stamped s messages t stems acks asks.named asks.stem x good w w_is k.given None k.came k.told

    pub size_ended : (fault : OutsideFault) (result : Result ℕ SinkFault) → made ≡ Err fault → result ≡ Err (sink_fault fault)
        → From (Counted stamped s messages t stems acks) old new result
    size_ended fault result e result_is =
        let k = rw (asks.who_is, e) at m in
        fails_so fault result result_is
        (size_ends stamped s messages t stems acks asks.named asks.stem x good w w_is k.given fault k.came k.told)

  -- ---- the mark

  module _ (w : List ℕ) (w_is : w ≡ spell (MarkFile x)) (made : Result (Option (List ℕ)) OutsideFault) {old new : Option History}
      (m : TakenOnce (asked who Read (w ∷ []) 0 9) bytes_given made old new) where
    number_on : (bytes : List ℕ) (result : Result ℕ SinkFault) → IsMarkNumber w bytes result → (history : History)
        → (is_number_from 96 bytes ≡ true) × Length stamped s messages t stems acks asks.named asks.stem x good (spelled bytes) history
        → CountsOn s messages t stems acks x result history
    number_on bytes (Ok n) is history h = rw is.1 h.1
    number_on bytes (Err (Damaged name at)) is history h = absurd (true≢false (sym h.0 ∙ is.0))
    number_on bytes (Err NoMemory) is history h = h.1.counts.handles
    number_on bytes (Err fault) is history h = absurd is

    -- it is there
    pub mark_given : (bytes : List ℕ) (result : Result ℕ SinkFault) → made ≡ Ok (Some bytes) → IsMarkNumber w bytes result
        → From (CountedOpen stamped s messages t stems acks x) old new result
    mark_given bytes result e is =
        let k = rw (asks.who_is, e) at m in
        leads_by (number_on bytes result is)
        (mark_taken stamped s messages t stems acks asks.named asks.stem x good w w_is k.given (Some bytes) k.came k.told)

    -- it isn't
    pub mark_none : made ≡ Ok None → From (CountedOpen stamped s messages t stems acks x) old new (Ok 0)
    mark_none e =
        let k = rw (asks.who_is, e) at m in
        mark_taken stamped s messages t stems acks asks.named asks.stem x good w w_is k.given None k.came k.told

    pub mark_ended : (fault : OutsideFault) (result : Result ℕ SinkFault) → made ≡ Err fault → result ≡ Err (sink_fault fault)
        → From (CountedOpen stamped s messages t stems acks x) old new result
    mark_ended fault result e result_is =
        let k = rw (asks.who_is, e) at m in
        fails_so fault result result_is
        (mark_ends stamped s messages t stems acks asks.named asks.stem x good w w_is k.given fault k.came k.told)
