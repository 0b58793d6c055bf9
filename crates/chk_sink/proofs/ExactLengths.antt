-- The committed length that a question gives is exact where nobody touches the sink meanwhile.
use Rattle.std.proofs.Common.{◌≡◌, ℕ, true, List, [], ◌∷◌, Option, Some, None, Result, Ok, Err, ap, sym, subst, ◌∙◌, refl}
use Rattle.std.specs.Prelude.{IsTrue, IfOk}
use Rattle.std.proofs.lemmas.Bool.{and_parts}
use Rattle.chk_bytes.specs.Numbers.{spelled}
use Rattle.chk_bytes.specs.Stems.{Stem, is_stem, is_collector}
use Rattle.chk_site.specs.declared.acts.Who.{Who}
use Rattle.chk_site.specs.declared.acts.Call.TheVariants.{Size, Read}
use Rattle.chk_site.specs.declared.acts.CallFault.{CallFault}
use Rattle.chk_site.specs.declared.acts.OutsideFault.{OutsideFault}
use Rattle.chk_site.specs.Honest.{AtSize, AtRead}
use Rattle.chk_site.specs.History.{Step, History, files_after}
use Rattle.chk_site.specs.Site.{Adds, Asked, asked, own_step, answered, sized, bytes_given, Calls, IsTaken, Took}
use Rattle.chk_site.specs.Runs.{Leads}
use Rattle.chk_site.proofs.Leads.{leads_as}
use Rattle.chk_world.specs.Names.{MarkFile, DoneFile, spell, file}
use Rattle.chk_world.specs.Committed.{committed_length}
use Rattle.chk_world.specs.Collectors.{leaves_sink}
use Rattle.chk_world.specs.Places.{As, AtTold}
use Rattle.chk_world.proofs.Law.{shape}
use Rattle.chk_world.proofs.NameTests.{stem_self}
use Rattle.chk_world.proofs.PlacesStay.{Stays}
use Rattle.chk_world.proofs.ToldCalls.{MayCall, LeavesCall, goes_on_taken, told_taken}
use Rattle.chk_sink.specs.declared.fault.SinkFault.{SinkFault}
use Rattle.chk_sink.specs.States.{State, process}
use Rattle.chk_sink.specs.Asked.{all_leave, QuietSince, ExactSince, IsToldAt}
use Rattle.chk_sink.specs.Asking.{TakenOnce, IsMarkNumber, IsAsker, OpenSince}
use Rattle.chk_sink.proofs.AskedLengths.{size_there, size_missing, read_there, same_mark, mark_just, none_just, size_just}
use Rattle.chk_sink.proofs.NumberBytes.{read_whole, missing_read}
use Rattle.chk_sink.proofs.Holding.{told_by}
use Rattle.chk_sink.proofs.Questions.{same_word}
use Rattle.chk_sink.proofs.Quiet.{file_left}

-- one step more
quiet_more : (who : Who) (x : Stem) (earlier : History) (Q R : History → Type 0) (history : History) (step : Step)
    → (leaves_sink who x step ≡ true → Q history → R (step ∷ history))
    → QuietSince who x earlier Q history → QuietSince who x earlier R (step ∷ history)
quiet_more who x earlier Q R history step next h = record {
  added = step ∷ h.added;
  goes_on = ap (λ l. step ∷ l) h.goes_on;
  holds =
      λ all.
      let p = and_parts (leaves_sink who x step) (all_leave who x h.added) all in
      next p.0 (h.holds p.1);
}

module _ (stamped : List (List ℕ)) (s : State) (earlier : History) (named : IsTrue (is_collector s.collector)) (x : Stem)
    (good : IsTrue (is_stem x)) where
  abbrev Any : History → Type 0
  Any history = Unit {0}

  abbrev NotDone : History → Type 0
  NotDone history = file (files_after history) (DoneFile x) ≡ None

  abbrev HasLength : ℕ → History → Type 0
  HasLength n history = n ≡ committed_length (files_after history) x

  abbrev Since : (History → Type 0) → History → Type 0
  Since Q = QuietSince (process s) x earlier Q

  any_stays : Stays stamped (process s) (Since Any)
  any_stays history step legal f h = quiet_more (process s) x earlier Any Any history step (λ left u. tt) h

  open_stays : Stays stamped (process s) (Since NotDone)
  open_stays history step legal f h =
      quiet_more (process s) x earlier NotDone NotDone history step
      (λ left none. file_left x (DoneFile x) good (stem_self x) (process s) history step f.obeys.honest.modelled f.other left ∙ none) h

  -- ---- the length of the done sink

  module _ (w : List ℕ) (w_is : w ≡ spell (DoneFile x)) where
    abbrev AskSize : Asked
    AskSize = asked (process s) Size (w ∷ []) 0 0

    abbrev AfterSize : Option ℕ → History → Type 0
    AfterSize (Some n) = Since (HasLength n)
    AfterSize None = Since NotDone

    size_may : MayCall stamped AskSize named (Since Any)
    size_may before answer files logs legal h = record { own_files = tt; logs = tt; requests = tt; rule = tt }

    size_leaves : (taken : Option ℕ) → LeavesCall stamped AskSize named (Since Any) (Took sized taken) (AfterSize taken)
    size_leaves (Some n) before answer files logs took legal h =
        let step = own_step AskSize answer files logs in
        let goes = goes_on_taken sized (Some n) answer (λ value. tt) took in
        let there = size_there n (files_after before w) (subst (λ a. AtSize a (files_after before w)) took legal.1.honest.agrees) in
        let done : file files (DoneFile x) ≡ Some there.0 =
        same_word s before step refl legal.1.honest.modelled tt goes (spell (DoneFile x)) ∙ (ap (files_after before) (sym w_is) ∙ there.1) in
        quiet_more (process s) x earlier Any (HasLength n) before step
        (λ left u. size_just n (file files (DoneFile x)) (file files (MarkFile x)) there.0 done there.2) h
    size_leaves None before answer files logs took legal h =
        let step = own_step AskSize answer files logs in
        let goes = goes_on_taken sized None answer (λ value. tt) took in
        let gone = size_missing answer (files_after before w) took legal.1.honest.agrees in
        quiet_more (process s) x earlier Any NotDone before step
        (λ left u. same_word s before step refl legal.1.honest.modelled tt goes (spell (DoneFile x)) ∙ (ap (files_after before) (sym w_is) ∙ gone)) h

    size_taken : (given : Result ℕ CallFault) (taken : Option ℕ) {old new : Option History} → IsTaken given taken
        → Adds old new (Calls AskSize (answered sized given))
        → Adds old new (Leads (As stamped (process s)) (IsToldAt stamped s earlier) (AtTold stamped (process s) (AfterSize taken)))
    size_taken given taken is told =
        leads_as (λ h x. told_by h (λ e. record { added = []; goes_on = e; holds = λ all. tt }) x) (λ h x. x)
        (told_taken stamped AskSize named (Since Any) (AfterSize taken) sized given taken any_stays size_may (λ value. tt) (size_leaves taken) is told)

  -- ---- the mark

  module _ (w : List ℕ) (w_is : w ≡ spell (MarkFile x)) where
    abbrev AskMark : Asked
    AskMark = asked (process s) Read (w ∷ []) 0 9

    abbrev AfterMark : Option (List ℕ) → History → Type 0
    AfterMark (Some bytes) = Since (HasLength (spelled bytes))
    AfterMark None = Since (HasLength 0)

    mark_may : MayCall stamped AskMark named (Since NotDone)
    mark_may before answer files logs legal h = record { own_files = tt; logs = tt; requests = tt; rule = tt }

    mark_leaves : (taken : Option (List ℕ)) → LeavesCall stamped AskMark named (Since NotDone) (Took bytes_given taken) (AfterMark taken)
    mark_leaves (Some bytes) before answer files logs took legal h =
        let step = own_step AskMark answer files logs in
        let goes = goes_on_taken bytes_given (Some bytes) answer (λ value. tt) took in
        let modelled = legal.1.honest.modelled in
        let there = read_there bytes 0 9 (files_after before w) (subst (λ a. AtRead a 0 9 (files_after before w)) took legal.1.honest.agrees) in
        let D = file files (DoneFile x) in
        let M = file files (MarkFile x) in
        let mark : M ≡ Some there.0 =
        same_word s before step refl modelled tt goes (spell (MarkFile x)) ∙ (ap (files_after before) (sym w_is) ∙ there.1) in
        let is_mark_file = same_mark M there.0 (shape stamped (step ∷ before) legal x good).mark mark in
        quiet_more (process s) x earlier NotDone (HasLength (spelled bytes)) before step
        (λ left none.
        subst (λ b. spelled b ≡ committed_length files x) (sym (read_whole bytes there.0 there.2 is_mark_file.0.1))
        (mark_just D M there.0 (same_word s before step refl modelled tt goes (spell (DoneFile x)) ∙ none) mark)) h
    mark_leaves None before answer files logs took legal h =
        let step = own_step AskMark answer files logs in
        let goes = goes_on_taken bytes_given None answer (λ value. tt) took in
        let modelled = legal.1.honest.modelled in
        let gone = missing_read answer 9 (files_after before w) took legal.1.honest.agrees in
        quiet_more (process s) x earlier NotDone (HasLength 0) before step
        (λ left none.
        none_just (file files (DoneFile x)) (file files (MarkFile x))
        (same_word s before step refl modelled tt goes (spell (DoneFile x)) ∙ none)
        (same_word s before step refl modelled tt goes (spell (MarkFile x)) ∙ (ap (files_after before) (sym w_is) ∙ gone))) h

    mark_taken : (given : Result (List ℕ) CallFault) (taken : Option (List ℕ)) {old new : Option History} → IsTaken given taken
        → Adds old new (Calls AskMark (answered bytes_given given))
        → Adds old new (Leads (As stamped (process s)) (OpenSince stamped s earlier x) (AtTold stamped (process s) (AfterMark taken)))
    mark_taken given taken is told =
        told_taken stamped AskMark named (Since NotDone) (AfterMark taken) bytes_given given taken open_stays mark_may (λ value. tt)
        (mark_leaves taken) is told

-- ---- by the results of the questions

module _ (stamped : List (List ℕ)) (s : State) (earlier : History) (who : Who) (asks : IsAsker who s) (x : Stem) (good : IsTrue (is_stem x)) where
  module _ (w : List ℕ) (w_is : w ≡ spell (DoneFile x)) (made : Result (Option ℕ) OutsideFault) {old new : Option History}
      (m : TakenOnce (asked who Size (w ∷ []) 0 0) sized made old new) where
    -- the done sink is there
    pub size_exact : (n : ℕ) → made ≡ Ok (Some n)
        → Adds old new (Leads (As stamped (process s)) (IsToldAt stamped s earlier) (ExactSince stamped s earlier x n))
    size_exact n e =
        let k = rw (asks.who_is, e) at m in
        size_taken stamped s earlier asks.named x good w w_is k.given (Some n) k.came k.told

    -- it isn't
    pub size_open : made ≡ Ok None → Adds old new (Leads (As stamped (process s)) (IsToldAt stamped s earlier) (OpenSince stamped s earlier x))
    size_open e =
        let k = rw (asks.who_is, e) at m in
        size_taken stamped s earlier asks.named x good w w_is k.given None k.came k.told

  module _ (w : List ℕ) (w_is : w ≡ spell (MarkFile x)) (made : Result (Option (List ℕ)) OutsideFault) {old new : Option History}
      (m : TakenOnce (asked who Read (w ∷ []) 0 9) bytes_given made old new) where
    -- the mark is there
    pub mark_exact : (bytes : List ℕ) (n : ℕ) → made ≡ Ok (Some bytes) → n ≡ spelled bytes
        → Adds old new (Leads (As stamped (process s)) (OpenSince stamped s earlier x) (ExactSince stamped s earlier x n))
    mark_exact bytes n e is =
        let k = rw (asks.who_is, e) at m in
        rw is (mark_taken stamped s earlier asks.named x good w w_is k.given (Some bytes) k.came k.told)

    -- it isn't
    pub unmarked_exact : made ≡ Ok None → Adds old new (Leads (As stamped (process s)) (OpenSince stamped s earlier x) (ExactSince stamped s earlier x 0))
    unmarked_exact e =
        let k = rw (asks.who_is, e) at m in
        mark_taken stamped s earlier asks.named x good w w_is k.given None k.came k.told

-- what the question for the mark says, of the number that it gives
abbrev pub MarkExact : Who → Stem → Option History → Option History → ℕ → Type 0
MarkExact who x old new n =
    (stamped : List (List ℕ)) (s : State) (earlier : History) → IsAsker who s
    → Adds old new (Leads (As stamped (process s)) (OpenSince stamped s earlier x) (ExactSince stamped s earlier x n))

pub number_exact : (who : Who) (x : Stem) (good : IsTrue (is_stem x)) (w : List ℕ) → w ≡ spell (MarkFile x)
    → (made : Result (Option (List ℕ)) OutsideFault) {old new : Option History} → TakenOnce (asked who Read (w ∷ []) 0 9) bytes_given made old new
    → (bytes : List ℕ) (result : Result ℕ SinkFault) → made ≡ Ok (Some bytes) → IsMarkNumber w bytes result
    → IfOk result (MarkExact who x old new)
number_exact who x good w w_is made m bytes (Ok n) e is = λ stamped s earlier asks. mark_exact stamped s earlier who asks x good w w_is made m bytes n e is.1
number_exact who x good w w_is made m bytes (Err fault) e is = tt
