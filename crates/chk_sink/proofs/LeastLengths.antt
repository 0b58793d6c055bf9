-- The committed length that a question gives is at least what stays committed meanwhile.
use Rattle.std.proofs.Common.{◌≡◌, ℕ, ◌≤◌, ◌<◌, false, List, [], ◌∷◌, ◌++◌, Option, Some, None, Result, Ok, Err, ap, sym, subst, ◌∙◌, refl, arith, append_assoc}
use Rattle.std.specs.Prelude.{IsTrue, IfOk}
use Rattle.chk_bytes.specs.Numbers.{spelled, limit}
use Rattle.chk_bytes.specs.Stems.{Stem, is_stem}
use Rattle.chk_site.specs.declared.acts.Who.{Who}
use Rattle.chk_site.specs.declared.acts.Call.TheVariants.{Size, Read}
use Rattle.chk_site.specs.declared.acts.OutsideFault.{OutsideFault}
use Rattle.chk_site.specs.declared.acts.ActAnswer.{ActAnswer}
use Rattle.chk_site.specs.Files.{File}
use Rattle.chk_site.specs.History.{History, Every, IsTheirs, Others, files_after}
use Rattle.chk_site.specs.Honest.{AtSize, AtRead}
use Rattle.chk_site.specs.Site.{Adds, Asked, Acted, asked, own_step, sized, bytes_given, Took}
use Rattle.chk_site.proofs.Runs.{adds_as, adds_then, every_early, every_late, taken_answer}
use Rattle.chk_world.specs.Names.{MarkFile, DoneFile, spell, file}
use Rattle.chk_world.specs.Committed.{OnFile, committed_length, committed_of, number_in}
use Rattle.chk_world.specs.Laws.{IsMark}
use Rattle.chk_world.specs.Places.{Foreign}
use Rattle.chk_world.specs.Rules.{Legal}
use Rattle.chk_world.proofs.AppendsStand.{wrote_small}
use Rattle.chk_world.proofs.Frames.{files_stay}
use Rattle.chk_world.proofs.Law.{shape}
use Rattle.chk_world.proofs.ToldCalls.{GoesOn, goes_on_taken}
use Rattle.chk_sink.specs.States.{State, process}
use Rattle.chk_sink.specs.Asking.{TakenOnce, IsMarkNumber}
use Rattle.chk_sink.specs.Least.{AtLeast, EachFront, IsLeast, ReadsMark, StaysReached}
use Rattle.chk_sink.specs.declared.fault.SinkFault.{SinkFault}
use Rattle.chk_sink.proofs.AskedLengths.{size_there, size_missing, read_there, same_mark}
use Rattle.chk_sink.proofs.NumberBytes.{read_whole, missing_read}
use Rattle.chk_sink.proofs.Questions.{same_word}
use Rattle.chk_world.proofs.Rounds.{legal_front}

-- ---- the fronts of some steps

pub front_last : (P : History → Type 0) (added history : History) → EachFront P added history
    → P (added ++ history)
front_last P [] history h = h
front_last P (step ∷ added) history h = h.1

pub fronts_early : (P : History → Type 0) (b a history : History) → EachFront P (b ++ a) history
    → EachFront P a history
fronts_early P [] a history h = h
fronts_early P (step ∷ b) a history h = fronts_early P b a history h.0

pub fronts_late : (P : History → Type 0) (b a history : History) → EachFront P (b ++ a) history
    → EachFront P b (a ++ history)
fronts_late P [] a history h = front_last P a history h
fronts_late P (step ∷ b) a history h = (
  fronts_late P b a history h.0,
  subst (λ l. P (step ∷ l)) (append_assoc b a history) h.1,
)

-- what holds all the while holds before and behind
pub early : {stamped : List (List ℕ)} {who : Who} {x : Stem} {k : ℕ} (b a history : History)
    → StaysReached stamped who x k (b ++ a) history → StaysReached stamped who x k a history
early {stamped = stamped} {who = who} {x = x} {k = k} b a history h = record {
  legal = legal_front stamped b (a ++ history) (subst (Legal stamped) (append_assoc b a history) h.legal);
  others = every_early (λ before step. step.own ≡ false → Foreign stamped who before step) b a history h.others;
  reached = fronts_early (λ h. k ≤ committed_length (files_after h) x) b a history h.reached;
}

pub late : {stamped : List (List ℕ)} {who : Who} {x : Stem} {k : ℕ} (b a history : History)
    → StaysReached stamped who x k (b ++ a) history → StaysReached stamped who x k b (a ++ history)
late {stamped = stamped} {who = who} {x = x} {k = k} b a history h = record {
  legal = subst (Legal stamped) (append_assoc b a history) h.legal;
  others = every_late (λ before step. step.own ≡ false → Foreign stamped who before step) b a history h.others;
  reached = fronts_late (λ h. k ≤ committed_length (files_after h) x) b a history h.reached;
}

-- ---- the mark

mark_small : (o : Option File) → OnFile o IsMark → number_in o < limit
mark_small None h = omega arith
mark_small (Some m) h = h.0.2

module _ (who : Who) (x : Stem) (good : IsTrue (is_stem x)) (w : List ℕ) (w_is : w ≡ spell (MarkFile x)) where
  abbrev AskMark : Asked
  AskMark = asked who Read (w ∷ []) 0 9

  -- the number that is read, where the mark is there or not
  abbrev number_of : Option (List ℕ) → ℕ
  number_of None = 0
  number_of (Some bytes) = spelled bytes

  is_number : (taken : Option (List ℕ)) (answer : ActAnswer) → Took bytes_given taken answer
      → (before : History) → AtRead answer 0 9 (files_after before w)
      → (stamped : List (List ℕ)) → Legal stamped before
      → number_of taken ≡ number_in (file (files_after before) (MarkFile x))
  is_number (Some bytes) answer took before agrees stamped legal =
      let there = read_there bytes 0 9 (files_after before w) (subst (λ a. AtRead a 0 9 (files_after before w)) took agrees) in
      let mark : file (files_after before) (MarkFile x) ≡ Some there.0 = ap (files_after before) (sym w_is) ∙ there.1 in
      let is = same_mark (file (files_after before) (MarkFile x)) there.0 (shape stamped before legal x good).mark mark in
      ap spelled (read_whole bytes there.0 there.2 is.0.1) ∙ sym (ap number_in mark)
  is_number None answer took before agrees stamped legal =
      sym (ap number_in (ap (files_after before) (sym w_is) ∙ missing_read answer 9 (files_after before w) took agrees))

  reads : (taken : Option (List ℕ)) (n : ℕ) → n ≡ number_of taken → (made : Result (Option (List ℕ)) OutsideFault)
      → made ≡ Ok taken → {old new : Option History} → TakenOnce AskMark bytes_given made old new
      → Adds old new (ReadsMark x n)
  reads taken n is made e {old = old} {new = new} m =
      let k = subst (λ r. TakenOnce AskMark bytes_given r old new) e m in
      adds_as (ReadsMark x n) k.told (λ added history calls.
      let a = taken_answer bytes_given k.given taken k.came calls in
      let acted : Acted AskMark a.0 added history = a.2 in
      record {
        step = own_step AskMark a.0 acted.files acted.logs;
        earlier = acted.others;
        added_is = acted.added_is;
        theirs = acted.theirs;
        number = λ stamped legal. is ∙ is_number taken a.0 a.1 (acted.others ++ history) acted.honest.agrees stamped legal;
      })

  -- what is read of the mark
  pub reads_number : (made : Result (Option (List ℕ)) OutsideFault) {old new : Option History}
      → TakenOnce AskMark bytes_given made old new → (bytes : List ℕ) (result : Result ℕ SinkFault)
      → made ≡ Ok (Some bytes) → IsMarkNumber w bytes result
      → IfOk result (λ n. Adds old new (ReadsMark x n))
  reads_number made m bytes (Ok n) e is = reads (Some bytes) n is.1 made e m
  reads_number made m bytes (Err fault) e is = tt

  pub reads_none : (made : Result (Option (List ℕ)) OutsideFault) {old new : Option History}
      → TakenOnce AskMark bytes_given made old new → made ≡ Ok None → Adds old new (ReadsMark x 0)
  reads_none made m e = reads None 0 refl made e m

-- ---- the length of the done sink, and the mark behind it

module _ (s : State) (x : Stem) (good : IsTrue (is_stem x)) (w : List ℕ) (w_is : w ≡ spell (DoneFile x)) where
  abbrev C : Who
  C = process s

  abbrev AskSize : Asked
  AskSize = asked C Size (w ∷ []) 0 0

  -- behind steps of others alone, the done sink wasn't there
  record IsNotDone (added history : History) : Type 0 where
    answer : ActAnswer
    acted : Acted AskSize answer added history
    goes : GoesOn answer
    none : file (files_after (acted.others ++ history)) (DoneFile x) ≡ None

  theirs_leave : (stamped : List (List ℕ)) → x.collector ≡ s.collector → (more history : History)
      → Every IsTheirs more history → Others (Foreign stamped C) more history
      → file (files_after (more ++ history)) (MarkFile x) ≡ file (files_after history) (MarkFile x)
  theirs_leave stamped own [] history theirs others = refl
  theirs_leave stamped own (step ∷ more) history theirs others =
      files_stay stamped C (more ++ history) step (MarkFile x) (others.1 theirs.1.0) (record { own = sym own; known = good })
      ∙ theirs_leave stamped own more history theirs.0 others.0

  asked_leaves : (a history : History) (h : IsNotDone a history)
      → file (files_after (a ++ history)) (MarkFile x) ≡ file (files_after (h.acted.others ++ history)) (MarkFile x)
  asked_leaves a history h =
      let step = own_step AskSize h.answer h.acted.files h.acted.logs in
      subst (λ l. file (files_after (l ++ history)) (MarkFile x) ≡ file (files_after (h.acted.others ++ history)) (MarkFile x))
      (sym h.acted.added_is)
      (same_word s (h.acted.others ++ history) step refl h.acted.honest.modelled tt h.goes (spell (MarkFile x)))

  unmarked : (k : ℕ) (done mark : Option File) → done ≡ None → k ≤ committed_of done mark → k ≤ number_in mark
  unmarked k done mark none h = subst (λ d. k ≤ committed_of d mark) none h

  both : (stamped : List (List ℕ)) (k n : ℕ) (a b history : History) → IsNotDone a history → ReadsMark x n b (a ++ history)
      → StaysReached stamped C x k (b ++ a) history → IsLeast C x k n
  both stamped k n a b history h y st =
      let behind = late b a history st in
      let legal = (subst (λ l. Legal stamped (l ++ (a ++ history))) y.added_is behind.legal).0 in
      let is = y.number stamped legal in
      record {
        small =
            let small = mark_small (file (files_after (y.earlier ++ (a ++ history))) (MarkFile x)) (shape stamped (y.earlier ++ (a ++ history)) legal x good).mark in
            omega (arith, is, small);
        least = λ own.
            let others = (subst (λ l. Others (Foreign stamped C) l (a ++ history)) y.added_is behind.others).0 in
            let same = theirs_leave stamped own y.earlier (a ++ history) y.theirs others ∙ asked_leaves a history h in
            let fronts = (subst (λ l. EachFront (λ f. k ≤ committed_length (files_after f) x) l history) h.acted.added_is (early b a history st).reached).0 in
            let reached = front_last (λ f. k ≤ committed_length (files_after f) x) h.acted.others history fronts in
            let most = unmarked k (file (files_after (h.acted.others ++ history)) (DoneFile x))
            (file (files_after (h.acted.others ++ history)) (MarkFile x)) h.none reached in
            subst (λ m. k ≤ m) (sym (is ∙ ap number_in same)) most;
      }

  module _ (made : Result (Option ℕ) OutsideFault) {old new : Option History} (m : TakenOnce AskSize sized made old new) where
    -- it is done
    pub least_done : (n : ℕ) → made ≡ Ok (Some n) → AtLeast C x n old new
    least_done n e stamped k =
        let t = subst (λ r. TakenOnce AskSize sized r old new) e m in
        adds_as (λ added history. StaysReached stamped C x k added history → IsLeast C x k n) t.told (λ added history calls st.
        let a = taken_answer sized t.given (Some n) t.came calls in
        let acted : Acted AskSize a.0 added history = a.2 in
        let before = acted.others ++ history in
        let there = size_there n (files_after before w) (subst (λ a. AtSize a (files_after before w)) a.1 acted.honest.agrees) in
        let done : file (files_after before) (DoneFile x) ≡ Some there.0 = ap (files_after before) (sym w_is) ∙ there.1 in
        let is : committed_length (files_after before) x ≡ n =
        ap (λ o. committed_of o (file (files_after before) (MarkFile x))) done ∙ sym there.2 in
        let legal = (subst (λ l. Legal stamped (l ++ history)) acted.added_is st.legal).0 in
        let fronts = (subst (λ l. EachFront (λ f. k ≤ committed_length (files_after f) x) l history) acted.added_is st.reached).0 in
        let reached = front_last (λ f. k ≤ committed_length (files_after f) x) acted.others history fronts in
        let wrote = (shape stamped before legal x good).committed in
        let small = wrote_small stamped before legal x in
        record { small = omega (arith, is, wrote, small); least = λ own. omega (arith, is, reached) })

    -- it isn't, and then its mark is read
    pub least_marked : (n : ℕ) → made ≡ Ok None → {next : Option History} → Adds new next (ReadsMark x n) → AtLeast C x n old next
    least_marked n e reads stamped k =
        let t = subst (λ r. TakenOnce AskSize sized r old new) e m in
        adds_then (λ added history. StaysReached stamped C x k added history → IsLeast C x k n) t.told reads (λ a b history calls y st.
        let z = taken_answer sized t.given None t.came calls in
        let acted : Acted AskSize z.0 a history = z.2 in
        both stamped k n a b history
        (record {
          answer = z.0;
          acted = acted;
          goes = goes_on_taken sized None z.0 (λ value. tt) z.1;
          none = ap (files_after (acted.others ++ history)) (sym w_is)
              ∙ size_missing z.0 (files_after (acted.others ++ history) w) z.1 acted.honest.agrees;
        }) y st)
