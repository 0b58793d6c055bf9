-- The questions for a sink's committed length.
use Rattle.std.proofs.Common.{◌≡◌, ℕ, Bool, true, false, List, ◌∷◌, None, ap, sym, ◌∙◌, refl}
use Rattle.std.specs.Prelude.{IsTrue}
use Rattle.std.proofs.lemmas.Bool.{and_right}
use Rattle.chk_bytes.specs.Stems.{Stem, is_stem}
use Rattle.chk_site.specs.declared.acts.ActAnswer.{ActAnswer}
use Rattle.chk_site.specs.declared.acts.ActAnswer.TheVariants.{Stopped}
use Rattle.chk_site.specs.Files.{Files}
use Rattle.chk_site.specs.Acts.{Deed, AsksSize, Reads, deed, touches, tail_in}
use Rattle.chk_site.specs.History.{Step, History, Modelled, files_after, is_by}
use Rattle.chk_site.proofs.Stays.{unnamed_stays}
use Rattle.chk_http_grammar.specs.Messages.{Ack}
use Rattle.chk_world.specs.Names.{MarkFile, DoneFile, spell, file}
use Rattle.chk_world.specs.Committed.{committed_length, committed_of}
use Rattle.chk_world.specs.Collectors.{View, Handling, view, own_view, gave, is_taking, leaves_sink}
use Rattle.chk_world.specs.Rules.{Legal}
use Rattle.chk_world.specs.Places.{Foreign}
use Rattle.chk_world.proofs.NameTests.{stem_self}
use Rattle.chk_world.proofs.PlacesStay.{Stays}
use Rattle.chk_world.proofs.ToldCalls.{GoesOn}
use Rattle.chk_world.proofs.CollectorCalls.{own_sight}
use Rattle.chk_sink.specs.States.{State, process}
use Rattle.chk_sink.specs.Asked.{Counts}
use Rattle.chk_sink.specs.Asking.{CountsOpen}
use Rattle.chk_sink.proofs.Holding.{HasStem, IsAlike, handles_alike, handles_stays}
use Rattle.chk_sink.proofs.Quiet.{file_left, quiet_on, length_on, lengths_on}
use Rattle.chk_sink.proofs.NoStem.{no_stem_files}

-- ---- steps of others

pub not_taken : (who : State) (t : ℕ) (step : Step) → is_by (process who) step ≡ false → is_taking (process who) t step ≡ false
not_taken s t step other = rw other refl

pub length_left : (stamped : List (List ℕ)) (s : State) (history : History) (step : Step) (x : Stem) → Legal stamped history
    → Foreign stamped (process s) history step → leaves_sink (process s) x step ≡ true
    → committed_length step.files x ≡ committed_length (files_after history) x
length_left stamped s history step x legal f left = go (is_stem x) refl
  where
    go : (b : Bool) → is_stem x ≡ b → committed_length step.files x ≡ committed_length (files_after history) x
    go true good =
        ap (λ d. committed_of d (file step.files (MarkFile x)))
        (file_left x (DoneFile x) good (stem_self x) (process s) history step f.obeys.honest.modelled f.other left)
        ∙ ap (committed_of (file (files_after history) (DoneFile x)))
        (file_left x (MarkFile x) good (stem_self x) (process s) history step f.obeys.honest.modelled f.other left)
    go false bad =
        let now = no_stem_files stamped (step ∷ history) (legal, f.obeys) x bad in
        let was = no_stem_files stamped history legal x bad in
        ap (λ d. committed_of d (file step.files (MarkFile x))) now.0
        ∙ ap (committed_of None) now.1
        ∙ sym (ap (λ d. committed_of d (file (files_after history) (MarkFile x))) was.0 ∙ ap (committed_of None) was.1)

module _ (stamped : List (List ℕ)) (s : State) (messages : List Handling) (t : ℕ) (stems : List Stem) (acks : List Ack)
    (stem : HasStem s) where
  pub counts_stay : Stays stamped (process s) (Counts s messages t stems acks)
  counts_stay history step legal f h = record {
    handles = handles_stays stamped s messages stem history step legal f h.handles;
    lengths = lengths_on (process s) t history step
        (λ a. length_on (process s) t history step a (not_taken s t step f.other) (length_left stamped s history step a.stem legal f)) stems acks h.lengths;
  }

  pub open_stays : (x : Stem) → IsTrue (is_stem x) → Stays stamped (process s) (CountsOpen s messages t stems acks x)
  open_stays x good history step legal f h = record {
    counts = counts_stay history step legal f h.counts;
    not_done =
        λ q.
        let p = quiet_on (process s) x t history step (not_taken s t step f.other) q in
        file_left x (DoneFile x) good (stem_self x) (process s) history step f.obeys.honest.modelled f.other p.0 ∙ h.not_done p.1;
  }

-- ---- own steps that only ask

-- the call asks for a file's length or for bytes of it
abbrev pub Asks : Deed → Type 0
Asks (AsksSize w) = Unit {0}
Asks (Reads w at max) = Unit {0}
Asks call = ⊥

asks_view : (call : Deed) (answer : ActAnswer) (before after : Files) (v : View) → Asks call → own_view before after v call answer ≡ v
asks_view (AsksSize w) answer before after v asks = refl
asks_view (Reads w at max) answer before after v asks = refl
asks_view call answer before after v asks = absurd (asks)

asks_none : (call : Deed) (name : List ℕ) → Asks call → touches call name ≡ false
asks_none (AsksSize w) name asks = refl
asks_none (Reads w at max) name asks = refl
asks_none call name asks = absurd (asks)

asks_gave : (call : Deed) (t : ℕ) (answer : ActAnswer) → Asks call → gave t call answer ≡ false
asks_gave (AsksSize w) t answer asks = refl
asks_gave (Reads w at max) t answer asks = refl
asks_gave call t answer asks = absurd (asks)

pub goes_tail : (answer : ActAnswer) (name : List ℕ) → GoesOn answer → tail_in answer name ≡ None
goes_tail (Stopped left) name goes = absurd goes
goes_tail answer name goes = refl

module _ (s : State) (before : History) (step : Step) (by : step.act.who ≡ process s) (modelled : Modelled before step)
    (asks : Asks (deed step.act)) (goes : GoesOn step.act.answer) where
  pub same_word : (w : List ℕ) → step.files w ≡ files_after before w
  same_word w = unnamed_stays before step w modelled (asks_none (deed step.act) w asks) (goes_tail step.act.answer w goes)

  pub asked_alike : IsAlike s before (step ∷ before)
  asked_alike = record {
    sight = own_sight (process s) before step by goes
        ∙ asks_view (deed step.act) step.act.answer (files_after before) step.files (view (process s) before) asks;
    sinks = λ x own good. same_word _;
    marks = λ x own good. same_word _;
  }

  pub same_length : (x : Stem) → committed_length step.files x ≡ committed_length (files_after before) x
  same_length x = rw (same_word (spell (DoneFile x)), same_word (spell (MarkFile x))) refl

  pub asked_untaken : (t : ℕ) → is_taking (process s) t step ≡ false
  asked_untaken t = and_right (is_by (process s) step) (gave t (deed step.act) step.act.answer) (asks_gave (deed step.act) t step.act.answer asks)

  pub asked_counts : (messages : List Handling) (t : ℕ) (stems : List Stem) (acks : List Ack) → HasStem s → Counts s messages t stems acks before
      → Counts s messages t stems acks (step ∷ before)
  asked_counts messages t stems acks stem h = record {
    handles = handles_alike s messages before (step ∷ before) stem asked_alike h.handles;
    lengths = lengths_on (process s) t before step
        (λ a. length_on (process s) t before step a (asked_untaken t) (λ left. same_length a.stem)) stems acks h.lengths;
  }
