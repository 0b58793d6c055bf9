-- The rules allow the job to print the lines of its report.
use Rattle.std.proofs.Common.{◌≡◌, ◌⊎◌, inl, inr, ℕ, ◌≤◌, Bool, true, false, List, [], ◌∷◌, Option, Ok, Err, Result, MatchBool, length, map, ◌&&◌, None, if◌then◌else◌, ap, sym, subst, ◌∙◌, refl}
use Rattle.std.specs.Prelude.{IsTrue}
use Rattle.chk_site.specs.declared.acts.OutsideFault.{OutsideFault}
use Rattle.chk_site.specs.declared.acts.Call.TheVariants.{Say}
use Rattle.chk_site.specs.declared.acts.CallFault.{CallFault}
use Rattle.chk_site.specs.declared.acts.ActAnswer.{ActAnswer}
use Rattle.chk_site.specs.Files.{Files}
use Rattle.chk_site.specs.Logs.{Logs}
use Rattle.chk_site.specs.Acts.{tail_in}
use Rattle.chk_site.specs.History.{Step, History, files_after}
use Rattle.chk_site.specs.Honest.{Honest}
use Rattle.chk_site.specs.Site.{Adds, own_step, plain, answered, Calls, Ends}
use Rattle.chk_site.specs.Runs.{Leads}
use Rattle.chk_site.proofs.Stays.{unnamed_stays}
use Rattle.chk_site.proofs.Leads.{leads_as, leads_then, leads_none}
use Rattle.chk_bytes.specs.Stems.{Stem}
use Rattle.chk_world.specs.Names.{ArchiveFolder, Name, DoneFile, spell, is_known}
use Rattle.chk_world.specs.Books.{Book, End, book_of}
use Rattle.chk_world.specs.ArchiveRuns.{Listing, last_listing, is_one_line, is_report, report}
use Rattle.chk_world.specs.Jobs.{RanSo, TrueReport, ReportIsTrue}
use Rattle.chk_world.specs.Rules.{Legal}
use Rattle.chk_world.specs.Places.{As, AtTold}
use Rattle.chk_world.specs.Sight.{Sight, sight, job, is_job_file, own_files, own_book, listed_sinks, shows_done}
use Rattle.chk_world.proofs.PlacesStay.{Stays}
use Rattle.chk_world.proofs.SightStays.{sight_stays}
use Rattle.chk_world.proofs.ToldCalls.{MayCall, told_ok, told_ends}
use Rattle.chk_archive.specs.Archived.{RunDone}
use Rattle.chk_archive.specs.Reports.{Report}
use Rattle.chk_cmd_output.specs.Printing.{PrintsInTurn, all_printed, unprinted, printed_on, ended, printing}
use Rattle.chk_cmd_archive.specs.Telling.{stream_line, report_lines}
use Rattle.chk_archive.proofs.WrittenStays.{written_same}
use Rattle.chk_cmd_archive.proofs.Lines.{line_is_report, end_is_no_report}
use Rattle.chk_cmd_archive.proofs.RunStays.{last_same, run_same}

-- a line that a run with this report may print: it is the report, or none
abbrev pub SaysTruly : Report → List ℕ → Type 0
SaysTruly r line = (line ≡ report r.unclosed r.taken r.held r.removed) ⊎ (is_report line ≡ false)

abbrev pub AllTruly : Report → List (List ℕ) → Type 0
AllTruly r [] = Unit {0}
AllTruly r (line ∷ lines) = SaysTruly r line × AllTruly r lines

-- by the result of the prints: the run is done still, or the history is legal
abbrev pub StaysDone : List (List ℕ) → Book → Report → Result (Unit {0}) OutsideFault → History → Type 0
StaysDone stamped loaded r (Ok value) history = AtTold stamped job (RunDone loaded r) history
StaysDone stamped loaded r (Err fault) history = Legal stamped history

pub in_any_case : {T : Type 0} (b : Bool) → T → MatchBool b T (Unit {0})
in_any_case true t = t
in_any_case false t = tt

module _ (stamped : List (List ℕ)) (loaded : Book) (r : Report) where
  -- a run that is done is done still where the job sees the same
  done_same : (h g : History) → Legal stamped h → Legal stamped g → sight g ≡ sight h → RunDone loaded r h → RunDone loaded r g
  done_same h g legal after same d =
      let book : book_of (files_after g) ArchiveFolder ≡ book_of (files_after h) ArchiveFolder = ap (λ (v : Sight). own_book v ArchiveFolder) same in
      record {
        listing = d.listing;
        last = last_same stamped h g legal after same ∙ d.last;
        ran = run_same stamped h g legal after same d.listing d.last r.unclosed r.taken r.held r.removed d.ran;
        first = d.first;
        ends = d.ends ∙ ap (λ (b : Book). b.ends) (sym book);
        no_stray = d.no_stray;
        merged = λ many. subst (λ (b : Book). length b.segments ≤ 2) (sym book) (d.merged many);
        written = written_same stamped h g legal same loaded d.listing d.written;
        numbers = d.numbers;
      }

  stays : Stays stamped job (RunDone loaded r)
  stays history step legal f d = done_same history (step ∷ history) legal (legal, f.obeys) (sight_stays stamped history step legal f) d

  report_true : (before : History) (line : List ℕ) → RunDone loaded r before → IsTrue (is_one_line line) → SaysTruly r line
      → ReportIsTrue before line
  report_true before line d one (inl is) = (
    one,
    in_any_case (is_report line)
        (record {
          unclosed = r.unclosed;
          taken = r.taken;
          held = r.held;
          removed = r.removed;
          is = is;
          ran = subst (λ (o : Option Listing). RanSo before o r.unclosed r.taken r.held r.removed) (sym d.last) d.ran;
        }),
  )
  report_true before line d one (inr other) = (one, subst (λ (b : Bool). MatchBool b (TrueReport before line) (Unit {0})) (sym other) tt)

  module _ (line : List ℕ) (one : IsTrue (is_one_line line)) (truly : SaysTruly r line) where
    may : MayCall stamped (printing job line) refl (RunDone loaded r)
    may before answer files logs legal d =
        record { own_files = tt; logs = tt; requests = tt; rule = (refl, report_true before line d one truly) }

    module _ (before : History) (answer : ActAnswer) (files : Files) (logs : Logs) (is : answer ≡ plain {T = Unit {0}} tt)
        (honest : Honest before (own_step (printing job line) answer files logs)) where
      files_same : (w : List ℕ) → files w ≡ files_after before w
      files_same w =
          unnamed_stays before (own_step (printing job line) answer files logs) w honest.modelled refl
          (ap (λ (a : ActAnswer). tail_in a w) is)

      print_sight : sight (own_step (printing job line) answer files logs ∷ before) ≡ sight before
      print_sight =
          let step : Step = own_step (printing job line) answer files logs in
          let own : (n : Name) → own_files files n ≡ own_files (files_after before) n =
          λ n. ap (λ o. if is_job_file n && is_known n then o else None) (files_same (spell n)) in
          let sinks : (x : Stem) → listed_sinks (last_listing (step ∷ before)) files x ≡ listed_sinks (last_listing before) (files_after before) x =
          λ x. ap (λ o. if shows_done (last_listing before) x then o else None) (files_same (spell (DoneFile x))) in
          λ i. record { listing = last_listing before; own = λ n. own n i; sinks = λ x. sinks x i }

    says_on : {old new : Option History} → Adds old new (Calls (printing job line) (Ok (plain {T = Unit {0}} tt)))
        → Adds old new (Leads (As stamped job) (AtTold stamped job (RunDone loaded r)) (AtTold stamped job (RunDone loaded r)))
    says_on told =
        told_ok stamped (printing job line) refl (RunDone loaded r) (RunDone loaded r) (plain {T = Unit {0}} tt) stays may tt
        (λ before answer files logs is legal d.
        done_same before (own_step (printing job line) answer files logs ∷ before) legal.0 legal
        (print_sight before answer files logs is legal.1.honest) d) told

    says_ends : (given : Result (Unit {0}) CallFault) (fault : OutsideFault) {old new : Option History} → Ends Say given fault
        → Adds old new (Calls (printing job line) (answered plain given))
        → Adds old new (Leads (As stamped job) (AtTold stamped job (RunDone loaded r)) (Legal stamped))
    says_ends given fault ends told =
        leads_as (λ h k. k) (λ h k. k.legal)
        (told_ends stamped (printing job line) refl (RunDone loaded r) (λ f h. Unit {0}) plain given fault stays may
        (λ before answer files logs is legal d. tt) (λ history d. tt) ends told)

  -- the lines of the report, printed in turn
  pub prints_lead : {lines : List (List ℕ)} {result : Result (Unit {0}) OutsideFault} {old new : Option History} → AllTruly r lines
      → PrintsInTurn job lines result old new
      → Adds old new (Leads (As stamped job) (AtTold stamped job (RunDone loaded r)) (StaysDone stamped loaded r result))
  prints_lead all all_printed = leads_none _ (λ h k. k)
  prints_lead all unprinted = leads_none _ (λ h k. k.legal)
  prints_lead all (printed_on {line = line} one told rest) = leads_then (says_on line one all.0 told) (prints_lead all.1 rest)
  prints_lead all (ended {line = line} {fault = fault} given one ends told) = says_ends line one all.0 given fault ends told

-- the lines of a report are such ones
ends_truly : (r : Report) (ends : List End) → AllTruly r (map stream_line ends)
ends_truly r [] = tt
ends_truly r (e ∷ ends) = (inr (end_is_no_report e.stream.source e.stream.kind e.stream.name e.end), ends_truly r ends)

pub lines_truly : (r : Report) → AllTruly r (report_lines r)
lines_truly r = (inl (line_is_report r.unclosed r.taken r.held r.removed), ends_truly r r.ends)
