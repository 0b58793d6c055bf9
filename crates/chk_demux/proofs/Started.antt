-- The start of the job leaves the records.
use Rattle.std.proofs.Common.{◌≡◌, ℕ, inl, inr, Bool, true, false, ◌&&◌, List, [], ◌∷◌, Option, None, Ok, Err, Result, ap, sym, ◌∙◌, refl, true≢false, if◌then◌else◌}
use Rattle.std.specs.Prelude.{MatchResult}
use Rattle.std.proofs.lemmas.List.Elements.{Contains-append_left}
use Rattle.chk_site.specs.declared.acts.OutsideFault.{OutsideFault}
use Rattle.chk_site.specs.declared.acts.CallFault.{CallFault}
use Rattle.chk_site.specs.declared.acts.ActAnswer.{ActAnswer}
use Rattle.chk_site.specs.declared.acts.Call.TheVariants.{Start}
use Rattle.chk_site.specs.Files.{Files}
use Rattle.chk_site.specs.Acts.{is_done}
use Rattle.chk_site.specs.History.{Step, History, Every, files_after}
use Rattle.chk_site.specs.Site.{Adds, Asked, asked, own_step, answered, plain, WasDone, IsDone, Calls, Ends}
use Rattle.chk_site.specs.Runs.{Leads}
use Rattle.chk_site.proofs.Runs.{adds_as, adds_both}
use Rattle.chk_site.proofs.Leads.{Shows, leads_as, done_leads, ends_leads}
use Rattle.chk_replace.proofs.CallSteps.{OfOwn, call_each}
use Rattle.chk_chunk.specs.Keys.{Chunk}
use Rattle.chk_world.specs.Names.{Folder, DemuxFolder, Name, BookFile, SegmentFile, file, is_known}
use Rattle.chk_world.specs.Books.{Segment, Book, book_in, book_of, chunks_in, segment_chunks}
use Rattle.chk_world.specs.Jobs.{segment_list}
use Rattle.chk_world.specs.Places.{As, Foreign}
use Rattle.chk_world.specs.Rules.{Legal}
use Rattle.chk_world.specs.Sight.{job, Sight, sight, is_job_file, own_files, own_book, own_chunks, AtJob}
use Rattle.chk_world.specs.JobSteps.{IsOf}
use Rattle.chk_world.proofs.SmallFiles.{readable}
use Rattle.chk_world.proofs.Segments.{counts_in, flat_same}
use Rattle.chk_world.proofs.SightStays.{sight_stays}
use Rattle.chk_world.proofs.OwnFiles.{done_file, refused_file}
use Rattle.chk_world.proofs.ToldCalls.{owned, told_start}
use Rattle.chk_record_index.specs.Pieces.{AsksInPieces}
use Rattle.chk_demux.specs.Demuxed.{Earlier, Begun, all_named}
use Rattle.chk_demux.specs.Beginning.{own_earlier, HasRecords, HasStarted, Begins, starts}
use Rattle.chk_demux.specs.Working.{Worked, job_result}
use Rattle.chk_archive_parts.proofs.Works.{as_job}
use Rattle.chk_book.proofs.Works.{worked}
use Rattle.chk_archive_parts.proofs.Beginning.{no_read, start_last}

abbrev pub StartQ : Asked
StartQ = asked job Start [] 0 0

-- the job knows all that the segments of a folder's book hold
pub named_known : (stamped : List (List ℕ)) (history : History) → Legal stamped history → (folder : Folder)
    → own_chunks (sight history) folder (own_book (sight history) folder).segments ≡ all_named (files_after history) folder
named_known stamped history legal folder =
    flat_same (λ (g : Segment). chunks_in (own_files (files_after history) (SegmentFile folder g.number)))
    (segment_chunks (files_after history) folder) b.segments
    (λ g one. ap (λ k. chunks_in (if k then file (files_after history) (SegmentFile folder g.number) else None))
    (counts_in (file (files_after history) (BookFile folder)) ((readable stamped history legal).books folder) g
    (Contains-append_left b.segments (segment_list b.aside) g one)))
  where
    b : Book
    b = book_of (files_after history) folder

abbrev earlier_of : List Chunk → Book → Earlier
earlier_of records b = record { records = records; segments = b.segments; next = b.next }

own_same : (f g : Files) (n : Name) → (is_known n ≡ true → file f n ≡ file g n) → own_files f n ≡ own_files g n
own_same f g n same = go (is_job_file n) (is_known n) same
  where
    go : (a b : Bool) → (b ≡ true → file f n ≡ file g n)
        → (if a && b then file f n else None) ≡ (if a && b then file g n else None)
    go false b s = refl
    go true true s = s refl
    go true false s = refl

records_same : (u v : Sight) → ((n : Name) → u.own n ≡ v.own n) → own_earlier u ≡ own_earlier v
records_same u v same =
    ap (λ (b : Book). earlier_of (own_chunks u DemuxFolder b.segments) b) (ap book_in (same (BookFile DemuxFolder)))
    ∙ ap (λ l. earlier_of l (own_book v DemuxFolder)) (flat_same (λ (g : Segment). chunks_in (u.own (SegmentFile DemuxFolder g.number)))
    (λ (g : Segment). chunks_in (v.own (SegmentFile DemuxFolder g.number))) (own_book v DemuxFolder).segments
    (λ g one. ap chunks_in (same (SegmentFile DemuxFolder g.number))))

abbrev Ready : List (List ℕ) → Earlier → History → Type 0
Ready stamped before history = Legal stamped history × (own_earlier (sight history) ≡ before)

ready : (stamped : List (List ℕ)) (before : Earlier) (h : History) → Begun stamped before h → Ready stamped before h
ready stamped before h k = (
  k.0,
  ap (λ l. earlier_of l (own_book (sight h) DemuxFolder)) (named_known stamped h k.0 DemuxFolder) ∙ k.1,
)

module _ (stamped : List (List ℕ)) (all : Earlier) where
  keeps : (before : History) (step : Step) → Ready stamped all before
      → (f : Foreign stamped job before step)
      → Ready stamped all (step ∷ before)
  keeps before step h f = (
    (h.0, f.obeys),
    ap own_earlier (sight_stays stamped before step h.0 f) ∙ h.1,
  )

  records_stay : (answer : ActAnswer) → WasDone answer
      → Shows (Ready stamped all) (λ h. own_earlier (sight h) ≡ all) StartQ answer
  records_stay answer was before files logs running honest h =
      records_same (sight (step ∷ before)) (sight before)
      (λ n. own_same files (files_after before) n (λ known. same n known (is_done answer) refl)) ∙ h.1
    where
      step : Step
      step = own_step StartQ answer files logs

      same : (n : Name) → is_known n ≡ true → (b : Bool) → is_done answer ≡ b
          → file files n ≡ file (files_after before) n
      same n known true e = done_file before step n honest e known
      same n known false e = refused_file before step n honest was e

  started : (given : Result (Unit {0}) CallFault) {old new : Option History} → IsDone given
      → Adds old new (Calls StartQ (answered plain given))
      → Adds old new (Leads (As stamped job) (Ready stamped all) (AtJob stamped (HasRecords all)))
  started given is told =
      adds_both (Leads (As stamped job) (Ready stamped all) (AtJob stamped (HasRecords all)))
      (told_start stamped job (λ h. Unit {0}) given refl
      (λ before answer files logs was legal. tt) is told)
      (done_leads {S = As stamped job} {B = λ h. own_earlier (sight h) ≡ all} given (owned stamped StartQ refl) is
      (λ before step theirs f h. keeps before step h f) records_stay told)
      (λ added history x y. record {
        leads = λ others h.
            let z = x.leads others h.0 in
            record { legal = z.legal; may_act = z.may_act; alive = λ runs. y.leads others h };
        own = x.own;
      })

  not_started : (given : Result (Unit {0}) CallFault) (fault : OutsideFault) {old new : Option History}
      → Ends StartQ.call given fault → Adds old new (Calls StartQ (answered plain given))
      → Adds old new (Leads (As stamped job) (Ready stamped all) (Legal stamped))
  not_started given fault ends told =
      leads_as (λ h k. k.0) (λ h k. k)
      (ends_leads (λ f. Legal stamped) plain given fault (owned stamped StartQ refl) ends
      (λ before step theirs f h. (h, f.obeys))
      (λ before files logs running honest h. (
        h,
        record { honest = honest; named = refl; starts = tt; own_files = tt; logs = tt; requests = tt; rule = (refl, tt) },
      ))
      (λ left before files logs running honest h. (
        h,
        record { honest = honest; named = refl; starts = tt; own_files = tt; logs = tt; requests = tt; rule = (refl, tt) },
      ))
      (λ before stopped h. h) (λ before h. h) told)

  -- by the call's result
  pub start_so : (r : Result (Unit {0}) OutsideFault) (given : Result (Unit {0}) CallFault) {old new : Option History}
      → MatchResult r (λ _. IsDone given) (λ fault. Ends StartQ.call given fault)
      → Adds old new (Calls StartQ (answered plain given))
      → Adds old new (Leads (As stamped job) (Begun stamped all) (HasStarted stamped all r))
  start_so (Ok value) given is told =
      leads_as (λ h k. ready stamped all h k) (λ h k. k) (started given is told)
  start_so (Err fault) given ends told =
      leads_as (λ h k. ready stamped all h k) (λ h k. k) (not_started given fault ends told)

start_is : OfOwn (IsOf Begins) StartQ
start_is before answer files logs running honest =
    inr (record { own = refl; running = running; honest = honest; by = refl }, starts)

pub start_works : (r : Result (Unit {0}) OutsideFault) (given : Result (Unit {0}) CallFault) {old new : Option History}
    → MatchResult r (λ _. IsDone given) (λ fault. Ends StartQ.call given fault)
    → Adds old new (Calls StartQ (answered plain given)) → Adds old new (Worked Begins (job_result r))
start_works r given is told =
    worked Begins (job_result r)
    (adds_as (Every (IsOf Begins)) told
    (λ added history calls. call_each (IsOf Begins) (answered plain given)
    (λ before step theirs. inl theirs) start_is calls))
    (adds_as (Every AsksInPieces) told
    (λ added history calls. call_each AsksInPieces (answered plain given)
    (λ before step theirs mine name at max is. absurd (true≢false (sym mine ∙ theirs.0)))
    (λ before answer files logs running honest mine name at max is. absurd (no_read name at max is)) calls))
    (as_job r (start_last r given is told))
