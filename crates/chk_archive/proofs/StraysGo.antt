-- The removals of an archive's stray segments.
use Rattle.std.proofs.Common.{◌≡◌, ℕ, zero, suc, Bool, true, false, List, [], ◌∷◌, Option, Some, None, Ok, Result, ap, sym, subst, ◌∙◌, refl, arith, true≢false, not, cond, if◌then◌else◌, inl, inr, ◌⊎◌}
use Rattle.std.proofs.lemmas.Bool.{not-true}
use Rattle.chk_book.specs.Folders.{segment_stem}
use Rattle.std.specs.Prelude.{IsTrue, Contains, filter, map, codes}
use Rattle.chk_bytes.specs.Stems.{is_count}
use Rattle.chk_site.specs.declared.acts.OutsideFault.{OutsideFault}
use Rattle.chk_site.specs.declared.acts.CallFault.{CallFault}
use Rattle.chk_site.specs.declared.acts.ActAnswer.{ActAnswer}
use Rattle.chk_site.specs.Files.{File, Files}
use Rattle.chk_site.specs.Logs.{Logs}
use Rattle.chk_site.specs.History.{History, files_after}
use Rattle.chk_site.specs.Honest.{Honest, in_folder}
use Rattle.chk_site.specs.Site.{Adds, own_step, answered, plain, WasDone, IsDone, Calls, Ends}
use Rattle.chk_site.specs.Runs.{Leads, MadeInTurn}
use Rattle.chk_site.proofs.Leads.{leads_as, leads_then, script_then, script_end}
use Rattle.chk_world.specs.Names.{ArchiveFolder, SegmentFile, BookFile, spell, read, file}
use Rattle.chk_world.specs.Books.{Book, book_in}
use Rattle.chk_world.specs.Jobs.{is_named, OnlyArchivedSinksRemoved}
use Rattle.chk_world.specs.Rules.{Legal, may_remove}
use Rattle.chk_world.specs.Places.{As}
use Rattle.chk_world.specs.Sight.{job, Sight, sight, AtJob, own_book, own_files}
use Rattle.chk_world.proofs.NameLemmas.{read-spell}
use Rattle.chk_world.proofs.NameTests.{same_name, nat_self}
use Rattle.chk_world.proofs.ToldCalls.{MayCall, LeavesCall, told_done, told_ends}
use Rattle.chk_world.proofs.SightStays.{job_stays}
use Rattle.chk_archive.specs.Calling.{removal, removals, Listed}
use Rattle.chk_archive.specs.FolderNames.{names_segment, is_stray, segment_number, strays_in}
use Rattle.chk_archive.specs.Tidying.{HasBook, IsTidy, Tidied}
use Rattle.chk_archive.proofs.StrayNames.{is_among, stem_of_number, segment_spelled}
use Rattle.chk_archive.proofs.Looking.{ShowsSegments, archive_listed}
use Rattle.chk_archive.proofs.Removing.{kept, gone, still_gone}

-- the file is that of a segment that the book doesn't name
pub record IsStrayFile (b : Book) (w : List ℕ) : Type 0 where
  pub number : ℕ
  pub count : is_count number ≡ true
  pub is : w ≡ spell (SegmentFile ArchiveFolder number)
  pub unnamed : names_segment b number ≡ false

abbrev pub AllStrays : Book → List (List ℕ) → Type 0
AllStrays b [] = Unit {0}
AllStrays b (w ∷ ws) = IsStrayFile b w × AllStrays b ws

-- a segment isn't there, is named, or is still to be removed
pub data IsLeft (b : Book) (ws : List (List ℕ)) (j : ℕ) (o : Option File) : Type 0 where
  absent : o ≡ None → IsLeft b ws j o
  named : IsTrue (names_segment b j) → IsLeft b ws j o
  next : Contains ws (spell (SegmentFile ArchiveFolder j)) → IsLeft b ws j o

pub record LeftStrays (b : Book) (ws : List (List ℕ)) (v : Sight) : Type 0 where
  pub book : own_book v ArchiveFolder ≡ b
  pub left : (j : ℕ) → is_count j ≡ true → IsLeft b ws j (v.own (SegmentFile ArchiveFolder j))

own_known : (files : Files) (j : ℕ) → is_count j ≡ true
    → own_files files (SegmentFile ArchiveFolder j) ≡ file files (SegmentFile ArchiveFolder j)
own_known files j count = ap (λ b. if b then file files
    (SegmentFile ArchiveFolder j) else None) count

module _ (stamped : List (List ℕ)) (b : Book) (w : List ℕ) (ws : List (List ℕ))
    (stray : IsStrayFile b w) where
  reads : read w ≡ SegmentFile ArchiveFolder stray.number
  reads = ap read stray.is ∙ read-spell (SegmentFile ArchiveFolder stray.number) stray.count

  remove_may : MayCall stamped (removal job w) refl (λ h. LeftStrays b (w ∷ ws) (sight h))
  remove_may before answer files logs legal h = record {
    own_files = subst (λ m. IsTrue (may_remove job m)) (sym reads) refl;
    logs = tt;
    requests = tt;
    rule = (
      ap (is_named (files_after before)) reads ∙
          (ap (λ b. names_segment b stray.number) h.book ∙ stray.unnamed),
      subst (λ m. OnlyArchivedSinksRemoved before m) (sym reads) tt,
    );
  }

  module _ (before : History) (answer : ActAnswer) (files : Files) (logs : Logs)
      (was : WasDone answer)
      (honest : Honest before (own_step (removal job w) answer files logs))
      (h : LeftStrays b (w ∷ ws) (sight before)) where
    book_kept : file files (BookFile ArchiveFolder) ≡ file (files_after before)
        (BookFile ArchiveFolder)
    book_kept = kept w before answer files logs was honest (BookFile ArchiveFolder) refl
        (ap (same_name (BookFile ArchiveFolder)) reads)

    left_now : (j : ℕ) → is_count j ≡ true
        → IsLeft b (w ∷ ws) j (own_files (files_after before) (SegmentFile ArchiveFolder j))
        → IsLeft b ws j (own_files files (SegmentFile ArchiveFolder j))
    left_now j count (absent none) =
        absent (own_known files j count
        ∙ still_gone w before answer files logs was honest (SegmentFile ArchiveFolder j) count
        (sym (own_known (files_after before) j count) ∙ none))
    left_now j count (named is) = named is
    left_now j count (next (zero, low, at)) =
        let is : read w ≡ SegmentFile ArchiveFolder j = ap read at ∙ read-spell
        (SegmentFile ArchiveFolder j) count in
        absent (own_known files j count
        ∙ gone w before answer files logs was honest (SegmentFile ArchiveFolder j) count
        (ap (same_name (SegmentFile ArchiveFolder j)) is ∙ nat_self j) at)
    left_now j count (next (suc i, low, at)) = next (i, omega (arith, low), at)

  remove_leaves : LeavesCall stamped (removal job w) refl
      (λ h. LeftStrays b (w ∷ ws) (sight h)) WasDone (λ h. LeftStrays b ws (sight h))
  remove_leaves before answer files logs was legal h = record {
    book = ap book_in (book_kept before answer files logs was legal.1.honest h) ∙ h.book;
    left = λ j count. left_now before answer files logs was legal.1.honest h j count
        (h.left j count);
  }

  pub stray_removed : (given : Result (Unit {0}) CallFault) {old new : Option History}
      → IsDone given
      → Adds old new (Calls (removal job w) (answered plain given))
      → Adds old new (Leads (As stamped job) (AtJob stamped (LeftStrays b (w ∷ ws)))
      (AtJob stamped (LeftStrays b ws)))
  stray_removed given is told =
      told_done stamped (removal job w) refl (λ h. LeftStrays b (w ∷ ws) (sight h))
      (λ h. LeftStrays b ws (sight h)) given
      (job_stays stamped (LeftStrays b (w ∷ ws))) remove_may remove_leaves is told

  pub stray_refused : (given : Result (Unit {0}) CallFault)
      (fault : OutsideFault) {old new : Option History}
      → Ends (removal job w).call given fault → Adds old new
      (Calls (removal job w) (answered plain given))
      → Adds old new (Leads (As stamped job) (AtJob stamped (LeftStrays b (w ∷ ws)))
      (Legal stamped))
  stray_refused given fault ends told =
      leads_as (λ h k. k) (λ h k. k.legal)
      (told_ends stamped (removal job w) refl (λ h. LeftStrays b (w ∷ ws) (sight h))
      (λ f h. Unit {0}) plain given fault
      (job_stays stamped (LeftStrays b (w ∷ ws))) remove_may
      (λ before answer files logs is legal h. tt) (λ history h. tt) ends told)

is_tidy : (b : Book) (v : Sight) → LeftStrays b [] v → IsTidy b v
is_tidy b v h = record { book = h.book; strays = λ j count. go j (h.left j count) }
  where
    go : (j : ℕ) → IsLeft b [] j (v.own (SegmentFile ArchiveFolder j))
        → (v.own (SegmentFile ArchiveFolder j) ≡ None) ⊎ IsTrue (names_segment b j)
    go j (absent none) = inl none
    go j (named is) = inr is
    go j (next one) = absurd (let low = one.1 in let z : ⊥ = omega (arith, low) in z)

pub strays_go : (stamped : List (List ℕ)) (b : Book) (ws : List (List ℕ)) → AllStrays b ws
    → {result : Result (Unit {0}) OutsideFault} {old new : Option History} → MadeInTurn
    (removals job ws) result old new
    → Adds old new (Leads (As stamped job) (AtJob stamped (LeftStrays b ws))
    (Tidied stamped b result))
strays_go stamped b [] all script =
    script_end (Tidied stamped b) (λ h k. k.legal)
    (λ h k. record {
      legal = k.legal;
      may_act = k.may_act;
      alive = λ r. is_tidy b (sight h)
          (k.alive r);
    }) script
strays_go stamped b (w ∷ ws) all script =
    script_then (AtJob stamped (LeftStrays b ws)) (Tidied stamped b)
    (λ given mid is told. stray_removed stamped b w ws all.0 given is told)
    (λ given fault ends told. stray_refused stamped b w ws all.0 given fault ends told)
    (λ h k. k.legal) (λ mid rest. strays_go stamped b ws all.1 rest) script

-- the strays of a listing are such files
strays_are : (b : Book) (names : List (List ℕ)) → AllStrays b (strays_in b names)
strays_are b [] = tt
strays_are b (name ∷ names) = go (is_stray b name) refl (strays_are b names)
  where
    stray_file : (o : Option ℕ) → segment_number name ≡ o
        → elim o as (λ t. Bool) [ None ↦ false | Some n ↦ not (names_segment b n) ] ≡ true
        → IsStrayFile b (in_folder (codes "archive") name)
    stray_file None e is = absurd (true≢false (sym is))
    stray_file (Some n) e is =
        let s = stem_of_number name n e in record {
          number = n;
          count = s.0;
          is = ap (in_folder (codes "archive")) s.1 ∙ sym (segment_spelled n);
          unnamed = not-true (names_segment b n) is;
        }

    go : (t : Bool) → is_stray b name ≡ t → AllStrays b (strays_in b names)
        → AllStrays b (map (in_folder (codes "archive"))
        (cond t (name ∷ filter (is_stray b) names) (filter (is_stray b) names)))
    go true e rest = (stray_file (segment_number name) refl e, rest)
    go false e rest = rest

left_first : (b : Book) (names : List (List ℕ)) (v : Sight) → ShowsSegments b names v → LeftStrays b
    (strays_in b names) v
left_first b names v h = record { book = h.book; left = λ j count. go j count (h.shown j count) }
  where
    among : (j : ℕ) (o : Option File) → IsTrue (names_segment b j) ⊎ Contains (strays_in b names)
        (spell (SegmentFile ArchiveFolder j))
        → IsLeft b (strays_in b names) j o
    among j o (inl is) = named is
    among j o (inr one) = next one

    go : (j : ℕ) → is_count j ≡ true → (v.own (SegmentFile ArchiveFolder j) ≡ None) ⊎ Contains names
        (segment_stem j)
        → IsLeft b (strays_in b names) j (v.own (SegmentFile ArchiveFolder j))
    go j count (inl none) = absent none
    go j count (inr one) = among j (v.own (SegmentFile ArchiveFolder j))
        (is_among b names j count one)

-- the folder was listed, and then its strays were removed in turn
pub tidied : (stamped : List (List ℕ)) (b : Book)
    (names : List (List ℕ)) {result : Result (Unit {0}) OutsideFault}
    {old mid new : Option History} → Listed job (codes "archive") (Ok names) old mid
    → MadeInTurn (removals job (strays_in b names)) result mid new
    → Adds old new (Leads (As stamped job) (AtJob stamped (HasBook b)) (Tidied stamped b result))
tidied stamped b names listed script =
    leads_then
    (leads_as (λ h k. k)
    (λ h k. record {
      legal = k.legal;
      may_act = k.may_act;
      alive = λ r. left_first b names (sight h)
          (k.alive r);
    })
    (archive_listed stamped b names listed))
    (strays_go stamped b (strays_in b names) (strays_are b names) script)
