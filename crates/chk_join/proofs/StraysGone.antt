-- Segments of `joined` that its book doesn't name are gone behind the tidying.
use Rattle.std.proofs.Common.{◌≡◌, inl, inr, ℕ, zero, suc, ◌+◌, ◌<◌, Bool, true, false, not}
use Rattle.std.proofs.Common.{◌&&◌, List, [], ◌∷◌, ◌++◌, length, Option, Some, None, Ok, Err}
use Rattle.std.proofs.Common.{Result, refl, ap, sym, subst, ◌∙◌, arith, true≢false, bytes_eq}
use Rattle.std.proofs.Common.{length-append, take, if◌then◌else◌}
use Rattle.std.specs.Prelude.{IsTrue, IfOk, MatchResult, Contains, slice_index_or, codes, decimal}
use Rattle.std.specs.Prelude.{is_some, ◌==◌}
use Rattle.std.specs.List.{list_any}
use Rattle.std.proofs.lemmas.Bool.{and_parts, and_from}
use Rattle.std.proofs.lemmas.Fmt.{decimal_injective, length-decimal-le}
use Rattle.std.proofs.lemmas.List.{append_cancel_left, take_more}
use Rattle.std.proofs.lemmas.List.Elements.{Contains-append_left, Contains-append_right}
use Rattle.std.proofs.lemmas.Option.{same_Some, none-some}
use Rattle.chk_bytes.specs.Words.{is_word}
use Rattle.chk_bytes.specs.Stems.{is_count}
use Rattle.chk_bytes.proofs.WordLemmas.{plain_word, plain-append}
use Rattle.chk_bytes.proofs.StemLemmas.{decimal_plain}
use Rattle.chk_site.specs.declared.acts.ActAnswer.{ActAnswer}
use Rattle.chk_site.specs.declared.acts.ActAnswer.TheVariants.{Done, Refused, Stopped, Rotated}
use Rattle.chk_site.specs.declared.acts.ActAnswer.TheVariants.{Deleted}
use Rattle.chk_site.specs.declared.acts.CallFault.{CallFault}
use Rattle.chk_site.specs.declared.acts.OutsideFault.{OutsideFault}
use Rattle.chk_site.specs.declared.acts.Call.TheVariants.{List as ListNames}
use Rattle.chk_site.specs.Files.{File, Files}
use Rattle.chk_site.specs.Logs.{Logs}
use Rattle.chk_site.specs.Acts.{Deed, is_done, tail_in, touches}
use Rattle.chk_site.specs.History.{Step, History, Every, Others, IsTheirs, files_after}
use Rattle.chk_site.specs.Honest.{Honest, IsListing}
use Rattle.chk_site.specs.Site.{Adds, own_step, answered, plain, names_given, WasDone, IsDone}
use Rattle.chk_site.specs.Site.{Calls, Ends}
use Rattle.chk_site.specs.Runs.{Leads, anyhow}
use Rattle.chk_site.proofs.Stays.{unnamed_stays}
use Rattle.chk_site.proofs.Runs.{adds_as}
use Rattle.chk_site.proofs.Leads.{Keeps, Shows, done_leads, ok_leads, owned_anyhow}
use Rattle.chk_replace.specs.Replace.{LeavesFile}
use Rattle.chk_world.specs.Names.{JoinedFolder, SegmentFile, spell, read, file}
use Rattle.chk_world.specs.Books.{Book}
use Rattle.chk_world.specs.JobSteps.{IsOf, SparesFile}
use Rattle.chk_world.proofs.Each.{Each}
use Rattle.chk_world.proofs.Ends.{bytes_same}
use Rattle.chk_world.proofs.NameLemmas.{read-spell}
use Rattle.chk_world.proofs.NameTests.{same_name, nat_self}
use Rattle.chk_world.proofs.SpelledLemmas.{book_so}
use Rattle.chk_world.proofs.OwnFiles.{done_file, refused_file, MissedOrDone, was_done, was_missing}
use Rattle.chk_world.proofs.OwnFiles.{missed_or_done}
use Rattle.chk_record_index.specs.declared.fault.JobFault.{JobFault}
use Rattle.chk_record_index.specs.declared.fault.JobFault.TheVariants.{Outside, Damaged, Spent, NoMemory}
use Rattle.chk_record_reader.proofs.Frames.{stays_so, reads_quiet}
use Rattle.chk_book.specs.Folders.{book_name, segment_stem}
use Rattle.chk_book.specs.Loaded.{IsBookOf, file_bytes}
use Rattle.chk_join_sources.specs.Copying.{joined_segment, Copies}
use Rattle.chk_join.specs.Names.{segment_number, unnamed_only, AddsStray, IsStray}
use Rattle.chk_join.specs.Names.{IsStrayNumber}
use Rattle.chk_join.specs.Cleaned.{Pending, Shown, GoneAtOk, IsCleaned}
use Rattle.chk_join.specs.Joined.{joined_folder, LeavesFolders, of_joined}
use Rattle.chk_join.specs.Preparing.{IsFolderBook}
use Rattle.chk_join.specs.Faults.{join_fault}
use Rattle.chk_join.specs.declared.report.JoinReport.{JoinReport}
use Rattle.chk_join.specs.declared.fault.JoinFault.{JoinFault}
use Rattle.chk_join.specs.declared.fault.JoinFault.TheVariants.{Job, Differ, NoMemory as no_memory}
use Rattle.chk_join.proofs.Whole.{quiet_write}
use Rattle.chk_join.proofs.Apart.{stem_no_slash}
use Rattle.chk_archive_parts.proofs.InTurn.{from_both}
use Rattle.chk_join.proofs.StepsKept.{segment_spelled}
use Rattle.chk_join.proofs.Tidied.{listing, removal}
use Rattle.chk_book.proofs.StemNumbers.{count_small, number_of_stem}

-- ---- names

-- segments of other numbers have other names
pub other_segment : (k n : ℕ) → is_count k ≡ true → is_count n ≡ true → (k ≡ n → ⊥)
    → bytes_eq (joined_segment k) (joined_segment n) ≡ false
other_segment k n count counted apart = go (bytes_eq (joined_segment k) (joined_segment n)) refl
  where
    go : (b : Bool) → bytes_eq (joined_segment k) (joined_segment n) ≡ b
        → bytes_eq (joined_segment k) (joined_segment n) ≡ false
    go false e = e
    go true e =
        let same : joined_segment k ≡ joined_segment n = bytes_same (joined_segment k) (joined_segment n) e in
        let digits : decimal k ≡ decimal n =
        append_cancel_left (codes "joined/seg.") (decimal k) (decimal n) same in
        absurd (apart
        (decimal_injective k n (omega (arith, count_small k count)) (omega (arith, count_small n counted)) digits))

-- ---- a step that leaves the segment

-- an answer that is no stop leaves no tail
no_tail : (w : List ℕ) (answer : ActAnswer) → WasDone answer → tail_in answer w ≡ None
no_tail w (Done words number of) was = refl
no_tail w (Refused fault) was = refl
no_tail w (Stopped left) was = absurd was
no_tail w (Rotated suffix) was = refl
no_tail w (Deleted suffix) was = refl

module _ (k : ℕ) where
  abbrev W : List ℕ
  W = joined_segment k

  theirs_leave : (before : History) (step : Step) → IsTheirs before step → LeavesFile W before step
      → step.files W ≡ files_after before W
  theirs_leave before step theirs x = unnamed_stays before step W theirs.1 x.untouched x.no_tail

  pub leaves_spare : (K : Deed → Type 0) (added history : History) → Every (IsOf K) added history
      → Others (LeavesFile W) added history → Others (SparesFile W) added history
  leaves_spare K [] history made s = tt
  leaves_spare K (step ∷ added) history made s =
      (leaves_spare K added history made.0 s.0, λ theirs. spared theirs made.1)
    where
      spared : step.own ≡ false → IsOf K (added ++ history) step → SparesFile W (added ++ history) step
      spared theirs (inl t) = theirs_leave (added ++ history) step t (s.1 theirs)
      spared theirs (inr mine) = absurd (true≢false (sym mine.0.own ∙ theirs))

  -- what isn't there isn't there behind calls that leave it
  pub stays_gone : (K : Deed → Type 0) → ((call : Deed) → K call → touches call W ≡ false) → {old new : Option History}
      → Adds old new (Every (IsOf K))
      → Adds old new (Leads (anyhow (LeavesFile W)) (λ h. files_after h W ≡ None) (λ h. files_after h W ≡ None))
  stays_gone K quiet own =
      adds_as (Leads (anyhow (LeavesFile W)) (λ h. files_after h W ≡ None) (λ h. files_after h W ≡ None)) own
      (λ added history made. record {
        leads = λ others none. stays_so K W None quiet tt added history made (leaves_spare K added history made others) none;
        own = owned_anyhow added history;
      })

  -- ---- a listing

  module _ (count : is_count k ≡ true) (names : List (List ℕ)) where
    shown_at : Shows (λ h. Unit {0}) (Shown k names) listing (names_given names)
    shown_at before files logs running honest u = go (files W) refl
      where
        same : files W ≡ files_after before W
        same = unnamed_stays before (own_step listing (names_given names) files logs) W honest.modelled refl refl

        all : IsListing (files_after before) (codes "joined") names
        all = honest.agrees

        word : IsTrue (is_word (segment_stem k) && not (list_any (λ b. b == 47) (segment_stem k)))
        word =
            let small = count_small k count in
            let size = length-append (codes "seg.") (decimal k) in
            let digits = length-decimal-le 20 k (omega arith) (omega arith) (omega (arith, small)) in
            and_from (is_word (segment_stem k)) (not (list_any (λ b. b == 47) (segment_stem k)))
            (plain_word (segment_stem k)
            (plain-append (codes "seg.") (decimal k) refl (decimal_plain k (omega (arith, small))))
            (omega (arith, size)) (omega (arith, size, digits)))
            (ap not (stem_no_slash k))

        go : (o : Option File) → files W ≡ o → Shown k names (own_step listing (names_given names) files logs ∷ before)
        go None e = inl e
        go (Some f) e = inr ((all.each (segment_stem k)).1 (word, ap is_some (sym same ∙ e)))

    pub list_shows : {old new : Option History} → Adds old new (Calls listing (Ok (names_given names)))
        → Adds old new (Leads (anyhow (LeavesFile W)) (λ h. Unit {0}) (Shown k names))
    list_shows told =
        ok_leads {S = anyhow (LeavesFile W)} {A = λ h. Unit {0}} {B = Shown k names} (names_given names)
        (λ before answer files logs running. tt) (λ before step theirs s u. tt) shown_at told

  -- ---- a removal

  module _ (count : is_count k ≡ true) (v : List ℕ) (rest : List (List ℕ)) where
    module _ (answer : ActAnswer) (was : WasDone answer) (before : History) (files : Files) (logs : Logs)
        (honest : Honest before (own_step (removal v) answer files logs)) where
      so : MissedOrDone answer (files_after before v)
      so = missed_or_done answer (files_after before v) was honest.agrees

      gone : v ≡ W → files W ≡ None
      gone is = ap files (segment_spelled k) ∙ go so
        where
          spelled : v ≡ spell (SegmentFile JoinedFolder k)
          spelled = is ∙ segment_spelled k

          same : same_name (SegmentFile JoinedFolder k) (read v) ≡ true
          same =
              ap (same_name (SegmentFile JoinedFolder k)) (ap read spelled ∙ read-spell (SegmentFile JoinedFolder k) count)
              ∙ nat_self k

          go : MissedOrDone answer (files_after before v) → file files (SegmentFile JoinedFolder k) ≡ None
          go (was_done is) =
              done_file before (own_step (removal v) answer files logs) (SegmentFile JoinedFolder k) honest is count
              ∙ ap (λ b. if b then None else file (files_after before) (SegmentFile JoinedFolder k)) same
          go (was_missing is none) =
              refused_file before (own_step (removal v) answer files logs) (SegmentFile JoinedFolder k) honest was
              (ap is_done is)
              ∙ (ap (files_after before) (sym spelled) ∙ none)

      still : files_after before W ≡ None → files W ≡ None
      still none = test (bytes_eq W v) refl
        where
          test : (b : Bool) → bytes_eq W v ≡ b → files W ≡ None
          test true e = gone (sym (bytes_same W v e))
          test false e =
              unnamed_stays before (own_step (removal v) answer files logs) W honest.modelled e (no_tail W answer was) ∙ none

      pending_at : Pending k (v ∷ rest) before → Pending k rest (own_step (removal v) answer files logs ∷ before)
      pending_at (inl none) = inl (still none)
      pending_at (inr (zero, low, at)) = inl (gone at)
      pending_at (inr (suc i, low, at)) = inr (i, omega (arith, low), at)

    keeps : Keeps (LeavesFile W) (Pending k (v ∷ rest))
    keeps before step theirs s (inl none) = inl (theirs_leave before step theirs s ∙ none)
    keeps before step theirs s (inr one) = inr one

    pub removed_one : (given : Result (Unit {0}) CallFault) {old new : Option History} → IsDone given
        → Adds old new (Calls (removal v) (answered plain given))
        → Adds old new (Leads (anyhow (LeavesFile W)) (Pending k (v ∷ rest)) (Pending k rest))
    removed_one given is told =
        done_leads {S = anyhow (LeavesFile W)} {A = Pending k (v ∷ rest)} {B = Pending k rest} given
        (λ before answer files logs running. tt) is keeps
        (λ answer was before files logs running honest p. pending_at answer was before files logs honest p) told

  -- where all were removed
  pub none_pending : (h : History) → Pending k [] h → files_after h W ≡ None
  none_pending h (inl none) = none
  none_pending h (inr one) = absurd (let low = one.1 in let z : ⊥ = omega (arith, low) in z)

-- ---- of parts of a join

-- a segment that the listing shows is one of the files to be removed
pub pending_from : (k : ℕ) (names files : List (List ℕ)) → (Contains names (segment_stem k) → Contains files (joined_segment k))
    → (h : History) → Shown k names h → Pending k files h
pending_from k names files among h (inl none) = inl none
pending_from k names files among h (inr one) = inr (among one)

-- where others leave the three folders they leave its segments
pub leaves_segment : (left right : List ℕ) (k : ℕ) {A B : History → Type 0} {old new : Option History}
    → Adds old new (Leads (anyhow (LeavesFile (joined_segment k))) A B)
    → Adds old new (Leads (anyhow (LeavesFolders left right)) A B)
leaves_segment left right k {A = A} {B = B} told =
    adds_as (Leads (anyhow (LeavesFolders left right)) A B) told
    (λ added history x. record {
      leads = λ others had. x.leads (leaves added history others) had;
      own = owned_anyhow added history;
    })
  where
    leaves : (added history : History) → Others (LeavesFolders left right) added history
        → Others (LeavesFile (joined_segment k)) added history
    leaves [] history s = tt
    leaves (step ∷ added) history s =
        (leaves added history s.0, λ theirs. s.1 theirs (joined_segment k) (of_joined (segment_stem k)))

pub gone_so : {T F : Type 0} (k : ℕ) (result : Result T F) (h : History) → files_after h (joined_segment k) ≡ None
    → GoneAtOk k result h
gone_so k (Ok value) h none = none
gone_so k (Err fault) h none = tt

pub cleaned_so : (k : ℕ) (result : Result JoinReport JoinFault) (h : History) → files_after h (joined_segment k) ≡ None
    → IsCleaned k result h
cleaned_so k (Ok value) h none = none
cleaned_so k (Err (Job fault)) h none = tt
cleaned_so k (Err (Differ source kind name at)) h none = none
cleaned_so k (Err no_memory) h none = tt

pub cleaned_refused : (k : ℕ) (fault : JobFault) (h : History) → IsCleaned k (Err (join_fault fault)) h
cleaned_refused k (Outside call) h = tt
cleaned_refused k (Damaged name at) h = tt
cleaned_refused k (Spent n) h = tt
cleaned_refused k NoMemory h = tt

-- reads, and the writing of a segment of another number, leave it
pub quiet_copies : (k n : ℕ) → bytes_eq (joined_segment k) (joined_segment n) ≡ false → (call : Deed) → Copies n call
    → touches call (joined_segment k) ≡ false
quiet_copies k n apart call (inl r) = reads_quiet (joined_segment k) call r
quiet_copies k n apart call (inr w) = quiet_write (joined_segment n) (joined_segment k) apart call w

-- the book's next number can be a segment's
pub book_count : (held : Files) (b : Book) → IsFolderBook held joined_folder b → is_count b.next ≡ true
book_count held b one = go (file_bytes (held (book_name joined_folder))) one.book
  where
    go : (o : Option (List ℕ)) → IsBookOf o b → is_count b.next ≡ true
    go None is = ap (λ (x : Book). is_count x.next) is
    go (Some bytes) is = let so = book_so bytes b is.0 in (and_parts (is_count b.next) _ so.1).0

-- ---- the strays of a listing

-- a name of a segment that the book doesn't name is found
found : (b : Book) (k : ℕ) → IsStrayNumber b k → unnamed_only b (segment_number (segment_stem k)) ≡ Some k
found b k stray =
    ap (unnamed_only b) (number_of_stem k stray.0) ∙ ap (λ t. if t then None else Some k) stray.1

-- of the names so far all are among these files
abbrev pub AllFound : Book → List (List ℕ) → List (List ℕ) → Type 0
AllFound b names files =
    (k : ℕ) → IsStrayNumber b k → Contains names (segment_stem k) → Contains files (joined_segment k)

pub none_found : (b : Book) (names files : List (List ℕ)) → AllFound b (take 0 names) files
none_found b names files k stray one =
    absurd (let low = one.1 in let z : ⊥ = omega (arith, low) in z)

module _ (b : Book) (names files : List (List ℕ)) (i : ℕ) (item name : List ℕ) (low : i < length names)
    (is : item ≡ slice_index_or names i item) (text : name ≡ item) (all : AllFound b (take i names) files) where
  one_more : take (i + 1) names ≡ take i names ++ name ∷ []
  one_more = take_more names i item low ∙ ap (λ w. take i names ++ w ∷ []) (sym (text ∙ is))

  last_one : (k : ℕ) → Contains (name ∷ []) (segment_stem k) → name ≡ segment_stem k
  last_one k (zero, low, at) = at
  last_one k (suc j, low, at) = absurd (let z : ⊥ = omega (arith, low) in z)

  found_more : (n : ℕ) (w : List ℕ) → unnamed_only b (segment_number name) ≡ Some n → w ≡ joined_segment n
      → AllFound b (take (i + 1) names) (files ++ w ∷ [])
  found_more n w number word k stray one =
      elim (from_both (take i names) (name ∷ []) (segment_stem k)
      (subst (λ l. Contains l (segment_stem k)) one_more one)) [
        | inl early ↦ Contains-append_left files (w ∷ []) (joined_segment k) (all k stray early)
        | inr last ↦
            let same : k ≡ n =
            same_Some k n (sym (found b k stray)
            ∙ (ap (λ v. unnamed_only b (segment_number v)) (sym (last_one k last)) ∙ number)) in
            Contains-append_right files (w ∷ []) (joined_segment k)
            (0, omega arith, word ∙ ap joined_segment (sym same))
      ]

  found_same : unnamed_only b (segment_number name) ≡ None → AllFound b (take (i + 1) names) files
  found_same none k stray one =
      elim (from_both (take i names) (name ∷ []) (segment_stem k)
      (subst (λ l. Contains l (segment_stem k)) one_more one)) [
        | inl early ↦ all k stray early
        | inr last ↦
            absurd (none-some k (sym none
            ∙ (ap (λ v. unnamed_only b (segment_number v)) (last_one k last) ∙ found b k stray)))
      ]

  -- the next name
  pub each_found : (new : List (List ℕ)) (o : Option ℕ) → unnamed_only b (segment_number name) ≡ o → AddsStray b o files new
      → Each (IsStray b) files → Each (IsStray b) new × AllFound b (take (i + 1) names) new
  each_found new None at added each =
      subst (λ l. Each (IsStray b) l × AllFound b (take (i + 1) names) l) (sym added) (each, found_same at)
  each_found new (Some n) at added each =
      subst (λ l. Each (IsStray b) l × AllFound b (take (i + 1) names) l) (sym added.1)
      (each_both (IsStray b) files (joined_segment n) each (n, added.0, refl), found_more n (joined_segment n) at refl)
    where
      each_both : (Q : List ℕ → Type 0) (xs : List (List ℕ)) (x : List ℕ) → Each Q xs → Q x → Each Q (xs ++ x ∷ [])
      each_both Q [] x all q = (q, tt)
      each_both Q (y ∷ xs) x all q = (all.0, each_both Q xs x all.1 q)

-- ---- the listing, as it ended

-- the names that came are shown
pub list_shown : {V : Type 0} (names : V → List (List ℕ)) (given : Result V CallFault)
    (r : Result V OutsideFault) {old new : Option History}
    → Adds old new (Calls listing (answered (λ v. names_given (names v)) given))
    → MatchResult r (λ value. given ≡ Ok value) (λ fault. Ends ListNames given fault)
    → IfOk r (λ v. (k : ℕ) → IsTrue (is_count k) → Adds old new
    (Leads (anyhow (LeavesFile (joined_segment k))) (λ h. Unit {0}) (Shown k (names v))))
list_shown {V} names given (Ok v) {old} {new} told is = λ k count.
    list_shows k count (names v) (subst
    (λ (x : Result V CallFault). Adds old new (Calls listing (answered (λ w. names_given (names w)) x)))
    is told)
list_shown names given (Err fault) told ends = tt
