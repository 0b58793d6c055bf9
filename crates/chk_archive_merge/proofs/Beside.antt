-- What is read and written beside other files: own reads leave the segment, own writing leaves the files.
use Rattle.std.proofs.Common.{◌≡◌, inl, inr, ◌⊎◌, ℕ, zero, suc, ◌<◌, Bool, true, false, List, ◌∷◌, ◌++◌, length, get_or, Option, Ok, Err, Result, refl, sym, ◌∙◌, ap, subst, arith, bytes_eq, if◌then◌else◌}
use Rattle.std.specs.Prelude.{Contains}
use Rattle.chk_site.specs.Files.{File, Files}
use Rattle.chk_site.specs.Effect.{IsSmallFile}
use Rattle.chk_site.specs.History.{History, Every, Others, files_after}
use Rattle.chk_site.specs.Site.{Adds}
use Rattle.chk_site.specs.Runs.{anyhow, Leads}
use Rattle.chk_site.proofs.Runs.{adds_both}
use Rattle.chk_site.proofs.Leads.{owned_anyhow}
use Rattle.chk_seqfile.specs.Entries.{Placed}
use Rattle.chk_world.specs.Committed.{HasFile}
use Rattle.chk_world.specs.JobSteps.{IsOf, WritesTo, SparesFile}
use Rattle.chk_world.proofs.Ends.{bytes_self}
use Rattle.chk_record_index.specs.Pieces.{bytes_in}
use Rattle.chk_record_index.specs.declared.fault.JobFault.{JobFault}
use Rattle.chk_book.specs.Folders.{segment_name}
use Rattle.chk_book.specs.Segmenting.{Writing, HoldsSegment}
use Rattle.chk_record_reader.specs.Segments.{HasFiles, SparesFiles, AreSettled}
use Rattle.chk_record_reader.specs.Merging.{SparesBoth, AreApart}
use Rattle.chk_record_reader.proofs.AllRead.{adds_all}
use Rattle.chk_record_reader.proofs.Frames.{stays_so, spares_one}
use Rattle.chk_record_reader.proofs.Writing.{others_as, writes_quiet}
use Rattle.chk_archive_merge.specs.declared.cursor.Cursor.{Cursor}
use Rattle.chk_archive_merge.specs.Cursors.{HasGone, StandsBehind, Advanced}

-- own writing of the segment leaves the files
pub write_beside : (names : List (List ℕ)) (held : Files) (segment : List ℕ) {A B : History → Type 0} {old new : Option History}
    → AreSettled names held → AreApart names segment
    → Adds old new (Leads (anyhow (SparesFile segment)) A B) → Adds old new (Every (IsOf (WritesTo segment)))
    → Adds old new
    (Leads (anyhow (SparesBoth names segment)) (λ h. HasFiles names held h × A h) (λ h. HasFiles names held h × B h))
write_beside names held segment {A = A} {B = B} settled apart raw own =
    adds_both
    (Leads (anyhow (SparesBoth names segment)) (λ h. HasFiles names held h × A h) (λ h. HasFiles names held h × B h)) raw own
    (λ added history x made. record {
      leads = λ both can. (
        λ v is.
            stays_so (WritesTo segment) v (held v) (writes_quiet segment v (apart v is)) (settled v is).0 added history made
            (spares_one names v is added history
            (others_as {S = SparesBoth names segment} (λ before step b. b.0) added history both))
            (can.0 v is),
        x.leads (others_as {S = SparesBoth names segment} (λ before step b. b.1) added history both) can.1,
      );
      own = owned_anyhow added history;
    })

-- ---- the segment as one file more

in_more : (segment w : List ℕ) (names : List (List ℕ)) → Contains (segment ∷ names) w → (segment ≡ w) ⊎ Contains names w
in_more segment w names is = go is.0 is.1 is.2
  where
    go : (k : ℕ) → k < length (segment ∷ names) → get_or (segment ∷ names) k w ≡ w → (segment ≡ w) ⊎ Contains names w
    go zero low same = inl same
    go (suc k) low same = inr (k, (let z : k < length names = omega (arith, low) in z), same)

later : (segment w : List ℕ) (names : List (List ℕ)) → Contains names w → Contains (segment ∷ names) w
later segment w names is = (suc is.0, (let low = is.1 in let z : suc is.0 < suc (length names) = omega arith in z), is.2)

first : (segment : List ℕ) (names : List (List ℕ)) → Contains (segment ∷ names) segment
first segment names = (zero, (let z : 0 < suc (length names) = omega arith in z), refl)

-- the files, with this one in the segment's place
abbrev with_one : Files → List ℕ → Option File → Files
with_one held segment o = λ w. if bytes_eq w segment then o else held w

module _ (names : List (List ℕ)) (held : Files) (segment : List ℕ) (apart : AreApart names segment) where
  other_one : (o : Option File) (w : List ℕ) → Contains names w → with_one held segment o w ≡ held w
  other_one o w is = ap (λ b. if b then o else held w) (apart w is)

  own_one : (o : Option File) → with_one held segment o segment ≡ o
  own_one o = ap (λ b. if b then o else held segment) (bytes_self segment)

  all_there : (history : History) → HasFiles names held history
      → HasFiles (segment ∷ names) (with_one held segment (files_after history segment)) history
  all_there history files w is = elim (in_more segment w names is) [
    | inl same ↦
        subst (λ v. files_after history v ≡ with_one held segment (files_after history segment) v) same
        (sym (own_one (files_after history segment)))
    | inr mine ↦ files w mine ∙ sym (other_one (files_after history segment) w mine)
  ]

  all_spared : (added history : History) → Others (SparesBoth names segment) added history → Others (SparesFiles (segment ∷ names)) added history
  all_spared added history both =
      others_as {S = SparesBoth names segment} {T = SparesFiles (segment ∷ names)}
      (λ before step b w is. elim (in_more segment w names is) [
        | inl same ↦ subst (λ v. SparesFile v before step) same b.1
        | inr mine ↦ b.0 w mine
      ]) added history both

  files_back : (o : Option File) (history : History) → HasFiles (segment ∷ names) (with_one held segment o) history → HasFiles names held history
  files_back o history files w is = files w (later segment w names is) ∙ other_one o w is

-- at Ok the files are still these, the segment holds what it held, and the cursor has gone on, if it could
abbrev pub WentOn : List (List ℕ) → Files → Writing → List ℕ → Cursor → Cursor → Result Bool JobFault → History → Type 0
WentOn names held v name old new (Ok true) history =
    HasFiles names held history × HoldsSegment v history × ((records : List Placed) → HasGone (bytes_in (held name)) old records
    → StandsBehind (bytes_in (held name)) new records)
WentOn names held v name old new (Ok false) history = HasFiles names held history
WentOn names held v name old new (Err fault) history = Unit {0}

module _ (names : List (List ℕ)) (held : Files) (v : Writing) (apart : AreApart names (segment_name v.folder v.number)) (name : List ℕ)
    (one : Contains names name) (old new : Cursor) where
  went : (result : Result Bool JobFault) (before after : History) → HoldsSegment v before
      → Advanced (segment_name v.folder v.number ∷ names) (with_one held (segment_name v.folder v.number) (files_after before (segment_name v.folder v.number)))
      name old new result after → WentOn names held v name old new result after
  went (Ok true) before after holds x =
      let segment : List ℕ = segment_name v.folder v.number in
      let o : Option File = files_after before segment in (
        files_back names held segment apart o after x.0,
        subst (λ (f : Option File). HasFile f (λ f. f.bytes ≡ v.held)) (sym (x.0 segment (first segment names) ∙ own_one names held segment apart o)) holds,
        subst (λ (f : Option File). (records : List Placed) → HasGone (bytes_in f) old records → StandsBehind (bytes_in f) new records)
            (other_one names held segment apart o name one) x.1,
      )
  went (Ok false) before after holds x =
      files_back names held (segment_name v.folder v.number) apart (files_after before (segment_name v.folder v.number)) after x
  went (Err fault) before after holds x = tt

  -- reading leaves the segment
  pub read_beside : (result : Result Bool JobFault) {P : History → History → Type 0} {now next : Option History} → IsSmallFile (held name)
      → Adds now next P
      → ((names : List (List ℕ)) (held : Files) → Contains names name → IsSmallFile (held name)
      → Adds now next (Leads (anyhow (SparesFiles names)) (HasFiles names held) (Advanced names held name old new result)))
      → Adds now next
      (Leads (anyhow (SparesBoth names (segment_name v.folder v.number))) (λ h. HasFiles names held h × HoldsSegment v h)
      (WentOn names held v name old new result))
  read_beside result small some raw =
      let segment : List ℕ = segment_name v.folder v.number in
      adds_all
      (Leads (anyhow (SparesBoth names segment)) (λ h. HasFiles names held h × HoldsSegment v h) (WentOn names held v name old new result)) some
      (λ (o : Option File).
      raw (segment ∷ names) (with_one held segment o) (later segment name names one)
      (subst IsSmallFile (sym (other_one names held segment apart o name one)) small))
      (λ added history p xs. record {
        leads = λ both can.
            went result history (added ++ history) can.1
            ((xs (files_after history segment)).leads (all_spared names held segment apart added history both)
            (all_there names held segment apart history can.0));
        own = owned_anyhow added history;
      })
