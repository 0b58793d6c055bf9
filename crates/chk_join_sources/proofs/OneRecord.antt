-- A record is read and written behind the others, while all files stay.
use Rattle.std.proofs.Common.{◌≡◌, ℕ, List, [], ◌∷◌, ◌++◌, Option, Ok, Err, Result, refl, sym, ◌∙◌, ap, ap₂, subst}
use Rattle.std.specs.Prelude.{OnOk, IfErr}
use Rattle.chk_site.specs.Files.{File, Files}
use Rattle.chk_site.specs.History.{History, Every, Others, files_after}
use Rattle.chk_site.specs.Site.{Adds}
use Rattle.chk_site.specs.Runs.{anyhow, Leads}
use Rattle.chk_site.proofs.Leads.{leads_as, owned_anyhow}
use Rattle.chk_replace.specs.Load.{Has}
use Rattle.chk_chunk.specs.Keys.{Key, Chunk}
use Rattle.chk_world.specs.Committed.{HasFile}
use Rattle.chk_world.specs.JobSteps.{IsOf, ReadsFile, WritesTo, SparesFile}
use Rattle.chk_record_index.specs.Faults.{IsOfWrite}
use Rattle.chk_record_index.specs.Heads.{Head}
use Rattle.chk_record_index.specs.declared.fault.JobFault.{JobFault}
use Rattle.chk_record_index.specs.declared.fault.JobFault.TheVariants.{Outside, Damaged, Spent, NoMemory}
use Rattle.chk_book.specs.declared.segmenter.Segmenter.{Segmenter}
use Rattle.chk_book.specs.Folders.{segment_name}
use Rattle.chk_book.specs.Segmenting.{Writing, HoldsSegment}
use Rattle.chk_book.specs.Written.{IsAt, taken, HasTaken}
use Rattle.chk_record_reader.specs.declared.reader.RecordReader.{RecordReader}
use Rattle.chk_record_reader.specs.ReadBack.{value_held}
use Rattle.chk_record_reader.specs.Spans.{StaysAtOk}
use Rattle.chk_record_reader.specs.Segments.{HasFiles, SparesFiles, AreSettled}
use Rattle.chk_record_reader.specs.Archives.{AreWindows, value_in, chunk_in}
use Rattle.chk_record_reader.specs.Merging.{SparesBoth, AreApart}
use Rattle.chk_record_reader.proofs.AllRead.{adds_all}
use Rattle.chk_join_sources.specs.declared.gathering.Side.{Side}
use Rattle.chk_join_sources.specs.Reading.{Fetched}
use Rattle.chk_join_sources.specs.Copying.{joined_segment, CanCopy, Copied}
use Rattle.chk_record_reader.specs.Merging.{chunk_with}
use Rattle.chk_join_sources.proofs.CopySteps.{of_files, of_segment, segment_is, files_left}
use Rattle.chk_join_sources.proofs.AllCompared.{under}

-- at Ok the reader holds the value of the head's record
abbrev pub FetchedFor : List (List ℕ) → Files → Side → Head → List Chunk → RecordReader → Segmenter → Result (Unit {0}) JobFault
    → History → Type 0
FetchedFor all held side h chunks q s (Ok value) history =
    CanCopy all held side chunks q s history × (value_held q ≡ value_in side.names.now held h)
FetchedFor all held side h chunks q s (Err (Damaged name at)) history = ⊥
FetchedFor all held side h chunks q s (Err fault) history = Unit {0}

module _ (all : List (List ℕ)) (held : Files) (side : Side) (h : Head) (chunks : List Chunk) (s : Segmenter) where
  abbrev segment : List ℕ
  segment = joined_segment s.number

  -- a fetch leaves the segment
  module _ (r q : RecordReader) where
    fetched : (result : Result (Unit {0}) JobFault) (added history : History)
        → Leads (anyhow (SparesFiles all)) (λ g. HasFiles all held g × AreWindows side.names.now held r)
        (Fetched all side.names.now held h q result) added history
        → ((x : List ℕ × Option File) → Leads (anyhow (SparesFile x.0)) (Has x.0 x.1) (StaysAtOk x.0 x.1 result) added history)
        → Others (SparesBoth all segment) added history → CanCopy all held side chunks r s history
        → FetchedFor all held side h chunks q s result (added ++ history)
    fetched (Ok value) added history x ys both can =
        let y = x.leads (of_files all segment added history both) (can.0.files, can.1) in
        let w = segment_name can.0.w.folder can.0.w.number in
        let same : files_after (added ++ history) w ≡ files_after history w =
        (ys (w, files_after history w)).leads
        (of_segment all segment w (segment_is s can.0.w can.0.at can.0.folder) added history both) refl in (
          (
            record {
              files = y.0;
              w = can.0.w;
              at = can.0.at;
              folder = can.0.folder;
              chunks_are = can.0.chunks_are;
              holds = subst (λ o. HasFile o (λ f. f.bytes ≡ can.0.w.held)) (sym same) can.0.holds;
            },
            y.1,
          ),
          y.2,
        )
    fetched (Err (Outside call)) added history x ys both can = tt
    fetched (Err (Damaged name at)) added history x ys both can =
        x.leads (of_files all segment added history both) (can.0.files, can.1)
    fetched (Err (Spent n)) added history x ys both can = tt
    fetched (Err NoMemory) added history x ys both can = tt

    pub fetched_for : (result : Result (Unit {0}) JobFault) {old new : Option History} → Adds old new (Every (IsOf ReadsFile))
        → (AreWindows side.names.now held r → Adds old new (Leads (anyhow (SparesFiles all)) (HasFiles all held)
        (Fetched all side.names.now held h q result)))
        → ((other : List ℕ) (file : Option File) → Adds old new (Leads (anyhow (SparesFile other)) (Has other file)
        (StaysAtOk other file result)))
        → Adds old new (Leads (anyhow (SparesBoth all segment)) (CanCopy all held side chunks r s)
        (FetchedFor all held side h chunks q s result))
    fetched_for result own raw stays =
        adds_all (Leads (anyhow (SparesBoth all segment)) (CanCopy all held side chunks r s) (FetchedFor all held side h chunks q s result))
        (under own raw) (λ (x : List ℕ × Option File). stays x.0 x.1)
        (λ added history x ys. record {
          leads = λ both can. fetched result added history x ys both can;
          own = owned_anyhow added history;
        })

  -- a record that couldn't be read isn't written
  pub not_copied : (q : RecordReader) (t : Segmenter) (more : List Chunk) (fault : JobFault) {A : History → Type 0} {old new : Option History}
      → Adds old new (Leads (anyhow (SparesBoth all segment)) A (FetchedFor all held side h chunks q s (Err fault)))
      → Adds old new (Leads (anyhow (SparesBoth all segment)) A (Copied all held side more q t (Err fault)))
  not_copied q t more fault told = leads_as (λ g x. x) (λ g x. said fault g x) told
    where
      said : (fault : JobFault) (g : History) → FetchedFor all held side h chunks q s (Err fault) g
          → Copied all held side more q t (Err fault) g
      said (Outside call) g x = tt
      said (Damaged name at) g x = x
      said (Spent n) g x = tt
      said NoMemory g x = tt

  -- a part leaves the files
  module _ (q : RecordReader) (t : Segmenter) (k : Key) (v : List ℕ) (key : k ≡ h.key) (value : v ≡ value_held q)
      (settled : AreSettled all held) (apart : AreApart all segment) where
    put : (result : Result (Unit {0}) JobFault) → IfErr result IsOfWrite
        → ((w : Writing) → IsAt s w → OnOk result (IsAt t (taken s w (chunk_with k v))))
        → (added history : History) → Every (IsOf (WritesTo segment)) added history
        → ((x : (w : Writing) × IsAt s w) → Leads (anyhow (SparesFile (segment_name x.0.folder x.0.number))) (HoldsSegment x.0)
        (HasTaken s x.0 (chunk_with k v) result) added history)
        → Others (SparesBoth all segment) added history → FetchedFor all held side h chunks q s (Ok tt) history
        → Copied all held side (chunks ++ chunk_in side.names.now held h ∷ []) q t result (added ++ history)
    put (Ok done) only at added history made ys both had =
        let can = had.0.0 in
        let w = can.w in
        let c = chunk_with k v in (
          record {
            files = files_left all held segment settled apart added history made both can.files;
            w = taken s w c;
            at = at w can.at;
            folder = can.folder;
            chunks_are =
                ap (λ l. l ++ c ∷ []) can.chunks_are
                ∙ ap (λ (d : Chunk). chunks ++ d ∷ []) (ap₂ chunk_with key (value ∙ had.1));
            holds =
                (ys (w, can.at)).leads
                (of_segment all segment (segment_name w.folder w.number) (segment_is s w can.at can.folder) added history both)
                can.holds;
          },
          had.0.1,
        )
    put (Err (Outside call)) only at added history made ys both had = tt
    put (Err (Damaged name at2)) only at added history made ys both had = only
    put (Err (Spent n)) only at added history made ys both had = tt
    put (Err NoMemory) only at added history made ys both had = tt

    pub put_behind : (result : Result (Unit {0}) JobFault) {old new : Option History} → IfErr result IsOfWrite
        → ((w : Writing) → IsAt s w → OnOk result (IsAt t (taken s w (chunk_with k v))))
        → Adds old new (Every (IsOf (WritesTo segment)))
        → ((w : Writing) → IsAt s w → Adds old new (Leads (anyhow (SparesFile (segment_name w.folder w.number))) (HoldsSegment w)
        (HasTaken s w (chunk_with k v) result)))
        → Adds old new (Leads (anyhow (SparesBoth all segment)) (FetchedFor all held side h chunks q s (Ok tt))
        (Copied all held side (chunks ++ chunk_in side.names.now held h ∷ []) q t result))
    put_behind result only at own raw =
        adds_all (Leads (anyhow (SparesBoth all segment)) (FetchedFor all held side h chunks q s (Ok tt))
        (Copied all held side (chunks ++ chunk_in side.names.now held h ∷ []) q t result))
        own (λ (x : (w : Writing) × IsAt s w). raw x.0 x.1)
        (λ added history made ys. record {
          leads = λ both had. put result only at added history made ys both had;
          own = owned_anyhow added history;
        })
