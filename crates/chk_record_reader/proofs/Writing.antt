-- Records that are fetched and written in turn.
use Rattle.std.proofs.Common.{◌≡◌, inl, inr, ℕ, ◌<◌, false, List, [], ◌∷◌, ◌++◌, map, take, length, get_or, Option, Ok, Err, Result, refl, sym, ◌∙◌, ap, subst, bytes_eq, true≢false}
use Rattle.std.proofs.lemmas.List.{take_more, map-append}
use Rattle.chk_site.specs.Files.{File, Files}
use Rattle.chk_site.specs.Acts.{Deed, Reads, deed, touches}
use Rattle.chk_site.specs.History.{Step, History, Every, Others, files_after}
use Rattle.chk_site.specs.Site.{Adds}
use Rattle.chk_site.specs.Runs.{anyhow, Leads}
use Rattle.chk_site.proofs.Runs.{adds_as, adds_both}
use Rattle.chk_site.proofs.Leads.{leads_as, leads_then, owned_anyhow}
use Rattle.chk_replace.specs.Load.{Has}
use Rattle.chk_world.specs.Committed.{HasFile}
use Rattle.chk_world.specs.JobSteps.{IsOf, ReadsFile, WritesTo, ReadsOrWrites, removes, creates, appends, syncs, SparesFile}
use Rattle.chk_record_index.specs.Heads.{Head}
use Rattle.chk_record_index.specs.Pieces.{AsksInPieces}
use Rattle.chk_record_index.specs.Order.{no_head}
use Rattle.chk_record_index.specs.declared.fault.JobFault.{JobFault}
use Rattle.chk_record_index.specs.declared.fault.JobFault.TheVariants.{Outside, Damaged, Spent, NoMemory}
use Rattle.chk_book.specs.declared.segmenter.Segmenter.{Segmenter}
use Rattle.chk_book.specs.Folders.{segment_name}
use Rattle.chk_book.specs.Segmenting.{Writing, HoldsSegment}
use Rattle.chk_book.specs.Written.{taken, HasTaken}
use Rattle.chk_record_reader.specs.declared.reader.RecordReader.{RecordReader}
use Rattle.chk_record_reader.specs.Spans.{StaysAtOk}
use Rattle.chk_record_reader.specs.Segments.{SparesFiles, AreSettled}
use Rattle.chk_record_reader.specs.Archives.{CanReadAll, HasReadAll, chunk_in}
use Rattle.chk_record_reader.specs.Merging.{SparesBoth, AreApart, CanWrite, chunk_read, WroteOne, FetchedBeside}
use Rattle.chk_record_reader.proofs.Frames.{stays_so, spares_one}
use Rattle.chk_record_reader.proofs.AllRead.{adds_all}

-- it isn't that a file is damaged
abbrev pub NoDamage : Result (Unit {0}) JobFault → Type 0
NoDamage (Ok value) = Unit {0}
NoDamage (Err (Damaged name at)) = ⊥
NoDamage (Err fault) = Unit {0}

pub others_as : {S T : History → Step → Type 0} → ((before : History) (step : Step) → S before step → T before step) → (added history : History)
    → Others S added history → Others T added history
others_as f [] history s = tt
others_as f (step ∷ added) history s = (others_as f added history s.0, λ theirs. f (added ++ history) step (s.1 theirs))

-- writing the segment touches none of the files
pub writes_quiet : (segment v : List ℕ) → bytes_eq v segment ≡ false → (call : Deed) → WritesTo segment call → touches call v ≡ false
writes_quiet segment v apart call removes = apart
writes_quiet segment v apart call creates = apart
writes_quiet segment v apart call (appends piece) = apart
writes_quiet segment v apart call syncs = apart

pub reads_as : (segment : List ℕ) {old new : Option History} → Adds old new (Every (IsOf ReadsFile)) → Adds old new (Every (IsOf (ReadsOrWrites segment)))
reads_as segment made = adds_as (Every (IsOf (ReadsOrWrites segment))) made (λ added history every. go added history every)
  where
    go : (added history : History) → Every (IsOf ReadsFile) added history → Every (IsOf (ReadsOrWrites segment)) added history
    go [] history every = tt
    go (step ∷ added) history every = (
      go added history every.0,
      elim every.1 [ inl theirs ↦ inl theirs | inr mine ↦ inr (mine.0, inl mine.1) ],
    )

pub writes_as : (segment : List ℕ) {old new : Option History} → Adds old new (Every (IsOf (WritesTo segment)))
    → Adds old new (Every (IsOf (ReadsOrWrites segment)))
writes_as segment made = adds_as (Every (IsOf (ReadsOrWrites segment))) made (λ added history every. go added history every)
  where
    go : (added history : History) → Every (IsOf (WritesTo segment)) added history → Every (IsOf (ReadsOrWrites segment)) added history
    go [] history every = tt
    go (step ∷ added) history every = (
      go added history every.0,
      elim every.1 [ inl theirs ↦ inl theirs | inr mine ↦ inr (mine.0, inr mine.1) ],
    )

module _ (most : ℕ) (names : List (List ℕ)) (held : Files) (heads : List Head) (index : ℕ) (w : Writing) where
  -- a fetch leaves the segment
  pub fetched_beside : (h : Head) (r q : RecordReader) (result : Result (Unit {0}) JobFault) {old new : Option History}
      → Adds old new (Leads (anyhow (SparesFiles names)) (CanReadAll most names held heads r) (HasReadAll most names held heads h q result))
      → ((other : List ℕ) (file : Option File) → Adds old new (Leads (anyhow (SparesFile other)) (Has other file) (StaysAtOk other file result)))
      → Adds old new
      (Leads (anyhow (SparesBoth names (segment_name w.folder w.number))) (CanWrite most names held heads r w index)
      (FetchedBeside most names held heads h q w index result))
  fetched_beside h r q result raw stays =
      adds_all
      (Leads (anyhow (SparesBoth names (segment_name w.folder w.number))) (CanWrite most names held heads r w index)
      (FetchedBeside most names held heads h q w index result))
      raw (λ file. stays (segment_name w.folder w.number) file)
      (λ added history x ys. record { leads = λ s can. go result added history x ys s can; own = owned_anyhow added history })
    where
      go : (result : Result (Unit {0}) JobFault) (added history : History)
          → Leads (anyhow (SparesFiles names)) (CanReadAll most names held heads r) (HasReadAll most names held heads h q result) added history
          → ((file : Option File) → Leads (anyhow (SparesFile (segment_name w.folder w.number))) (Has (segment_name w.folder w.number) file)
          (StaysAtOk (segment_name w.folder w.number) file result) added history)
          → Others (SparesBoth names (segment_name w.folder w.number)) added history → CanWrite most names held heads r w index history
          → FetchedBeside most names held heads h q w index result (added ++ history)
      go (Ok value) added history x ys s can =
          let y = x.leads (others_as {S = SparesBoth names (segment_name w.folder w.number)} (λ before step both. both.0) added history s) can.read in
          let same : files_after (added ++ history) (segment_name w.folder w.number) ≡ files_after history (segment_name w.folder w.number) =
          (ys (files_after history (segment_name w.folder w.number))).leads (others_as {S = SparesBoth names (segment_name w.folder w.number)} (λ before step both. both.1) added history s) refl in (
            record {
              read = y.0;
              holds = subst (λ o. HasFile o (λ f. f.bytes ≡ w.held)) (sym same) can.holds;
              chunks = can.chunks;
            },
            y.1,
          )
      go (Err (Outside call)) added history x ys s can = tt
      go (Err (Damaged name at)) added history x ys s can = x.leads (others_as {S = SparesBoth names (segment_name w.folder w.number)} (λ before step both. both.0) added history s) can.read
      go (Err (Spent n)) added history x ys s can = tt
      go (Err NoMemory) added history x ys s can = tt

  pub not_written : (h : Head) (r q : RecordReader) (v : Writing) (fault : JobFault) {old new : Option History}
      → Adds old new
      (Leads (anyhow (SparesBoth names (segment_name w.folder w.number))) (CanWrite most names held heads r w index)
      (FetchedBeside most names held heads h q w index (Err fault)))
      → Adds old new
      (Leads (anyhow (SparesBoth names (segment_name w.folder w.number))) (CanWrite most names held heads r w index)
      (WroteOne most names held heads q v index (Err fault)))
  not_written h r q v fault told = leads_as (λ g x. x) (λ g x. said fault g x) told
    where
      said : (fault : JobFault) (history : History) → FetchedBeside most names held heads h q w index (Err fault) history
          → WroteOne most names held heads q v index (Err fault) history
      said (Outside call) history x = tt
      said (Damaged name at) history x = x
      said (Spent n) history x = tt
      said NoMemory history x = tt

  pub unwritten : {P : History → History → Type 0} (r q : RecordReader) (v : Writing) {old new : Option History} → Adds old new P
      → Adds old new
      (Leads (anyhow (SparesBoth names (segment_name w.folder w.number))) (CanWrite most names held heads r w index)
      (WroteOne most names held heads q v index (Err NoMemory)))
  unwritten r q v told =
      adds_as
      (Leads (anyhow (SparesBoth names (segment_name w.folder w.number))) (CanWrite most names held heads r w index)
      (WroteOne most names held heads q v index (Err NoMemory))) told
      (λ added history p. record { leads = λ s h. tt; own = owned_anyhow added history })

  -- a part leaves the files
  pub written : (s : Segmenter) (r q : RecordReader) (result : Result (Unit {0}) JobFault) {old mid new : Option History}
      → AreSettled names held → AreApart names (segment_name w.folder w.number) → index < length heads
      → Adds old mid
      (Leads (anyhow (SparesBoth names (segment_name w.folder w.number))) (CanWrite most names held heads r w index)
      (FetchedBeside most names held heads (get_or heads index no_head) q w index (Ok tt)))
      → Adds mid new
      (Leads (anyhow (SparesFile (segment_name w.folder w.number))) (HoldsSegment w)
      (HasTaken s w (chunk_read (get_or heads index no_head) q) result))
      → Adds mid new (Every (IsOf (WritesTo (segment_name w.folder w.number))))
      → NoDamage result
      → Adds old new
      (Leads (anyhow (SparesBoth names (segment_name w.folder w.number))) (CanWrite most names held heads r w index)
      (WroteOne most names held heads q (taken s w (chunk_read (get_or heads index no_head) q)) index result))
  written s r q result settled apart within so_far raw own undamaged =
      leads_then so_far
      (adds_both
      (Leads (anyhow (SparesBoth names (segment_name w.folder w.number)))
      (FetchedBeside most names held heads (get_or heads index no_head) q w index (Ok tt))
      (WroteOne most names held heads q (taken s w (chunk_read (get_or heads index no_head) q)) index result)) raw own
      (λ added history x made. record {
        leads = λ both h.
            go result undamaged added history made (others_as {S = SparesBoth names (segment_name w.folder w.number)} (λ before step b. b.0) added history both) h
            (x.leads (others_as {S = SparesBoth names (segment_name w.folder w.number)} (λ before step b. b.1) added history both) h.0.holds);
        own = owned_anyhow added history;
      }))
    where
      go : (result : Result (Unit {0}) JobFault) → NoDamage result → (added history : History)
          → Every (IsOf (WritesTo (segment_name w.folder w.number))) added history → Others (SparesFiles names) added history
          → FetchedBeside most names held heads (get_or heads index no_head) q w index (Ok tt) history
          → HasTaken s w (chunk_read (get_or heads index no_head) q) result (added ++ history)
          → WroteOne most names held heads q (taken s w (chunk_read (get_or heads index no_head) q)) index result (added ++ history)
      go (Ok value) none added history made s h took = record {
        read = record {
          files = λ v is.
              stays_so (WritesTo (segment_name w.folder w.number)) v (held v) (writes_quiet (segment_name w.folder w.number) v (apart v is))
              (settled v is).0 added history made (spares_one names v is added history s) (h.0.read.files v is);
          known = h.0.read.known;
          windows = h.0.read.windows;
        };
        holds = took;
        chunks =
            ap (λ l. l ++ chunk_read (get_or heads index no_head) q ∷ []) h.0.chunks
            ∙ (ap (λ v. map (chunk_in names held) (take index heads) ++ (record { key = (get_or heads index no_head).key; value = v }) ∷ []) h.1
            ∙ sym (ap (map (chunk_in names held)) (take_more heads index no_head within)
            ∙ map-append (chunk_in names held) (take index heads) (get_or heads index no_head ∷ [])));
      }
      go (Err (Outside call)) none added history made s h took = tt
      go (Err (Damaged name at)) none added history made s h took = none
      go (Err (Spent n)) none added history made s h took = tt
      go (Err NoMemory) none added history made s h took = tt

-- steps that write a segment read nothing
pub writes_ask : (segment : List ℕ) {old new : Option History} → Adds old new (Every (IsOf (WritesTo segment)))
    → Adds old new (Every AsksInPieces)
writes_ask segment made = adds_as (Every AsksInPieces) made (λ added history every. go added history every)
  where
    no_read : (call : Deed) → WritesTo segment call → (name : List ℕ) (at max : ℕ) → call ≡ Reads name at max → ⊥
    no_read call removes name at max is = absurd (cc)
    no_read call creates name at max is = absurd (cc)
    no_read call (appends piece) name at max is = absurd (cc)
    no_read call syncs name at max is = absurd (cc)

    go : (added history : History) → Every (IsOf (WritesTo segment)) added history → Every AsksInPieces added history
    go [] history every = tt
    go (step ∷ added) history every = (
      go added history every.0,
      λ mine name at max is. elim every.1 [
        | inl theirs ↦ absurd (true≢false (sym mine ∙ theirs.0))
        | inr own ↦ absurd (no_read (deed step.act) own.1 name at max is)
      ],
    )
