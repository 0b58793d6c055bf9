-- A merged segment, from its header to its end.
use Rattle.std.proofs.Common.{◌≡◌, ℕ, List, ◌++◌, map, take, Option, Ok, Err, refl, sym, ◌∙◌, ap, subst}
use Rattle.chk_site.specs.Files.{Files}
use Rattle.chk_site.specs.History.{History, Every, Others}
use Rattle.chk_site.specs.Site.{Adds}
use Rattle.chk_site.specs.Runs.{anyhow, Leads}
use Rattle.chk_site.proofs.Runs.{adds_as, adds_both}
use Rattle.chk_site.proofs.Leads.{leads_as, owned_anyhow}
use Rattle.chk_world.specs.Books.{Book}
use Rattle.chk_world.specs.JobSteps.{IsOf, WritesTo, ReadsOrWrites, SparesFile}
use Rattle.chk_record_index.specs.Faults.{IsOfBegin, IsOfWrite}
use Rattle.chk_record_index.specs.Heads.{Head}
use Rattle.chk_record_index.specs.declared.fault.JobFault.{JobFault}
use Rattle.chk_record_index.specs.declared.fault.JobFault.TheVariants.{Outside, Damaged, Spent, NoMemory}
use Rattle.chk_book.specs.declared.segmenter.Segmenter.{Segmenter}
use Rattle.chk_book.specs.Folders.{segment_name, most_in}
use Rattle.chk_book.specs.Segmenting.{Writing, HoldsSegment, all_bytes, IsSegmentOf, begun}
use Rattle.chk_book.specs.Written.{IsAt, HasEnded}
use Rattle.chk_record_reader.specs.declared.reader.RecordReader.{RecordReader}
use Rattle.chk_record_reader.specs.ReadBack.{HoldsNothing}
use Rattle.chk_record_reader.specs.Segments.{HasFiles, SparesFiles, AreSettled}
use Rattle.chk_record_reader.specs.Archives.{chunk_in}
use Rattle.chk_record_reader.specs.Merging.{SparesBoth, AreApart, CanWrite, WroteOne, CanBegin, bare_book, WroteMerged}
use Rattle.chk_record_reader.proofs.Frames.{stays_so, spares_one}
use Rattle.chk_record_reader.proofs.AllRead.{no_windows}
use Rattle.chk_record_reader.proofs.Writing.{NoDamage, others_as, writes_quiet}

module _ (most : ℕ) (names : List (List ℕ)) (held : Files) (heads : List Head) where
  -- own writing of the segment leaves the files
  files_left : (segment : List ℕ) → AreSettled names held → AreApart names segment → (added history : History) → Every (IsOf (WritesTo segment)) added history
      → Others (SparesFiles names) added history → HasFiles names held history → HasFiles names held (added ++ history)
  files_left segment settled apart added history made s files v is =
      stays_so (WritesTo segment) v (held v) (writes_quiet segment v (apart v is)) (settled v is).0 added history made (spares_one names v is added history s)
      (files v is)

  -- the header is written
  pub begun_beside : (folder : List ℕ) (next : ℕ) (r : RecordReader) {old new : Option History} → AreSettled names held
      → AreApart names (segment_name folder next) → HoldsNothing r
      → Adds old new (Leads (anyhow (SparesFile (segment_name folder next))) (λ h. Unit {0}) (HoldsSegment (begun folder next)))
      → Adds old new (Every (IsOf (WritesTo (segment_name folder next))))
      → Adds old new
      (Leads (anyhow (SparesBoth names (segment_name folder next))) (CanBegin most names held heads)
      (CanWrite most names held heads r (begun folder next) 0))
  begun_beside folder next r settled apart none raw own =
      adds_both
      (Leads (anyhow (SparesBoth names (segment_name folder next))) (CanBegin most names held heads)
      (CanWrite most names held heads r (begun folder next) 0)) raw own
      (λ added history x made. record {
        leads = λ both can. record {
          read = record {
            files =
                files_left (segment_name folder next) settled apart added history made
                (others_as {S = SparesBoth names (segment_name folder next)} (λ before step b. b.0) added history both) can.0;
            known = can.1;
            windows = no_windows names held r none;
          };
          holds = x.leads (others_as {S = SparesBoth names (segment_name folder next)} (λ before step b. b.1) added history both) tt;
          chunks = refl;
        };
        own = owned_anyhow added history;
      })

  -- the rest is written and synced
  pub ended_beside : (folder : List ℕ) (next index : ℕ) (s : Segmenter) (r : RecordReader) (w : Writing) (b : Book) {old new : Option History}
      → AreSettled names held → AreApart names (segment_name w.folder w.number) → IsAt s w → w.folder ≡ folder → w.number ≡ next → take index heads ≡ heads
      → Adds old new
      (Leads (anyhow (SparesFile (segment_name w.folder w.number))) (HoldsSegment w) (HasEnded w (bare_book next) b (Ok tt)))
      → Adds old new (Every (IsOf (WritesTo (segment_name w.folder w.number))))
      → Adds old new
      (Leads (anyhow (SparesBoth names (segment_name w.folder w.number))) (CanWrite most names held heads r w index)
      (WroteMerged folder next names held heads (Ok b)))
  ended_beside folder next index s r w b settled apart at f n all raw own =
      adds_both
      (Leads (anyhow (SparesBoth names (segment_name w.folder w.number))) (CanWrite most names held heads r w index)
      (WroteMerged folder next names held heads (Ok b))) raw own
      (λ added history x made. record {
        leads = λ both can.
            let y = x.leads (others_as {S = SparesBoth names (segment_name w.folder w.number)} (λ before step b. b.1) added history both) can.holds in (
              files_left (segment_name w.folder w.number) settled apart added history made
                  (others_as {S = SparesBoth names (segment_name w.folder w.number)} (λ before step b. b.0) added history both) can.read.files,
              (
                w,
                record {
                  folder_is = f;
                  number_is = n;
                  chunks_are = can.chunks ∙ ap (map (chunk_in names held)) all;
                  form = subst (λ (x : List ℕ). IsSegmentOf (most_in x) (all_bytes w) w.chunks) f at.sound;
                  finished = y.0;
                  book_is = y.1;
                },
              ),
            );
        own = owned_anyhow added history;
      })

  -- a record that wasn't written
  pub not_merged : (folder : List ℕ) (next index : ℕ) (segment : List ℕ) (r : RecordReader) (v : Writing) (fault : JobFault) {A : History → Type 0}
      {old new : Option History}
      → Adds old new (Leads (anyhow (SparesBoth names segment)) A (WroteOne most names held heads r v index (Err fault)))
      → Adds old new (Leads (anyhow (SparesBoth names segment)) A (WroteMerged folder next names held heads (Err fault)))
  not_merged folder next index segment r v fault told = leads_as (λ g x. x) (λ g x. said fault g x) told
    where
      said : (fault : JobFault) (history : History) → WroteOne most names held heads r v index (Err fault) history
          → WroteMerged folder next names held heads (Err fault) history
      said (Outside call) history x = tt
      said (Damaged name at) history x = x
      said (Spent n) history x = tt
      said NoMemory history x = tt

  pub unmerged : {P : History → History → Type 0} (folder : List ℕ) (next : ℕ) (segment : List ℕ) (fault : JobFault) {A : History → Type 0}
      {old new : Option History} → NoDamage (Err fault) → Adds old new P
      → Adds old new (Leads (anyhow (SparesBoth names segment)) A (WroteMerged folder next names held heads (Err fault)))
  unmerged folder next segment fault {A = A} none told =
      adds_as (Leads (anyhow (SparesBoth names segment)) A (WroteMerged folder next names held heads (Err fault))) told
      (λ added history p. record { leads = λ s h. said fault none (added ++ history); own = owned_anyhow added history })
    where
      said : (fault : JobFault) → NoDamage (Err fault) → (history : History) → WroteMerged folder next names held heads (Err fault) history
      said (Outside call) x history = tt
      said (Damaged name at) x history = x
      said (Spent n) x history = tt
      said NoMemory x history = tt

-- the same of the segment by other names
pub named_as : (names : List (List ℕ)) (w : Writing) (folder : List ℕ) (next : ℕ) → w.folder ≡ folder → w.number ≡ next → {A B : History → Type 0}
    {old new : Option History}
    → Adds old new (Leads (anyhow (SparesBoth names (segment_name w.folder w.number))) A B)
    → Adds old new (Leads (anyhow (SparesBoth names (segment_name folder next))) A B)
named_as names w folder next f n {A = A} {B = B} {old = old} {new = new} told =
    subst (λ (s : List ℕ). Adds old new (Leads (anyhow (SparesBoth names s)) A B)) (ap (λ x. segment_name x w.number) f ∙ ap (segment_name folder) n) told

pub apart_as : (names : List (List ℕ)) (w : Writing) (folder : List ℕ) (next : ℕ) → w.folder ≡ folder → w.number ≡ next
    → AreApart names (segment_name folder next) → AreApart names (segment_name w.folder w.number)
apart_as names w folder next f n apart =
    subst (AreApart names) (sym (ap (λ x. segment_name x w.number) f ∙ ap (segment_name folder) n)) apart

pub own_as : (w : Writing) (folder : List ℕ) (next : ℕ) → w.folder ≡ folder → w.number ≡ next → {old new : Option History}
    → Adds old new (Every (IsOf (ReadsOrWrites (segment_name w.folder w.number))))
    → Adds old new (Every (IsOf (ReadsOrWrites (segment_name folder next))))
own_as w folder next f n {old = old} {new = new} made =
    subst (λ (s : List ℕ). Adds old new (Every (IsOf (ReadsOrWrites s)))) (ap (λ x. segment_name x w.number) f ∙ ap (segment_name folder) n) made

pub of_begin : (fault : JobFault) → IsOfBegin fault → NoDamage (Err fault)
of_begin (Outside call) of = tt
of_begin (Damaged name at) of = of
of_begin (Spent n) of = tt
of_begin NoMemory of = tt

pub of_write : (fault : JobFault) → IsOfWrite fault → NoDamage (Err fault)
of_write (Outside call) of = tt
of_write (Damaged name at) of = of
of_write (Spent n) of = tt
of_write NoMemory of = tt
