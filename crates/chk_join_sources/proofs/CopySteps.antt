-- Steps that read files, or write the segment, while all files stay.
use Rattle.std.proofs.Common.{◌≡◌, inl, inr, ℕ, false, List, [], ◌∷◌, ◌++◌, Option, Ok, Err, Result, sym, ap, ◌∙◌, subst, bytes_eq, true≢false}
use Rattle.std.specs.Prelude.{OnOk, IfErr, codes}
use Rattle.chk_site.specs.Files.{Files}
use Rattle.chk_site.specs.Acts.{Reads, touches}
use Rattle.chk_site.specs.History.{Step, History, Every, Others}
use Rattle.chk_site.specs.Site.{Adds}
use Rattle.chk_site.specs.Runs.{anyhow, Leads}
use Rattle.chk_site.proofs.Leads.{owned_anyhow}
use Rattle.chk_chunk.specs.Keys.{Chunk}
use Rattle.chk_world.specs.JobSteps.{IsOf, ReadsFile, WritesTo, removes, creates, appends, syncs, SparesFile}
use Rattle.chk_record_index.specs.Faults.{IsOfRead, IsOfWrite}
use Rattle.chk_record_index.specs.declared.fault.JobFault.{JobFault}
use Rattle.chk_record_index.specs.declared.fault.JobFault.TheVariants.{Outside, Damaged, Spent, NoMemory}
use Rattle.chk_book.specs.declared.segmenter.Segmenter.{Segmenter}
use Rattle.chk_book.specs.Folders.{segment_name}
use Rattle.chk_book.specs.Segmenting.{Writing}
use Rattle.chk_book.specs.Written.{IsAt, taken}
use Rattle.chk_record_reader.specs.Segments.{HasFiles, SparesFiles, AreSettled}
use Rattle.chk_record_reader.specs.Merging.{SparesBoth, AreApart}
use Rattle.chk_record_reader.proofs.Frames.{stays_so, spares_one}
use Rattle.chk_record_reader.proofs.AllRead.{adds_all}
use Rattle.chk_join_sources.specs.Copying.{joined_segment, Copies, IsForJoined, GoesOn, Worked}
use Rattle.chk_record_reader.proofs.Writing.{writes_quiet}
use Rattle.chk_book.proofs.Works.{as_kind}

-- ---- steps of others

pub of_files : (all : List (List ℕ)) (segment : List ℕ) (added history : History) → Others (SparesBoth all segment) added history
    → Others (SparesFiles all) added history
of_files all segment [] history s = tt
of_files all segment (step ∷ added) history s = (of_files all segment added history s.0, λ theirs. (s.1 theirs).0)

pub of_segment : (all : List (List ℕ)) (segment w : List ℕ) → w ≡ segment → (added history : History)
    → Others (SparesBoth all segment) added history → Others (SparesFile w) added history
of_segment all segment w is [] history s = tt
of_segment all segment w is (step ∷ added) history s = (
  of_segment all segment w is added history s.0,
  λ theirs. subst (λ v. SparesFile v (added ++ history) step) (sym is) (s.1 theirs).1,
)

-- ---- the segment

pub segment_is : (s : Segmenter) (w : Writing) → IsAt s w → w.folder ≡ codes "joined"
    → segment_name w.folder w.number ≡ joined_segment s.number
segment_is s w at folder = ap (λ x. segment_name x w.number) folder ∙ ap (segment_name (codes "joined")) (sym at.number)

pub goes_on : (s t : Segmenter) (c : Chunk) (result : Result (Unit {0}) JobFault) → IsForJoined s
    → ((w : Writing) → IsAt s w → OnOk result (IsAt t (taken s w c))) → t.who ≡ s.who → OnOk result (GoesOn s t)
goes_on s t c (Ok value) f at who =
    let a = at f.w f.at in
    record {
      number = a.number ∙ sym f.at.number;
      writer = record { who = who ∙ f.who; w = taken s f.w c; at = a; folder = f.folder };
    }
goes_on s t c (Err fault) f at who = tt

-- own writing of the segment leaves the files
pub files_left : (all : List (List ℕ)) (held : Files) (segment : List ℕ) → AreSettled all held → AreApart all segment
    → (added history : History) → Every (IsOf (WritesTo segment)) added history → Others (SparesBoth all segment) added history
    → HasFiles all held history → HasFiles all held (added ++ history)
files_left all held segment settled apart added history made s files v is =
    stays_so (WritesTo segment) v (held v) (writes_quiet segment v (apart v is)) (settled v is).0 added history made
    (spares_one all v is added history (of_files all segment added history s)) (files v is)

-- ---- own calls

pub reads_copy : (n : ℕ) {old new : Option History} → Adds old new (Every (IsOf ReadsFile)) → Adds old new (Every (IsOf (Copies n)))
reads_copy n own = as_kind ReadsFile (Copies n) (λ call k. inl k) own

pub writes_copy : (n : ℕ) {old new : Option History} → Adds old new (Every (IsOf (WritesTo (joined_segment n))))
    → Adds old new (Every (IsOf (Copies n)))
writes_copy n own = as_kind (WritesTo (joined_segment n)) (Copies n) (λ call k. inr k) own

-- what refuses writing may refuse reading and writing
pub of_write : {T : Type 0} (result : Result T JobFault) → IfErr result IsOfWrite → IfErr result IsOfRead
of_write (Ok value) only = tt
of_write (Err (Outside call)) only = tt
of_write (Err (Damaged name at)) only = tt
of_write (Err (Spent n)) only = only
of_write (Err NoMemory) only = tt

-- it still writes the same segment
pub still_on : (r s t : Segmenter) → s.number ≡ r.number → GoesOn s t → GoesOn r t
still_on r s t same on = record { number = on.number ∙ same; writer = on.writer }

pub works_number : {T : Type 0} (m n : ℕ) → m ≡ n → (r : Result T JobFault) {old new : Option History}
    → Adds old new (Worked (Copies m) r) → Adds old new (Worked (Copies n) r)
works_number m n is r {old = old} {new = new} told = subst (λ k. Adds old new (Worked (Copies k) r)) is told
