-- A segmenter that writes a segment of the archive still does.
use Rattle.std.proofs.Common.{◌≡◌, Option, Ok, Err, Result, sym, subst, ◌∙◌}
use Rattle.std.specs.Prelude.{OnOk, codes}
use Rattle.chk_site.specs.History.{History, Every}
use Rattle.chk_site.specs.Site.{Adds}
use Rattle.chk_chunk.specs.Keys.{Chunk}
use Rattle.chk_world.specs.Sight.{job}
use Rattle.chk_world.specs.JobSteps.{IsOf, WritesTo}
use Rattle.chk_record_index.specs.declared.fault.JobFault.{JobFault}
use Rattle.chk_book.specs.Folders.{segment_name}
use Rattle.chk_book.specs.Segmenting.{Writing}
use Rattle.chk_book.specs.Written.{IsAt, taken}
use Rattle.chk_book.specs.declared.segmenter.Segmenter.{Segmenter}
use Rattle.chk_archive_parts.specs.Writes.{IsForArchive}

module _ (s t : Segmenter) (c : Chunk) (r : Result (Unit {0}) JobFault) (f : IsForArchive s) where
  pub still_for : ((w : Writing) → IsAt s w → OnOk r (IsAt t (taken s w c))) → OnOk r (IsForArchive t)
  still_for at = go r (at f.w f.at)
    where
      go : (r : Result (Unit {0}) JobFault) → OnOk r (IsAt t (taken s f.w c)) → OnOk r (IsForArchive t)
      go (Ok value) a = record { w = taken s f.w c; at = a; folder = f.folder }
      go (Err fault) a = tt

  pub number_stays : ((w : Writing) → IsAt s w → OnOk r (IsAt t (taken s w c)))
      → OnOk r (t.number ≡ s.number)
  number_stays at = go r (at f.w f.at)
    where
      go : (r : Result (Unit {0}) JobFault) → OnOk r (IsAt t (taken s f.w c)) → OnOk r (t.number ≡ s.number)
      go (Ok value) a = a.number ∙ sym f.at.number
      go (Err fault) a = tt

-- its own steps write that segment
pub writes_it : (s : Segmenter) (f : IsForArchive s) → {old new : Option History}
    → ((w : Writing) → IsAt s w → s.who ≡ job
    → Adds old new (Every (IsOf (WritesTo (segment_name w.folder w.number)))))
    → s.who ≡ job → Adds old new (Every (IsOf (WritesTo (segment_name (codes "archive") s.number))))
writes_it s f {old = old} {new = new} own who =
    subst (λ n. Adds old new (Every (IsOf (WritesTo (segment_name (codes "archive") n))))) (sym f.at.number)
    (subst (λ d. Adds old new (Every (IsOf (WritesTo (segment_name d f.w.number))))) f.folder
    (own f.w f.at who))
