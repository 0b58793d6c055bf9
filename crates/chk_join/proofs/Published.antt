-- The joined archive's book is published.
use Rattle.std.proofs.Common.{◌≡◌, ◌⊎◌, inl, inr, ℕ, true, List, ◌++◌, Option, Some, Ok, Err}
use Rattle.std.proofs.Common.{Result, sym, ◌∙◌, subst}
use Rattle.std.specs.Prelude.{codes}
use Rattle.chk_site.specs.Files.{File, IsSettled}
use Rattle.chk_site.specs.History.{History, files_after}
use Rattle.chk_site.specs.Site.{Adds}
use Rattle.chk_site.specs.Runs.{anyhow, Leads, MadeInTurn}
use Rattle.chk_site.proofs.Runs.{adds_as}
use Rattle.chk_site.proofs.Leads.{owned_anyhow, leads_none}
use Rattle.chk_replace.specs.Load.{Has}
use Rattle.chk_replace.specs.Replace.{replacement, LeavesBoth, IsOldOrNew, EndsAs, whole}
use Rattle.chk_replace.proofs.OldAndNew.{replaced}
use Rattle.chk_world.specs.Books.{Book, is_book, book_bytes, written_version}
use Rattle.chk_world.specs.Sight.{job}
use Rattle.chk_world.proofs.BooksRead.{book_back}
use Rattle.chk_record_index.specs.Faults.{FailsLast}
use Rattle.chk_record_index.specs.declared.fault.JobFault.{JobFault}
use Rattle.chk_record_index.specs.declared.fault.JobFault.TheVariants.{Outside, Damaged, Spent, NoMemory}
use Rattle.chk_book.specs.Publishing.{site_result}
use Rattle.chk_archive_parts.specs.Publishing.{ReplacesBookOf}
use Rattle.chk_archive_parts.proofs.Published.{publishes, replaces_no_reads}
use Rattle.chk_archive_parts.proofs.StepKinds.{no_reads}
use Rattle.chk_join.specs.Publishing.{HasNewBook, PublishedSo}
use Rattle.chk_join.specs.Working.{Worked}
use Rattle.chk_join.proofs.Begun.{joined_book}
use Rattle.chk_book.proofs.Works.{worked}

module _ (f : Option File) (b : Book) (can : is_book (written_version b) b ≡ true) where
  abbrev bytes : List ℕ
  bytes = book_bytes (written_version b) b

  new_book : (h : History) → Has joined_book (Some (whole bytes)) h → HasNewBook b h
  new_book h has = (whole bytes, (has, book_back (written_version b) b can))

  old_or_new : (o : Option File) (h : History) → o ≡ f → IsOldOrNew o bytes (files_after h joined_book)
      → Has joined_book f h ⊎ HasNewBook b h
  old_or_new o h is (inl k) = inl (k ∙ is)
  old_or_new o h is (inr k) = inr (new_book h k)

  ended : (result : Result (Unit {0}) JobFault) (o : Option File) (h : History) → o ≡ f
      → EndsAs (site_result result) o bytes (files_after h joined_book) → PublishedSo f b result h
  ended (Ok value) o h is x = new_book h x
  ended (Err (Outside call)) o h is x = old_or_new o h is x
  ended (Err (Damaged name at)) o h is x = old_or_new o h is x
  ended (Err (Spent n)) o h is x = old_or_new o h is x
  ended (Err NoMemory) o h is x = old_or_new o h is x

  pub published_so : IsSettled f → (result : Result (Unit {0}) JobFault) {old new : Option History}
      → MadeInTurn (replacement job joined_book bytes) (site_result result) old new
      → Adds old new (Leads (anyhow (LeavesBoth joined_book)) (Has joined_book f) (PublishedSo f b result))
  published_so settled result script =
      adds_as (Leads (anyhow (LeavesBoth joined_book)) (Has joined_book f) (PublishedSo f b result))
      (replaced job joined_book bytes script)
      (λ added history w. record {
        leads = λ others has.
            ended result (files_after history joined_book) (added ++ history) has
            (w (subst IsSettled (sym has) settled) others).last;
        own = owned_anyhow added history;
      })

-- one that can't be spelled
pub not_spelled : (f : Option File) (b : Book) (now : Option History)
    → Adds now now (Leads (anyhow (LeavesBoth joined_book)) (Has joined_book f) (PublishedSo f b (Err NoMemory)))
not_spelled f b now = leads_none now (λ h has. inl has)

pub publish_works : (bytes : List ℕ) (result : Result (Unit {0}) JobFault) {old new : Option History}
    → MadeInTurn (replacement job joined_book bytes) (site_result result) old new → Adds old new (FailsLast result)
    → Adds old new (Worked (ReplacesBookOf (codes "joined")) result)
publish_works bytes result script last =
    worked (ReplacesBookOf (codes "joined")) result (publishes (codes "joined") bytes script)
    (no_reads (ReplacesBookOf (codes "joined")) (replaces_no_reads (codes "joined")) (publishes (codes "joined") bytes script))
    last
