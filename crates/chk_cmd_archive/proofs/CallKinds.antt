-- The calls of an archive run and of its prints, by their kind.
use Rattle.std.proofs.Common.{◌≡◌, inl, inr, ℕ, false, List, [], ◌∷◌, Option, Result, refl}
use Rattle.chk_site.specs.declared.acts.OutsideFault.{OutsideFault}
use Rattle.chk_site.specs.declared.acts.ActAnswer.{ActAnswer}
use Rattle.chk_site.specs.Acts.{Deed, Says, deed}
use Rattle.chk_site.specs.History.{History, Every}
use Rattle.chk_site.specs.Site.{Adds}
use Rattle.chk_site.specs.Runs.{own_acts}
use Rattle.chk_site.proofs.Runs.{adds_as}
use Rattle.chk_world.specs.JobSteps.{IsOf}
use Rattle.chk_world.specs.Sight.{job}
use Rattle.chk_archive.specs.Archived.{ArchivesBy, starts, lists_archive, lists_sinks_folder, reads_and_writes, removes_sink, MergesBy, merge_reads, merge_writes, merge_replaces, ReplacesBook, writes_book, names_book, is_sinks_listing}
use Rattle.chk_archive.proofs.OnceListed.{Counted, none_listed}
use Rattle.chk_cmd_output.specs.Printing.{PrintsInTurn, print_of, printed}
use Rattle.chk_cmd_archive.specs.Telling.{ArchivesAndTells, archives, tells}
use Rattle.chk_cmd_output.proofs.CallKinds.{silent_write, silent_read, prints_own}

-- ---- an archive run prints nothing

silent_book : (call : Deed) (answer : ActAnswer) → ReplacesBook call → print_of job call answer ≡ []
silent_book call answer (writes_book c k) = silent_write _ call answer k
silent_book call answer names_book = refl

silent_merge : (call : Deed) (answer : ActAnswer) → MergesBy call → print_of job call answer ≡ []
silent_merge call answer (merge_reads c k) = silent_read call answer k
silent_merge call answer (merge_writes n c k) = silent_write _ call answer k
silent_merge call answer (merge_replaces c k) = silent_book call answer k

silent_call : (call : Deed) (answer : ActAnswer) → ArchivesBy call → print_of job call answer ≡ []
silent_call call answer starts = refl
silent_call call answer lists_archive = refl
silent_call call answer lists_sinks_folder = refl
silent_call call answer (reads_and_writes c k) = silent_merge call answer k
silent_call call answer (removes_sink name closed) = refl

silent_run : (added history : History) → Every (IsOf ArchivesBy) added history → printed (own_acts added) ≡ []
silent_run [] history each = refl
silent_run (step ∷ added) history each =
    let rest = silent_run added history each.0 in
    elim each.1 [
      | inl theirs ↦ rw theirs.0 rest
      | inr mine ↦ rw (mine.0.own, rest, mine.0.by) (silent_call (deed step.act) step.act.answer mine.1)
    ]

pub archive_silent : {old new : Option History} → Adds old new (Every (IsOf ArchivesBy))
    → Adds old new (λ added history. printed (own_acts added) ≡ [])
archive_silent own = adds_as (λ added history. printed (own_acts added) ≡ []) own silent_run

-- ---- the prints

-- a print
pub data Tells : Deed → Type 0 where
  says : (text : List ℕ) → Tells (Says text)

pub of_archive : (call : Deed) → ArchivesBy call → ArchivesAndTells call
of_archive call k = archives call k

pub of_print : (call : Deed) → Tells call → ArchivesAndTells call
of_print call (says text) = tells text

lists_nothing : (call : Deed) → Tells call → is_sinks_listing call ≡ false
lists_nothing call (says text) = refl

pub prints_list_nothing : {lines : List (List ℕ)} {result : Result (Unit {0}) OutsideFault} {old new : Option History}
    → PrintsInTurn job lines result old new → Adds old new (Counted 0)
prints_list_nothing prints = none_listed Tells lists_nothing (prints_own Tells says prints)
