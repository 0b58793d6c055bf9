-- The calls of a join and of its print, by their kind.
use Rattle.std.proofs.Common.{◌≡◌, inl, inr, ℕ, List, [], ◌∷◌, Option, refl}
use Rattle.chk_site.specs.declared.acts.ActAnswer.{ActAnswer}
use Rattle.chk_site.specs.Acts.{Deed, deed}
use Rattle.chk_site.specs.History.{History, Every}
use Rattle.chk_site.specs.Site.{Adds}
use Rattle.chk_site.specs.Runs.{own_acts}
use Rattle.chk_site.proofs.Runs.{adds_as}
use Rattle.chk_world.specs.JobSteps.{IsOf}
use Rattle.chk_world.specs.Sight.{job}
use Rattle.chk_archive_parts.specs.Publishing.{ReplacesBookOf, writes_book, names_book}
use Rattle.chk_join.specs.Faults.{JoinsBy, starts, only_reads, lists_folder, removes_segment, writes_segment, replaces_book}
use Rattle.chk_cmd_output.specs.Printing.{print_of, printed}
use Rattle.chk_cmd_join.specs.Telling.{JoinsAndTells, joins, tells, Tells, says}
use Rattle.chk_cmd_output.proofs.CallKinds.{silent_write, silent_read}

-- ---- a join prints nothing

silent_book : (folder : List ℕ) (call : Deed) (answer : ActAnswer) → ReplacesBookOf folder call
    → print_of job call answer ≡ []
silent_book folder call answer (writes_book c k) = silent_write _ call answer k
silent_book folder call answer names_book = refl

silent_call : (call : Deed) (answer : ActAnswer) → JoinsBy call → print_of job call answer ≡ []
silent_call call answer starts = refl
silent_call call answer (only_reads c k) = silent_read call answer k
silent_call call answer lists_folder = refl
silent_call call answer (removes_segment n) = refl
silent_call call answer (writes_segment n c k) = silent_write _ call answer k
silent_call call answer (replaces_book c k) = silent_book _ call answer k

silent_run : (added history : History) → Every (IsOf JoinsBy) added history
    → printed (own_acts added) ≡ []
silent_run [] history each = refl
silent_run (step ∷ added) history each =
    let rest = silent_run added history each.0 in
    elim each.1 [
      | inl theirs ↦ rw theirs.0 rest
      | inr mine ↦ rw (mine.0.own, rest, mine.0.by)
          (silent_call (deed step.act) step.act.answer mine.1)
    ]

pub join_silent : {old new : Option History} → Adds old new (Every (IsOf JoinsBy))
    → Adds old new (λ added history. printed (own_acts added) ≡ [])
join_silent own = adds_as (λ added history. printed (own_acts added) ≡ []) own silent_run

-- ---- the print

pub of_join : (call : Deed) → JoinsBy call → JoinsAndTells call
of_join call k = joins call k

pub of_print : (call : Deed) → Tells call → JoinsAndTells call
of_print call (says text) = tells text
