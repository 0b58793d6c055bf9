-- The calls of a demux run and of its print, by their kind.
use Rattle.std.proofs.Common.{◌≡◌, inl, inr, ℕ, List, [], ◌∷◌, Option, refl}
use Rattle.chk_site.specs.declared.acts.ActAnswer.{ActAnswer}
use Rattle.chk_site.specs.Acts.{Deed, Says, deed}
use Rattle.chk_site.specs.History.{History, Every}
use Rattle.chk_site.specs.Site.{Adds}
use Rattle.chk_site.specs.Runs.{own_acts}
use Rattle.chk_site.proofs.Runs.{adds_as}
use Rattle.chk_world.specs.JobSteps.{IsOf}
use Rattle.chk_world.specs.Sight.{job}
use Rattle.chk_demux.specs.Demuxed.{DemuxesBy, starts, only_reads, writes_records, replaces_book, ReplacesBook, writes_book, names_book}
use Rattle.chk_cmd_output.specs.Printing.{print_of, printed}
use Rattle.chk_cmd_demux.specs.Telling.{DemuxesAndTells, demuxes, tells}
use Rattle.chk_cmd_output.proofs.CallKinds.{silent_write, silent_read}

-- ---- a demux run prints nothing

silent_book : (call : Deed) (answer : ActAnswer) → ReplacesBook call → print_of job call answer ≡ []
silent_book call answer (writes_book c k) = silent_write _ call answer k
silent_book call answer names_book = refl

silent_call : (call : Deed) (answer : ActAnswer) → DemuxesBy call → print_of job call answer ≡ []
silent_call call answer starts = refl
silent_call call answer (only_reads c k) = silent_read call answer k
silent_call call answer (writes_records n c k) = silent_write _ call answer k
silent_call call answer (replaces_book c k) = silent_book call answer k

silent_run : (added history : History) → Every (IsOf DemuxesBy) added history → printed (own_acts added) ≡ []
silent_run [] history each = refl
silent_run (step ∷ added) history each =
    let rest = silent_run added history each.0 in
    elim each.1 [
      | inl theirs ↦ rw theirs.0 rest
      | inr mine ↦ rw (mine.0.own, rest, mine.0.by) (silent_call (deed step.act) step.act.answer mine.1)
    ]

pub demux_silent : {old new : Option History} → Adds old new (Every (IsOf DemuxesBy))
    → Adds old new (λ added history. printed (own_acts added) ≡ [])
demux_silent own = adds_as (λ added history. printed (own_acts added) ≡ []) own silent_run

-- ---- the print

-- a print
pub data Tells : Deed → Type 0 where
  says : (text : List ℕ) → Tells (Says text)

pub of_demux : (call : Deed) → DemuxesBy call → DemuxesAndTells call
of_demux call k = demuxes call k

pub of_print : (call : Deed) → Tells call → DemuxesAndTells call
of_print call (says text) = tells text
