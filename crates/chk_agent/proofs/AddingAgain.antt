-- The exits of a past adaptor that lives again: what it leaves at each.
use Rattle.std.proofs.Common.{◌≡◌, ℕ, true, false, List, Option, None, Some, Ok, Err, sym, subst}
use Rattle.std.proofs.Common.{refl}
use Rattle.std.specs.Prelude.{IsTrue, slice_get, slice_set}
use Rattle.chk_site.specs.declared.acts.Call.{Call}
use Rattle.chk_site.specs.declared.acts.OutsideFault.TheVariants.{Outside as site_failed}
use Rattle.chk_site.specs.declared.acts.OutsideFault.TheVariants.{NoMemory as no_memory}
use Rattle.chk_site.specs.History.{Every, History}
use Rattle.chk_site.specs.Site.{Adds}
use Rattle.chk_site.specs.Runs.{Leads}
use Rattle.chk_site.proofs.Leads.{leads_as}
use Rattle.chk_control.specs.Lines.{is_name}
use Rattle.chk_replace.specs.Replace.{SparesOld}
use Rattle.chk_checkpoint.specs.Lines.{written_text}
use Rattle.chk_world.specs.Answering.{LinesGoOn}
use Rattle.chk_world.specs.Checkpoints.{Line, Two, are_lines, read_checkpoint}
use Rattle.chk_world.specs.Knowing.{agent}
use Rattle.chk_world.specs.Names.{CheckFile, spell}
use Rattle.chk_world.specs.Places.{As}
use Rattle.chk_agent_adaptor.specs.Adaptors.{Adaptor, revived}
use Rattle.chk_agent.specs.declared.answers.AgentFault.TheVariants.{Outside, NoMemory}
use Rattle.chk_agent.specs.States.{State, process, lines_of}
use Rattle.chk_agent.specs.Facts.{Matches}
use Rattle.chk_agent.specs.Fits.{IsSound}
use Rattle.chk_agent.specs.Settles.{Writes, saved_now, unsure}
use Rattle.chk_agent.specs.Adds.{named_in, revived_at}
use Rattle.chk_agent.specs.Takes.{Keeps, kept, failed, unwritten}
use Rattle.chk_agent.proofs.Soundness.{lines_spelled, sound_saved, sound_unsure}
use Rattle.chk_agent.proofs.SettlingTold.{lines_go_on, lines_unmade, lines_written, lines_unsure}
use Rattle.chk_agent.proofs.AddingPast.{holds_revived, revived_sound, revived_matches}
use Rattle.chk_agent.proofs.AddingKept.{same_room}

module _ (s : State) (sound : IsSound s) (n : ℕ) (a : Adaptor)
    (at : slice_get s.adaptors n ≡ Some a)
    (name : List ℕ) (good : IsTrue (is_name name)) (free : named_in name 0 s.adaptors ≡ None)
    (lines : List Line) (are : lines ≡ lines_of (revived_at s n name a)) where
  abbrev T : State
  T = revived_at s n name a

  sound_then : IsSound T
  sound_then = revived_sound s sound n a at name good free

  pub good_again : IsTrue (are_lines Two lines)
  good_again = subst (λ ls. IsTrue (are_lines Two ls)) (sym are) (lines_spelled T sound_then)

  read_then : read_checkpoint (written_text lines) ≡ Some lines
      → read_checkpoint (written_text (lines_of T)) ≡ Some (lines_of T)
  read_then read = subst (λ ls. read_checkpoint (written_text ls) ≡ Some ls) are read

  module _ (xs : List Adaptor) (is : xs ≡ slice_set s.adaptors n (revived name a)) where
    state_is : record s { adaptors = xs; saved = lines } ≡ saved_now T
    state_is = λ i. record s { adaptors = is i; saved = are i }

    pub sound_again : IsSound (record s { adaptors = xs; saved = lines })
    sound_again = subst IsSound (sym state_is) (sound_saved T sound_then)

    pub kept_again : {old new : Option History} → Writes s lines (Ok tt) old new
        → Keeps s T (Ok tt) (record s { adaptors = xs; saved = lines }) old new
    kept_again {old = old} {new = new} script =
        subst (λ u. Keeps s T (Ok tt) u old new) (sym state_is)
        (kept (subst (λ ls. Writes s ls (Ok tt) old new) are script))

    pub told_again : (stamped : List (List ℕ)) → s.ready ≡ true
        → read_checkpoint (written_text lines) ≡ Some lines → {old new : Option History}
        → Writes s lines (Ok tt) old new
        → Adds old new (Leads (As stamped (process s)) (Matches stamped s)
        (Matches stamped (record s { adaptors = xs; saved = lines })))
    told_again stamped ready read {old = old} {new = new} script =
        leads_as (revived_matches s sound n a at name stamped)
        (λ h x. subst (λ u. Matches stamped u h) (sym state_is) x)
        (lines_written stamped T sound_then ready (read_then read)
        (subst (λ ls. Writes s ls (Ok tt) old new) are script))

  -- where it wasn't written the room is all that changed
  module _ (xs : List Adaptor) (room : xs ≡ s.adaptors) where
    pub sound_left : IsSound (record s { adaptors = xs })
    sound_left = subst IsSound (sym (same_room s xs room)) sound

    pub unmade_left : {old new : Option History} → Writes s lines (Err no_memory) old new
        → Keeps s T (Err NoMemory) (record s { adaptors = xs }) old new
    unmade_left {old = old} {new = new} script =
        subst (λ u. Keeps s T (Err NoMemory) u old new) (sym (same_room s xs room))
        (unwritten (subst (λ ls. Writes s ls (Err no_memory) old new) are script))

    pub told_left : (stamped : List (List ℕ)) → s.ready ≡ true
        → read_checkpoint (written_text lines) ≡ Some lines → {old new : Option History}
        → Writes s lines (Err no_memory) old new
        → Adds old new (Every (SparesOld (Err no_memory) (spell (CheckFile s.source))))
        → Adds old new (Leads (As stamped (process s)) (Matches stamped s)
        (Matches stamped (record s { adaptors = xs })))
    told_left stamped ready read {old = old} {new = new} script spares =
        subst
        (λ u. Adds old new (Leads (As stamped (process s)) (Matches stamped s) (Matches stamped u)))
        (sym (same_room s xs room))
        (lines_unmade stamped s sound ready lines read
        (λ h x. subst (λ ls. LinesGoOn (agent s.source) s.saved ls h) (sym are)
        (lines_go_on T sound_then h (holds_revived s sound n a at name h x)))
        script spares)

    lost_is : record s { adaptors = xs; ready = false } ≡ unsure s
    lost_is = λ i. record s { adaptors = room i; ready = false }

    pub sound_lost : IsSound (record s { adaptors = xs; ready = false })
    sound_lost = subst IsSound (sym lost_is) (sound_unsure s sound)

    pub failed_lost : (call : Call) {old new : Option History}
        → Writes s lines (Err (site_failed call)) old new
        → Keeps s T (Err (Outside call)) (record s { adaptors = xs; ready = false }) old new
    failed_lost call {old = old} {new = new} script =
        subst (λ u. Keeps s T (Err (Outside call)) u old new) (sym lost_is)
        (failed call (subst (λ ls. Writes s ls (Err (site_failed call)) old new) are script))

    pub told_lost : (stamped : List (List ℕ)) → s.ready ≡ true
        → read_checkpoint (written_text lines) ≡ Some lines → (call : Call)
        → {old new : Option History} → Writes s lines (Err (site_failed call)) old new
        → Adds old new (Leads (As stamped (process s)) (Matches stamped s)
        (Matches stamped (record s { adaptors = xs; ready = false })))
    told_lost stamped ready read call {old = old} {new = new} script =
        leads_as (revived_matches s sound n a at name stamped)
        (λ h x. subst (λ u. Matches stamped u h) (sym lost_is) x)
        (lines_unsure stamped T sound_then ready (read_then read) s refl (site_failed call)
        (subst (λ ls. Writes s ls (Err (site_failed call)) old new) are script))
