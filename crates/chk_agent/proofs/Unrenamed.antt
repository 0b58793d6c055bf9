-- A checkpoint whose writing wanted memory is the old one: what was known of the history is known still.
use Rattle.std.proofs.Common.{◌≡◌, ℕ, Bool, true, false, List, [], ◌∷◌, ◌++◌, Option, Some, None}
use Rattle.std.proofs.Common.{Err, ap, ◌∙◌, refl, true≢false}
use Rattle.std.specs.Prelude.{IsTrue}
use Rattle.chk_site.specs.declared.acts.OutsideFault.TheVariants.{NoMemory as no_memory}
use Rattle.chk_site.specs.declared.acts.ActAnswer.{ActAnswer}
use Rattle.chk_site.specs.declared.acts.ActAnswer.TheVariants.{Done, Refused, Stopped, Rotated}
use Rattle.chk_site.specs.declared.acts.ActAnswer.TheVariants.{Deleted}
use Rattle.chk_site.specs.Acts.{is_stop, tail_in}
use Rattle.chk_site.specs.History.{History, Every, Others, files_after, is_stopped}
use Rattle.chk_site.specs.Site.{Adds}
use Rattle.chk_site.specs.Runs.{Owns, Leads, MadeInTurn}
use Rattle.chk_site.proofs.Runs.{adds_both}
use Rattle.chk_site.proofs.Stays.{unnamed_stays}
use Rattle.chk_replace.specs.Replace.{replacement, SparesOld}
use Rattle.chk_world.specs.Names.{CheckFile, is_source, spell}
use Rattle.chk_world.specs.Checkpoints.{Line, lines_in, checkpoint_lines, read_checkpoint}
use Rattle.chk_world.specs.Rules.{Legal}
use Rattle.chk_world.specs.Places.{As, Foreign, IsBy, IsOwn}
use Rattle.chk_world.specs.Answering.{LinesGoOn}
use Rattle.chk_world.specs.Knowing.{agent, Told}
use Rattle.chk_world.proofs.PlacesStay.{Stays}
use Rattle.chk_world.proofs.AgentCalls.{KeptByWrites}
use Rattle.chk_world.proofs.AgentWrites.{written_told}
use Rattle.chk_world.proofs.Frames.{files_stay}

no_tail : (answer : ActAnswer) (name : List ℕ) → is_stop answer ≡ false → tail_in answer name ≡ None
no_tail (Done words number of) name e = refl
no_tail (Refused fault) name e = refl
no_tail (Stopped left) name e = absurd (true≢false e)
no_tail (Rotated suffix) name e = refl
no_tail (Deleted suffix) name e = refl

module _ (stamped : List (List ℕ)) (source : List ℕ) (known : IsTrue (is_source source)) where
  mine : IsOwn (agent source) (CheckFile source)
  mine = record { own = refl; known = known }

  -- steps that leave the checkpoint leave its lines
  kept_lines : (added history : History) → Legal stamped (added ++ history) → Others (Foreign stamped (agent source)) added history
      → Owns (IsBy (agent source)) added history → Every (SparesOld (Err no_memory) (spell (CheckFile source))) added history
      → is_stopped (added ++ history) ≡ false
      → (is_stopped history ≡ false)
      × (checkpoint_lines (files_after (added ++ history)) source ≡ checkpoint_lines (files_after history) source)
  kept_lines [] history legal others owns spares running = (running, refl)
  kept_lines (step ∷ added) history legal others owns spares running =
      by step.own refl running (kept_lines added history legal.0 others.0 owns.0 spares.0)
    where
      before : History
      before = added ++ history

      by : (b : Bool) → step.own ≡ b
          → elim b [ true ↦ is_stop step.act.answer | false ↦ is_stopped before ] ≡ false
          → (is_stopped before ≡ false
          → (is_stopped history ≡ false)
          × (checkpoint_lines (files_after before) source ≡ checkpoint_lines (files_after history) source))
          → (is_stopped history ≡ false)
          × (checkpoint_lines step.files source ≡ checkpoint_lines (files_after history) source)
      by true own calm rest =
          let r = rest (owns.1 own).running in (
            r.0,
            ap lines_in (unnamed_stays before step (spell (CheckFile source)) legal.1.honest.modelled (spares.1 own)
                (no_tail step.act.answer (spell (CheckFile source)) calm)) ∙ r.1,
          )
      by false own calm rest =
          let r = rest calm in
          (r.0, ap lines_in (files_stay stamped (agent source) before step (CheckFile source) (others.1 own) mine) ∙ r.1)

  -- what was known before a writing that wanted memory is known behind it
  pub unmade_told : (cluster : List ℕ) (F : History → Type 0) → Stays stamped (agent source) F → KeptByWrites stamped (agent source) F
      → (old new : List Line) (bytes : List ℕ) → read_checkpoint bytes ≡ Some new
      → ((history : History) → F history → LinesGoOn (agent source) old new history)
      → {before after : Option History} → MadeInTurn (replacement (agent source) (spell (CheckFile source)) bytes) (Err no_memory) before after
      → Adds before after (Every (SparesOld (Err no_memory) (spell (CheckFile source))))
      → Adds before after (Leads (As stamped (agent source)) (Told stamped source cluster old F) (Told stamped source cluster old F))
  unmade_told cluster F stays kept old new bytes is_read go_on script spares =
      adds_both (Leads (As stamped (agent source)) (Told stamped source cluster old F) (Told stamped source cluster old F))
      (written_told stamped source known cluster F stays kept old new bytes is_read go_on (spell (CheckFile source)) refl script) spares
      (λ added history x y. record {
        leads = λ others told.
            let t = x.leads others told in
            record {
              legal = t.legal;
              may_act = t.may_act;
              alive = λ running.
                  let k = t.alive running in
                  let same = kept_lines added history t.legal others x.own y running in
                  record { one_cluster = k.one_cluster; lines_are = same.1 ∙ (told.alive same.0).lines_are; holds = k.holds };
            };
        own = x.own;
      })
