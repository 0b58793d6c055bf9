-- What the told history holds after a step of one adaptor.
use Rattle.std.proofs.Common.{◌≡◌, ℕ, true, List, Some, Option, Result, Ok, Err, ap, subst}
use Rattle.std.specs.Prelude.{IsTrue, slice_get}
use Rattle.chk_site.specs.declared.acts.OutsideFault.{OutsideFault}
use Rattle.chk_site.specs.History.{History}
use Rattle.chk_site.specs.Site.{Adds}
use Rattle.chk_site.specs.Runs.{Leads}
use Rattle.chk_site.proofs.Leads.{leads_as}
use Rattle.chk_tail.specs.declared.step.Step.{Step}
use Rattle.chk_world.specs.Checkpoints.{is_after_text}
use Rattle.chk_world.specs.Places.{As}
use Rattle.chk_world.specs.Knowing.{agent, Both, Told}
use Rattle.chk_agent_adaptor.specs.Adaptors.{Adaptor, stream_at, IsPlaced}
use Rattle.chk_agent_adaptor.specs.Steps.{IsStepped}
use Rattle.chk_agent_adaptor.specs.Facts.{StepStands}
use Rattle.chk_agent_adaptor.proofs.Told.{step_leads}
use Rattle.chk_agent.specs.States.{State, process, committed_at}
use Rattle.chk_agent.specs.Fills.{after_step}
use Rattle.chk_agent.specs.Facts.{Holds, Matches}
use Rattle.chk_agent.specs.Fits.{IsSound}
use Rattle.chk_agent.proofs.Soundness.{in_at, past_line}
use Rattle.chk_agent.proofs.SettlingTold.{state_grows}
use Rattle.chk_agent.proofs.SteppingHolds.{IsValid, holds_step}

-- the stream stays
pub stream_stepped : (source : List ℕ) (a b : Adaptor) (result : Result Step OutsideFault) {old new : Option History}
    → IsStepped (agent source) a result b old new → stream_at source b ≡ stream_at source a
stream_stepped source a b (Ok step) st = ap (stream_at source) st.is
stream_stepped source a b (Err fault) st = ap (stream_at source) st.is

module _ (stamped : List (List ℕ)) (s : State) (sound : IsSound s) (ready : s.ready ≡ true) (i : ℕ) (a b : Adaptor)
    (at : slice_get s.adaptors i ≡ Some a) (named : IsTrue (is_after_text a.read.after)) (placed : IsPlaced b)
    (result : Result Step OutsideFault) {old new : Option History} (st : IsStepped (process s) a result b old new) where
  pub step_on : Adds old new (Leads (As stamped (process s)) (Told stamped s.source s.cluster s.saved (Holds s))
      (Told stamped s.source s.cluster s.saved (Both (Holds s) (StepStands s.source a result b))))
  step_on =
      let f = sound.each i a at in
      step_leads stamped s.source sound.source s.cluster s.saved a b result f.saved f.there
      (past_line s.source s.saved _ (committed_at s i) a f) named f.place.marked.placed placed st (Holds s) (state_grows stamped s sound)
      (λ h x. x.readers a (in_at s.adaptors i a at))

  -- the state stays where the step left nothing
  pub kept_told : Adds old new (Leads (As stamped (process s)) (Matches stamped s) (Matches stamped s))
  kept_told =
      leads_as (λ h x. record { legal = x.legal; may_act = x.may_act; alive = λ run. x.alive run ready })
      (λ h x. record {
        legal = x.legal;
        may_act = x.may_act;
        alive = λ run r. let k = x.alive run in
            record { one_cluster = k.one_cluster; lines_are = k.lines_are; holds = k.holds.one };
      }) step_on

  -- and goes on where it was made
  pub made_told : (step : Step) → result ≡ Ok step → IsValid s a step
      → Adds old new (Leads (As stamped (process s)) (Matches stamped s) (Matches stamped (after_step i step a b s)))
  made_told step is valid =
      leads_as (λ h x. record { legal = x.legal; may_act = x.may_act; alive = λ run. x.alive run ready })
      (λ h x. record {
        legal = x.legal;
        may_act = x.may_act;
        alive = λ run r. let k = x.alive run in
            record {
              one_cluster = k.one_cluster;
              lines_are = k.lines_are;
              holds = holds_step h s sound k.holds.one i a b at (stream_stepped s.source a b result st) step valid
                  (subst (λ r. StepStands s.source a r b h) is k.holds.two);
            };
      }) step_on
