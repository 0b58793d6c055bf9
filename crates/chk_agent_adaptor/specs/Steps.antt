-- A step of an adaptor: the reads that it makes, and what they make of it.
use Rattle.std.specs.Prelude.{◌≡◌, not, List, ◌++◌, Option, Some, Result, Ok, Err}
use Rattle.chk_control.specs.Classes.{is_plain, breaks_lines}
use Rattle.chk_site.specs.declared.acts.Who.{Who}
use Rattle.chk_site.specs.declared.acts.OutsideFault.{OutsideFault}
use Rattle.chk_site.specs.History.{History}
use Rattle.chk_tail.specs.declared.step.Step.{Step}
use Rattle.chk_tail.specs.declared.step.Step.TheVariants.{AtEnd, Shrank as is_short}
use Rattle.chk_tail.specs.Walks.{Spot, Way, Walks}
use Rattle.chk_agent_adaptor.specs.declared.adaptor.Phase.{Phase}
use Rattle.chk_agent_adaptor.specs.declared.adaptor.Phase.TheVariants.{Stopping, Shrank}
use Rattle.chk_agent_adaptor.specs.Adaptors.{Adaptor}

-- how it reads
abbrev pub way_of : Who → Adaptor → Way
way_of who a =
    record {
      who = who;
      path = a.path;
      lines = breaks_lines a.class;
      rotated = not (is_plain a.class);
    }

-- what it does after a step
abbrev pub phase_after : Step → Spot → Phase → Phase
phase_after AtEnd next (Stopping end) = Stopping (Some next.offset)
phase_after (is_short had is) next phase = Shrank
phase_after step next phase = phase

-- the adaptor after a step; where it was refused, it is as it was
abbrev pub stepped : List Spot → Spot → Result Step OutsideFault → Adaptor → Adaptor
stepped marks next (Ok step) a =
    record a { read = next; marks = a.marks ++ marks; phase = phase_after step next a.phase }
stepped marks next (Err fault) a = a

-- The step made its reads in turn, and the adaptor has gone on as they say.
pub record IsStepped (who : Who) (old : Adaptor) (result : Result Step OutsideFault)
    (new : Adaptor)
    (before after : Option History) : Type 0 where
  pub marks : List Spot
  pub next : Spot
  pub walks : Walks (way_of who old) result next old.read marks before after
  pub is : new ≡ stepped marks next result old
