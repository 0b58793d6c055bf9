-- What a run of a watcher printed: of which messages that it took, and in which order.
use Rattle.std.specs.Prelude.{◌≡◌, ℕ, true, List, [], ◌++◌, Result}
use Rattle.chk_site.specs.declared.acts.OutsideFault.{OutsideFault}
use Rattle.chk_site.specs.declared.acts.Who.{Who}
use Rattle.chk_site.specs.History.{History}
use Rattle.chk_tee.specs.Messages.{Teed}
use Rattle.chk_tee_sender.specs.Sieves.{rises}
use Rattle.chk_cmd_subscribe.specs.Told.{places, PrintsUpTo, all_lines}
use Rattle.chk_cmd_subscribe.specs.Watching.{fresh_of}
use Rattle.chk_cmd_subscribe.specs.Taking.{AreTaken, all_chunks}

-- What was printed are the lines of those chunks of some messages that the process took that lie
-- above those of their collector before them, and how many they are.
pub record PrintsTaken (who : Who) (result : Result (Unit {0}) OutsideFault)
    (added history : History) : Type 0 where
  pub messages : List (List Teed)
  pub taken : AreTaken who messages (added ++ history)
  pub refused : ℕ
  pub prints : PrintsUpTo who result
      (all_lines (fresh_of [] (all_chunks messages)) refused) added
  pub rise : rises [] (places (fresh_of [] (all_chunks messages))) ≡ true
