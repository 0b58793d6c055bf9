-- What is kept, and that the files and logs follow from the acts.
use Rattle.std.specs.Prelude.{◌≡◌, ℕ, Bool, List, [], ◌∷◌, length}
use Rattle.chk_site.specs.declared.acts.Act.{Act}
use Rattle.chk_site.specs.History.{files_after, logs_after, is_stopped}
use Rattle.chk_site_mem_store.specs.declared.named.Named.{Named}
use Rattle.chk_site_mem_store.specs.declared.files.MemFile.{MemFile}
use Rattle.chk_site_mem_store.specs.declared.logs.MemLog.{MemLog}
use Rattle.chk_site_mem_store.specs.Told.{Kept, kept_as, told_of}
use Rattle.chk_site_mem_store.specs.Stored.{IsStored}
use Rattle.chk_site_mem_store.specs.Numbers.{IsNumbered}

-- the acts, each with whether it is own
abbrev pub kept_in : List Bool → List Act → List Kept
kept_in [] acts = []
kept_in (own ∷ owns) [] = []
kept_in (own ∷ owns) (act ∷ acts) = kept_as own act ∷ kept_in owns acts

-- each act has its mark, the files and logs are those that the acts left, the greatest numbers of a message and of a
-- taking, and whether the newest own act was a stop
pub record IsKept (mine : List Bool) (past : List Act) (files : List (Named MemFile)) (logs : List (Named MemLog))
    (stopped : Bool) (messages takings : ℕ) : Type 0 where
  pub marked : length mine ≡ length past
  pub stores : IsStored files logs (files_after (told_of (kept_in mine past))) (logs_after (told_of (kept_in mine past)))
  pub numbers : IsNumbered (told_of (kept_in mine past)) messages takings
  pub stop : is_stopped (told_of (kept_in mine past)) ≡ stopped
