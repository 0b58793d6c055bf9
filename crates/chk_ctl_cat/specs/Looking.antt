-- What one who only looks does to the outside, and what he sees of files that others take away at most.
use Rattle.std.specs.Prelude.{◌≡◌, ◌⊎◌, ℕ, List, [], ◌∷◌, ◌++◌, Some, None}
use Rattle.chk_site.specs.declared.acts.Act.{Act}
use Rattle.chk_site.specs.declared.acts.ActAnswer.{ActAnswer}
use Rattle.chk_site.specs.declared.acts.ActAnswer.TheVariants.{Done}
use Rattle.chk_site.specs.Acts.{Deed, Says, deed}
use Rattle.chk_site.specs.Files.{File, Files}
use Rattle.chk_site.specs.History.{Step, History, Every, Others, files_after}
use Rattle.chk_site.specs.Runs.{own_acts}
use Rattle.chk_world.specs.JobSteps.{ReadsFile, IsOf}

-- the text that a call printed
abbrev pub text_said : Deed → ActAnswer → List ℕ
text_said (Says text) (Done words number of) = text
text_said call answer = []

-- all that these acts printed, the newest of them being the first
abbrev pub said : List Act → List ℕ
said [] = []
said (act ∷ acts) = said acts ++ text_said (deed act) act.answer

-- what the site's own calls among these steps printed
abbrev pub text_of : History → List ℕ
text_of added = said (own_acts added)

-- the calls: a read of a file, and a print
pub data LooksOrSays : Deed → Type 0 where
  looks : (call : Deed) → ReadsFile call → LooksOrSays call
  says : (text : List ℕ) → LooksOrSays (Says text)

-- the file of this name is this one, or it isn't there any more
abbrev pub IsOrWent : List ℕ → File → History → Type 0
IsOrWent name f history = (files_after history name ≡ Some f) ⊎ (files_after history name ≡ None)

-- each of these files is so
abbrev pub AreOrWent : Files → History → Type 0
AreOrWent held history = (name : List ℕ) (f : File) → held name ≡ Some f → IsOrWent name f history

-- the step leaves each of these files as it is, or takes it away
abbrev pub SparesOrTakes : Files → History → Step → Type 0
SparesOrTakes held before step = (name : List ℕ) (f : File) → held name ≡ Some f
    → (step.files name ≡ files_after before name) ⊎ (step.files name ≡ None)

-- Suppose that others leave some files as they are, or take them away, and write none anew. Then this holds of the
-- files and of the text that was printed. Each own step reads, or prints.
pub record Sees (After : Files → List ℕ → History → Type 0) (added history : History) : Type 0 where
  pub sees : (held : Files) → Others (SparesOrTakes held) added history → AreOrWent held history
      → After held (text_of added) (added ++ history)
  pub own : Every (IsOf LooksOrSays) added history
