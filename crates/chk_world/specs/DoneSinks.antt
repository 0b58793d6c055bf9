-- What becomes of a done sink.
use Rattle.std.specs.Prelude.{◌≡◌, ℕ, ◌<◌, IsTrue, List, ◌∷◌, ◌++◌, length, codes, Some, None}
use Rattle.chk_bytes.specs.Stems.{Stem, is_stem, stem_text}
use Rattle.chk_site.specs.declared.acts.Role.TheVariants.{Job}
use Rattle.chk_site.specs.Files.{File}
use Rattle.chk_site.specs.Acts.{Removes, deed, same_role}
use Rattle.chk_site.specs.History.{Step, History, files_after}
use Rattle.chk_world.specs.Names.{Name, SinkFile, DoneFile, read, file}
use Rattle.chk_world.specs.ArchiveRuns.{is_closed, sink_path}
use Rattle.chk_world.specs.Rules.{Legal}
use Rattle.chk_world.specs.Laws.{wrote}

-- the sink was written once, and neither of its files is there
pub record IsGone (history : History) (x : Stem) : Type 0 where
  pub wrote_some : 0 < length (wrote x history)
  pub sink : file (files_after history) (SinkFile x) ≡ None
  pub done : file (files_after history) (DoneFile x) ≡ None

-- the step is the job's removal of the done sink
pub record RemovesDone (step : Step) (x : Stem) : Type 0 where
  pub word : List ℕ
  pub call : deed step.act ≡ Removes word
  pub of : read word ≡ DoneFile x
  pub by : IsTrue (same_role step.act.who.role Job)

-- a legal step leaves a done sink as it is, but for the job's removal of it; and what is gone
-- doesn't come again
pub record DoneStays (history : History) (step : Step) (x : Stem) : Type 0 where
  pub stays : (f : File) → file (files_after history) (DoneFile x) ≡ Some f
      → (RemovesDone step x → ⊥)
      → file step.files (DoneFile x) ≡ Some f
  pub goes : (f : File) → file (files_after history) (DoneFile x) ≡ Some f
      → file step.files (DoneFile x) ≡ None
      → IsGone (step ∷ history) x
  pub gone : IsGone history x → IsGone (step ∷ history) x

abbrev pub DoneSinksStay : Type 0
DoneSinksStay =
    (stamped : List (List ℕ)) (history : History) (step : Step) → Legal stamped (step ∷ history)
    → (x : Stem) → IsTrue (is_stem x) → DoneStays history step x

-- the name is that of the done sink of a stem
abbrev pub IsDoneName : List ℕ → Name → Type 0
IsDoneName name n = (x : Stem) × (n ≡ DoneFile x) × (name ≡ stem_text x ++ codes ".done")

-- each file of the sinks whose name ends as a done sink's is one
abbrev pub ClosedAreDone : Type 0
ClosedAreDone =
    (stamped : List (List ℕ)) (history : History) → Legal stamped history
    → (name : List ℕ) → IsTrue (is_closed name) → (f : File)
    → files_after history (sink_path name) ≡ Some f
    → IsDoneName name (read (sink_path name))
