-- The subscribers of a collector's run: the file that names them is read whole by the writer
-- `chukwa`, before the collector starts.
use Rattle.std.specs.Prelude.{◌≡◌, ℕ, false, List, [], ◌++◌, Option, Some, None, Result, Ok, Err}
use Rattle.chk_site.specs.declared.acts.Call.{Call}
use Rattle.chk_site.specs.declared.acts.OutsideFault.{OutsideFault}
use Rattle.chk_site.specs.declared.acts.OutsideFault.TheVariants as Outsides
use Rattle.chk_site.specs.History.{History, is_stopped}
use Rattle.chk_site.specs.Site.{EndsIn, Rose}
use Rattle.chk_replace.specs.Load.{ReadInTurn}
use Rattle.chk_tee_sender.specs.declared.Subscriber.{Subscriber}
use Rattle.chk_tee_sender.specs.Subscribers.{subscribers_in}
use Rattle.chk_cmd_line.specs.declared.endings.Ending.{Ending}
use Rattle.chk_cmd_line.specs.declared.endings.Ending.TheVariants.{Outside, NoMemory, Damaged}
use Rattle.chk_cmd_load.specs.Processes.{chukwa}

-- the bytes of a file; one that isn't there counts as empty
abbrev pub text_in : Option (List ℕ) → List ℕ
text_in None = []
text_in (Some bytes) = bytes

-- The subscribers are those of all lines of the file, in order, and nobody where no file is named.
-- The first wrong line is told at its first byte.
pub data TeesRead : Option (List ℕ) → Result (List Subscriber) Ending → Option History
    → Option History → Type 0 where
  unnamed : {now : Option History} → TeesRead None (Ok []) now now
  named : {file : List ℕ} {a : List Subscriber} {old new : Option History}
      (given : Option (List ℕ)) → ReadInTurn chukwa file [] (Ok given) old new
      → subscribers_in (text_in given) ≡ Ok a → TeesRead (Some file) (Ok a) old new
  damaged : {file : List ℕ} {at : ℕ} {old new : Option History} (given : Option (List ℕ))
      → ReadInTurn chukwa file [] (Ok given) old new → subscribers_in (text_in given) ≡ Err at
      → TeesRead (Some file) (Err (Damaged file at)) old new
  failed : {file : List ℕ} {old new : Option History} (call : Call)
      → ReadInTurn chukwa file [] (Err (Outsides.Outside call)) old new
      → TeesRead (Some file) (Err (Outside call)) old new
  wanting : {file : List ℕ} {old new : Option History} (given : Result (Option (List ℕ)) OutsideFault)
      → ReadInTurn chukwa file [] given old new → TeesRead (Some file) (Err NoMemory) old new
  unbegun : {file : List ℕ} {now : Option History} → TeesRead (Some file) (Err NoMemory) now now

-- what the text of the file names
abbrev pub IsNamedIn : List ℕ → List ℕ → Result (List Subscriber) Ending → Type 0
IsNamedIn file text (Ok a) = subscribers_in text ≡ Ok a
IsNamedIn file text (Err (Damaged name at)) = (name ≡ file) × (subscribers_in text ≡ Err at)
IsNamedIn file text (Err NoMemory) = Unit {0}
IsNamedIn file text (Err e) = ⊥

-- the read that failed is the last call, where the site wasn't stopped
abbrev pub ReadFailsLast : {T : Type 0} → Result T Ending → History → History → Type 0
ReadFailsLast (Err (Outside call)) added history = is_stopped (added ++ history) ≡ false → EndsIn call added
ReadFailsLast result added history = Unit {0}

-- only a read that failed raises the count of faults
abbrev pub ReadCause : {T : Type 0} → ℕ → ℕ → Result T Ending → Type 0
ReadCause before now (Err (Outside call)) = Rose before now
ReadCause before now result = now ≡ before
