-- What is found in the lines of an initial file, and the calls that show it.
use Rattle.std.specs.Prelude.{ℕ, ◌+◌, List, [], ◌∷◌, ◌++◌, map, Option}
use Rattle.chk_control.specs.Lines.{meaning_of}
use Rattle.chk_site.specs.Acts.{Deed, Lists, ReadsLog}
use Rattle.chk_site.specs.Logs.{Part}
use Rattle.chk_site.specs.History.{History}
use Rattle.chk_ctl_check.specs.declared.finding.Finding.{Finding}
use Rattle.chk_ctl_check.specs.declared.judging.Added.{Added}
use Rattle.chk_ctl_check.specs.declared.judging.Verdict.{Verdict}
use Rattle.chk_ctl_check.specs.declared.judging.Verdict.TheVariants.{Blank, Wrong, Reads}
use Rattle.chk_ctl_check.specs.declared.trouble.Trouble.{Trouble}
use Rattle.chk_ctl_check.specs.Judging.{added_after, verdict_of}
use Rattle.chk_ctl_check.specs.Logs.{LogSeen}

-- the calls: a list of a folder, and a read of a log
pub data AsksOfLogs : Deed → Type 0 where
  lists : (folder : List ℕ) → AsksOfLogs (Lists folder)
  reads : (path : List ℕ) (part : Part) (at max : ℕ) → AsksOfLogs (ReadsLog path part at max)

-- it was found in the line of this number
abbrev pub finding : ℕ → Trouble → Finding
finding line trouble = record { line = line; trouble = trouble }

-- what is found in a line of which this came
pub data VerdictSeen (line : ℕ) : Verdict → List Finding → Option History → Option History
    → Type 0 where
  blank : {now : Option History} → VerdictSeen line Blank [] now now
  wrong : {now : Option History} (trouble : Trouble)
      → VerdictSeen line (Wrong trouble) (finding line trouble ∷ []) now now
  seen : {class : _} {path : List ℕ} {old new : Option History} (troubles : List Trouble)
      → LogSeen class path troubles old new
      → VerdictSeen line (Reads class path) (map (finding line) troubles) old new

-- Line after line, of which the first one has this number and stands behind these streams: what
-- is found is just what is wrong with each, by its text, the streams before it, and the answers
-- of the calls on its log.
pub data LinesSeen : ℕ → List Added → List (List ℕ) → List Finding → Option History
    → Option History → Type 0 where
  no_lines : {line : ℕ} {added : List Added} {now : Option History}
      → LinesSeen line added [] [] now now
  line_seen : {line : ℕ} {added : List Added} {text : List ℕ} {texts : List (List ℕ)}
      {found more : List Finding} {old mid new : Option History}
      → VerdictSeen line (verdict_of added (meaning_of text)) found old mid
      → LinesSeen (line + 1) (added_after added (meaning_of text)) texts more mid new
      → LinesSeen line added (text ∷ texts) (found ++ more) old new
