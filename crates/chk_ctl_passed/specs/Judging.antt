-- What the lines of a checkpoint say of a log.
use Rattle.std.specs.Prelude.{ℕ, Bool, true, false, ◌||◌, not, List, bytes_eq, Option, Some, None}
use Rattle.std.specs.List.{list_all, list_any}
use Rattle.chk_site.specs.Suffixes.{is_after}
use Rattle.chk_world.specs.Checkpoints.{Line}
use Rattle.chk_ctl_passed.specs.declared.oldest.Oldest.{Oldest}
use Rattle.chk_ctl_passed.specs.declared.oldest.Oldest.TheVariants.{Base, Rotated, Changed}
use Rattle.chk_ctl_passed.specs.declared.judging.Verdict.{Verdict}
use Rattle.chk_ctl_passed.specs.declared.judging.Verdict.TheVariants.{Passed, Behind, Unknown}
use denote.Ref.{Bor}

-- a suffix that is lent
abbrev pub oldest_text : Option (Bor (List ℕ)) → Option (List ℕ)
oldest_text None = None
oldest_text (Some suffix) = Some suffix.now

-- a place behind the generation `after` is behind this one too
abbrev pub is_past : Option (List ℕ) → List ℕ → Bool
is_past after suffix = not (is_after after suffix)

-- the line is of the log
abbrev pub is_of : List ℕ → Line → Bool
is_of path l = bytes_eq l.path path

-- the line is of another log, or has passed the generation
abbrev pub passes : List ℕ → List ℕ → Line → Bool
passes path suffix l = not (is_of path l) || is_past l.after suffix

-- some line is of the log
abbrev pub has_line : List Line → List ℕ → Bool
has_line lines path = list_any (is_of path) lines

-- each line of the log has passed the generation
abbrev pub all_passed : List Line → List ℕ → List ℕ → Bool
all_passed lines path suffix = list_all (passes path suffix) lines

-- by whether the log is known and passed
abbrev pub verdict_by : Bool → Bool → Verdict
verdict_by false passed = Unknown
verdict_by true true = Passed
verdict_by true false = Behind

-- whether each line of the log has passed its oldest generation
abbrev pub passed_oldest : List Line → List ℕ → Oldest → Bool
passed_oldest lines path Base = true
passed_oldest lines path (Rotated suffix) = all_passed lines path suffix
passed_oldest lines path Changed = false

-- what the lines say
abbrev pub verdict_of : List Line → List ℕ → Oldest → Verdict
verdict_of lines path oldest = verdict_by (has_line lines path) (passed_oldest lines path oldest)
