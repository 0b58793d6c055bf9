-- How far a look has come.
use Rattle.std.specs.Prelude.{ℕ, ◌-◌, ◌/◌, max, List, ◌++◌, codes, decimal}
use Rattle.chk_site_progress.specs.declared.course.Course.{Course}

-- bytes a second, of at least one second
abbrev pub rate_of : Course → ℕ
rate_of c = c.gone / max c.seconds 1

-- the seconds that the rest takes at this rate, of at least a byte a second
abbrev pub left_in : Course → ℕ
left_in c = (c.all - c.gone) / max (rate_of c) 1

-- its line
abbrev pub course_line : Course → List ℕ
course_line c =
    decimal c.gone ++ (codes " of " ++ (decimal c.all ++ (codes " bytes, " ++ (decimal (rate_of c)
    ++ (codes " bytes/s, " ++ (decimal (left_in c) ++ codes " s left"))))))
