-- The line of what was found, and those of all.
use Rattle.std.specs.Prelude.{ℕ, List, [], ◌∷◌, map, codes, decimal}
use Rattle.chk_ctl_check.specs.declared.finding.Finding.{Finding}
use Rattle.chk_ctl_check.specs.declared.trouble.Trouble.{Trouble}
use Rattle.chk_ctl_check.specs.Troubles.{trouble_name}
pub use Rattle.chk_cmd_output.specs.Lines.{line_of}

abbrev pub trouble_line : ℕ → Trouble → List ℕ
trouble_line line trouble = line_of (codes "line" ∷ decimal line ∷ trouble_name trouble ∷ [])

abbrev pub finding_line : Finding → List ℕ
finding_line f = trouble_line f.line f.trouble

abbrev pub finding_lines : List Finding → List (List ℕ)
finding_lines findings = map finding_line findings
