-- The line of a report is a single line, and no report of an archive run.
use Rattle.std.proofs.Common.{◌≡◌, ℕ, false, List, [], ◌∷◌, ◌<◌, refl}
use Rattle.std.specs.Prelude.{IsTrue, decimal, ◌^◌, codes}
use Rattle.std.proofs.lemmas.Bool.{and_from}
use Rattle.chk_bytes.specs.Words.{lacks, joined_at}
use Rattle.chk_world.specs.ArchiveRuns.{is_one_line, is_report}
use Rattle.chk_cmd_line.specs.Lines.{demux_line}
use Rattle.chk_cmd_output.proofs.OneLine.{one_line, joined_lacks, number_lacks}

pub demux_line_one : (taken entries left : ℕ) → taken < 2 ^ 64 → entries < 2 ^ 64 → left < 2 ^ 64
    → IsTrue (is_one_line (demux_line taken entries left))
demux_line_one taken entries left a b c =
    let words : List (List ℕ) = codes "demux" ∷ codes "taken" ∷ decimal taken ∷ codes "entries" ∷ decimal entries
    ∷ codes "left" ∷ decimal left ∷ [] in
    one_line (joined_at 32 words)
    (joined_lacks 32 words refl
    (and_from (lacks 10 (decimal taken)) _ (number_lacks taken a)
    (and_from (lacks 10 (decimal entries)) _ (number_lacks entries b)
    (and_from (lacks 10 (decimal left)) _ (number_lacks left c) refl))))

pub demux_is_no_report : (taken entries left : ℕ) → is_report (demux_line taken entries left) ≡ false
demux_is_no_report taken entries left = refl
