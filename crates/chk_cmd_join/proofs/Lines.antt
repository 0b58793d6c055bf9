-- The line of a report is a single line, and no report of an archive run.
use Rattle.std.proofs.Common.{◌≡◌, ℕ, false, List, [], ◌∷◌, ◌<◌, refl}
use Rattle.std.specs.Prelude.{IsTrue, decimal, ◌^◌, codes}
use Rattle.std.proofs.lemmas.Bool.{and_from}
use Rattle.chk_bytes.specs.Words.{lacks, joined_at}
use Rattle.chk_world.specs.ArchiveRuns.{is_one_line, is_report}
use Rattle.chk_cmd_line.specs.Joining.{join_line}
use Rattle.chk_cmd_output.proofs.OneLine.{one_line, joined_lacks, number_lacks}

pub join_line_one : (streams bytes : ℕ) → streams < 2 ^ 64 → bytes < 2 ^ 64
    → IsTrue (is_one_line (join_line streams bytes))
join_line_one streams bytes a b =
    let words : List (List ℕ) =
    codes "join" ∷ codes "streams" ∷ decimal streams ∷ codes "bytes" ∷ decimal bytes ∷ [] in
    one_line (joined_at 32 words)
    (joined_lacks 32 words refl
    (and_from (lacks 10 (decimal streams)) _ (number_lacks streams a)
    (and_from (lacks 10 (decimal bytes)) _ (number_lacks bytes b) refl)))

pub join_is_no_report : (streams bytes : ℕ) → is_report (join_line streams bytes) ≡ false
join_is_no_report streams bytes = refl
