-- The line of a run is a single line.
use Rattle.std.proofs.Common.{ℕ, List, [], ◌∷◌, refl, ◌<◌}
use Rattle.std.specs.Prelude.{IsTrue, decimal, ◌^◌, codes}
use Rattle.std.specs.List.{list_all}
use Rattle.std.proofs.lemmas.Bool.{and_from}
use Rattle.chk_bytes.specs.Words.{lacks, joined_at}
use Rattle.chk_world.specs.ArchiveRuns.{is_one_line}
use Rattle.chk_cmd_line.specs.Datagrams.{udp_line}
use Rattle.chk_cmd_output.proofs.OneLine.{Lack, none, next, number_lacks, words_line}

pub udp_line_one : (taken bytes : ℕ) → taken < 2 ^ 64 → bytes < 2 ^ 64
    → IsTrue (is_one_line (udp_line taken bytes))
udp_line_one taken bytes a b =
    let words : List (List ℕ) =
    codes "udp" ∷ codes "taken" ∷ decimal taken ∷ codes "bytes" ∷ decimal bytes ∷ [] in
    let all : Lack words = next refl (next refl (next (number_lacks taken a) (next refl
    (next (number_lacks bytes b) none)))) in
    words_line all
