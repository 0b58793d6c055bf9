-- The status and the line with which a run ends otherwise than well.
use Rattle.std.specs.Prelude.{ℕ, List, [], ◌∷◌, codes, decimal}
use Rattle.chk_bytes.specs.Stems.{stem_text}
use Rattle.chk_site.specs.CallNames.{call_name}
use Rattle.chk_cmd_line.specs.declared.endings.Ending.{Ending}
use Rattle.chk_cmd_line.specs.declared.endings.Ending.TheVariants.{Outside, NoMemory, Damaged, Length, Growing, Unclosed, Shrank, Spent, Refused, Differ}
use Rattle.chk_cmd_line.specs.Lines.{line_of}

-- its status
abbrev pub ending_status : Ending → ℕ
ending_status (Outside call) = 3
ending_status NoMemory = 4
ending_status (Damaged name at) = 5
ending_status (Length stem got want) = 6
ending_status (Growing path reads) = 6
ending_status (Unclosed name) = 6
ending_status (Shrank path had is) = 7
ending_status (Spent number) = 8
ending_status (Refused code) = 9
ending_status (Differ source kind name at) = 11

-- two archives differ in this stream at this offset
abbrev pub differ_line : List ℕ → List ℕ → List ℕ → ℕ → List ℕ
differ_line source kind name at =
    line_of (codes "differ" ∷ source ∷ kind ∷ name ∷ decimal at ∷ [])

-- its line
abbrev pub ending_line : Ending → List ℕ
ending_line (Outside call) = line_of (codes "outside" ∷ call_name call ∷ [])
ending_line NoMemory = codes "out of memory\n"
ending_line (Damaged name at) = line_of (codes "damaged" ∷ name ∷ decimal at ∷ [])
ending_line (Length stem got want) =
    line_of (codes "pending" ∷ codes "length" ∷ stem_text stem ∷ decimal got ∷ decimal want ∷ [])
ending_line (Growing path reads) =
    line_of (codes "pending" ∷ codes "growing" ∷ path ∷ decimal reads ∷ [])
ending_line (Unclosed name) = line_of (codes "pending" ∷ codes "unclosed" ∷ name ∷ [])
ending_line (Shrank path had is) = line_of (codes "shrank" ∷ path ∷ decimal had ∷ decimal is ∷ [])
ending_line (Spent number) = line_of (codes "spent" ∷ decimal number ∷ [])
ending_line (Refused code) = line_of (codes "refused" ∷ decimal code ∷ [])
ending_line (Differ source kind name at) = differ_line source kind name at
