-- The line of a file that is damaged.
use Rattle.std.specs.Prelude.{◌≡◌, ℕ, Bool, true, false, List, [], ◌∷◌, ◌++◌, codes, decimal}
use Rattle.std.specs.Prelude.{Option, Some, None, Result, Ok, Err}
use Rattle.chk_bytes.specs.Words.{joined_at}
use Rattle.chk_site.specs.declared.acts.OutsideFault.{OutsideFault}
use Rattle.chk_site.specs.History.{History}
use Rattle.chk_world.specs.Sight.{job}
use Rattle.chk_cmd_output.specs.Printing.{PrintsInTurn}

abbrev pub damage_line : List ℕ → ℕ → List ℕ
damage_line name at =
    joined_at 32 (codes "damaged" ∷ name ∷ decimal at ∷ []) ++ 10 ∷ []

-- the line is printed, or its printing is refused
abbrev pub IsSaid : List ℕ → Result Bool OutsideFault → Option History → Option History → Type 0
IsSaid line (Ok is) old new = (is ≡ true) × PrintsInTurn job (line ∷ []) (Ok tt) old new
IsSaid line (Err fault) old new = PrintsInTurn job (line ∷ []) (Err fault) old new

-- where damage was found it is told, and else nothing is
abbrev pub ToldIf : List ℕ → Option ℕ → Result Bool OutsideFault → Option History
    → Option History → Type 0
ToldIf name None result old new = (result ≡ Ok false) × (new ≡ old)
ToldIf name (Some at) result old new = IsSaid (damage_line name at) result old new
