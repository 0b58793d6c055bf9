-- A chain of turns.
use Rattle.std.proofs.Common.{◌≡◌, ℕ, suc, List, Option, Result, Ok, Err, sym, subst}
use Rattle.chk_site.specs.declared.acts.Who.{Who}
use Rattle.chk_site.specs.declared.acts.OutsideFault.{OutsideFault}
use Rattle.chk_site.specs.History.{History}
use Rattle.chk_cmd_subscribe.specs.declared.Watch.{Watch}
use Rattle.chk_cmd_subscribe.specs.Runs.{IsTurn, AreTurns, over, turned, ended}

-- what comes of so many turns from here comes of all
abbrev pub TurnsOn : Who → List ℕ → ℕ → Watch → Option History → ℕ → Watch → Option History → Type 0
TurnsOn who door all first old left w now =
    (result : Result (Unit {0}) OutsideFault) (v : Watch) (new : Option History)
    → AreTurns who door left w result v now new → AreTurns who door all first result v old new

pub turns_next : (who : Who) (door : List ℕ) (all n m : ℕ) (first w v : Watch) (old now mid : Option History) → n ≡ suc m
    → TurnsOn who door all first old n w now → IsTurn who door w (Ok tt) v now mid → TurnsOn who door all first old m v mid
turns_next who door all n m first w v old now mid is on one result u new rest =
    on result u new (subst (λ (k : ℕ). AreTurns who door k w result u now new) (sym is) (turned one rest))

pub turns_stop : (who : Who) (door : List ℕ) (all n m : ℕ) (first w v : Watch) (old now new : Option History) (fault : OutsideFault)
    → n ≡ suc m → TurnsOn who door all first old n w now → IsTurn who door w (Err fault) v now new
    → AreTurns who door all first (Err fault) v old new
turns_stop who door all n m first w v old now new fault is on one =
    on (Err fault) v new (subst (λ (k : ℕ). AreTurns who door k w (Err fault) v now new) (sym is) (ended one))

pub turns_over : (who : Who) (door : List ℕ) (all n : ℕ) (first w : Watch) (old now : Option History) → n ≡ 0
    → TurnsOn who door all first old n w now → AreTurns who door all first (Ok tt) w old now
turns_over who door all n first w old now none on =
    on (Ok tt) w now (subst (λ (k : ℕ). AreTurns who door k w (Ok tt) w now now) (sym none) over)
