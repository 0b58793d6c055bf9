-- A chain of turns.
use Rattle.std.proofs.Common.{◌≡◌, ℕ, suc, ◌+◌, ◌-◌, ◌<◌, true, List, Option, Result, Ok, Err, subst, refl, ◌∙◌, arith}
use Rattle.chk_site.specs.declared.acts.Who.{Who}
use Rattle.chk_site.specs.History.{History}
use Rattle.chk_wahead.specs.declared.fault.WaheadFault.{WaheadFault}
use Rattle.chk_wahead.specs.States.{State, length_of}
use Rattle.chk_cmd_udp.specs.declared.tally.Tally.{Tally}
use Rattle.chk_cmd_udp.specs.Turns.{IsTurn}
use Rattle.chk_cmd_udp.specs.Runs.{AreTurned, over, turn, cut}

-- What is known once so many turns were done: the turns from here on are turns from the start on.
pub record TurnsSoFar (who : Who) (door : List ℕ) (rotate messages turns n limit : ℕ)
    (first s : State) (begun t : Tally)
    (old now : Option History) (before count : ℕ) : Type 0 where
  pub later : (left : ℕ) → left + n ≡ turns
      → (result : Result (Unit {0}) WaheadFault) (u : State) (w : Tally)
      (end : Option History) → AreTurned who door rotate messages left s t now result u w end
      → AreTurned who door rotate messages turns first begun old result u w end
  pub ready : s.ready ≡ true
  pub small : length_of s.held < limit
  pub same : count ≡ before

pub turns_begin : (who : Who) (door : List ℕ) (rotate messages turns limit : ℕ) (s : State)
    (t : Tally) (now : Option History) (count : ℕ)
    → s.ready ≡ true → length_of s.held < limit
    → TurnsSoFar who door rotate messages turns 0 limit s s t t now now count count
turns_begin who door rotate messages turns limit s t now count ready small = record {
  later = λ left all result u w end rest.
      let e : left ≡ turns = omega (arith, all) in
      subst (λ k. AreTurned who door rotate messages k s t now result u w end) e rest;
  ready = ready;
  small = small;
  same = refl;
}

module _ {who : Who} {door : List ℕ} {rotate messages turns n limit : ℕ} {first s : State}
    {begun t : Tally}
    {old now : Option History} {before count : ℕ}
    (far : TurnsSoFar who door rotate messages turns n limit first s begun t old now before count)
  where
    pub turns_over : n ≡ turns → AreTurned who door rotate messages turns first begun old (Ok tt) s t
        now
    turns_over all = far.later 0 (omega (arith, all)) (Ok tt) s t now over

    pub turns_cut : n < turns → (fault : WaheadFault) (u : State) (w : Tally) {end : Option History}
        → IsTurn who door rotate messages s t now (Err fault) u w end
        → AreTurned who door rotate messages turns first begun old (Err fault) u w end
    turns_cut left fault u w next = far.later (suc (turns - (n + 1))) (omega (arith, left))
        (Err fault) u w _ (cut fault next)

    pub turns_go_on : (u : State) (w : Tally) {new : Option History} (later : ℕ)
        → IsTurn who door rotate messages s t now (Ok tt) u w new
        → u.ready ≡ true → length_of u.held < limit → later ≡ count
        → TurnsSoFar who door rotate messages turns (n + 1) limit first u begun w old new before later
    turns_go_on u w later next ready small same = record {
      later = λ left all result v x end rest.
          let e : suc left + n ≡ turns = omega (arith, all) in
          far.later (suc left) e result v x end (turn next rest);
      ready = ready;
      small = small;
      same = same ∙ far.same;
    }
