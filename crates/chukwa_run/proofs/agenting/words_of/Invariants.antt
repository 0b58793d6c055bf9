use Rattle.std.proofs.Common.{◌≡◌, map, take, ℕ, List}
use Rattle.std.specs.Borrow.{Bor}
use Rattle.chukwa_run.proofs.agenting.words_of.Given as goal

abbrev pub invariant-loop-text : goal.invariant-loop-text
invariant-loop-text l = l.words.items ≡ map {A = Bor (List ℕ)} {B = List ℕ} (λ t. t.now) (take l.text-index l.texts)
