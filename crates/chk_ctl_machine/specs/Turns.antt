-- Something is done with each of a list, in turn.
use Rattle.std.specs.Prelude.{List, [], ◌∷◌}

-- what is done with one of the first list gives one of the second
pub data InTurn {A B T : Type 0} (Step : A → B → T → T → Type 0) : List A → List B → T → T
    → Type 0 where
  none_left : {now : T} → InTurn Step [] [] now now
  one_more : {a : A} {b : B} {rest : List A} {found : List B} {old mid new : T} → Step a b old mid
      → InTurn Step rest found mid new → InTurn Step (a ∷ rest) (b ∷ found) old new
