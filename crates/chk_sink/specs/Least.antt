-- What the answer to a question for a committed length is at least.
use Rattle.std.specs.Prelude.{◌≡◌, ℕ, ◌≤◌, ◌<◌, List, [], ◌∷◌, ◌++◌, Option}
use Rattle.chk_bytes.specs.Numbers.{limit}
use Rattle.chk_bytes.specs.Stems.{Stem}
use Rattle.chk_site.specs.declared.acts.Who.{Who}
use Rattle.chk_site.specs.History.{Step, History, Every, IsTheirs, Others, files_after}
use Rattle.chk_site.specs.Site.{Adds}
use Rattle.chk_world.specs.Committed.{committed_length, number_in}
use Rattle.chk_world.specs.Names.{MarkFile, file}
use Rattle.chk_world.specs.Places.{Foreign}
use Rattle.chk_world.specs.Rules.{Legal}

-- P holds before these steps and behind each of them
abbrev pub EachFront : (History → Type 0) → History → History → Type 0
EachFront P [] history = P history
EachFront P (step ∷ added) history = EachFront P added history × P (step ∷ (added ++ history))

-- The steps are legal, others do as is supposed of them beside this process, and so many bytes of
-- the sink are committed all the while.
pub record StaysReached (stamped : List (List ℕ)) (who : Who) (x : Stem) (k : ℕ)
    (added history : History) : Type 0 where
  pub legal : Legal stamped (added ++ history)
  pub others : Others (Foreign stamped who) added history
  pub reached : EachFront (λ h. k ≤ committed_length (files_after h) x) added history

-- The number can be written in a line. Of a sink of this collector it is at least what is committed
-- all the while, whoever asks for its files meanwhile.
pub record IsLeast (who : Who) (x : Stem) (k n : ℕ) : Type 0 where
  pub small : n < limit
  pub least : x.collector ≡ who.name → k ≤ n

-- the number is at least what is committed from before these steps until behind them
abbrev pub AtLeast : Who → Stem → ℕ → Option History → Option History → Type 0
AtLeast who x n old new =
    (stamped : List (List ℕ)) (k : ℕ)
    → Adds old new (λ added history. StaysReached stamped who x k added history → IsLeast who x k n)

-- behind steps of others alone, the mark was read with this number
pub record ReadsMark (x : Stem) (n : ℕ) (added history : History) : Type 0 where
  pub step : Step
  pub earlier : History
  pub added_is : added ≡ step ∷ earlier
  pub theirs : Every IsTheirs earlier history
  pub number : (stamped : List (List ℕ)) → Legal stamped (earlier ++ history)
      → n ≡ number_in (file (files_after (earlier ++ history)) (MarkFile x))
