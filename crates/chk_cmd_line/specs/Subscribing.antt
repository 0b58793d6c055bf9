-- The words of `subscribe`, and what holds of them.
use Rattle.std.specs.Prelude.{ℕ, ◌≤◌, IsTrue, List}
use Rattle.chk_bytes.specs.Words.{is_word}
use Rattle.chk_cmd_line.specs.declared.subscribing.SubscribeWords.{SubscribeWords}
use Rattle.chk_cmd_line.specs.Names.{most}

-- the words of `subscribe`
pub record SubscribeAsked : Type 0 where
  pub turns : ℕ
  pub address : List ℕ

-- the texts that borrowed words lend
abbrev pub subscribe_of : SubscribeWords → SubscribeAsked
subscribe_of w = record { turns = w.turns; address = w.address.now }

-- the address is a word, and there is at least one turn
abbrev pub IsGoodSubscribe : SubscribeAsked → Type 0
IsGoodSubscribe w = IsTrue (is_word w.address) × ((1 ≤ w.turns) × (w.turns ≤ most))
