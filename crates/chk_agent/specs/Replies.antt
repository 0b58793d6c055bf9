-- A reply of its parts.
use Rattle.std.specs.Prelude.{ℕ, List}
use Rattle.chk_agent.specs.declared.answers.Reply.{Reply}
use Rattle.chk_agent.specs.declared.answers.Then.{Then}

abbrev pub reply_of : List ℕ → Then → Reply
reply_of text on = record { text = text; then = on }
