-- What the fields of a message that was read stand for.
use Rattle.std.specs.Prelude.{◌≡◌, List, None}
use Rattle.chk_tee.specs.Messages.{Teed, guessed_teeds}
use Rattle.chk_tee.specs.Faults.{teeds_wrong}
use Rattle.chk_tee.specs.declared.messages.TeeRef.TheInside.{Inside}

-- the chunks that it hasn't given yet
abbrev pub tee_view : Inside → List Teed
tee_view r = guessed_teeds r.left r.at r.bytes.now

-- they are there, and nothing behind them
abbrev pub IsSoundTee : Inside → Type 0
IsSoundTee r = teeds_wrong r.left r.at r.bytes.now ≡ None
