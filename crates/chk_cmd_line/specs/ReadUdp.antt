-- The options of `udp`, which are read before its other words.
use Rattle.std.specs.Prelude.{◌≡◌, Option, Some, None, List}
use Rattle.clap.specs.Walk.{Row}
use Rattle.chk_cmd_line.specs.Asked.{given, asked_udp, udp_with}
use Rattle.chk_cmd_line.specs.Good.{IsIn}
use Rattle.chk_cmd_line.specs.Names.{most}
use Rattle.chk_cmd_line.specs.Options.{plain_of}
use Rattle.chk_cmd_line.specs.declared.datagrams.UdpOptions.{UdpOptions}

-- with them the other words tell what is asked for; where they are wrong, nothing is asked for
abbrev pub ReadsUdpOptions : List Row → Option UdpOptions → Type 0
ReadsUdpOptions rows (Some o) =
    asked_udp rows ≡ given (plain_of rows) (udp_with o.turns o.rotate o.messages)
ReadsUdpOptions rows None = asked_udp rows ≡ None

-- they are good ones
abbrev pub AreGoodUdp : UdpOptions → Type 0
AreGoodUdp o = IsIn 1 most o.turns × IsIn 1 most o.rotate × IsIn 1 64 o.messages
