use Rattle.chk_control.specs.LineWords.{words_of, without_return}
use Rattle.chk_control.proofs.AcceptedLemmas.{line_accepted, words_accepted}
use Rattle.chk_control.proofs.lines.law_commands.Goals as goal

pub returns : goal.returns
returns c line command accepted =
    (words_accepted (words_of (without_return line)) command
    (line_accepted line command accepted).1).command_is
