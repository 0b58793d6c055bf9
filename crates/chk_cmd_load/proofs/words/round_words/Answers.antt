use Rattle.chk_cmd_load.proofs.Literals.{kind_is_word, source_is_word}
use Rattle.chk_cmd_line.proofs.NameLemmas.{none_is_word as cluster_is_word}
use Rattle.chk_cmd_load.proofs.words.round_words.Goals as goal

pub from_text-requires : goal.from_text-requires
from_text-requires c = record { word = source_is_word }

pub from_text-requires-2 : goal.from_text-requires-2
from_text-requires-2 c = record { word = kind_is_word }

pub from_text-requires-3 : goal.from_text-requires-3
from_text-requires-3 c = record { word = cluster_is_word }
