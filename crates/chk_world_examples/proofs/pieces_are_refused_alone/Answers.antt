use Rattle.chk_world_examples.proofs.Pieces.{lines, posts, parts, books, archives, splits, turns}
use Rattle.chk_world_examples.proofs.pieces_are_refused_alone.Goals as goal

pub returns : goal.returns
returns c = record { lines = lines; posts = posts; parts = parts; books = books; archives = archives; splits = splits; turns = turns }
