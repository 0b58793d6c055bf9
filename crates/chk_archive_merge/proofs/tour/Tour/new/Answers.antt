use Rattle.chk_book.specs.Views.{end_view}
use Rattle.std.proofs.Common.{map, refl}
use Rattle.chk_archive_merge.proofs.Touring.{first_tour}
use Rattle.chk_archive_merge.proofs.tour.Tour.new.Goals as goal

pub returns : goal.returns
returns c = first_tour (map end_view c.args.ends.now) _ refl refl c.start_of.ensures
