use Rattle.chk_rotate.proofs.Places.{place_is_in_newest, forgetting_keeps, going_back_keeps}
use Rattle.chk_rotate.proofs.laws.law_places.Goals as goal

pub returns : goal.returns
returns c = record {
  newest = place_is_in_newest;
  forgotten = forgetting_keeps;
  back = going_back_keeps;
}
