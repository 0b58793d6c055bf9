-- The longer history is what it is there for.
use Rattle.std.proofs.Common.{◌≡◌, ◌∷◌, [], inr, refl, arith}
use Rattle.chk_world.specs.Reading.{IsAtOrBehind}
use Rattle.chk_world_examples.specs.LongRound.{k76, past_8, first_chunk, second_chunk, LongRoundHolds}
use Rattle.chk_world_examples.proofs.ExampleRun.{archived}
use Rattle.chk_world_examples.proofs.LongArchive.{reached_2}
use Rattle.chk_world_examples.proofs.LongDemux.{klegal85}
use Rattle.chk_world_examples.proofs.Unfolded.{texts}

both_at_end : archived k76 ≡ first_chunk ∷ second_chunk ∷ []
unfolding texts
both_at_end = refl

same_place : IsAtOrBehind past_8.after past_8.after
same_place suffix h = h

pub longer : LongRoundHolds
unfolding texts
longer = record {
  legal = klegal85;
  line = refl;
  rotated = refl;
  start = refl;
  log = refl;
  reads_on = record {
    line = past_8;
    there = refl;
    class = refl;
    behind = same_place;
    stands = record {
      first = _;
      founded = refl;
      place = record { first = refl; on = omega arith; within = omega arith };
      cut = inr refl;
      suffix = refl;
    };
  };
  given = (omega arith, refl);
  chunk_stands = record { first = _; founded = refl; is_true = record { start = refl; data_is = refl }; cut = refl };
  aside = refl;
  gone = record { wrote_some = omega arith; sink = refl; done = refl };
  none_archived = refl;
  archived = refl;
  none_aside = refl;
  complete = record { last = refl; closed = refl; reached = reached_2 k76 both_at_end };
  passed = refl;
  end = refl;
  records = refl;
  are_split = refl;
}
