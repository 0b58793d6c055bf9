use Rattle.std.proofs.Common.{Some, ◌∙◌, ap}
use Rattle.chk_sink.specs.Damage.{number_from}
use Rattle.chk_sink.proofs.starting.read_number.Goals as goal

pub returns-clause-told : goal.returns-clause-told
returns-clause-told g c =
    record {
      given = c.read-given.result;
      came = record {
        taken = Some c.in-Some.bytes;
        is_taken = rw c.in-Some.is at c.in_ok-read.ensures;
        is = c.number_from.ensures.is ∙ ap (number_from 0) c.as_slice.ensures;
      };
      told = c.read-given.ensures.told;
    }
