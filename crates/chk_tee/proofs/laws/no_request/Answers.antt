use Rattle.chk_tee.proofs.Requests.{front_is_no_request}
use Rattle.chk_tee.proofs.laws.no_request.Goals as goal

pub returns : goal.returns
returns c = front_is_no_request
