use Rattle.chk_site.proofs.CutPlaces.{one_chain, cut_stays, each_cut, last_is}
use Rattle.chk_site.proofs.laws.law_cut_places.Goals as goal

pub returns-clause-one_chain : goal.returns-clause-one_chain
returns-clause-one_chain c = one_chain

pub returns-clause-stays : goal.returns-clause-stays
returns-clause-stays c = cut_stays

pub returns-clause-each : goal.returns-clause-each
returns-clause-each c = each_cut

pub returns-clause-last : goal.returns-clause-last
returns-clause-last c = last_is
