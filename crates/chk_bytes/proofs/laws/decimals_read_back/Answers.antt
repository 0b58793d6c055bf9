use Rattle.chk_bytes.proofs.DecimalLemmas.{plain_number-decimal, number_in_digits-decimal, plain_number-Some}
use Rattle.chk_bytes.proofs.laws.decimals_read_back.Goals as goal

pub returns-clause-plain : goal.returns-clause-plain
returns-clause-plain c = plain_number-decimal

pub returns-clause-in_digits : goal.returns-clause-in_digits
returns-clause-in_digits c = number_in_digits-decimal

pub returns-clause-spelled : goal.returns-clause-spelled
returns-clause-spelled c = plain_number-Some
