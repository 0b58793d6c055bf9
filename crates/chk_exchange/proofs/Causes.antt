-- How the counts of failed calls join.
use Rattle.std.proofs.Common.{ℕ, Err}
use Rattle.chk_collector.specs.Outcomes.{Outcome, OutcomeCause}
use Rattle.chk_collector_run.proofs.Counts.{risen_then, rose_then, outcome_risen}
use Rattle.chk_exchange.specs.declared.fault.ExchangeFault.{ExchangeFault}
use Rattle.chk_exchange.specs.declared.fault.ExchangeFault.TheVariants.{Outside, NoMemory, Damaged, Spent, Refused}
use Rattle.chk_exchange.specs.Faults.{ExchangeCause, ServedCause}
use Rattle.chk_exchange.proofs.Ending.{IsOutside}

-- what ended the exchange behind the handling
pub after_reply : (T : Type 0) (a b c : ℕ) (o : Outcome) (fault : ExchangeFault) → IsOutside fault
    → OutcomeCause a b o
    → ExchangeCause {T = T} b c (Err fault) → ServedCause a c (Err fault)
after_reply T a b c o (Outside call) is first later =
    rose_then a b c (outcome_risen a b o first) later
after_reply T a b c o NoMemory is first later = risen_then a b c (outcome_risen a b o first) later
after_reply T a b c o (Damaged name at) is first later = absurd is
after_reply T a b c o (Spent number) is first later = absurd is
after_reply T a b c o (Refused code) is first later = absurd is
