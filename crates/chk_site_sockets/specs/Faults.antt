-- Why a call on the machine was not done, as `chk_site_errors` has it.
pub use Rattle.chk_site_errors.specs.Faults.{answer_of, call_fault}
