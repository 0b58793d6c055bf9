-- What the functions that read fields answer, seen without where it lies in memory.
use Rattle.std.specs.Prelude.{ℕ, List, Result}
use Rattle.std.specs.Borrow.{Bor}
use Rattle.std.specs.Result.{result_map_both}
use Rattle.chk_seqfile.specs.declared.headers.HeaderFault.{HeaderFault}

-- the bytes behind a field
abbrev pub rest_of : Result (Bor (List ℕ)) HeaderFault → Result (List ℕ) HeaderFault
rest_of r = result_map_both (λ rest. rest.now) (λ fault. fault) r

-- a number, and the bytes behind it
abbrev pub number_and_rest : Result (ℕ × Bor (List ℕ)) HeaderFault → Result (ℕ × List ℕ) HeaderFault
number_and_rest r = result_map_both (λ x. (x.0, x.1.now)) (λ fault. fault) r
