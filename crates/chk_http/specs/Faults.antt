-- The status code and the name of each fault.
use Rattle.std.specs.Prelude.{ℕ, List, codes}
use Rattle.chk_http.specs.declared.fault.HttpFault.{HttpFault}
use Rattle.chk_http.specs.declared.fault.HttpFault.TheVariants.{BadHead, NoLength, TooLarge, NotYet, BadPath, BadMethod, BadLine}

-- the code of the reply to a request that is refused so, also where a message ended too early
abbrev pub fault_code : HttpFault → ℕ
fault_code BadHead = 400
fault_code NoLength = 411
fault_code TooLarge = 413
fault_code NotYet = 400
fault_code BadPath = 404
fault_code BadMethod = 405
fault_code BadLine = 400

-- the name
abbrev pub fault_name : HttpFault → List ℕ
fault_name BadHead = codes "BadHead"
fault_name NoLength = codes "NoLength"
fault_name TooLarge = codes "TooLarge"
fault_name NotYet = codes "NotYet"
fault_name BadPath = codes "BadPath"
fault_name BadMethod = codes "BadMethod"
fault_name BadLine = codes "BadLine"
