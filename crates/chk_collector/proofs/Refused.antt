-- A request that is refused.
use Rattle.std.proofs.Common.{◌≡◌, inl, inr, ℕ, List, Result, Err, refl, arith}
use Rattle.std.specs.Prelude.{◌↔◌}
use Rattle.chk_bytes.specs.Stems.{Stem}
use Rattle.chk_http_grammar.specs.Messages.{PostRequest, PollRequest, IsRequest}
use Rattle.chk_http.specs.declared.fault.HttpFault.{HttpFault}
use Rattle.chk_http.specs.declared.fault.HttpFault.TheVariants.{BadHead, NoLength, TooLarge, NotYet, BadPath, BadMethod, BadLine}
use Rattle.chk_http.specs.declared.request.RequestRef.{RequestRef}
use Rattle.chk_http.specs.Faults.{fault_code}
use Rattle.chk_http.specs.Heads.{IsEndlessRequest}
use Rattle.chk_http.specs.Requests.{IsBadPath, IsBadMethod, IsBadQuery, IsWithoutLength, HasBadLength, HasLongBody, HasCutBody, IsBadHead, IsTooLarge, IsNotYet, GivesPost, GivesPoll}
use Rattle.chk_collector.specs.Outcomes.{IsRefusal, RefusedBy}

-- what is known of a request that was read
abbrev Read : Type 0
Read = Result RequestRef HttpFault

-- what the reading of a request promises of its result
pub record IsRead (bytes : List ℕ) (result : Read) : Type 0 where
  pub post : (body : List ℕ) → GivesPost result body ↔ PostRequest body bytes
  pub poll : (stems : List Stem) → GivesPoll result stems ↔ PollRequest stems bytes
  pub bad_path : (result ≡ Err BadPath) ↔ IsBadPath bytes
  pub bad_method : (result ≡ Err BadMethod) ↔ IsBadMethod bytes
  pub bad_line : (result ≡ Err BadLine) ↔ IsBadQuery bytes
  pub no_length : (result ≡ Err NoLength) ↔ IsWithoutLength bytes
  pub bad_head : result ≡ Err BadHead → IsBadHead bytes
  pub bad_length : HasBadLength bytes → result ≡ Err BadHead
  pub too_large : result ≡ Err TooLarge → IsTooLarge bytes
  pub endless : IsEndlessRequest bytes → result ≡ Err TooLarge
  pub long_body : HasLongBody bytes → result ≡ Err TooLarge
  pub not_yet : result ≡ Err NotYet → IsNotYet bytes
  pub cut_body : HasCutBody bytes → result ≡ Err NotYet

same_fault : (a b : HttpFault) → (let r : Read = Err a in r) ≡ Err b → a ≡ b
same_fault a b e = cc

why : (bytes : List ℕ) (fault : HttpFault) → IsRead bytes (Err fault) → IsRefusal bytes fault
why bytes BadHead r = r.bad_head refl
why bytes NoLength r = r.no_length.0 refl
why bytes TooLarge r = r.too_large refl
why bytes NotYet r = r.not_yet refl
why bytes BadPath r = r.bad_path.0 refl
why bytes BadMethod r = r.bad_method.0 refl
why bytes BadLine r = r.bad_line.0 refl

no_request : (bytes : List ℕ) (fault : HttpFault) → IsRead bytes (Err fault) → IsRequest bytes → ⊥
no_request bytes fault r (inl p) = (r.post p.0).1 p.1
no_request bytes fault r (inr p) = (r.poll p.0).1 p.1

pub refused_by : (bytes : List ℕ) (fault : HttpFault) → IsRead bytes (Err fault) → RefusedBy bytes fault
refused_by bytes fault r = record {
  no_request = no_request bytes fault r;
  reason = why bytes fault r;
  bad_path = λ h. same_fault fault BadPath (r.bad_path.1 h);
  bad_method = λ h. same_fault fault BadMethod (r.bad_method.1 h);
  bad_line = λ h. same_fault fault BadLine (r.bad_line.1 h);
  no_length = λ h. same_fault fault NoLength (r.no_length.1 h);
  bad_length = λ h. same_fault fault BadHead (r.bad_length h);
  endless = λ h. same_fault fault TooLarge (r.endless h);
  long_body = λ h. same_fault fault TooLarge (r.long_body h);
  cut_body = λ h. same_fault fault NotYet (r.cut_body h);
}

-- no fault is answered with a good code
pub bad_code : (fault : HttpFault) → fault_code fault ≡ 200 → ⊥
bad_code BadHead e = omega (arith, e)
bad_code NoLength e = omega (arith, e)
bad_code TooLarge e = omega (arith, e)
bad_code NotYet e = omega (arith, e)
bad_code BadPath e = omega (arith, e)
bad_code BadMethod e = omega (arith, e)
bad_code BadLine e = omega (arith, e)
