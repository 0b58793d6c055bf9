-- Messages that are requests of the web.
use Rattle.std.specs.Prelude.{◌≡◌, ℕ, Bool, false, ◌||◌, nat_eq, List, codes, if◌then◌else◌, Option, Some, None, Result, Ok, Err}
use Rattle.std.specs.List.{starts_with}
use Rattle.chk_site.specs.declared.acts.CallFault.{CallFault}
use Rattle.chk_site.specs.declared.acts.Role.{Role}
use Rattle.chk_site.specs.declared.acts.Role.TheVariants.{Agent, Collector, Job, Writer}
use Rattle.chk_site.specs.declared.suffixes.Taking.{Taking}
use Rattle.chk_site_errors.specs.declared.faults.SystemFault.{SystemFault}

abbrev pub begins_with : List ℕ → List ℕ → Bool
begins_with bytes method = starts_with nat_eq bytes method

-- the message begins with a method of HTTP and a space
abbrev pub is_request : List ℕ → Bool
is_request bytes =
    begins_with bytes (codes "GET ") || begins_with bytes (codes "HEAD ")
    || begins_with bytes (codes "POST ") || begins_with bytes (codes "PUT ")
    || begins_with bytes (codes "DELETE ") || begins_with bytes (codes "CONNECT ")
    || begins_with bytes (codes "OPTIONS ") || begins_with bytes (codes "TRACE ")
    || begins_with bytes (codes "PATCH ")

-- what was given, but that a request isn't taken
abbrev pub without : Result (Option Taking) SystemFault → Result (Option Taking) SystemFault
without (Err fault) = Err fault
without (Ok None) = Ok None
without (Ok (Some taking)) = if is_request taking.bytes then Ok None else Ok (Some taking)

-- what a process of this role is given at its door: an agent no request
abbrev pub given_to :
    Role → Result (Option Taking) SystemFault → Result (Option Taking) SystemFault
given_to Agent given = without given
given_to Collector given = given
given_to Job given = given
given_to Writer given = given

-- no request was taken
abbrev pub IsNoRequest : Result (Option Taking) CallFault → Type 0
IsNoRequest (Err fault) = Unit {0}
IsNoRequest (Ok None) = Unit {0}
IsNoRequest (Ok (Some taking)) = is_request taking.bytes ≡ false
