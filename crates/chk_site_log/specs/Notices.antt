-- What is known of calls, files and doors behind what happened.
use Rattle.std.specs.Prelude.{◌≡◌, ◌⊎◌, ◌++◌, ℕ, Bool, true, false, List, Option, None, codes, string_bytes, IsSomeAnd}
use Rattle.std.specs.List.{list_any}
use Rattle.chk_site.specs.declared.acts.Call.{Call}
use Rattle.chk_site.specs.CallNames.{call_name}
use Rattle.chk_site_log.specs.declared.notices.Notices.{Notices}
use Rattle.chk_site_log.specs.declared.trouble.Recovery.{Recovery}
use Rattle.chk_site_log.specs.Lists.{is_failing, GoesOn, IsUnknown}
use Rattle.chk_site_log.specs.Troubles.{behind_event, behind_failure, behind_success, is_free, recovered, tells_failure}

-- the call and its address or file
abbrev pub place_of : Call → List ℕ → List ℕ
place_of call name = call_name call ++ codes " " ++ name

-- a call at the place failed at this moment, and this says whether it is told
pub record HasFailed (old new : Notices) (place : List ℕ) (now : ℕ) (tells : Bool) : Type 0 where
  pub troubles : GoesOn Bool (behind_failure now) (tells_failure now) old.troubles new.troubles place tells
      ⊎ ((tells ≡ false) × IsUnknown old.troubles new.troubles place)
  pub failing : new.failing ≡ true
  pub door : new.door ≡ old.door

-- a call at the place went well at this moment, and this is told
pub record WentWell (old new : Notices) (place : List ℕ) (now : ℕ) (told : Option Recovery) : Type 0 where
  pub troubles : GoesOn (Option Recovery) (behind_success now) (recovered now) old.troubles new.troubles place told
      ⊎ ((told ≡ None) × IsUnknown old.troubles new.troubles place)
  pub failing : new.failing ≡ list_any is_failing new.troubles
  pub door : new.door ≡ old.door

-- something else happened at the name at this moment, and this says whether it is told
pub record HasHappened (old new : Notices) (name : List ℕ) (now : ℕ) (tells : Bool) : Type 0 where
  pub troubles : GoesOn Bool (behind_event now) (λ t. is_free now t.said) old.troubles new.troubles name tells
      ⊎ ((tells ≡ false) × IsUnknown old.troubles new.troubles name)
  pub failing : new.failing ≡ old.failing
  pub door : new.door ≡ old.door

-- a failure is counted; nothing is where the clock failed or memory was wanting
abbrev pub Fails : Notices → Notices → List ℕ → Type 0
Fails old new place =
    (new ≡ old) ⊎ ((now : ℕ) × ((tells : Bool) × HasFailed old new place now tells))

-- a success ends the failures at the place, where some call fails
abbrev pub Succeeds : Notices → Notices → List ℕ → Type 0
Succeeds old new place =
    (new ≡ old)
    ⊎ ((old.failing ≡ true)
    × ((now : ℕ) × ((told : Option Recovery) × WentWell old new place now told)))

-- what else happened counts as told or not
abbrev pub Happens : Notices → Notices → List ℕ → Type 0
Happens old new name =
    (new ≡ old) ⊎ ((now : ℕ) × ((tells : Bool) × HasHappened old new name now tells))

-- this door is the one that was opened last, or it couldn't be kept
pub record Opens (old new : Notices) (name : List ℕ) : Type 0 where
  pub troubles : new.troubles ≡ old.troubles
  pub failing : new.failing ≡ old.failing
  pub door : (new.door ≡ old.door) ⊎ IsSomeAnd new.door (λ kept. string_bytes kept ≡ name)
