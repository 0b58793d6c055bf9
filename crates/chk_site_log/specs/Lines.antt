-- The lines about one address or file.
use Rattle.std.specs.Prelude.{◌≡◌, ◌+◌, ◌≤◌, ℕ, Bool, if◌then◌else◌, Option, Some, None, List, [], ◌∷◌}
use Rattle.chk_site_log.specs.declared.trouble.Trouble.{Trouble}
use Rattle.chk_site_log.specs.Troubles.{behind_event, behind_failure, behind_success, is_free, tells_failure, tells_success}

-- what happened at it: a call failed, a call went well, or something else
pub data Kind : Type 0 where
  Failed : Kind
  Well : Kind
  Other : Kind

-- what happened, and at which moment
pub record Event : Type 0 where
  pub kind : Kind
  pub at : ℕ

abbrev pub step : Kind → ℕ → Trouble → Trouble
step Failed now t = behind_failure now t
step Well now t = behind_success now t
step Other now t = behind_event now t

abbrev pub tells : Kind → ℕ → Trouble → Bool
tells Failed now t = tells_failure now t
tells Well now t = tells_success now t
tells Other now t = is_free now t.said

-- behind the events, the last one first
abbrev pub behind : List Event → Trouble → Trouble
behind [] t = t
behind (e ∷ events) t = step e.kind e.at (behind events t)

-- the moments of the lines that were told, the last one first
abbrev pub lines : List Event → Trouble → List ℕ
lines [] t = []
lines (e ∷ events) t =
    if tells e.kind e.at (behind events t) then e.at ∷ lines events t else lines events t

abbrev pub last : List ℕ → Option ℕ
last [] = None
last (m ∷ moments) = Some m

-- this moment is a minute behind that one
abbrev pub IsMinuteBehind : ℕ → Option ℕ → Type 0
IsMinuteBehind now None = Unit
IsMinuteBehind now (Some said) = said + 60000 ≤ now

-- each is a minute behind the one before it
abbrev pub AreApart : List ℕ → Type 0
AreApart [] = Unit
AreApart (m ∷ moments) = IsMinuteBehind m (last moments) × AreApart moments

-- whatever happens, two lines about one name lie a minute apart
abbrev pub MinuteApart : Type 0
MinuteApart = (t : Trouble) (events : List Event) → t.said ≡ None → AreApart (lines events t)
