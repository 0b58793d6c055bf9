-- What is told of one address or file.
use Rattle.std.specs.Prelude.{ℕ, ◌+◌, ◌-◌, ◌^◌, ◌==◌, Bool, ◌&&◌, not, true, false, nat_le, min, if◌then◌else◌, Option, Some, None}
use Rattle.chk_site_log.specs.declared.trouble.Recovery.{Recovery}
use Rattle.chk_site_log.specs.declared.trouble.Trouble.{Trouble}

-- a minute has passed since the last line
abbrev pub is_free : ℕ → Option ℕ → Bool
is_free now None = true
is_free now (Some said) = nat_le 60000 (now - said)

-- a failure at this moment is told
abbrev pub tells_failure : ℕ → Trouble → Bool
tells_failure now t = not t.told && is_free now t.said

-- it fails since then
abbrev pub since_of : ℕ → Trouble → ℕ
since_of now t = if t.failures == 0 then now else t.since

-- behind a failure
abbrev pub behind_failure : ℕ → Trouble → Trouble
behind_failure now t = record t {
  since = since_of now t;
  failures = min (t.failures + 1) (2 ^ 64 - 1);
  well = None;
  told = if tells_failure now t then true else t.told;
  said = if tells_failure now t then Some now else t.said;
}

-- it is well since then
abbrev pub well_of : ℕ → Option ℕ → ℕ
well_of now None = now
well_of now (Some well) = well

-- a success at this moment is told: it failed before, that was told, and a minute has passed
abbrev pub tells_success : ℕ → Trouble → Bool
tells_success now t = not (t.failures == 0) && (t.told && is_free now t.said)

-- what is told of it then
abbrev pub recovered : ℕ → Trouble → Option Recovery
recovered now t =
    if tells_success now t
    then Some (record { failures = t.failures; lasted = well_of now t.well - t.since })
    else None

-- nothing is left to be told
abbrev pub rested : Trouble → Trouble
rested t = record t { failures = 0; well = None; told = false }

-- behind a success: nothing is left where it was told, or where that it failed wasn't
abbrev pub behind_success : ℕ → Trouble → Trouble
behind_success now t =
    if t.failures == 0 then t
    else (if not t.told then rested t
    else (if is_free now t.said then record (rested t) { said = Some now }
    else record t { well = Some (well_of now t.well) }))

-- behind something else that is to be told
abbrev pub behind_event : ℕ → Trouble → Trouble
behind_event now t = record t { said = if is_free now t.said then Some now else t.said }
