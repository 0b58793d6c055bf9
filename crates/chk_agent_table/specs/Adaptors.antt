-- The adaptors of an agent, as contracts see them.
use Rattle.std.specs.Prelude.{◌≡◌, ℕ, Bool, not, ◌&&◌, IsTrue, List, ◌∷◌, ◌++◌, bytes_eq, slice_get}
use Rattle.std.specs.Prelude.{slice_set}
use Rattle.std.specs.Prelude.{Option, Some, Result, Ok}
use Rattle.std.specs.String.{string_bytes}
use Rattle.chk_bytes.specs.Words.{is_word}
use Rattle.chk_site.specs.declared.acts.Who.{Who}
use Rattle.chk_site.specs.declared.acts.OutsideFault.{OutsideFault}
use Rattle.chk_site.specs.History.{History}
use Rattle.chk_tail.specs.Walks.{Spot}
use Rattle.chk_tail.specs.declared.step.Step.{Step}
use Rattle.chk_agent_adaptor.specs.declared.adaptor.Before.{Before}
use Rattle.chk_agent_adaptor.specs.Adaptors.{Adaptor, IsPlaced, before_of, is_past}
use Rattle.chk_agent_adaptor.specs.Steps.{IsStepped, stepped}
use Rattle.chk_agent_table.specs.declared.keys.Keys.{Keys}

-- the adaptors in order of adding, and how many more can be added, or named anew, without memory
pub record Held : Type 0 where
  pub items : List Adaptor
  pub spare : ℕ

-- the adaptor is of this type and path
abbrev pub is_of : List ℕ → List ℕ → Adaptor → Bool
is_of kind path a = bytes_eq a.kind kind && bytes_eq a.path path

-- it is live, or is to end, under this name
abbrev pub is_named : List ℕ → Adaptor → Bool
is_named name a = not (is_past a.phase) && bytes_eq a.name name

-- the type and the path with a space between them
abbrev pub stream_key : List ℕ → List ℕ → List ℕ
stream_key kind path = kind ++ 32 ∷ path

-- the keys of an adaptor
pub record AreKeysOf (a : Adaptor) (keys : Keys) : Type 0 where
  pub stream : string_bytes keys.stream ≡ stream_key a.kind a.path
  pub name : string_bytes keys.name ≡ a.name
  pub word : IsTrue (is_word a.kind)

-- the same, with another adaptor at this number
abbrev pub with_at : ℕ → Adaptor → Held → Held
with_at number a held = record held { items = slice_set held.items number a }

-- it is what a step that was made made of one that stood there before
pub record WasStepped (before : Before) (now : Adaptor) : Type 0 where
  pub old : Adaptor
  pub marks : List Spot
  pub next : Spot
  pub step : Step
  pub placed : IsPlaced old
  pub before_is : before ≡ before_of old
  pub now_is : now ≡ stepped marks next (Ok step) old

-- The adaptor that stood at this number was stepped, and the others are as they were.
pub record StepsAt (number : ℕ) (who : Who) (a : Adaptor) (old : Held)
    (result : Result Step OutsideFault)
    (new : Held) (before after : Option History) : Type 0 where
  pub adaptor : Adaptor
  pub there : slice_get new.items number ≡ Some adaptor
  pub others : new ≡ with_at number adaptor old
  pub made : IsStepped who a result adaptor before after
