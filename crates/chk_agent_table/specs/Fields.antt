-- What the fields stand for.
use Rattle.std.specs.Prelude.{◌≡◌, ◌≤◌, ◌&&◌, ◌==◌, ℕ, Bool, false, cond, IsTrue, List, map, min}
use Rattle.std.specs.Prelude.{length, bytes_eq, slice_get, Option, Some, None, if◌then◌else◌}
use Rattle.std.specs.Map.{update}
use Rattle.std.specs.String.{string_bytes}
use Rattle.std.specs.HashMap.{get_by_text}
use Rattle.indexmap.specs.IndexMap.{keys, values, spare}
use Rattle.chk_bytes.specs.Words.{is_word}
use Rattle.chk_world.specs.Checkpoints.{most_lines}
use Rattle.chk_agent_adaptor.specs.Adaptors.{Adaptor, is_past}
use Rattle.chk_agent_table.specs.declared.adaptors.Adaptors.TheInside.{Inside}
use Rattle.chk_agent_table.specs.Adaptors.{Held, stream_key}

abbrev pub held_view : Inside → Held
held_view a = record { items = values a.streams; spare = min (spare a.streams) (spare a.names) }

abbrev pub key_of : Adaptor → List ℕ
key_of a = stream_key a.kind a.path

-- The keys are those of the adaptors. Each live one has its number under its name, and what stands
-- under a name is the number of an adaptor that has it, or had it when it ended.
pub record IsSound (keys : List (List ℕ)) (items : List Adaptor)
    (numbers : List ℕ → Option ℕ) : Type 0 where
  pub few : length items ≤ most_lines
  pub keyed : keys ≡ map key_of items
  pub words : (i : ℕ) (a : Adaptor) → slice_get items i ≡ Some a → IsTrue (is_word a.kind)
  pub live : (i : ℕ) (a : Adaptor) → slice_get items i ≡ Some a → is_past a.phase ≡ false
      → numbers a.name ≡ Some i
  pub own : (name : List ℕ) (i : ℕ) → numbers name ≡ Some i
      → (a : Adaptor) × (slice_get items i ≡ Some a) × (a.name ≡ name)

abbrev pub IsSoundInside : Inside → Type 0
IsSoundInside a = IsSound (map string_bytes (keys a.streams)) (values a.streams)
    (get_by_text a.names)

-- what stands under a name, once a number was put under another one, where it was to be
abbrev pub noted : Bool → List ℕ → ℕ → (List ℕ → Option ℕ) → List ℕ → Option ℕ
noted live name number numbers text =
    cond live (update bytes_eq numbers name (Some number) text) (numbers text)

-- what stands under a name, once this number no more stands under this one
abbrev pub without : List ℕ → ℕ → List ℕ → Option ℕ → Option ℕ
without name number text None = None
without name number text (Some i) = if bytes_eq name text && (i == number) then None else Some i
