-- Which logs a round reads.
use Rattle.std.specs.Prelude.{◌≡◌, ◌⊎◌, ℕ, true, List, length, Contains, Some, slice_get}
use Rattle.chk_agent_adaptor.specs.declared.adaptor.Phase.TheVariants.{Live}
use Rattle.chk_agent_adaptor.specs.Adaptors.{Adaptor}
use Rattle.chk_world.specs.Checkpoints.{Line, most_lines}
use Rattle.chk_agent.specs.States.{State}
pub use Rattle.chk_world.specs.Checkpoints.{HasLiveLine}

-- a live adaptor reads the log of this path under this type
pub record IsFollowed (kind path : List ℕ) (s : State) : Type 0 where
  pub place : ℕ
  pub adaptor : Adaptor
  pub at : slice_get s.adaptors place ≡ Some adaptor
  pub kind_is : adaptor.kind ≡ kind
  pub path_is : adaptor.path ≡ path
  pub live : adaptor.phase ≡ Live

-- there is no room for it: 10,000 adaptors are there, and none of them has this type and path
pub record HasNoRoom (kind path : List ℕ) (s : State) : Type 0 where
  pub full : length s.adaptors ≡ most_lines
  pub none : (i : ℕ) (x : Adaptor) → slice_get s.adaptors i ≡ Some x → x.kind ≡ kind
      → x.path ≡ path → ⊥

abbrev pub Follows : List ℕ → List ℕ → State → Type 0
Follows kind path s = IsFollowed kind path s ⊎ HasNoRoom kind path s

-- a log that a live adaptor read is read so still, and where there was no room for one, there is none
abbrev pub KeepsLogs : State → State → Type 0
KeepsLogs s t =
    (kind path : List ℕ) → (IsFollowed kind path s → IsFollowed kind path t)
    × (HasNoRoom kind path s → HasNoRoom kind path t)

-- ---- the lines

-- there are 10,000 lines, and none of them has this type and path
pub record IsFullWithout (kind path : List ℕ) (lines : List Line) : Type 0 where
  pub full : length lines ≡ most_lines
  pub none : (l : Line) → Contains lines l → l.kind ≡ kind → l.path ≡ path → ⊥

-- each of these logs has a live line of this type, but where the checkpoint is full without it
abbrev pub HaveLines : List ℕ → List (List ℕ) → List Line → Type 0
HaveLines kind logs lines =
    (log : List ℕ) → Contains logs log → HasLiveLine kind log lines ⊎ IsFullWithout kind log lines

-- each live line of the path of this one is of its type: no other has that path
abbrev pub HasPathAlone : Line → List Line → Type 0
HasPathAlone l lines =
    (k : Line) → Contains lines k → k.live ≡ true → k.path ≡ l.path → k.kind ≡ l.kind

-- What is live now: just what was live before, and these logs under this type. The words' log for
-- which there was no room isn't.
pub record KeepsLive (kind : List ℕ) (logs : List (List ℕ)) (before now : List Line) : Type 0 where
  pub kept : (k path : List ℕ) → HasLiveLine k path before → HasLiveLine k path now
  pub only : (k path : List ℕ) → HasLiveLine k path now
      → HasLiveLine k path before ⊎ ((k ≡ kind) × Contains logs path)
