-- Which names and streams the lines have.
use Rattle.std.specs.Prelude.{◌≡◌, ℕ, Bool, true, ◌&&◌, not, nat_lt, bytes_eq, List, [], ◌∷◌, ◌++◌, Some, length, take, position, ◌==◌}
use Rattle.std.specs.List.{list_any}
use Rattle.std.specs.BTreeSet.{contains_by}
use Rattle.std.specs.Ordering.{nat_cmp, ordering_then}
use Rattle.std.specs.Cmp.Lexicographic.{slice_cmp}
use Rattle.chk_world.specs.Checkpoints.{Line, Version as Text, clash, is_line, fits_version, line_words, most_lines}
use Rattle.chk_bytes.specs.Words.{joined_at}
use Rattle.chk_checkpoint.specs.Fields.{IsLineText}
use Rattle.chk_checkpoint.specs.declared.seen.Seen.{Seen}

-- whether this name was seen
abbrev pub has_name : Seen → List ℕ → Bool
has_name s name = contains_by (λ k. slice_cmp nat_cmp name k.now) s.names

-- whether the stream of this type and path was
abbrev pub has_log : Seen → List ℕ → List ℕ → Bool
has_log s kind path =
    contains_by (λ k. ordering_then (slice_cmp nat_cmp kind k.0.now) (slice_cmp nat_cmp path k.1.now)) s.logs

-- the live line has this name
abbrev pub names : List ℕ → Line → Bool
names name l = l.live && bytes_eq l.name name

-- the line is of the stream of this type and path
abbrev pub is_of : List ℕ → List ℕ → Line → Bool
is_of kind path l = bytes_eq l.kind kind && bytes_eq l.path path

-- these are the names and streams of the lines
pub record HasSeen (s : Seen) (lines : List Line) : Type 0 where
  pub names : (name : List ℕ) → has_name s name ≡ list_any (names name) lines
  pub logs : (kind path : List ℕ) → has_log s kind path ≡ list_any (is_of kind path) lines

-- the line may stand behind these, of which it is none
abbrev pub may_follow : List Line → Line → Bool
may_follow lines l = nat_lt (length lines) most_lines && not (list_any (λ m. clash m l) lines)

-- a line without its newline
abbrev pub body : Text → Line → List ℕ
body v l = joined_at 32 (line_words v l)

-- the line may stand behind these
pub record MayStand (v : Text) (lines : List Line) (l : Line) : Type 0 where
  pub line : is_line l ≡ true
  pub fits : fits_version v l ≡ true
  pub follows : may_follow lines l ≡ true

-- the text begins with no line that may
abbrev pub NoLine : Text → List Line → List ℕ → Type 0
NoLine v lines text = (l : Line) (more : List ℕ) → text ≡ body v l ++ 10 ∷ more → MayStand v lines l → ⊥

-- the text begins with a line of so many bytes that may, and it was taken
pub record TookLine (v : Text) (lines : List Line) (text : List ℕ) (more : List Line) (seen : Seen) (size : ℕ) : Type 0 where
  pub line : Line
  pub found : position (λ b. b == 10) text ≡ Some size
  pub read : IsLineText v (take size text) line
  pub follows : may_follow lines line ≡ true
  pub more_is : more ≡ lines ++ line ∷ []
  pub has_seen : HasSeen seen more
